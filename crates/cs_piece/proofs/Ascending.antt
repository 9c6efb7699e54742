-- Tables in ascending order of number.
use Rattle.std.proofs.Common.{◌≡◌, ◌≢◌, ◌<◌, ◌≤◌, ◌∙◌, ◌⊎◌, inl, inr, ℕ, zero, suc, Bool, true, false, nat_lt, eqb}
use Rattle.std.proofs.Common.{List, [], ◌∷◌, length, map, slice_index_or, refl, ap, sym, subst, arith, if◌then◌else◌}
use Rattle.std.specs.List.{AllByRecursion as Each, Contains, IsDistinct}
use Rattle.std.specs.{List.Sorted.IsNonDecreasingBy, List.Sorted.IsPermutation, Prelude.AllPairs}
use Rattle.std.proofs.lemmas.{Bool.eqb-false, Bool.ne_eqb, Bool.Decides.nat_tests, List.Kept.AllPairs-cons}
use Rattle.std.proofs.lemmas.List.Elements.{All-from_recursion, recursion_from_All}
use Rattle.std.proofs.lemmas.List.Sorted.{Contains-permutation, IsPermutation-map, IsPermutation-sym}
use Rattle.std.proofs.lemmas.Map.Keys.{IsDistinct-IsPermutation, IsDistinct-cons, IsDistinct-from_apart}
use Rattle.std.proofs.lemmas.Map.Keys.{IsDistinct-head, IsDistinct-tail}
use Rattle.cs_layout.specs.Layouts.{AreApart}
use Rattle.cs_meaning.specs.Plain.{Table}
use Rattle.cs_tempo.specs.declared.plot.Event.{Event}
use Rattle.cs_voice.specs.declared.stage.PieceTable.{PieceTable}
use Rattle.cs_piece.specs.{Compositions.live_in, declared.tables.Firsts.Firsts, declared.tables.GivenTable.GivenTable}
use Rattle.cs_piece.specs.Tables.{Given, ascending, firsts, given_in, put_in, table_in, table_of, tables_in}
use Rattle.cs_piece.specs.declared.tables.Times.{Times}
use Rattle.cs_piece.specs.inner.Marked.{Differ, Marks, NoneHas, StandFor, given_of, table_by}
use Rattle.cs_piece.proofs.Apart.{differ_map, firsts_differ, live_apart}
use Rattle.cs_typed.specs.TypedTree as typed

abbrev pub number_of : Table → ℕ
number_of t = t.number

-- what holds for each table still holds for each after one more is inserted, and after all are sorted
pub each_put : (P : Table → Type 0) (t : Table) (us : List Table) → P t → Each P us → Each P (put_in t us)
each_put P t [] p h = (p, tt)
each_put P t (u ∷ us) p h = by (nat_lt u.number t.number) (each_put P t us p h.1)
  where
    by : (b : Bool) → Each P (put_in t us) → Each P (if b then u ∷ put_in t us else t ∷ u ∷ us)
    by true later = (h.0, later)
    by false later = (p, h)

pub each_ascending : (P : Table → Type 0) (ts : List Table) → Each P ts → Each P (ascending ts)
each_ascending P [] h = tt
each_ascending P (t ∷ ts) h = each_put P t (ascending ts) h.0 (each_ascending P ts h.1)

-- no two tables have the same number after one more is inserted
none_put : (n : ℕ) (t : Table) (us : List Table) → (t.number ≡ n → ⊥) → NoneHas number_of n us
    → NoneHas number_of n (put_in t us)
none_put n t [] p h = (p, tt)
none_put n t (u ∷ us) p h = by (nat_lt u.number t.number) (none_put n t us p h.1)
  where
    by : (b : Bool) → NoneHas number_of n (put_in t us)
        → NoneHas number_of n (if b then u ∷ put_in t us else t ∷ u ∷ us)
    by true later = (h.0, later)
    by false later = (p, h)

none_ascending : (n : ℕ) (ts : List Table) → NoneHas number_of n ts → NoneHas number_of n (ascending ts)
none_ascending n [] h = tt
none_ascending n (t ∷ ts) h = none_put n t (ascending ts) h.0 (none_ascending n ts h.1)

differ_put : (t : Table) (us : List Table) → NoneHas number_of t.number us → Differ number_of us
    → Differ number_of (put_in t us)
differ_put t [] none h = (tt, tt)
differ_put t (u ∷ us) none h = by (nat_lt u.number t.number) (differ_put t us none.1 h.1)
  where
    by : (b : Bool) → Differ number_of (put_in t us) → Differ number_of (if b then u ∷ put_in t us else t ∷ u ∷ us)
    by true later = (none_put u.number t us (λ e. none.0 (sym e)) h.0, later)
    by false later = (none, h)

pub differ_ascending : (ts : List Table) → Differ number_of ts → Differ number_of (ascending ts)
differ_ascending [] h = tt
differ_ascending (t ∷ ts) h =
    differ_put t (ascending ts) (none_ascending t.number ts h.0) (differ_ascending ts h.1)

-- the tables are in strictly ascending order
abbrev Rising : List Table → Type 0
Rising [] = Unit {0}
Rising (t ∷ ts) = Each (λ (u : Table). t.number < u.number) ts × Rising ts

above_all : (n m : ℕ) (us : List Table) → n < m → Each (λ (u : Table). m < u.number) us
    → Each (λ (u : Table). n < u.number) us
above_all n m [] l h = tt
above_all n m (u ∷ us) l h = let first : m < u.number = h.0 in (omega (arith, l, first), above_all n m us l h.1)

strictly : (m n : ℕ) → m ≤ n → m ≢ n → m < n
strictly m n l apart = omega (arith, l, apart)

rising_put : (t : Table) (us : List Table) → NoneHas number_of t.number us → Rising us → Rising (put_in t us)
rising_put t [] none h = (tt, tt)
rising_put t (u ∷ us) none h = by (nat_lt u.number t.number) refl (rising_put t us none.1 h.1)
  where
    by : (b : Bool) → nat_lt u.number t.number ≡ b → Rising (put_in t us)
        → Rising (if b then u ∷ put_in t us else t ∷ u ∷ us)
    by true e later =
        let low : u.number < t.number = grind (arith, nat_tests) in
        (each_put (λ (x : Table). u.number < x.number) t us low h.0, later)
    by false e later =
        let high : t.number ≤ u.number = grind (arith, nat_tests) in
        let over : t.number < u.number = strictly t.number u.number high (λ same. none.0 (sym same)) in
        ((over, above_all t.number u.number us over h.0), h)

rising_ascending : (ts : List Table) → Differ number_of ts → Rising (ascending ts)
rising_ascending [] h = tt
rising_ascending (t ∷ ts) h =
    rising_put t (ascending ts) (none_ascending t.number ts h.0) (rising_ascending ts h.1)

pairs_rising : (ts : List Table) → Rising ts → AllPairs (λ (t u : Table). t.number < u.number) ts
pairs_rising [] h = λ i j d lt within. absurd (omega arith)
pairs_rising (t ∷ ts) h =
    AllPairs-cons (λ (a b : Table). a.number < b.number) t ts
    (All-from_recursion (λ (u : Table). t.number < u.number) ts h.0) (pairs_rising ts h.1)

pub in_order : (ts : List Table) → Differ number_of ts → AllPairs (λ (t u : Table). t.number < u.number) (ascending ts)
in_order ts h = pairs_rising (ascending ts) (rising_ascending ts h)

-- A SORTED LIST OF THE SAME TABLES

abbrev pub Among : {X : Type 0} → List X → X → Type 0
Among [] z = ⊥
Among (x ∷ xs) z = (x ≡ z) ⊎ Among xs z

each_among : (P : Table → Type 0) (ts : List Table) (z : Table) → Each P ts → Among ts z → P z
each_among P [] z h k = absurd k
each_among P (t ∷ ts) z h (inl e) = subst P e h.0
each_among P (t ∷ ts) z h (inr k) = each_among P ts z h.1 k

-- a list has an element at some index
pub there : {X : Type 0} (xs : List X) (z : X) → Among xs z → Contains xs z
there [] z h = absurd h
there (x ∷ xs) z (inl e) = (0, omega arith, e)
there (x ∷ xs) z (inr h) = let r = there xs z h in (suc r.0, omega (arith, r.1), r.2)

among_at : (ts : List Table) (k : ℕ) (z : Table) → k < length ts → slice_index_or ts k z ≡ z → Among ts z
among_at [] k z l e = absurd (omega (arith, l))
among_at (t ∷ ts) zero z l e = inl e
among_at (t ∷ ts) (suc k) z l e = inr (among_at ts k z (omega (arith, l)) e)

among : (ts : List Table) (z : Table) → Contains ts z → Among ts z
among ts z h = among_at ts h.0 z h.1 h.2

-- the sorted tables are the same tables
put_among : (t z : Table) (us : List Table) → Among (t ∷ us) z → Among (put_in t us) z
put_among t z [] h = h
put_among t z (u ∷ us) h = by (nat_lt u.number t.number) (put_among t z us) h
  where
    by : (b : Bool) → (Among (t ∷ us) z → Among (put_in t us) z) → Among (t ∷ u ∷ us) z
        → Among (if b then u ∷ put_in t us else t ∷ u ∷ us) z
    by true later (inl e) = inr (later (inl e))
    by true later (inr (inl e)) = inl e
    by true later (inr (inr k)) = inr (later (inr k))
    by false later k = k

among_put : (t z : Table) (us : List Table) → Among (put_in t us) z → Among (t ∷ us) z
among_put t z [] h = h
among_put t z (u ∷ us) h = by (nat_lt u.number t.number) (among_put t z us) h
  where
    further : Among (t ∷ us) z → Among (t ∷ u ∷ us) z
    further (inl e) = inl e
    further (inr k) = inr (inr k)

    by : (b : Bool) → (Among (put_in t us) z → Among (t ∷ us) z)
        → Among (if b then u ∷ put_in t us else t ∷ u ∷ us) z → Among (t ∷ u ∷ us) z
    by true later (inl e) = inr (inl e)
    by true later (inr k) = further (later k)
    by false later k = k

to_order : (z : Table) (ts : List Table) → Among ts z → Among (ascending ts) z
to_order z [] h = h
to_order z (t ∷ ts) (inl e) = put_among t z (ascending ts) (inl e)
to_order z (t ∷ ts) (inr k) = put_among t z (ascending ts) (inr (to_order z ts k))

from_order : (z : Table) (ts : List Table) → Among (ascending ts) z → Among ts z
from_order z [] h = h
from_order z (t ∷ ts) h = by (among_put t z (ascending ts) h) (from_order z ts)
  where
    by : Among (t ∷ ascending ts) z → (Among (ascending ts) z → Among ts z) → Among (t ∷ ts) z
    by (inl e) later = inl e
    by (inr k) later = inr (later k)

-- two strictly ascending lists of the same tables are equal
heads : (t u : Table) (ts us : List Table) → Each (λ (x : Table). t.number < x.number) ts
    → Each (λ (x : Table). u.number < x.number) us → Among (u ∷ us) t → Among (t ∷ ts) u → t ≡ u
heads t u ts us low high (inl e) k = sym e
heads t u ts us low high (inr j) (inl e) = e
heads t u ts us low high (inr j) (inr k) =
    let up : t.number < u.number = each_among (λ (x : Table). t.number < x.number) ts u low k in
    let down : u.number < t.number = each_among (λ (x : Table). u.number < x.number) us t high j in
    absurd (omega (arith, up, down))

tail : (t u z : Table) (ts us : List Table) → t ≡ u → Each (λ (x : Table). t.number < x.number) ts → Among ts z
    → Among (u ∷ us) z → Among us z
tail t u z ts us same low k (inl e) =
    let up : t.number < z.number = each_among (λ (x : Table). t.number < x.number) ts z low k in
    let one : t.number ≡ z.number = ap number_of (same ∙ e) in
    absurd (omega (arith, up, one))
tail t u z ts us same low k (inr j) = j

one_list : (ts us : List Table) → Rising ts → Rising us → ((z : Table) → Among ts z → Among us z)
    → ((z : Table) → Among us z → Among ts z) → ts ≡ us
one_list [] [] r s f g = refl
one_list [] (u ∷ us) r s f g = absurd (g u (inl refl))
one_list (t ∷ ts) [] r s f g = absurd (f t (inl refl))
one_list (t ∷ ts) (u ∷ us) r s f g =
    let first : t ≡ u = heads t u ts us r.0 s.0 (f t (inl refl)) (g u (inl refl)) in
    let rest : ts ≡ us = one_list ts us r.1 s.1
    (λ z k. tail t u z ts us first r.0 k (f z (inr k)))
    (λ z k. tail u t z us ts (sym first) s.0 k (g z (inr k))) in
    λ i. first i ∷ rest i

-- a list in ascending order, no two elements of which have the same number, is strictly ascending
all_strictly : (n : ℕ) (ts : List Table) → Each (λ (u : Table). n ≤ u.number) ts
    → Each (λ (m : ℕ). eqb n m ≡ false) (map number_of ts) → Each (λ (u : Table). n < u.number) ts
all_strictly n [] h d = tt
all_strictly n (t ∷ ts) h d = (strictly n t.number h.0 (eqb-false n t.number d.0), all_strictly n ts h.1 d.1)

rises : (ts : List Table) → IsNonDecreasingBy number_of ts → IsDistinct eqb (map number_of ts) → Rising ts
rises [] up d = tt
rises (t ∷ ts) up d = (
  all_strictly t.number ts
      (recursion_from_All (λ (u : Table). t.number ≤ u.number) ts
      (λ k x l. up 0 (suc k) x (omega arith) (omega (arith, l)))) (IsDistinct-head eqb t.number (map number_of ts) d),
  rises ts (λ i j x le l. up (suc i) (suc j) x (omega (arith, le)) (omega (arith, l)))
      (IsDistinct-tail eqb t.number (map number_of ts) d),
)

none_apart : (n : ℕ) (ts : List Table) → NoneHas number_of n ts → Each (λ (m : ℕ). eqb n m ≡ false) (map number_of ts)
none_apart n [] h = tt
none_apart n (t ∷ ts) h = (ne_eqb n t.number (λ e. h.0 (sym e)), none_apart n ts h.1)

apart_all : (ts : List Table) → Differ number_of ts → IsDistinct eqb (map number_of ts)
apart_all [] h = IsDistinct-from_apart eqb [] (λ i j d lt l. absurd (omega (arith, l)))
apart_all (t ∷ ts) h =
    IsDistinct-cons eqb t.number (map number_of ts) (none_apart t.number ts h.0) (apart_all ts h.1)

flips : (a b : ℕ) → eqb a b ≡ eqb b a
flips a b = grind (arith, nat_tests)

-- Tables that were sorted by number are the tables in order.
pub sorted_is : (ts us : List Table) → IsPermutation ts us → IsNonDecreasingBy number_of us → Differ number_of ts
    → us ≡ ascending ts
sorted_is ts us p up d =
    one_list us (ascending ts) (rises us up (IsDistinct-IsPermutation eqb flips (map number_of ts) (map number_of us)
    (IsPermutation-map number_of ts us p) (apart_all ts d))) (rising_ascending ts d)
    (λ z k. to_order z ts (among ts z (Contains-permutation us ts z (IsPermutation-sym ts us p) (there us z k))))
    (λ z k. among us z (Contains-permutation ts us z p (there ts z (from_order z ts k))))

-- tables as pieces store them, by the numbers that the definitions see
at_mapped : (ts : List PieceTable) (k : ℕ) (d : PieceTable) (e : Table) → k < length ts
    → number_of (slice_index_or (map table_of ts) k e) ≡ (slice_index_or ts k d).number
at_mapped [] k d e l = absurd (omega (arith, l))
at_mapped (t ∷ ts) zero d e l = refl
at_mapped (t ∷ ts) (suc k) d e l = at_mapped ts k d e (omega (arith, l))

mapped_long : (ts : List PieceTable) → length (map table_of ts) ≡ length ts
mapped_long [] = refl
mapped_long (t ∷ ts) = ap suc (mapped_long ts)

pub up_mapped : (ts : List PieceTable) → IsNonDecreasingBy (λ (t : PieceTable). t.number) ts
    → IsNonDecreasingBy number_of (map table_of ts)
up_mapped [] up i j e le l = absurd (omega (arith, l))
up_mapped (t ∷ ts) up i j e le l =
    let long : length (map table_of (t ∷ ts)) ≡ length (t ∷ ts) = mapped_long (t ∷ ts) in
    let low : j < length (t ∷ ts) = omega (arith, l, long) in
    let here = at_mapped (t ∷ ts) i t e (omega (arith, le, low)) in
    let there_too = at_mapped (t ∷ ts) j t e low in
    let rise = up i j t le low in
    omega (arith, here, there_too, rise)

-- THE TABLES OF A PLOT

-- the tables that are made of the first definitions
by_given : (times : List Times) (w : Marks) (xs : List GivenTable)
    → map (λ x. table_by times w (given_of x)) xs ≡ map (table_by times w) (map given_of xs)
by_given times w [] = refl
by_given times w (x ∷ xs) = ap (λ (l : List Table). table_by times w (given_of x) ∷ l) (by_given times w xs)

pub made_differ : (gs : List Given) (given : Firsts) (w : Marks) → StandFor gs given
    → Differ number_of (map (λ x. table_by given.times.items w (given_of x)) given.items.items)
made_differ gs given w stand =
    subst (Differ number_of) (sym (by_given given.times.items w given.items.items
    ∙ ap (map (table_by given.times.items w)) stand.firsts_are))
    (differ_map (table_by given.times.items w) number_of (λ (g : Given). g.number) (λ g. refl) (firsts gs)
    (firsts_differ gs))

given_differ : (o : typed.Orchestra) (events : List Event)
    → Differ number_of (map (table_in o (given_in events)) (firsts (given_in events)))
given_differ o events =
    differ_map (table_in o (given_in events)) number_of (λ (g : Given). g.number) (λ g. refl) (firsts (given_in events))
    (firsts_differ (given_in events))

pub tables_differ : (o : typed.Orchestra) (events : List Event) → Differ number_of (tables_in o events)
tables_differ o events =
    differ_ascending (map (table_in o (given_in events)) (firsts (given_in events))) (given_differ o events)

pub apart_in : (o : typed.Orchestra) (events : List Event) → AreApart (live_in (tables_in o events))
apart_in o events = live_apart (tables_in o events) (tables_differ o events)

pub tables_rise : (o : typed.Orchestra) (events : List Event)
    → AllPairs (λ (t u : Table). t.number < u.number) (tables_in o events)
tables_rise o events = in_order (map (table_in o (given_in events)) (firsts (given_in events))) (given_differ o events)
