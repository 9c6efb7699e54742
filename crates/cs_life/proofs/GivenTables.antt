-- Each table that an event defines can be made, and has the size of the other tables with its number.
use Rattle.std.proofs.Common.{◌≡◌, ℕ, ℤ, pos, zero, suc, ◌<◌, ◌==◌, ◌&&◌, ◌⊎◌, inl, inr, Bool, true, false, not, cond}
use Rattle.std.proofs.Common.{[], List, ◌∷◌, ◌++◌, length, map, slice_index_or, unsigned_abs, Some, None, if◌then◌else◌}
use Rattle.std.proofs.Common.{refl, sym, subst, ◌∙◌, ap, arith}
use Rattle.std.specs.{Int.is_negative, List.All, List.AllByRecursion as Each, List.filter}
use Rattle.cs_gen.specs.Faults.{table_fault}
use Rattle.cs_gen.proofs.Places.{accepted}
use Rattle.cs_meaning.specs.Plain.{Table, find_table}
use Rattle.cs_tempo.specs.{Performable.IsActInRange, declared.plot.Event.Event, declared.plot.Plot.Plot}
use Rattle.cs_tempo.specs.declared.plot.EventAct.{EventAct}
use Rattle.cs_piece.proofs.Ascending.{Among, each_ascending, there}
use Rattle.cs_piece.specs.{Compositions.composition, Setups.AreOfOneSize}
use Rattle.cs_piece.specs.Tables.{Given, firsts, given_by, given_in, table_in, tables_in}
use Rattle.cs_life.specs.inner.Doing.{CanBeDone}
use Rattle.cs_voice_meaning.proofs.Naming.{found_number}
use Rattle.cs_tempo.specs.declared.plot.EventAct.TheVariants as act
use Rattle.cs_typed.specs.TypedTree as typed

-- ---- elements of joined lists

on_the_left : (xs ys : List Given) (x : Given) → Among xs x → Among (xs ++ ys) x
on_the_left [] ys x h = absurd h
on_the_left (z ∷ xs) ys x (inl e) = inl e
on_the_left (z ∷ xs) ys x (inr h) = inr (on_the_left xs ys x h)

on_the_right : (xs ys : List Given) (x : Given) → Among ys x → Among (xs ++ ys) x
on_the_right [] ys x h = h
on_the_right (z ∷ xs) ys x h = inr (on_the_right xs ys x h)

unfiltered : (p : Given → Bool) (xs : List Given) (x : Given) → Among (filter p xs) x → Among xs x
unfiltered p [] x h = absurd h
unfiltered p (y ∷ ys) x h = by_case (p y) (λ k. unfiltered p ys x k) h
  where
    by_case : (b : Bool) → (Among (filter p ys) x → Among ys x) → Among (cond b (y ∷ filter p ys) (filter p ys)) x
        → (y ≡ x) ⊎ Among ys x
    by_case true deeper (inl e) = inl e
    by_case true deeper (inr k) = inr (deeper k)
    by_case false deeper k = inr (deeper k)

among_all : (gs : List Given) (g : Given) → Among (firsts gs) g → Among gs g
among_all [] g h = absurd h
among_all (x ∷ xs) g (inl e) = inl e
among_all (x ∷ xs) g (inr h) = inr (among_all xs g (unfiltered (λ y. not (y.number == x.number)) (firsts xs) g h))

-- a table that one event defines is among all that are defined
given_at : (es : List Event) (k : ℕ) (d : Event) (g : Given) → k < length es
    → Among (given_by (slice_index_or es k d).act) g → Among (given_in es) g
given_at [] k d g h a = absurd (omega arith)
given_at (e ∷ es) zero d g h a = on_the_left (given_by e.act) (given_in es) g a
given_at (e ∷ es) (suc k) d g h a = on_the_right (given_by e.act) (given_in es) g (given_at es k d g (omega arith) a)

-- ---- the table with a number

record IsGiven (o : typed.Orchestra) (gs xs : List Given) (t : Table) : Type 0 where
  g : Given
  among : Among xs g
  is : t ≡ table_in o gs g

later_given : (o : typed.Orchestra) (gs : List Given) (x : Given) (xs : List Given) (t : Table) → IsGiven o gs xs t
    → IsGiven o gs (x ∷ xs) t
later_given o gs x xs t w = record { g = w.g; among = inr w.among; is = w.is }

later_all : (o : typed.Orchestra) (gs : List Given) (x : Given) (xs : List Given) (ts : List Table)
    → Each (IsGiven o gs xs) ts → Each (IsGiven o gs (x ∷ xs)) ts
later_all o gs x xs [] h = tt
later_all o gs x xs (t ∷ ts) h = (later_given o gs x xs t h.0, later_all o gs x xs ts h.1)

all_given : (o : typed.Orchestra) (gs xs : List Given) → Each (IsGiven o gs xs) (map (table_in o gs) xs)
all_given o gs [] = tt
all_given o gs (x ∷ xs) = (
  record { g = x; among = inl refl; is = refl },
  later_all o gs x xs (map (table_in o gs) xs) (all_given o gs xs),
)

-- what holds for each table holds for the one that is found
found_each : (P : Table → Type 0) (ts : List Table) (n : ℕ) (t : Table) → Each P ts
    → find_table ts (pos n) ≡ Some t → P t
found_each P [] n t e h = absurd cc
found_each P (u ∷ ts) n t e h = by (not (is_negative (pos n)) && u.number == n) (found_each P ts n t e.1) h
  where
    by : (b : Bool) → (find_table ts (pos n) ≡ Some t → P t) → (if b then Some u else find_table ts (pos n)) ≡ Some t
        → P t
    by true later k = let this : u ≡ t = cc in subst P this e.0
    by false later k = later k

found_given : (o : typed.Orchestra) (es : List Event) (n : ℕ) (t : Table) → find_table (tables_in o es) (pos n) ≡ Some t
    → IsGiven o (given_in es) (firsts (given_in es)) t
found_given o es n t h =
    let gs : List Given = given_in es in
    found_each (IsGiven o gs (firsts gs)) (tables_in o es) n t
    (each_ascending (IsGiven o gs (firsts gs)) (map (table_in o gs) (firsts gs)) (all_given o gs (firsts gs))) h

one_size : (o : typed.Orchestra) (es : List Event) (number : ℕ) (size gen : ℤ) (args : List ℤ) (t : Table)
    → AreOfOneSize es
    → Among (given_in es) (record { number = number; size = size; gen = gen; args = args })
    → table_fault size gen args ≡ None
    → find_table (tables_in o es) (pos number) ≡ Some t → pos t.size ≡ size
one_size o es number size gen args t sizes among fault found =
    let this : Given = record { number = number; size = size; gen = gen; args = args } in
    let w = found_given o es number t found in
    let of : w.g.number ≡ number =
    ap (λ (x : Table). x.number) (sym w.is) ∙ found_number (tables_in o es) (pos number) t found in
    let same : w.g.size ≡ size =
    sizes w.g this (there (given_in es) w.g (among_all (given_in es) w.g w.among))
    (there (given_in es) this among) of in
    ap (λ (x : Table). pos x.size) w.is ∙ ap (λ z. pos (unsigned_abs z)) same ∙ (accepted size gen args fault).2

can_be : (o : typed.Orchestra) (plot : Plot) (a : EventAct) → AreOfOneSize plot.events → IsActInRange a
    → ((g : Given) → Among (given_by a) g → Among (given_in plot.events) g) → CanBeDone (composition o plot) a
can_be o plot (act.Start instr cycles fields) sizes range given = tt
can_be o plot (act.Table number size gen args) sizes range given = record {
  no_fault = range.1;
  one_size = λ t found. one_size o plot.events number size gen args t sizes
      (given (record { number = number; size = size; gen = gen; args = args }) (inl refl)) range.1 found;
}

-- each event of a plot can be done
pub all_can_be_done : (o : typed.Orchestra) (plot : Plot) → AreOfOneSize plot.events
    → All (λ (e : Event). IsActInRange e.act) plot.events
    → All (λ (e : Event). CanBeDone (composition o plot) e.act) plot.events
all_can_be_done o plot sizes range = λ k d h.
    can_be o plot (slice_index_or plot.events k d).act sizes (range k d h) (λ g a. given_at plot.events k d g h a)
