-- The indices at which definitions are found.
use Rattle.std.proofs.lemmas.{Grind.common_steps, Slice.Eq.bytes_eq-Decides, Bool.false_from_ne_true}
use Rattle.std.proofs.Common.{◌≡◌, ◌∙◌, ◌+◌, ◌<◌, ◌≤◌, ℕ, zero, suc, min, Bool, true, false, ◌||◌, ◌≢◌, ◌++◌, cond}
use Rattle.std.proofs.Common.{if◌then◌else◌, List, [], ◌∷◌, map, take, drop, get_or, length, slice_get, nat_lt, Some}
use Rattle.std.proofs.Common.{None, arith, refl, sym, ap}
use Rattle.std.specs.{Str.bytes_eq, List.prefix_len, Option.option_map}
use Rattle.std.proofs.lemmas.List.{drop_more, take_more, map_more, length-map, length-take-le}
use Rattle.std.proofs.lemmas.Option.{slice_get-map, slice_get_read, get_or_from_slice_get}
use Rattle.cs_words.specs.NameSets.{has, place_of, seen}
use Rattle.cs_grammar.specs.{Inputs.AreDifferent, WellFormed.line_of, declared.tree.StmtWhat.StmtWhat}
use Rattle.cs_grammar.specs.{declared.tree.StmtWhat.TheVariants.Set, declared.tree.Udo.Udo}
use Rattle.cs_grammar.specs.Tree.{Definition, definition, of_what}
use Rattle.cs_udo.specs.Expanded.{Opcodes, no_opcodes, template, defining, defining_all, before, opcodes_before}
use Rattle.cs_udo.specs.Library.{opcodes_of, place_among}
use Rattle.cs_udo.proofs.DefinitionsFound.{found, unfound}

-- the rest of a list is its first item, followed by the rest after it
pub dropped : {A : Type 0} (xs : List A) (i : ℕ) (x : A) → i < length xs → x ≡ get_or xs i x
    → drop i xs ≡ x ∷ drop (i + 1) xs
dropped xs i x lt e = drop_more xs i x lt ∙ ap (λ y. y ∷ drop (i + 1) xs) (sym e)

-- the names of definitions
abbrev pub names : List Definition → List (List ℕ)
names ds = map (λ d. d.name) ds

one_suc : (n : ℕ) → 1 + n ≡ suc n
one_suc n = omega arith

-- the definitions before a line are the first ones
pub before_first : (line : ℕ) (ds : List Definition)
    → before line ds ≡ take (prefix_len (λ d. nat_lt d.line line) ds) ds
before_first line [] = refl
before_first line (d ∷ ds) = by (nat_lt d.line line) (before_first line ds)
  where
    by : (b : Bool) → before line ds ≡ take (prefix_len (λ d. nat_lt d.line line) ds) ds
        → (if b then d ∷ before line ds else []) ≡ take (cond b (1 + prefix_len (λ d. nat_lt d.line line) ds) 0)
        (d ∷ ds)
    by true rest = ap (λ xs. d ∷ xs) rest
        ∙ sym (ap (λ n. take n (d ∷ ds)) (one_suc (prefix_len (λ d'. nat_lt d'.line line) ds)))
    by false rest = refl

pub opcodes_here : (line : ℕ) (ds : List Definition) (n : ℕ) → n ≡ prefix_len (λ d. nat_lt d.line line) ds
    → opcodes_of ds n ≡ opcodes_before line ds
opcodes_here line ds n e =
    ap (λ k. defining_all no_opcodes (take k ds)) e ∙ sym (ap (defining_all no_opcodes) (before_first line ds))

-- ---- the code's definitions

pub names_are : (us : List Udo) → names (map definition us) ≡ map (λ u. u.name) us
names_are [] = refl
names_are (u ∷ us) = ap (λ ns. u.name ∷ ns) (names_are us)

pub read_one : (us : List Udo) (k : ℕ) (u : Udo) → k < length us → u ≡ get_or us k u
    → slice_get (map definition us) k ≡ Some (definition u)
read_one us k u lt e = slice_get-map definition us k
    ∙ ap (option_map definition) (slice_get_read us (length us) k u refl lt e)

pub at_place : (us : List Udo) (k : ℕ) (u : Udo) → k < length us → u ≡ get_or us k u
    → definition u ≡ get_or (map definition us) k (definition u)
at_place us k u lt e = sym
    (get_or_from_slice_get (map definition us) k (definition u) (definition u) (read_one us k u lt e))

pub place_is : (us : List Udo) (ns : List (List ℕ)) (k : ℕ) (x : List ℕ) → ns ≡ map (λ v. v.name) us
    → k ≡ place_of ns x → k ≡ place_among (map definition us) x
place_is us ns k x named p = p ∙ ap (λ ms. place_of ms x) (named ∙ sym (names_are us))

pub none_in_front : (us : List Udo) (ns : List (List ℕ)) (n k : ℕ) (x : List ℕ) → ns ≡ map (λ v. v.name) us
    → k ≡ place_of ns x → min n (length us) ≤ k → min n (length (map definition us)) ≤ place_among (map definition us) x
none_in_front us ns n k x named p h = grind (arith, common_steps, length-map, place_is)

pub found_one : (us : List Udo) (ns : List (List ℕ)) (n k : ℕ) (x : List ℕ) (u : Udo) → ns ≡ map (λ v. v.name) us
    → k ≡ place_of ns x → k < n → k < length us → u ≡ get_or us k u
    → opcodes_of (map definition us) n x ≡ Some (template (opcodes_of (map definition us) k) (definition u))
found_one us ns n k x u named p lt within e = grind (arith, common_steps, found, names_are, read_one)

pub found_none : (us : List Udo) (ns : List (List ℕ)) (n k : ℕ) (x : List ℕ) → ns ≡ map (λ v. v.name) us
    → k ≡ place_of ns x → min n (length us) ≤ k → opcodes_of (map definition us) n x ≡ None
found_none us ns n k x named p h = grind (arith, common_steps, length-map, names_are, unfound)

-- a name that differs from all names of a list is new
no_name : (ys : List (List ℕ)) (x : List ℕ) → ((k : ℕ) → k < length ys → get_or ys k [] ≢ x) → has ys x ≡ false
no_name [] x h = refl
no_name (y ∷ ys) x h =
    ap (λ b. b || has ys x) (false_from_ne_true (bytes_eq x y)
    (λ q. h 0 (omega arith) (sym ((bytes_eq-Decides x y).0 q))))
    ∙ no_name ys x (λ k lt. h (suc k) (omega (arith, lt)))

front_same : (us : List Udo) (i k : ℕ) → k < i → i ≤ length us
    → get_or (map (λ v. v.name) (take i us)) k [] ≡ get_or (map (λ v. v.name) us) k []
front_same [] i k lt le = absurd (omega (arith, lt, le))
front_same (u ∷ us) zero k lt le = absurd (omega (arith, lt))
front_same (u ∷ us) (suc i) zero lt le = refl
front_same (u ∷ us) (suc i) (suc k) lt le = front_same us i k (omega (arith, lt)) (omega (arith, le))

here_name : (us : List Udo) (i : ℕ) (u : Udo) → i < length us → u ≡ get_or us i u
    → get_or (map (λ v. v.name) us) i [] ≡ u.name
here_name [] i u lt e = absurd (omega (arith, lt))
here_name (v ∷ us) zero u lt e = sym (ap (λ x. x.name) e)
here_name (v ∷ us) (suc i) u lt e = here_name us i u (omega (arith, lt)) e

pub new_name : (us : List Udo) (i : ℕ) (u : Udo) → AreDifferent (map (λ v. v.name) us) → i < length us
    → u ≡ get_or us i u → seen (map (λ v. v.name) (take i us)) u.name ≡ map (λ v. v.name) (take (i + 1) us)
new_name us i u different lt e =
    grind (arith, common_steps, front_same, here_name, length-map, length-take-le, map_more, no_name)

-- definitions, one after another
defining_more : (env : Opcodes) (xs : List Definition) (d : Definition)
    → defining_all env (xs ++ d ∷ []) ≡ defining (defining_all env xs) d
defining_more env [] d = refl
defining_more env (x ∷ xs) d = defining_more (defining env x) xs d

pub opcodes_more : (ds : List Definition) (i : ℕ) (d : Definition) → i < length ds → d ≡ get_or ds i d
    → opcodes_of ds (i + 1) ≡ defining (opcodes_of ds i) d
opcodes_more ds i d lt e = grind (arith, common_steps, defining_more, take_more)

-- the line of a statement
pub line_is : (line : ℕ) (w : StmtWhat) → line_of (of_what line w) ≡ line
line_is line (Set name e) = refl
line_is line _ = refl
