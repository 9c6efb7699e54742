-- Added global variables are in the table, and adding them again changes nothing.
use Rattle.std.proofs.Common.{◌≡◌, ◌∙◌, ℕ, Bool, true, false, if◌then◌else◌, List, [], ◌∷◌, refl, ap}
use Rattle.std.proofs.lemmas.List.Elements.{All-nil, All-cons, All-head, All-tail, All-weaker}
use Rattle.cs_words.specs.Names.{is_global}
use Rattle.cs_typing.specs.Known.{RateNames, in_table, added}
use Rattle.cs_typing.specs.{Typing.given_global, Typing.given_globals, inner.Globals.Has}
use Rattle.cs_typing.proofs.Added.{added_there}
use Rattle.cs_typing.proofs.Later.{TableGoesOn, table_stays, table_further, added_on, added_in, in_on}

abbrev Held : RateNames → List ℕ → Type 0
Held t x = is_global x ≡ true → in_table t x ≡ true

pub one_on : (t : RateNames) (x : List ℕ) → TableGoesOn t (given_global t x)
one_on t x = by (is_global x)
  where
    by : (b : Bool) → TableGoesOn t (if b then added t x else t)
    by true = added_on t x
    by false = table_stays t

pub all_on : (t : RateNames) (xs : List (List ℕ)) → TableGoesOn t (given_globals t xs)
all_on t [] = table_stays t
all_on t (x ∷ xs) =
    table_further t (given_global t x) (given_globals (given_global t x) xs) (one_on t x) (all_on (given_global t x) xs)

pub one_held : (t : RateNames) (x : List ℕ) → Held (given_global t x) x
one_held t x e = ap (λ b. in_table (if b then added t x else t) x) e ∙ added_in t x

-- the table has the names that were added
pub given_held : (t : RateNames) (xs : List (List ℕ)) → Has (given_globals t xs) xs
given_held t [] = All-nil (Held t)
given_held t (x ∷ xs) =
    let now = given_global t x in
    All-cons (Held (given_globals now xs)) x xs
    (λ e. in_on now (given_globals now xs) x (all_on now xs) (one_held t x e)) (given_held now xs)

-- the table still has them after more names are added
pub held_on : (t : RateNames) (xs ys : List (List ℕ)) → Has t xs → Has (given_globals t ys) xs
held_on t xs ys h =
    All-weaker (Held t) (Held (given_globals t ys))
    (λ x k e. in_on t (given_globals t ys) x (all_on t ys) (k e)) xs h

one_again : (t : RateNames) (x : List ℕ) → Held t x → given_global t x ≡ t
one_again t x h = by (is_global x) h
  where
    by : (b : Bool) → (b ≡ true → in_table t x ≡ true) → (if b then added t x else t) ≡ t
    by true k = added_there t x (k refl)
    by false k = refl

-- adding names that the table has changes nothing
pub held_again : (t : RateNames) (xs : List (List ℕ)) → Has t xs → given_globals t xs ≡ t
held_again t [] h = refl
held_again t (x ∷ xs) h =
    ap (λ u. given_globals u xs) (one_again t x (All-head (Held t) x xs h)) ∙ held_again t xs (All-tail (Held t) x xs h)
