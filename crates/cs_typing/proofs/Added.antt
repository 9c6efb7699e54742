-- A table with one more name: whether it has other names, at which numbers, and how many names there are.
use Rattle.std.proofs.Common.{◌≡◌, ◌∙◌, ℕ, suc, Bool, true, false, ◌||◌, if◌then◌else◌, List, [], ◌∷◌, ◌++◌, length}
use Rattle.std.proofs.Common.{length-append, arith, refl, ap}
use Rattle.std.specs.Str.{bytes_eq}
use Rattle.std.proofs.lemmas.{Bool.false_from_ne_true, Slice.Eq.bytes_eq-Decides}
use Rattle.cs_base.specs.{Rates.at_rate, declared.resource.Rate.Rate}
use Rattle.cs_words.specs.{NameSets.has, NameSets.seen, Names.name_rate}
use Rattle.cs_words.proofs.Places.{past_all}
use Rattle.cs_typing.specs.Known.{RateNames, counts_of, of_rate, with_name, in_table, place_in, added}
use Rattle.cs_typing.specs.inner.Routines.{counted}
use Rattle.cs_base.specs.declared.resource.Rate.TheVariants as rate

-- two different names are not equal as bytes
pub differ : (x y : List ℕ) → (x ≡ y → ⊥) → bytes_eq x y ≡ false
differ x y h = false_from_ne_true (bytes_eq x y) (λ e. h ((bytes_eq-Decides x y).0 e))

has_other : (xs : List (List ℕ)) (x y : List ℕ) → (y ≡ x → ⊥) → has (xs ++ x ∷ []) y ≡ has xs y
has_other [] x y h = ap (λ b. b || false) (differ y x h)
has_other (z ∷ xs) x y h = ap (λ b. bytes_eq y z || b) (has_other xs x y h)

pub seen_other : (xs : List (List ℕ)) (x y : List ℕ) → (y ≡ x → ⊥) → has (seen xs x) y ≡ has xs y
seen_other xs x y h = by (has xs x)
  where
    by : (b : Bool) → has (if b then xs else xs ++ x ∷ []) y ≡ has xs y
    by true = refl
    by false = has_other xs x y h

with_other : (q r : Rate) (t : RateNames) (x y : List ℕ) → (y ≡ x → ⊥)
    → has (of_rate r (with_name q t x)) y ≡ has (of_rate r t) y
with_other rate.Init rate.Init t x y h = seen_other t.init x y h
with_other rate.Control rate.Control t x y h = seen_other t.control x y h
with_other rate.Audio rate.Audio t x y h = seen_other t.audio x y h
with_other q r t x y h = refl

pub added_other : (t : RateNames) (x y : List ℕ) → (y ≡ x → ⊥) → in_table (added t x) y ≡ in_table t y
added_other t x y h = with_other (name_rate x) (name_rate y) t x y h

-- ---- a name that the table has

pub seen_there : (xs : List (List ℕ)) (x : List ℕ) → has xs x ≡ true → seen xs x ≡ xs
seen_there xs x h = ap (λ b. if b then xs else xs ++ x ∷ []) h

with_there : (q : Rate) (t : RateNames) (x : List ℕ) → has (of_rate q t) x ≡ true → with_name q t x ≡ t
with_there rate.Init t x h = λ i. record { init = seen_there t.init x h i; control = t.control; audio = t.audio }
with_there rate.Control t x h = λ i. record { init = t.init; control = seen_there t.control x h i; audio = t.audio }
with_there rate.Audio t x h = λ i. record { init = t.init; control = t.control; audio = seen_there t.audio x h i }

pub added_there : (t : RateNames) (x : List ℕ) → in_table t x ≡ true → added t x ≡ t
added_there t x h = with_there (name_rate x) t x h

-- ---- a new name

seen_new : (xs : List (List ℕ)) (x : List ℕ) → has xs x ≡ false → length (seen xs x) ≡ suc (length xs)
seen_new xs x h =
    ap (λ b. length (if b then xs else xs ++ x ∷ [])) h ∙ omega (arith, length-append xs (x ∷ []))

with_new : (q : Rate) (t : RateNames) (x : List ℕ) → has (of_rate q t) x ≡ false
    → counts_of (with_name q t x) ≡ counted q (counts_of t)
with_new rate.Init t x h =
    λ i. record { init = seen_new t.init x h i; control = length t.control; audio = length t.audio }
with_new rate.Control t x h =
    λ i. record { init = length t.init; control = seen_new t.control x h i; audio = length t.audio }
with_new rate.Audio t x h =
    λ i. record { init = length t.init; control = length t.control; audio = seen_new t.audio x h i }

pub added_new : (t : RateNames) (x : List ℕ) → in_table t x ≡ false
    → counts_of (added t x) ≡ counted (name_rate x) (counts_of t)
added_new t x h = with_new (name_rate x) t x h

counts_at : (q : Rate) (t : RateNames) → length (of_rate q t) ≡ at_rate (counts_of t) q
counts_at rate.Init t = refl
counts_at q t = refl

pub place_new : (t : RateNames) (x : List ℕ) → in_table t x ≡ false → place_in t x ≡ at_rate (counts_of t) (name_rate x)
place_new t x h = past_all (of_rate (name_rate x) t) x h ∙ counts_at (name_rate x) t
