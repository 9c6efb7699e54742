-- Numberings that distinguish all names.
use Rattle.std.proofs.lemmas.{Grind.common_steps, Slice.Eq.bytes_eq-Decides}
use Rattle.std.proofs.Common.{◌≡◌, ◌∙◌, ℕ, zero, suc, ◌+◌, ◌<◌, true, not, if◌then◌else◌, List, [], ◌∷◌, length, arith}
use Rattle.std.proofs.Common.{refl, sym, ap}
use Rattle.cs_words.specs.{NameSets.has, NameSets.place_of, Names.name_rate}
use Rattle.cs_typing.specs.Known.{RateNames, of_rate, in_table, place_in}
use Rattle.cs_udo_meaning.specs.Numbered.{Numbering, Tells, pushed, spelled}
use Rattle.cs_udo_meaning.proofs.KnownOn.{HasPlaces}

-- ---- a number for every name

some : (b n : ℕ) → 0 < pushed b n
some zero n = omega arith
some (suc b) n = omega (arith, some b n)

even_odd : (n m : ℕ) → suc (n + n) ≡ m + m → ⊥
even_odd n m e = omega (arith, e)

halves : (n m : ℕ) → n + n ≡ m + m → n ≡ m
halves n m e = omega (arith, e)

odd_halves : (n m : ℕ) → suc (n + n) ≡ suc (m + m) → n ≡ m
odd_halves n m e = omega (arith, e)

pushed_apart : (b c n m : ℕ) → pushed b n ≡ pushed c m → (b ≡ c) × (n ≡ m)
pushed_apart zero zero n m e = (refl, odd_halves n m e)
pushed_apart zero (suc c) n m e = absurd (even_odd n (pushed c m) e)
pushed_apart (suc b) zero n m e = absurd (even_odd m (pushed b n) (sym e))
pushed_apart (suc b) (suc c) n m e =
    let more = pushed_apart b c n m (halves (pushed b n) (pushed c m) e) in (ap (λ k. suc k) more.0, more.1)

spelled_apart : (x y : List ℕ) → spelled x ≡ spelled y → x ≡ y
spelled_apart [] [] e = refl
spelled_apart [] (c ∷ y) e = absurd (omega (arith, e, some c (spelled y)))
spelled_apart (b ∷ x) [] e = absurd (omega (arith, e, some b (spelled x)))
spelled_apart (b ∷ x) (c ∷ y) e =
    let parts = pushed_apart b c (spelled x) (spelled y) e in
    λ i. parts.0 i ∷ spelled_apart x y parts.1 i

pub spelled_tells : Tells spelled
spelled_tells x y r e = spelled_apart x y e

-- ---- the places of a table, followed by a number for every other name

place_low : (xs : List (List ℕ)) (x : List ℕ) → has xs x ≡ true → place_of xs x < length xs
place_low [] x h = absurd (cc h)
place_low (y ∷ xs) x h = grind (arith, common_steps, not, place_low xs x)

place_apart : (xs : List (List ℕ)) (x y : List ℕ) → has xs x ≡ true → has xs y ≡ true → place_of xs x ≡ place_of xs y
    → x ≡ y
place_apart [] x y h k e = absurd (cc h)
place_apart (z ∷ xs) x y h k e = grind (arith, common_steps, bytes_eq-Decides, not, place_apart xs x y)

abbrev pub number_in : RateNames → Numbering
number_in t x = if in_table t x then place_in t x else length (of_rate (name_rate x) t) + spelled x

pub number_places : (t : RateNames) → HasPlaces (number_in t) t
number_places t = record
    { each = λ x h. ap (λ b. if b then place_in t x else length (of_rate (name_rate x) t) + spelled x) h }

numbers_apart : (names : List (List ℕ)) (x y : List ℕ)
    → (if has names x then place_of names x else length names + spelled x)
    ≡ (if has names y then place_of names y else length names + spelled y) → x ≡ y
numbers_apart names x y e = grind (arith, common_steps, place_apart, place_low, spelled_apart)

pub number_tells : (t : RateNames) → Tells (number_in t)
number_tells t x y r e =
    numbers_apart _ _ _
    (e ∙ ap (λ q. if has (of_rate q t) y then place_of (of_rate q t) y else length (of_rate q t) + spelled y) (sym r))
