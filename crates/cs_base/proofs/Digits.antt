-- The value of digits, read from left to right.
use Rattle.std.proofs.Common.{◌≡◌, ℕ, ◌+◌, ◌-◌, ◌*◌, ◌^◌, ◌<◌, ◌≤◌, min, Bool, true, List, [], ◌∷◌, length, take}
use Rattle.std.proofs.Common.{get_or, arith, inl, inr, ap, sym, ◌∙◌, lit<}
use Rattle.std.specs.{List.list_all, Char.is_ascii_digit, Char.digit_value, Str.Parse.digits_value, Str.Parse.AllDigits}
use Rattle.std.proofs.lemmas.Bool.Decides.{nat_tests, leb_tells}
use Rattle.std.proofs.lemmas.{Bool.and_parts, List.take_all, List.length-take-le, List.Elements.All-take, Nat.pow-add}
use Rattle.std.proofs.lemmas.Int.Digits.{digits_value_more, digits_value-lt}
use Rattle.std.proofs.lemmas.List.Sums.{AllPass-from_list_all, list_all-from_AllPass}
use Rattle.std.proofs.Math.Nat.{mul-lt-mul_of_pos_right, one-le-pow, pow-le-pow_right}

pub digit_value_is : (b : ℕ) → is_ascii_digit b ≡ true → digit_value b ≡ b - 48
digit_value_is b h = grind (arith, nat_tests)

pub digit_value_small : (b : ℕ) → is_ascii_digit b ≡ true → digit_value b < 10
digit_value_small b h = grind (arith, nat_tests)

pub all_digits : (ds : List ℕ) → list_all is_ascii_digit ds ≡ true → AllDigits 10 ds
all_digits [] h = tt
all_digits (d ∷ ds) h =
    let both = and_parts (is_ascii_digit d) (list_all is_ascii_digit ds) h in
    (digit_value_small d both.0, all_digits ds both.1)

pub list_all-take : (n : ℕ) (p : ℕ → Bool) (xs : List ℕ) → list_all p xs ≡ true → list_all p (take n xs) ≡ true
list_all-take n p xs h =
    list_all-from_AllPass p (take n xs) (All-take (λ x. p x ≡ true) n xs (AllPass-from_list_all p xs h))

-- appending a digit commutes with capping at m
capped : (m v d : ℕ) → min (min (min v m * 10) m + d) m ≡ min (v * 10 + d) m
capped m v d = omega arith

pub one_digit_more : (ds : List ℕ) (i v : ℕ) → list_all is_ascii_digit ds ≡ true → i < length ds
    → v ≡ min (digits_value 10 (take i ds)) 4294967295
    → min (min (v * 10) 4294967295 + (get_or ds i 0 - 48)) 4294967295 ≡ min (digits_value 10 (take (i + 1) ds))
    4294967295
one_digit_more ds i v h l e =
    let d : is_ascii_digit (get_or ds i 0) ≡ true = AllPass-from_list_all is_ascii_digit ds h i 0 l in
    let more = digits_value_more 10 ds i l in
    let is = digit_value_is (get_or ds i 0) d in
    let cap = capped 4294967295 (digits_value 10 (take i ds)) (get_or ds i 0 - 48) in
    rw e (cap ∙ ap (λ t. min t 4294967295) (ap (λ y. digits_value 10 (take i ds) * 10 + y) (sym is) ∙ sym more))

pub first_nine : (ds : List ℕ) → take (min (length ds) 9) ds ≡ take 9 ds
first_nine ds = elim (leb_tells (length ds) 9) [
  | inl h ↦ ap (λ k. take k ds) (let e : min (length ds) 9 ≡ length ds = omega arith in e)
      ∙ take_all (length ds) ds (omega arith) ∙ sym (take_all 9 ds h.1)
  | inr h ↦ ap (λ k. take k ds) (let e : min (length ds) 9 ≡ 9 = omega arith in e)
]

pub below_ten_to : (n : ℕ) (ds : List ℕ) → list_all is_ascii_digit ds ≡ true → n ≤ length ds
    → digits_value 10 (take n ds) < 10 ^ n
below_ten_to n ds h l =
    rw (length-take-le n ds l) at
    (digits_value-lt 10 (take n ds) (all_digits (take n ds) (list_all-take n is_ascii_digit ds h)))

-- the value of n of nine digits, scaled to nine digits, has at most nine digits
pub scaled : (v n : ℕ) → n ≤ 9 → v < 10 ^ n → v * 10 ^ (9 - n) < 10 ^ 9
scaled v n l h =
    let whole : 10 ^ n * 10 ^ (9 - n) ≡ 10 ^ 9 =
    sym (pow-add 10 n (9 - n)) ∙ ap (λ k. 10 ^ k) (let e : n + (9 - n) ≡ 9 = omega arith in e) in
    rw whole at (mul-lt-mul_of_pos_right h (one-le-pow (9 - n) 10 (omega arith)))

uncapped : (ds : List ℕ) (n v : ℕ) → list_all is_ascii_digit ds ≡ true → n ≡ min (length ds) 9
    → v ≡ min (digits_value 10 (take n ds)) 4294967295 → (v ≡ digits_value 10 (take n ds)) × (v < 10 ^ n)
uncapped ds n v h en ev =
    let below = below_ten_to n ds h (omega arith) in
    let most : 10 ^ n ≤ 10 ^ 9 = pow-le-pow_right {n = 10} (lit< tt) (let e : n ≤ 9 = omega arith in e) in
    (omega arith, omega arith)

pub billionths_fit : (ds : List ℕ) (n v p : ℕ) → list_all is_ascii_digit ds ≡ true → n ≡ min (length ds) 9
    → v ≡ min (digits_value 10 (take n ds)) 4294967295 → p ≡ 10 ^ (9 - n) → v * p < 10 ^ 9
billionths_fit ds n v p h en ev ep = rw ep (scaled v n (omega arith) (uncapped ds n v h en ev).1)

pub billionths_are : (ds : List ℕ) (n v p : ℕ) → list_all is_ascii_digit ds ≡ true → n ≡ min (length ds) 9
    → v ≡ min (digits_value 10 (take n ds)) 4294967295 → p ≡ 10 ^ (9 - n)
    → v * p ≡ digits_value 10 (take 9 ds) * 10 ^ (9 - length ds)
billionths_are ds n v p h en ev ep =
    let exact = (uncapped ds n v h en ev).0 in
    let same : take n ds ≡ take 9 ds = ap (λ k. take k ds) en ∙ first_nine ds in
    let place : p ≡ 10 ^ (9 - length ds) = ep ∙ ap (λ k. 10 ^ k) (let e : 9 - n ≡ 9 - length ds = omega arith in e) in
    let value : v ≡ digits_value 10 (take 9 ds) = exact ∙ ap (digits_value 10) same in
    rw (value, place)

pub billionths_below : (ds : List ℕ) → list_all is_ascii_digit ds ≡ true
    → digits_value 10 (take 9 ds) * 10 ^ (9 - length ds) < 10 ^ 9
billionths_below ds h =
    let n = min (length ds) 9 in
    let below = below_ten_to n ds h (omega arith) in
    let value : digits_value 10 (take n ds) ≡ digits_value 10 (take 9 ds) = ap (digits_value 10) (first_nine ds) in
    let place : 10 ^ (9 - n) ≡ 10 ^ (9 - length ds) =
    ap (λ k. 10 ^ k) (let e : 9 - min (length ds) 9 ≡ 9 - length ds = omega arith in e) in
    rw (value, place) at (scaled (digits_value 10 (take n ds)) n (omega arith) below)
