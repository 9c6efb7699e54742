-- Consequences of the results of tests.
use Rattle.std.proofs.Common.{◌≡◌, ℕ, ◌<◌, ◌≤◌, nat_lt, Bool, true, false, refl, ◌∙◌, Option, None, Some, get_or}
use Rattle.std.proofs.Common.{zero-add, arith}
use Rattle.std.specs.{List.range_with_len, Option.option_or}
use Rattle.std.proofs.lemmas.{Bool.Decides.nat_tests, List.FromFn.get_or-range_with_len}

-- a case distinction by a test, with its result as an equation
pub by_test : {P : Type 0} (b : Bool) → (b ≡ true → P) → (b ≡ false → P) → P
by_test true f g = f refl
by_test false f g = g refl

-- if the first of two options that exists is None, both are None
pub both_none : {A : Type 0} (a b : Option A) → option_or a b ≡ None → (a ≡ None) × (b ≡ None)
both_none None b h = (refl, h)
both_none (Some a) b h = absurd (cc h)

pub some_is : {A : Type 0} (p q : A) → Some p ≡ Some q → p ≡ q
some_is p q e = cc

pub is_below : (m n : ℕ) → m < n → nat_lt m n ≡ true
is_below m n h = grind (arith, nat_tests)

pub isnt_below : (m n : ℕ) → n ≤ m → nat_lt m n ≡ false
isnt_below m n h = grind (arith, nat_tests)

-- the item at index i of the numbers from 0 on is i
pub number_at : (n i : ℕ) → i < n → get_or (range_with_len 0 n) i 0 ≡ i
number_at n i h = get_or-range_with_len 0 n i 0 h ∙ zero-add i
