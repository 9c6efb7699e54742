-- The length of a curve.
use Rattle.std.proofs.Common.{◌≡◌, ℕ, ◌+◌, ◌%◌, ◌≤◌, Bool, true, false, ◌||◌, ◌==◌, List, [], ◌∷◌, length, ℤ, pos, refl}
use Rattle.std.proofs.Common.{ap, sym, arith, subst, nat_le, ◌&&◌, unsigned_abs, Some, None, if◌then◌else◌}
use Rattle.std.specs.{List.list_any, List.list_all, Ordering.int_eq}
use Rattle.std.proofs.lemmas.Bool.Decides.{nat_tests, Decides-int_eq}
use Rattle.cs_gen.specs.Faults.{lengths, is_size, is_gen, has_negative_length, table_fault}
use Rattle.cs_gen.specs.{Points.len_of, Tables.IsMade, Tables.curve_of}
use Rattle.cs_gen.specs.declared.check.GenFault.TheVariants.{Size, Unknown, NegativeLength}
use Rattle.cs_ugen.specs.Points.{curve_len, is_len, IsCurve}

cases : {P : Type 0} (a b : Bool) → (a || b) ≡ true → (a ≡ true → P) → (b ≡ true → P) → P
cases true b h p q = p refl
cases false b h p q = q h

low_and_high : (x : ℕ) (r : Bool) → ((nat_le 2 x && nat_le x 65536) && r) ≡ true → (2 ≤ x) × (x ≤ 65536) × (r ≡ true)
low_and_high x r h = (grind (arith, nat_tests), grind (arith, nat_tests), grind (arith, nat_tests))

any_bounds : (n : ℕ) (xs : List ℕ) → list_all (λ len. nat_le 2 len && nat_le len 65536) xs ≡ true
    → list_any (λ len. n == len) xs ≡ true → (2 ≤ n) × (n ≤ 65536)
any_bounds n [] all any = absurd cc
any_bounds n (x ∷ xs) all any =
    let b = low_and_high x (list_all (λ len. nat_le 2 len && nat_le len 65536) xs) all in
    let low = b.0 in
    let high = b.1 in
    cases (n == x) (list_any (λ len. n == len) xs) any
    (λ e. let is : n ≡ x = grind (arith, nat_tests) in (omega arith, omega arith))
    (λ e. any_bounds n xs b.2 e)

-- a power of two from the list of lengths is from 2 to 65,536
pub is_len-bounds : (n : ℕ) → is_len n ≡ true → (2 ≤ n) × (n ≤ 65536)
unfolding lengths
is_len-bounds n h = any_bounds n lengths refl h

even_and_more : (x : ℕ) (r : Bool) → ((x % 2 == 0) && r) ≡ true → (x % 2 ≡ 0) × (r ≡ true)
even_and_more x r h = (grind (arith, nat_tests), grind (arith, nat_tests))

either_true : (a b : Bool) → a ≡ true → (a || b) ≡ true
either_true a b h = grind (arith, nat_tests)

or_later : (a b : Bool) → b ≡ true → (a || b) ≡ true
or_later true b h = refl
or_later false b h = h

same_len : (n x : ℕ) → len_of n ≡ x → (len_of n == x) ≡ true
same_len n x e = grind (arith, nat_tests)

any_len : (n : ℕ) (xs : List ℕ) → list_all (λ len. len % 2 == 0) xs ≡ true →
    list_any (λ len. int_eq (pos n) (pos len) || int_eq (pos n) (pos (len + 1))) xs ≡ true
    → list_any (λ len. len_of n == len) xs ≡ true
any_len n [] all any = absurd cc
any_len n (x ∷ xs) all any =
    let b = even_and_more x (list_all (λ len. len % 2 == 0) xs) all in
    let even = b.0 in
    let later : Bool = list_any (λ len. len_of n == len) xs in
    cases (int_eq (pos n) (pos x) || int_eq (pos n) (pos (x + 1)))
    (list_any (λ len. int_eq (pos n) (pos len) || int_eq (pos n) (pos (len + 1))) xs) any
    (λ e. cases (int_eq (pos n) (pos x)) (int_eq (pos n) (pos (x + 1))) e
    (λ s. let is = ap unsigned_abs ((Decides-int_eq (pos n) (pos x)).0 s) in either_true (len_of n == x) later
    (same_len n x (omega arith)))
    (λ s. let is = ap unsigned_abs ((Decides-int_eq (pos n) (pos (x + 1))).0 s) in either_true (len_of n == x) later
    (same_len n x (omega arith))))
    (λ e. or_later (len_of n == x) later (any_len n xs b.1 e))

any_size : (n : ℕ) → is_size (pos n) ≡ true → is_len (len_of n) ≡ true
unfolding is_size lengths
any_size n h = any_len n lengths refl h

no_fault : (a b c : Bool)
    → (if a then if b then if c then Some NegativeLength else None else Some Unknown else Some Size) ≡ None → a ≡ true
no_fault true b c h = refl
no_fault false b c h = absurd cc

-- the length of a made table is a power of two
pub made_len : (size gen : ℤ) (args points : List ℤ) → table_fault size gen args ≡ None → IsMade size gen args points →
    is_len (len_of (length points)) ≡ true
unfolding table_fault
made_len size gen args points h made =
    any_size (length points) (subst (λ z. is_size z ≡ true) (sym made.count)
    (no_fault (is_size size) (is_gen gen) ((unsigned_abs gen == 7) && has_negative_length args) h))

-- a made table with its guard point is a curve
pub made_curve : (size gen : ℤ) (args points : List ℤ) → table_fault size gen args ≡ None → IsMade size gen args points
    → IsCurve (curve_of points)
made_curve size gen args points h made =
    let long = made.long in
    let len : curve_len (curve_of points) ≡ len_of (length points) = omega (arith, long) in
    record { power = subst (λ n. is_len n ≡ true) (sym len) (made_len size gen args points h made) }
