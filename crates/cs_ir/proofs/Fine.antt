-- A code is valid if and only if each of its ops is fine at its place.
use Rattle.std.proofs.Common.{◌≡◌, refl, ap, subst, ℕ, zero, suc, ◌+◌, true, List, [], ◌∷◌, slice_get, Option, Some}
use Rattle.std.proofs.Common.{None, arith}
use Rattle.std.proofs.lemmas.Bool.{and_parts, and_from}
use Rattle.cs_ir.specs.{Validity.is_fine, Validity.fine_from, declared.op.Op.Op, declared.register.Counts.Counts}

or_else : Op → Option Op → Op
or_else x None = x
or_else x (Some y) = y

first : (x y : Op) → Some x ≡ Some y → x ≡ y
unfolding or_else
first x y k = ap (or_else x) k

-- the op at a place of a code is fine, if the code is fine from an earlier place on
pub fine_at : (c : Counts) (end place : ℕ) (ops : List Op) (n : ℕ) (o : Op) → fine_from c end place ops ≡ true
    → slice_get ops n ≡ Some o → is_fine c end (place + n) o ≡ true
fine_at c end place [] n o h e = absurd (cc)
fine_at c end place (x ∷ ops) zero o h e =
    let b = and_parts (is_fine c end place x) (fine_from c end (place + 1) ops) h in
    let p : place ≡ place + zero = omega arith in
    subst (λ k. is_fine c end k o ≡ true) p (subst (λ y. is_fine c end place y ≡ true) (first x o e) b.0)
fine_at c end place (x ∷ ops) (suc n) o h e =
    let b = and_parts (is_fine c end place x) (fine_from c end (place + 1) ops) h in
    let p : (place + 1) + n ≡ place + suc n = omega arith in
    subst (λ k. is_fine c end k o ≡ true) p (fine_at c end (place + 1) ops n o b.1 e)

pub all_fine : (c : Counts) (end place : ℕ) (ops : List Op)
    → ((n : ℕ) (o : Op) → slice_get ops n ≡ Some o → is_fine c end (place + n) o ≡ true)
    → fine_from c end place ops ≡ true
all_fine c end place [] h = refl
all_fine c end place (x ∷ ops) h =
    let p : place + zero ≡ place = omega arith in
    and_from _ _ (subst (λ k. is_fine c end k x ≡ true) p (h zero x refl)) (all_fine c end (place + 1) ops
    (λ n o e. let q : place + suc n ≡ (place + 1) + n =
    omega arith in subst (λ k. is_fine c end k o ≡ true) q (h (suc n) o e)))
