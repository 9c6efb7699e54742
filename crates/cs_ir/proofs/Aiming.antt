-- Jumps whose target is set.
use Rattle.std.proofs.Common.{◌≡◌, ◌+◌, ◌++◌, ℕ, zero, suc, List, [], ◌∷◌, length, arith, ap, subst}
use Rattle.cs_ir.specs.{Codes.aim, declared.op.Op.Op}

-- setting a target in the second of two lists of ops
pub aim_high : (xs ys : List Op) (n to : ℕ) → aim (length xs + n) to (xs ++ ys) ≡ xs ++ aim n to ys
aim_high [] ys n to = let e : zero + n ≡ n = omega arith in ap (λ m. aim m to ys) e
aim_high (x ∷ xs) ys n to =
    let e : suc (length xs + n) ≡ suc (length xs) + n = omega arith in
    subst (λ m. aim m to (x ∷ (xs ++ ys)) ≡ x ∷ (xs ++ aim n to ys)) e (ap (λ l. x ∷ l) (aim_high xs ys n to))
