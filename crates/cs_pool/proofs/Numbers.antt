-- The numbers below another number.
use Rattle.std.proofs.lemmas.{Grind.common_steps, Bool.eq-eqb, Bool.ne_eqb}
use Rattle.std.proofs.Common.{◌≡◌, ℕ, zero, suc, ◌≤◌, ◌∷◌, cond, refl, ap, ◌∙◌, arith}
use Rattle.cs_pool.specs.Numbered.{down}
use Rattle.cs_board.specs.Counts.{without}

without_greater : (n m : ℕ) → n ≤ m → without m (down n) ≡ down n
without_greater zero m l = refl
without_greater (suc n) m l = grind (arith, common_steps, ne_eqb, without_greater n m (omega (arith, l)))

-- the greatest number is taken out
pub without_greatest : (n : ℕ) → without n (down (suc n)) ≡ down n
without_greatest n =
    ap (λ b. cond b (without n (down n)) (n ∷ without n (down n))) (eq-eqb n n refl) ∙ without_greater n n (omega arith)
