-- A list of operands from its items, and an operand from its frames.
use Rattle.std.proofs.Common.{◌≡◌, ℕ, ◌<◌, List, [], ◌∷◌, length, get_or, arith}
use Rattle.cs_signal.specs.{Operands.Lasts, Operands.Reaches, declared.operand.Operand.Operand}
use Rattle.cs_signal.specs.declared.operand.Operand.TheVariants.{Held, Row}

-- a list of seven operands consists of the seven that were read
pub seven : (xs : List Operand) (a b c d e f g p q r s t u v : Operand) → length xs ≡ 7 →
    a ≡ get_or xs 0 p → b ≡ get_or xs 1 q → c ≡ get_or xs 2 r → d ≡ get_or xs 3 s → e ≡ get_or xs 4 t
    → f ≡ get_or xs 5 u → g ≡ get_or xs 6 v → xs ≡ a ∷ b ∷ c ∷ d ∷ e ∷ f ∷ g ∷ []
seven (x0 ∷ x1 ∷ x2 ∷ x3 ∷ x4 ∷ x5 ∷ x6 ∷ []) a b c d e f g p q r s t u v n i j k l m o w = cc
seven xs a b c d e f g p q r s t u v n i j k l m o w = absurd (omega arith)

-- a list of one operand consists of the one that was read
pub one : (xs : List Operand) (x p : Operand) → length xs ≡ 1 → x ≡ get_or xs 0 p → xs ≡ x ∷ []
one (y ∷ []) x p n e = cc
one xs x p n e = absurd (omega arith)

-- an operand that has a value for all frames has one for each
pub reaches : (n j : ℕ) (x : Operand) → Lasts n x → j < n → Reaches j x
reaches n j (Held value) h below = tt
reaches n j (Row values) h below = omega (arith, h)
