-- What came back from a scope.
use Rattle.std.proofs.Common.{◌≡◌}

-- what holds for three values holds for three equal ones
pub three_same : {A B C : Type 0} (P : A → B → C → Type 0) (a a' : A) (b b' : B) (c c' : C)
    → a' ≡ a → b' ≡ b → c' ≡ c → P a b c → P a' b' c'
three_same P a a' b b' c c' e f g p = rw (e, f, g) p
