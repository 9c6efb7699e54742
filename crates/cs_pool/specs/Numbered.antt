-- The first seat of a board, and the seats that were split off it.
use Rattle.std.specs.Prelude.{◌≡◌, ℕ, zero, suc, List, [], ◌∷◌, true}
use Rattle.cs_board.specs.declared.view.View.{View}

-- the numbers below n, the highest first
abbrev pub down : ℕ → List ℕ
down zero = []
down (suc n) = n ∷ down n

module _ {J : Type 0} where
  -- the first seat, from which n others were split off that it hasn't joined again
  pub record IsFirst (n : ℕ) (v : View J) : Type 0 where
    pub first : v.first ≡ true
    pub out : v.out ≡ down n
