-- How many tasks were given in a cycle.
use Rattle.std.proofs.Common.{◌≡◌, ℕ, ◌+◌, arith}

-- if no helper is to get a part, no more tasks are given
pub nothing_more : (given n : ℕ) → n ≡ 0 → given ≡ given + n
nothing_more given n none = omega (arith, none)
