-- Products that fit into 64 bits.
use Rattle.std.specs.Prelude.{ℕ, ℤ, pos, neg_ℤ, ◌<◌, ◌^◌, ◌*ℤ◌, ◌≤ℤ◌, ◌<ℤ◌, unsigned_abs}
use Rattle.cs_base.specs.Numbers.{IsRaw}
use Rattle.cs_ir.specs.Waves.{Wave}

-- the product of two numbers fits into 64 bits with its sign
abbrev pub IsNarrow : ℤ → ℤ → Type 0
IsNarrow x y = IsRaw x → IsRaw y → unsigned_abs (x *ℤ y) < 2 ^ 63

-- the product of two operands fits at each of the first n frames
abbrev pub AreNarrow : ℕ → Wave → Wave → Type 0
AreNarrow n w v = (j : ℕ) → j < n → IsNarrow (w j) (v j)

-- a number of 32 bits with its sign
abbrev pub IsShort : ℤ → Type 0
IsShort z = (neg_ℤ (pos (2 ^ 31)) ≤ℤ z) × (z <ℤ pos (2 ^ 31))
