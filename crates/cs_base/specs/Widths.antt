-- The width of a sample, and the numbers that its bytes hold in two's complement.
use Rattle.std.specs.Prelude.{ℕ, ℤ, pos, neg_ℤ, ◌*◌, ◌-◌, ◌^◌}
use Rattle.cs_base.specs.declared.width.SampleWidth.{SampleWidth}
use Rattle.cs_base.specs.declared.width.SampleWidth.TheVariants as width

-- the number of bytes of a sample
abbrev pub bytes_of : SampleWidth → ℕ
bytes_of width.TwoBytes = 2
bytes_of width.ThreeBytes = 3

-- the greatest number that the bytes of a sample hold in two's complement
abbrev pub greatest_of : SampleWidth → ℤ
greatest_of w = pos (2 ^ (8 * bytes_of w - 1) - 1)

-- the least number that the bytes of a sample hold in two's complement
abbrev pub least_of : SampleWidth → ℤ
least_of w = neg_ℤ (pos (2 ^ (8 * bytes_of w - 1)))
