-- Inverses of integers, with which quotients are guessed.
use Rattle.std.specs.Prelude.{◌+◌, ◌*◌, ◌≤◌, ◌^◌, ℤ, unsigned_abs}

-- `inverse`, in units of 2^-64, is at most one more than the inverse of `value`
abbrev pub IsInverse : ℤ → ℤ → Type 0
IsInverse value inverse = unsigned_abs inverse * unsigned_abs value ≤ 2 ^ 64 + unsigned_abs value
