-- The time along a ramp, computed with unsigned numbers.
use Rattle.std.specs.Prelude.{ℕ, ◌+◌, ◌-◌, ◌*◌, ◌/◌, nat_le, if◌then◌else◌}

-- a quotient rounded up
abbrev pub rounded_up : ℕ → ℕ → ℕ
rounded_up n d = (n + (d - 1)) / d

-- the time along a ramp in two parts: if beats grow shorter, the part that is subtracted is rounded up
unfoldable pub ramp_in_parts : ℕ → ℕ → ℕ → ℕ → ℕ
ramp_in_parts first last span x =
    if nat_le first last
    then first * x / 1000000 + (last - first) * (x * x) / (2 * span * 1000000)
    else first * x / 1000000 - rounded_up ((first - last) * (x * x)) (2 * span * 1000000)
