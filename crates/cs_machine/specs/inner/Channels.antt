-- Channels by number.
use Rattle.std.specs.Prelude.{ℕ, ◌&&◌, ◌-◌, nat_le, Option, Some, None, if◌then◌else◌}

-- the index, counted from 0, of the channel that a number counted from 1 names, or None if there is no such
-- channel
abbrev pub channel_below : ℕ → Option ℕ → Option ℕ
channel_below channels None = None
channel_below channels (Some n) = if nat_le 1 n && nat_le n channels then Some (n - 1) else None
