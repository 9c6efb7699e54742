-- What a performance may begin from, as one fact.
use Rattle.std.specs.Prelude.{ℕ, ◌≤◌, ◌*◌, ◌^◌}
use Rattle.cs_base.specs.{Limits.most_wav_bytes, Widths.bytes_of}
use Rattle.cs_piece.specs.Setups.{SetupData}
use Rattle.cs_perform.specs.declared.order.PerformanceOrder.{PerformanceOrder}

-- the counter has room for 2^32 cycles of 512 notes, and the file isn't too long
pub record HasPlace (s : SetupData) (order : PerformanceOrder) (room : ℕ) : Type 0 where
  pub counter : 2 ^ 42 ≤ room
  pub bytes : s.plot.cycles * s.orchestra.head.ksmps * s.orchestra.head.nchnls * bytes_of order.width ≤ most_wav_bytes
