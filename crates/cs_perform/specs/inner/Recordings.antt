-- The recording of the first cycles of a performance.
use Rattle.std.specs.{Prelude.ℕ, Prelude.◌≡◌, Prelude.◌*◌, Prelude.length, List.count_by}
use Rattle.cs_base.specs.{Widths.bytes_of, declared.head.Head.Head, declared.width.SampleWidth.SampleWidth}
use Rattle.cs_piece.specs.Setups.{SetupData, composition_of}
use Rattle.cs_piece_meaning.specs.Heard.{frames_before}
use Rattle.cs_turns.specs.Turns.{turn_lines_before}
use Rattle.cs_wav.specs.Wav.{is_out_of_range}
use Rattle.cs_perform.specs.{Performances.if_told, declared.recording.Recording.Recording}
use Rattle.cs_perform.specs.declared.order.PerformanceOrder.{PerformanceOrder}

-- the blocks have room for the mix of a cycle and its samples
pub record HasBlocks (head : Head) (width : SampleWidth) (r : Recording) : Type 0 where
  pub mix : length r.mix.items ≡ head.ksmps * head.nchnls
  pub samples : length r.samples.items ≡ head.ksmps * head.nchnls * bytes_of width

-- the recording covers the first `n` cycles, and the blocks have room for the next one
pub record IsRecordingOf (s : SetupData) (order : PerformanceOrder) (n : ℕ) (r : Recording) : Type 0 where
  pub blocks : HasBlocks s.orchestra.head order.width r
  pub out_of_range : r.out_of_range
      ≡ count_by (is_out_of_range order.width s.orchestra.head.dbfs) (frames_before (composition_of s) n)
  pub turns : r.turns.items ≡ if_told order.turns (turn_lines_before (composition_of s) n)
