use Rattle.std.proofs.Common.{◌≡◌, ℕ, ◌*◌, ℤ, List, length, take}
use Rattle.std.specs.List.{count_by}
use Rattle.cs_base.specs.{Widths.bytes_of, declared.width.SampleWidth.SampleWidth}
use Rattle.cs_wav.specs.Wav.{is_out_of_range, samples_of}
use Rattle.cs_wav.proofs.block.each_sample.Given as goal

-- the samples so far are at the beginning, and the clipped ones among them are counted
pub record IsSoFar (w : SampleWidth) (dbfs : ℤ) (mix : List ℤ) (out : List ℕ) (brought_in i : ℕ) : Type 0 where
  pub size : length out ≡ length mix * bytes_of w
  pub written : take (i * bytes_of w) out ≡ samples_of w dbfs (take i mix)
  pub counted : brought_in ≡ count_by (is_out_of_range w dbfs) (take i mix)

abbrev pub invariant-loop-i : goal.invariant-loop-i
invariant-loop-i l = IsSoFar l.scale.width l.scale.dbfs l.mix l.out l.brought_in l.i
