-- A list that was written as a slice of the same length.
use Rattle.std.proofs.Common.{◌≡◌, ◌∙◌, ◌*◌, ℕ, ℤ, List, ◌++◌, length, take, drop, ap, sym}
use Rattle.std.proofs.Math.Seq.{take-append_seam}
use Rattle.cs_piece_meaning.specs.{Heard.mix_in, Moments.Composition}
use Rattle.cs_perform.proofs.Frames.{length-mix_in}

pub slice_written : {A : Type 0} (n : ℕ) (new old : List A) → length new ≡ n
    → take n (new ++ drop (length new) old) ≡ new
slice_written n new old long =
    ap (λ k. take k (new ++ drop (length new) old)) (sym long) ∙ take-append_seam new (drop (length new) old)

-- the block of the mix, after a slice `lent` of `old` was written
pub mix_written : (c : Composition) (n size : ℕ) (new old lent : List ℤ) → new ≡ mix_in c n
    → length old ≡ c.head.ksmps * c.head.nchnls → lent ≡ old → length lent ≡ size
    → take size (new ++ drop (length new) old) ≡ mix_in c n
mix_written c n size new old lent heard long same all =
    slice_written size new old
    (ap length heard ∙ length-mix_in c n ∙ sym long ∙ ap length (sym same) ∙ all) ∙ heard
