-- A note of no cycle schedules another: the example is computed with the formula for the cycle of a time
-- unfolded.
use Rattle.std.proofs.Common.{◌≡◌, [], ◌∷◌, ◌++◌, refl}
use Rattle.cs_meaning.specs.Examples.{each, no_code, whole}
use Rattle.cs_time.specs.Time.{cycle_of}
use Rattle.cs_piece_meaning.specs.{Course.closing, Heard.frames_of}
use Rattle.cs_piece_meaning.specs.Examples.{asking_for_two, note, piece_of_two, sounding_p4}

pub asked : frames_of (piece_of_two no_code asking_for_two sounding_p4 (note 1 0 0 (whole 7) ∷ []) 4)
    ≡ each (whole 0) ++ (each (whole 7) ++ (each (whole 7) ++ each (whole 0)))
unfolding cycle_of
asked = refl

pub both_started : (closing (piece_of_two no_code asking_for_two sounding_p4 (note 1 0 0 (whole 7) ∷ []) 4)).started ≡ 2
unfolding cycle_of
both_started = refl
