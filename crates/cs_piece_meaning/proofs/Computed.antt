-- Performances computed with the formulas for times and tables unfolded.
use Rattle.std.proofs.Common.{◌≡◌, ◌++◌, refl}
use Rattle.cs_gen.specs.Points.{plain_point, point, points_of}
use Rattle.cs_ugen.specs.{Table.table_of, Units.gen}
use Rattle.cs_meaning.specs.Examples.{each, whole}
use Rattle.cs_time.specs.Time.{cycle_of}
use Rattle.cs_piece_meaning.specs.{Counting.starts_before, Counting.starts_from, Course.closing, Heard.frames_of}
use Rattle.cs_piece_meaning.specs.OrderExamples.{asked_in_its_cycle, refused_late, table_made_twice, table_stored_to}

pub made_again : frames_of table_made_twice ≡ each (whole 5) ++ each (whole 9)
unfolding gen table_of points_of point plain_point
made_again = refl

pub stored : frames_of table_stored_to ≡ each (whole 9) ++ each (whole 9)
unfolding gen table_of points_of point plain_point
stored = refl

pub asked : frames_of asked_in_its_cycle ≡ each (whole 0) ++ (each (whole 7) ++ each (whole 0))
unfolding cycle_of
asked = refl

pub refused : frames_of refused_late ≡ each (whole 9) ++ each (whole 0)
unfolding cycle_of
refused = refl

pub refused_started : (closing refused_late).started ≡ 1
unfolding cycle_of
refused_started = refl

pub refused_counted : (closing refused_late).not_started ≡ 1
unfolding cycle_of
refused_counted = refl

pub refused_starts : starts_before refused_late 3 ≡ 2
unfolding cycle_of starts_from
refused_starts = refl
