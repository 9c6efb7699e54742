-- The report of a composition: its counts, the line of each meter, and the turns of its notes if they are
-- asked for.
use Rattle.std.specs.Prelude.{ℕ, List, [], ◌++◌, ◌*◌, if◌then◌else◌, count_by, flat_map}
use Rattle.cs_arguments.specs.Reading.{Asked}
use Rattle.cs_base.specs.declared.width.SampleWidth.{SampleWidth}
use Rattle.cs_piece_meaning.specs.{Course.closing, Heard.frames_of, Moments.Composition}
use Rattle.cs_report.specs.Report.{count_lines, line_room}
use Rattle.cs_turns.specs.Turns.{turn_lines_of}
use Rattle.cs_wav.specs.Wav.{is_out_of_range}

-- the counts of a composition; starts at the very end are counted too
unfoldable pub counts_of : Composition → SampleWidth → List ℕ
counts_of c width =
    count_lines (c.cycles * c.head.ksmps) c.cycles (closing c).started (closing c).not_started
    (count_by (is_out_of_range width c.head.dbfs) (frames_of c))

-- the lines of meters, one after another
abbrev pub meter_lines : {B : Type 0} → (B → ℕ → List ℕ) → List B → List ℕ
meter_lines line taps = flat_map (λ tap. line tap line_room) taps

-- the complete report, with these lines of meters, and with the lines of turns if they are asked for
abbrev pub report_of : Composition → Asked → List ℕ → List ℕ
report_of c asked meters = counts_of c asked.width ++ meters ++ (if asked.turns then turn_lines_of c else [])
