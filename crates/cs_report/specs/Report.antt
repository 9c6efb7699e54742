-- The report of a performance: five counts and the line of each meter.
use Rattle.std.specs.Prelude.{ℕ, List, ◌++◌, codes, decimal}
use Rattle.cs_report.specs.declared.counts.PerformanceCounts.{PerformanceCounts}

-- the highest number of bytes of a meter's line
abbrev pub line_room : ℕ
line_room = 64

-- a count's name, a blank and its decimal digits
abbrev pub count_line : List ℕ → ℕ → List ℕ
count_line name n = name ++ codes " " ++ decimal n ++ codes "\n"

-- frames, control cycles, starts that started a note and starts that started nothing, and samples that were
-- clipped
unfoldable pub count_lines : ℕ → ℕ → ℕ → ℕ → ℕ → List ℕ
count_lines frames cycles started not_started out_of_range =
    count_line (codes "frames") frames
    ++ count_line (codes "cycles") cycles
    ++ count_line (codes "notes") started
    ++ count_line (codes "not started") not_started
    ++ count_line (codes "out of range") out_of_range

-- the lines of these counts
abbrev pub counts_in : PerformanceCounts → List ℕ
counts_in c = count_lines c.frames c.cycles c.started c.not_started c.out_of_range
