-- Short forms for the statements of worked examples.
use Rattle.std.specs.Prelude.{ℕ, negsuc, List, [], ◌∷◌}
use Rattle.cs_score.specs.Worked.{at_line, beats, held_note, note, section_end, stop, table}
use Rattle.cs_score.specs.declared.statement.ScoreStmt.{ScoreStmt}
use Rattle.cs_score.specs.declared.statement.ScoreWhat.TheVariants.{Hold, Note, Stop}

-- a held note of instrument 1 at a beat, in line 1
abbrev pub held_at : ℕ → ScoreStmt
held_at at = at_line 1 (Hold 1 at (negsuc 65535) [])

-- a stop of instrument 1 at a beat, in line 1
abbrev pub stop_at : ℕ → ScoreStmt
stop_at at = at_line 1 (Stop 1 at)

-- the score f1 0 4 -2 · i1 0 1 5 · i1 0 -1 9 · i1 1 0 · i-1 2 · s · i1 0 .25
abbrev pub two_sections : List ScoreStmt
two_sections =
    table 1 (negsuc 1) []
    ∷ note 2 0 5
    ∷ held_note 3 0 9
    ∷ at_line 4 (Note 1 (beats 1) 0 [])
    ∷ stop 5 2
    ∷ section_end 6
    ∷ at_line 7 (Note 1 0 250000 [])
    ∷ []
