use Rattle.std.proofs.Common.{◌≡◌, drop}
use Rattle.cs_meaning.specs.Pieces.{find_table}
use Rattle.cs_voice.specs.Tables.{tables_of}
use Rattle.cs_voice.proofs.tables.find_made.Given as goal

abbrev pub invariant-loop-place : goal.invariant-loop-place
invariant-loop-place l = find_table (tables_of l.tables l.made) l.number
    ≡ find_table (tables_of (drop l.place l.tables) (drop l.place l.made)) l.number
