-- A cycle was played if its jobs and cells are as the serial run leaves them, the laws of rows are given, and
-- the desk is as large as before.
use Rattle.std.proofs.Common.{arith, ◌≡◌, List, length, map}
use Rattle.std.proofs.lemmas.Grind.{common_steps}
use Rattle.cs_cells.proofs.SerialRun.{length-serial_jobs}
use Rattle.cs_cells.specs.{Meaning.Meaning, Serial.serial_cells, Serial.serial_jobs}
use Rattle.cs_desk.specs.{Cycles.WasPlayed, declared.desk.Desk.Desk}
use Rattle.cs_desk.specs.Desk.{areas, cells, note_room, word_room}

pub was_played : {J K : Type 0} (M : Meaning K) (desk : Desk J) (given played : List K) (rested : Desk J)
    → map M.foot (serial_jobs M given (cells desk)) ≡ map M.foot given
    → map M.areas (serial_jobs M given (cells desk)) ≡ map M.areas given
    → length (serial_cells M given (cells desk)) ≡ length (cells desk)
    → played ≡ serial_jobs M given (cells desk) → cells rested ≡ serial_cells M given (cells desk)
    → areas rested ≡ areas desk → note_room rested ≡ note_room desk → word_room rested ≡ word_room desk
    → WasPlayed M desk given played rested
was_played M desk given played rested feet layouts long jobs left over notes words =
    grind (arith, common_steps, length-serial_jobs)

-- a cycle on a desk with the same cells, layout and room is one on the desk itself
pub played_over : {J K : Type 0} (M : Meaning K) (desk same : Desk J) (given played : List K) (rested : Desk J)
    → cells same ≡ cells desk → areas same ≡ areas desk
    → note_room same ≡ note_room desk → word_room same ≡ word_room desk
    → WasPlayed M same given played rested → WasPlayed M desk given played rested
played_over M desk same given played rested left over notes words was = grind (arith, common_steps)
