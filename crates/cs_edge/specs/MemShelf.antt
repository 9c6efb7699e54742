use Rattle.std.specs.Prelude.{List, Some, drop}
use Rattle.cs_edge.specs.{declared.moves.Move.Move, Files.ShelfTold, Memory.bytes_at, Memory.told_moves}
use Rattle.cs_edge.specs.{declared.fakes.script.Script.Script, declared.fakes.mem_shelf.MemShelf.MemShelf}

-- the state that a shelf in memory tells: its files, the bytes left of the file begun, its calls as long as
-- they are stored, and its fault count
abbrev pub shelf_told : MemShelf → ShelfTold
shelf_told s = record {
  files = Some s.files;
  left = Some (drop s.at (bytes_at s.begun s.files));
  moves = told_moves s.kept;
  faults = s.script.faults;
}

-- the script of a shelf: the calls that are to fail, and the number of calls made
abbrev pub shelf_script : MemShelf → Script
shelf_script s = s.script

-- the calls that a shelf has stored
abbrev pub shelf_moves : MemShelf → List Move
shelf_moves s = s.kept.moves
