use Rattle.std.specs.Prelude.{ℕ, List}
use Rattle.cs_edge.specs.{declared.moves.Move.Move, declared.fakes.script.Script.Script}
use Rattle.cs_edge.specs.{declared.fakes.mem_sink.MemSink.MemSink, Moves.SinkTold, Memory.told_moves, Memory.told_taken}

-- the state that a sink in memory tells: its contents and its calls, each as long as they are stored, and its
-- fault count
abbrev pub sink_told : MemSink → SinkTold
sink_told s = record { held = told_taken s.taken; moves = told_moves s.kept; faults = s.script.faults }

-- the script of a sink: the calls that are to fail, and the number of calls made
abbrev pub sink_script : MemSink → Script
sink_script s = s.script

-- the most bytes that a sink accepts in one write
abbrev pub write_room : MemSink → ℕ
write_room s = s.portion.most

-- the bytes that a sink has stored
abbrev pub sink_bytes : MemSink → List ℕ
sink_bytes s = s.taken.bytes.items

-- the calls that a sink has stored
abbrev pub sink_moves : MemSink → List Move
sink_moves s = s.kept.moves
