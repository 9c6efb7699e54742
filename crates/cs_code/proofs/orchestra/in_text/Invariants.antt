use Rattle.std.proofs.Common.{map, take}
use Rattle.std.specs.List.{AllZip}
use Rattle.cs_typed.specs.TypedTree as typed
use Rattle.cs_code.specs.Lowered.{IsNumberedCode, bodies}
use Rattle.cs_code.proofs.orchestra.in_text.Given as goal

abbrev pub invariant-loop-instr : goal.invariant-loop-instr
invariant-loop-instr l =
    AllZip (IsNumberedCode l.orc.spaces l.orc.head.nchnls)
    (bodies (map (typed.instrument (typed.routines l.orc.routines.items)) (take l.instr-index l.instr-items)))
    l.list.items
