use Rattle.std.proofs.Common.{◌≡◌, ◌+◌, List, drop, length}
use Rattle.cs_ir.specs.Routines.{AreRoutines, library_in}
use Rattle.cs_typed.specs.TypedTree as typed
use Rattle.cs_code.specs.inner.Served.{Serve}
use Rattle.cs_code.proofs.routines.add_routines.Given as goal

-- The generated routines serve the first ones of the list, and the remaining ones complete it.
abbrev pub invariant-loop-stmts : goal.invariant-loop-stmts
invariant-loop-stmts l =
    AreRoutines l.made.items × (length l.made.items ≡ length l.initial.made.items + l.stmts-index)
    × ((rs : List typed.Block)
    → Serve l.context.pass l.context.spaces rs (library_in l.initial.made.items) l.initial.extents.items
    → (now : List typed.Block) × Serve l.context.pass l.context.spaces now (library_in l.made.items) l.extents.items
    × (typed.more_routines now (drop l.stmts-index l.list) ≡ typed.more_routines rs l.list))
