use Rattle.std.specs.Arc.{arc_value}
use Rattle.cs_pool.specs.inner.Parts.{AreLent}
use Rattle.cs_pool.proofs.cycle.lend_parts.Given as goal

abbrev pub invariant-loop-part : goal.invariant-loop-part
invariant-loop-part g l = AreLent g.J.Job.means (arc_value l.board) l.part l.fn.lines l.lines l.fn.first l.first
