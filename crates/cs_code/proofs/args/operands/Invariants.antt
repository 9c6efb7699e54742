use Rattle.std.proofs.Common.{◌≡◌, ◌++◌, drop}
use Rattle.cs_code.specs.{inner.Code.operands_code, inner.Kept.past_all, inner.Spots.spots}
use Rattle.cs_code.specs.inner.Emitted.{expressions_of, when_of}
use Rattle.cs_code.proofs.Growing.{Leads}
use Rattle.cs_code.proofs.args.operands.Given as goal

-- the code so far, and the code that the rest will add
abbrev pub invariant-loop-e : goal.invariant-loop-e
invariant-loop-e l =
    Leads l.initial.ops l.ops
    (operands_code (when_of l.context.pass) l.next (expressions_of (drop l.e-index l.values)) l.d)
    (operands_code (when_of l.context.pass) l.at (expressions_of l.values) 0)
    × (l.regs.items ++ spots (when_of l.context.pass) l.next (expressions_of (drop l.e-index l.values)) l.d
    ≡ spots (when_of l.context.pass) l.at (expressions_of l.values) 0)
    × (past_all l.next (expressions_of (drop l.e-index l.values)) ≡ past_all l.at (expressions_of l.values))
