use Rattle.std.proofs.Common.{◌≡◌, drop}
use Rattle.cs_code.specs.{inner.Code.keep_all_code, inner.Emitted.expressions_of, inner.Kept.past_all}
use Rattle.cs_code.proofs.Growing.{Leads}
use Rattle.cs_code.proofs.args.keep_all.Given as goal

-- the code so far, and the code that the rest will add
abbrev pub invariant-loop-e : goal.invariant-loop-e
invariant-loop-e l =
    Leads l.initial.ops l.ops (keep_all_code l.next (expressions_of (drop l.e-index l.values)))
    (keep_all_code l.at (expressions_of l.values))
    × (past_all l.next (expressions_of (drop l.e-index l.values)) ≡ past_all l.at (expressions_of l.values))
