use Rattle.std.proofs.Common.{◌≡◌, ◌++◌, drop, map}
use Rattle.cs_meaning.specs.Core.{values_of}
use Rattle.cs_typed.specs.TypedTree.{argument}
use Rattle.cs_code.specs.inner.Emitted.{expressions_of}
use Rattle.cs_code.proofs.args.values.Given as goal

abbrev pub invariant-loop-arg : goal.invariant-loop-arg
invariant-loop-arg l =
    expressions_of l.values.items ++ values_of (map argument (drop l.arg-index l.call.args.now))
    ≡ values_of (map argument l.call.args.now)
