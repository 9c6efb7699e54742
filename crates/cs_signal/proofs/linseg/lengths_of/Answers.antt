use Rattle.std.proofs.Common.{ℕ, ◌*◌, ◌+◌, arith}
use Rattle.std.proofs.lemmas.List.FromFn.{map-range_with_len_more}
use Rattle.cs_base.specs.Heads.{header_of_head}
use Rattle.cs_signal.specs.{Operands.argument, Pace.pace_of, Pace.steps_of}
use Rattle.cs_signal.proofs.linseg.lengths_of.Goals as goal

pub loop-k-preserved : goal.loop-k-preserved
loop-k-preserved c =
    let more = map-range_with_len_more
    (λ (k : ℕ). steps_of c.args.rate (pace_of (header_of_head c.args.head.now))
    (argument c.args.init.now (2 * k + 1))) 0 c.loop-k.k c.loop-k.k (omega arith) in
    let kept = c.loop-k.invariant in
    let pushed = c.in_ok-push.ensures.items in
    let time = c.argument.ensures in
    let new = c.steps.ensures.value in
    rw more cc
