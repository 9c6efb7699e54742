use Rattle.std.proofs.Common.{ℕ, ◌*◌, arith}
use Rattle.std.proofs.lemmas.List.FromFn.{map-range_with_len_more}
use Rattle.cs_signal.specs.Operands.{argument}
use Rattle.cs_signal.proofs.linseg.values_of.Goals as goal

pub loop-k-preserved : goal.loop-k-preserved
loop-k-preserved c =
    let more = map-range_with_len_more (λ (k : ℕ). argument c.args.init.now (2 * k)) 0 c.loop-k.k c.loop-k.k
    (omega arith) in
    let kept = c.loop-k.invariant in
    let pushed = c.in_ok-push.ensures.items in
    let new = c.argument.ensures in
    rw more cc
