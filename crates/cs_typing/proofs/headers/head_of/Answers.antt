use Rattle.std.proofs.Common.{arith}
use Rattle.cs_typing.proofs.Ranges.{channels_within, cycle_within, frames_within, scale_within}
use Rattle.cs_typing.proofs.headers.head_of.Goals as goal

pub overflow_cast-result : goal.overflow_cast-result
overflow_cast-result c =
    let within = cycle_within c.args.lines.now c.requires.lines c.requires.kr in
    rw c.cycle.ensures (omega (arith, within))

pub invariant_of-result-clause-sr_in_range : goal.invariant_of-result-clause-sr_in_range
invariant_of-result-clause-sr_in_range c =
    rw c.whole_or.ensures (rw c.header_of.ensures (frames_within c.args.lines.now c.requires.lines))

pub invariant_of-result-clause-ksmps_in_range : goal.invariant_of-result-clause-ksmps_in_range
invariant_of-result-clause-ksmps_in_range c =
    rw c.cycle.ensures (cycle_within c.args.lines.now c.requires.lines c.requires.kr)

pub invariant_of-result-clause-nchnls_in_range : goal.invariant_of-result-clause-nchnls_in_range
invariant_of-result-clause-nchnls_in_range c =
    rw c.whole_or-2.ensures (rw c.header_of-2.ensures (channels_within c.args.lines.now c.requires.lines))

pub invariant_of-result-clause-dbfs_above_zero : goal.invariant_of-result-clause-dbfs_above_zero
invariant_of-result-clause-dbfs_above_zero c =
    rw c.value_or.ensures (rw c.header_of-3.ensures (rw c.exact.ensures
    (scale_within c.args.lines.now c.requires.lines)))
