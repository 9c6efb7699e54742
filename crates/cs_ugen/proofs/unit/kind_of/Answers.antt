use Rattle.std.proofs.Common.{ap, sym, ◌∙◌}
use Rattle.cs_base.specs.Heads.{header_of_head}
use Rattle.cs_signal.specs.Pace.{pace_of}
use Rattle.cs_ugen.specs.Units.{unit_start}
use Rattle.cs_ugen.specs.declared.unit.UnitState.TheVariants as unit
use Rattle.cs_ugen.proofs.unit.kind_of.Goals as goal

pub returns-in_ok-start-in-Delay-clause-kind : goal.returns-in_ok-start-in-Delay-clause-kind
returns-in_ok-start-in-Delay-clause-kind c =
    ap unit.Delay (c.in_ok-start-in-Delay.ensures c.args.rate)
    ∙ ap (λ o. unit_start o c.args.rate (pace_of (header_of_head c.args.head.now)) c.args.settled.now)
    (sym c.in-Delay.is)

pub returns-in-Interp-clause-kind : goal.returns-in-Interp-clause-kind
returns-in-Interp-clause-kind c =
    ap unit.Interp (c.start-in-Interp.ensures c.args.rate c.args.settled.now)
    ∙ ap (λ o. unit_start o c.args.rate (pace_of (header_of_head c.args.head.now)) c.args.settled.now)
    (sym c.in-Interp.is)
