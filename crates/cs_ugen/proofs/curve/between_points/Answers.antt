use Rattle.std.proofs.Common.{sym, subst}
use Rattle.cs_ugen.specs.Points.{IsShort}
use Rattle.cs_ugen.proofs.Shorts.{between_short}
use Rattle.cs_ugen.proofs.curve.between_points.Goals as goal

pub returns-clause-short : goal.returns-clause-short
returns-clause-short g c = λ h.
    subst IsShort (sym c.read_between.ensures.value)
    (between_short (g.C.Curve.points c.args.curve.now) c.args.place c.args.fraction h c.requires.fraction)
