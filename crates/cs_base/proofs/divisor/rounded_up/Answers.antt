use Rattle.cs_base.proofs.Inverses.{inverse_fits, inverse_near}
use Rattle.cs_base.proofs.divisor.rounded_up.Goals as goal

pub returns-clause-near : goal.returns-clause-near
returns-clause-near c = inverse_near c.args.size

pub returns-clause-fits : goal.returns-clause-fits
returns-clause-fits c = inverse_fits c.args.size c.requires
