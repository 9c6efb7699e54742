use Rattle.std.proofs.Common.{subst}
use Rattle.cs_piece.specs.Setups.{IsSetup}
use Rattle.cs_piece.proofs.Staged.{laid_is}
use Rattle.cs_piece.proofs.setup.Setup.facts.Goals as goal

pub returns-clause-sizes : goal.returns-clause-sizes
returns-clause-sizes c = (subst IsSetup c.self.view_is c.self.invariant).sizes

pub returns-clause-laid : goal.returns-clause-laid
returns-clause-laid c = laid_is c.args.self.now (subst IsSetup c.self.view_is c.self.invariant)

pub returns-clause-zones : goal.returns-clause-zones
returns-clause-zones c = (subst IsSetup c.self.view_is c.self.invariant).zones_are

pub returns-clause-bounded : goal.returns-clause-bounded
returns-clause-bounded c =
    let is = subst IsSetup c.self.view_is c.self.invariant in
    record { events = is.performable.count; instruments = is.asks }
