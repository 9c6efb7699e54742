use Rattle.std.proofs.Common.{◌+◌, subst, sym}
use Rattle.cs_signal.specs.inner.Ramp.{IsInverse}
use Rattle.cs_signal.proofs.Rises.{inverse_is}
use Rattle.cs_signal.proofs.ramp.inverse_of.Goals as goal

pub returns-clause-near : goal.returns-clause-near
returns-clause-near c =
    subst (λ k. IsInverse c.args.d (k + 1)) (sym c.from.ensures) (inverse_is c.args.d c.requires)
