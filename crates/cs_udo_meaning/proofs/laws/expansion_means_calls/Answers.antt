use Rattle.std.proofs.Common.{ap}
use Rattle.cs_udo_meaning.proofs.{Fit.expanded_is, Lived.calls_mean_frames}
use Rattle.cs_udo_meaning.proofs.laws.expansion_means_calls.Goals as goal

pub returns-clause-instruments : goal.returns-clause-instruments
returns-clause-instruments g c = calls_mean_frames _

pub returns-clause-outside : goal.returns-clause-outside
returns-clause-outside g c = λ o made h. ap (λ z. z.zero) (expanded_is o made h)
