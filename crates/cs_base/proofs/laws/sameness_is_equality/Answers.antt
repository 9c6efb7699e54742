use Rattle.std.proofs.Common.{◌≡◌, true, subst}
use Rattle.cs_base.specs.Rates.{same_rate, same_res}
use Rattle.cs_base.proofs.Rates.{same_rate_is, same_rate_here, same_res_is, same_res_here}
use Rattle.cs_base.proofs.laws.sameness_is_equality.Goals as goal

pub returns-clause-rate : goal.returns-clause-rate
returns-clause-rate c = λ r s. (same_rate_is r s, λ e. subst (λ x. same_rate r x ≡ true) e (same_rate_here r))

pub returns-clause-resource : goal.returns-clause-resource
returns-clause-resource c = λ r s. (same_res_is r s, λ e. subst (λ x. same_res r x ≡ true) e (same_res_here r))
