use Rattle.std.proofs.Common.{◌∙◌, sym, subst}
use Rattle.cs_base.specs.Numbers.{IsRaw}
use Rattle.cs_base.proofs.Arithmetic.{clamp_same}
use Rattle.cs_signal.proofs.{Slopes.by_one, Ways.same_bits}
use Rattle.cs_signal.proofs.linen.by_one.Goals as goal

pub returns : goal.returns
returns c =
    c.exact.ensures ∙ same_bits c.raw.result c.raw.ensures.in_range ∙ c.raw.ensures.value
    ∙ sym (by_one c.args.x ∙ clamp_same c.args.x (subst IsRaw c.raw.ensures.value c.raw.ensures.in_range))
