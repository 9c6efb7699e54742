use Rattle.std.proofs.Common.{ap, ◌∙◌, length, nat_lt}
use Rattle.cs_base.proofs.Closings.{close_is_there}
use Rattle.cs_base.proofs.comments.has_close.Goals as goal

pub returns : goal.returns
returns c = ap (λ n. nat_lt n (length c.args.text.now)) c.close_of.ensures.value ∙ close_is_there c.args.text.now
