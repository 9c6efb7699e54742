use Rattle.std.proofs.Common.{subst, sym}
use Rattle.cs_voice.specs.Memory.{IsBody}
use Rattle.cs_voice.proofs.Made.{kept}
use Rattle.cs_voice.proofs.voice.Voice.of.Goals as goal

pub invariant_of-result : goal.invariant_of-result
invariant_of-result c =
    subst IsBody (sym c.in_ok-new.ensures.ok)
    (kept c.args.parts.number c.args.parts.age c.args.parts.until c.args.parts.stage c.args.parts.foot.now
    c.args.parts.code.now c.args.parts.fields.items c.args.parts.state c.requires c.counts.ensures.whole
    c.len.ensures.whole)
