use Rattle.std.proofs.Common.{◌≡◌, subst}
use Rattle.cs_machine.specs.Outputs.{ChannelFile, outs, refilled}
use Rattle.cs_machine.proofs.Channels.{refilled_again}
use Rattle.cs_machine.proofs.outputs.Outputs.len.Goals as goal

pub returns-clause-whole : goal.returns-clause-whole
returns-clause-whole c =
    let f : ChannelFile = record { rows = c.self.inside.channels.items; ksmps = c.self.inside.ksmps } in
    subst (λ g. refilled g (outs g) ≡ g) c.self.view_is (refilled_again f c.self.invariant)
