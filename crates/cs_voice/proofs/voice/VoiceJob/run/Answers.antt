use Rattle.std.proofs.Common.{◌∙◌, ap}
use Rattle.cs_voice.specs.{Memory.data_of, VoiceMeaning.after, VoiceMeaning.leaves}
use Rattle.cs_voice.proofs.voice.VoiceJob.run.Goals as goal

pub returns-clause-job : goal.returns-clause-job
returns-clause-job g c =
    c.run.ensures.job ∙ ap (λ b. after (data_of b) (g.B.Bank.cells c.args.bank.now)) c.deref_mut.ensures.value
    ∙ ap (λ d. after d (g.B.Bank.cells c.args.bank.now)) c.self.view_is

pub returns-clause-cells : goal.returns-clause-cells
returns-clause-cells g c =
    c.run.ensures.cells ∙ ap (λ b. leaves (data_of b) (g.B.Bank.cells c.args.bank.now)) c.deref_mut.ensures.value
    ∙ ap (λ d. leaves d (g.B.Bank.cells c.args.bank.now)) c.self.view_is
