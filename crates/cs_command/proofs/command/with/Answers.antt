use Rattle.std.proofs.Common.{◌≡◌, ◌∙◌, ap₂}
use Rattle.std.proofs.lemmas.Result.{IfOk-weaker}
use Rattle.clap.specs.Words.{app_of, with_rule}
use Rattle.cs_command.proofs.command.with.Goals as goal

pub returns-in-Ok : goal.returns-in-Ok
returns-in-Ok c = λ app rule same h.
    let given : app_of c.in-Ok.command ≡ app = rw c.in-Ok.is at h in
    IfOk-weaker c.arg.result _ _ (λ x a. a.shape c.requires ∙ ap₂ with_rule given same) c.arg.ensures
