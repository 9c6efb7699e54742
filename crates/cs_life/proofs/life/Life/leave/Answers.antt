use Rattle.std.proofs.Common.{◌∙◌, ap, length, sym}
use Rattle.cs_life.proofs.Left.{left_stands}
use Rattle.cs_life.proofs.Growing.{all_pass}
use Rattle.cs_life.specs.Leaving.{stays}
use Rattle.cs_life.proofs.life.Life.leave.Goals as goal

pub returns-clause-same : goal.returns-clause-same
returns-clause-same c = λ h. c.let_go.ensures
    ∙ all_pass (stays c.args.leaving) c.args.voices.now.items (ap length (sym c.let_go.ensures) ∙ h)

pub returns-clause-left : goal.returns-clause-left
returns-clause-left c = λ comp cells m s. left_stands c.args.leaving comp c.args.self.now c.args.voices.now.items
    c.let_go.new.voices.items cells m c.let_go.ensures s
