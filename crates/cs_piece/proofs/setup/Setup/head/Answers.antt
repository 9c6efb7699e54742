use Rattle.std.proofs.Common.{◌∙◌, ap, subst}
use Rattle.cs_piece.specs.Setups.{IsSetup, SetupData}
use Rattle.cs_piece.proofs.setup.Setup.head.Goals as goal

pub returns : goal.returns
returns c =
    ap (λ (s : SetupData). s.head) c.self.view_is ∙ (subst IsSetup c.self.view_is c.self.invariant).head_is
