use Rattle.std.proofs.Common.{◌∙◌, ap, map, subst}
use Rattle.cs_piece.specs.Setups.{IsSetup, SetupData}
use Rattle.cs_piece.proofs.Staged.{is_stage, tables_found}
use Rattle.cs_piece.proofs.setup.Setup.stage.Goals as goal
use Rattle.cs_voice.specs.Memory.{table_of}

pub returns-clause-stage : goal.returns-clause-stage
returns-clause-stage c =
    let is : IsSetup c.args.self.now = subst IsSetup c.self.view_is c.self.invariant in
    is_stage c.args.self.now is _ (ap (λ (s : SetupData). s.head) c.self.view_is ∙ is.head_is)
    (ap (λ (s : SetupData). s.layout) c.self.view_is) (ap (λ (s : SetupData). s.zones) c.self.view_is)
    (ap (λ (s : SetupData). s.spaces) c.self.view_is ∙ is.spaces_are)
    (ap (map table_of) c.deref.ensures.value ∙ ap (λ (s : SetupData). map table_of s.tables) c.self.view_is
    ∙ tables_found c.args.self.now is)
