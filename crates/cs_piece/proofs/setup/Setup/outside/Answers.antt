use Rattle.std.proofs.Common.{◌≡◌, subst}
use Rattle.cs_piece.specs.{Setups.SetupData, Setups.composition_of, Ready.IsInstrumentOf, Ready.IsStageOf}
use Rattle.cs_piece.proofs.Readied.{outside_is}
use Rattle.cs_voice.specs.declared.stage.Stage.{Stage}
use Rattle.cs_piece.proofs.setup.Setup.outside.Goals as goal

pub returns : goal.returns
returns c =
    subst (λ (s : SetupData). (stage : Stage) → IsStageOf (composition_of s) stage → stage.layout.now ≡ s.layout
    → stage.zones.now ≡ s.zones
    → IsInstrumentOf stage c.self.inside.lowered.zero c.self.inside.zoned.outside (composition_of s).outside)
    c.self.view_is (outside_is c.notes_touch_what_there_is.ensures _ c.self.invariant)
