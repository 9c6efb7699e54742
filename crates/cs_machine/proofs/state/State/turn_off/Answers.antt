use Rattle.std.proofs.Common.{◌∙◌, refl, sym}
use Rattle.cs_machine.proofs.Done.{still_in}
use Rattle.cs_machine.proofs.state.State.turn_off.Goals as goal

pub returns : goal.returns
returns c = λ into areas piece kinds counts cells state. record {
  machine = λ next asks cause. refl;
  state = still_in areas piece kinds counts c.args.self.now _ (record {
    counts = refl;
    frames = refl;
    channels = refl;
    channel_frames = refl;
    players = refl;
    row =
        state.row ∙ sym state.frames;
  }) state;
}
