use Rattle.std.proofs.Common.{[], None, false, ◌∙◌, ap, length, pos, slice_index_or, sym}
use Rattle.std.proofs.lemmas.List.{length-replicate}
use Rattle.cs_voice_meaning.specs.Room.{channels_for}
use Rattle.cs_machine.specs.States.{unit_at}
use Rattle.cs_machine.proofs.Fresh.{no_player, no_units}
use Rattle.cs_machine.proofs.state.State.new.Goals as goal

pub returns-clause-machine : goal.returns-clause-machine
returns-clause-machine c = λ cells i. record {
  regs = c.in_ok-new-2.ensures.values i;
  next = 0;
  world = record {
    shared = cells;
    units = (ap unit_at c.in_ok-no_players.ensures ∙ no_units c.args.counts.units) i;
    delays = 0;
    outs = c.in_ok-new.ensures.outs i;
    ended = false;
    asks = [];
    cause = None;
  };
}

pub returns-clause-state : goal.returns-clause-state
returns-clause-state c = λ areas piece kinds frames channels. record {
  registers = c.in_ok-new-2.ensures.counts;
  frames = c.in_ok-new-2.ensures.ksmps ∙ sym frames;
  channels = c.in_ok-new.ensures.channels ∙ c.channels_for.ensures ∙ ap (channels_for c.args.counts) (sym channels);
  channel_frames = c.in_ok-new.ensures.ksmps ∙ sym frames;
  units = ap length c.in_ok-no_players.ensures ∙ length-replicate c.args.counts.units None;
  row = ap length c.in_ok-zeros.ensures ∙ length-replicate c.args.ksmps (pos 0) ∙ sym frames;
  players = λ u p is. absurd (no_player c.args.counts.units u p
      (ap (λ l. slice_index_or l u None) (sym c.in_ok-no_players.ensures) ∙ is));
}
