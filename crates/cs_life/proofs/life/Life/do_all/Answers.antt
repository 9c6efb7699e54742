use Rattle.std.proofs.Common.{ap, arith, refl, subst, ◌∙◌}
use Rattle.std.proofs.lemmas.List.{take_all}
use Rattle.cs_piece_meaning.specs.Starts.{all_done}
use Rattle.cs_piece.specs.Setups.{composition_of}
use Rattle.cs_life.specs.inner.Doing.{HasGoneOn}
use Rattle.cs_life.proofs.Going.{event_can, event_done, goes_on}
use Rattle.cs_life.proofs.Growing.{grew_again, grew_none}
use Rattle.cs_life.proofs.life.Life.do_all.Goals as goal

pub loop-event-init : goal.loop-event-init
loop-event-init g c = record {
  able = c.requires.able;
  done = record { to = λ m h. h };
  setup = refl;
  grown = grew_none c.args.voices.now.items;
  rest = refl;
}

pub act-requires-clause-able : goal.act-requires-clause-able
act-requires-clause-able g c = c.loop-event.invariant.able

pub act-requires-clause-event : goal.act-requires-clause-event
act-requires-clause-event g c =
    event_can c.args.self.now c.loop-event.self c.args.events.now c.loop-event.event-index c.event-item.result
    c.loop-event.invariant.setup c.requires.events
    (omega arith) c.event-item.is

pub loop-event-preserved : goal.loop-event-preserved
loop-event-preserved g c = record {
  able = goes_on (ap g.B.Bank.access c.act.ensures.rest) c.act.ensures.setup c.in_ok-act.ensures.done
      c.loop-event.invariant.able;
  done = event_done c.args.events.now c.loop-event.event-index c.event-item.result
      (omega arith) c.event-item.is c.loop-event.invariant.setup c.loop-event.invariant.done
      c.in_ok-act.ensures.done;
  setup = c.act.ensures.setup ∙ c.loop-event.invariant.setup;
  grown = grew_again c.args.voices.now.items c.loop-event.voices.items c.act.new.voices.items
      c.loop-event.invariant.grown c.in_ok-act.ensures.grown;
  rest = c.act.ensures.rest ∙ c.loop-event.invariant.rest;
}

pub returns-clause-done : goal.returns-clause-done
returns-clause-done g c =
    subst (λ es. HasGoneOn (all_done (composition_of c.args.self.now.setup.now) es) c.args.self.now
    c.args.voices.now.items (g.B.Bank.cells c.args.bank.now) c.loop-event.self c.loop-event.voices.items
    (g.B.Bank.cells c.loop-event.bank)) (take_all c.loop-event.event-index c.args.events.now c.loop-event-test.false)
    c.loop-event.invariant.done
