use Rattle.std.proofs.Common.{refl, ap, subst, ◌∙◌}
use Rattle.cs_base.specs.Limits.{most_asks}
use Rattle.cs_piece_meaning.specs.{Moments.Moment, Starts.start_in, Starts.start_of, Starts.taken}
use Rattle.cs_sched.specs.Waiting.{waiting}
use Rattle.cs_piece.specs.Setups.{SetupData, composition_of}
use Rattle.cs_life.specs.{Standing.StandsFor, inner.Doing.HasGoneOn}
use Rattle.cs_life.proofs.Going.{goes_on}
use Rattle.cs_life.proofs.Growing.{grew_again, grew_none}
use Rattle.cs_life.proofs.Waited.{all_started, begins_now, most_started, none_started, one_started, taken_out}
use Rattle.cs_life.proofs.life.Life.start_waiting.Goals as goal

pub loop-init : goal.loop-init
loop-init g c = record {
  able = c.requires.able;
  waits = λ m h. none_started most_asks h;
  setup = refl;
  grown = grew_none c.args.voices.now.items;
  rest = refl;
}

pub start_note-requires : goal.start_note-requires
start_note-requires g c = record {
  stands = (
    record c.loop.invariant.able.moment {
      waiting = taken c.args.cycle ((waiting c.next.new.self).due c.args.cycle) c.loop.invariant.able.moment.waiting;
    },
    taken_out {q = c.next.new.self} c.in-Some.ensures c.loop.invariant.able.stands,
  );
  access = c.loop.invariant.able.allows;
}

pub loop-preserved : goal.loop-preserved
loop-preserved g c =
    let start = start_of c.in-Some.due in
    let k = composition_of c.loop.self.setup.now in
    let left = record c.loop.self { pending = c.next.new.self } in
    let voices = c.loop.voices.items in
    let cells = g.B.Bank.cells c.loop.bank in
    let started : HasGoneOn (start_in k c.args.cycle start) left voices cells c.start_note.new.self
    c.start_note.new.voices.items (g.B.Bank.cells c.start_note.new.bank) =
    record {
      to = λ n s. subst (λ cycle. StandsFor k c.start_note.new.self c.start_note.new.voices.items
          (g.B.Bank.cells c.start_note.new.bank) (start_in k cycle start n))
          (begins_now c.loop.self.pending c.next.new.self c.in-Some.ensures)
          (c.in_ok-start_note.ensures.started n s);
    } in
    let moment = c.loop.invariant.able.moment in
    record {
      able = goes_on (ap g.B.Bank.access c.start_note.ensures.rest) c.start_note.ensures.setup started
          (record {
            moment = record moment {
              waiting = taken c.args.cycle ((waiting c.next.new.self).due c.args.cycle) moment.waiting;
            };
            stands = taken_out {q = c.next.new.self} c.in-Some.ensures c.loop.invariant.able.stands;
            allows = c.loop.invariant.able.allows;
          });
      waits = λ m h. one_started {q = c.next.new.self} c.loop-test.true c.in-Some.ensures
          (subst (λ (x : SetupData). (n : Moment) → StandsFor (composition_of x) left voices cells n
          → StandsFor (composition_of x) c.start_note.new.self c.start_note.new.voices.items
          (g.B.Bank.cells c.start_note.new.bank) (start_in (composition_of x) c.args.cycle start n))
          c.loop.invariant.setup started.to)
          (c.loop.invariant.waits m h);
      setup = c.start_note.ensures.setup ∙ c.loop.invariant.setup;
      grown = grew_again c.args.voices.now.items voices c.start_note.new.voices.items c.loop.invariant.grown
          c.in_ok-start_note.ensures.grown;
      rest = c.start_note.ensures.rest ∙ c.loop.invariant.rest;
    }

pub returns-in_default-clause-started : goal.returns-in_default-clause-started
returns-in_default-clause-started g c =
    record { to = λ m h. all_started {q = c.next.new.self} c.in_default.ensures (c.loop.invariant.waits m h) }

pub returns-clause-started : goal.returns-clause-started
returns-clause-started g c = record { to = λ m h. most_started c.loop-test.false (c.loop.invariant.waits m h) }
