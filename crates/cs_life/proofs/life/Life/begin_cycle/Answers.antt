use Rattle.std.proofs.Common.{◌≡◌, ◌==◌, ◌∙◌, List, ap, arith, refl, subst, sym}
use Rattle.std.specs.List.{All, filter}
use Rattle.std.proofs.lemmas.List.Elements.{All-filter}
use Rattle.cs_piece_meaning.specs.{Course.still, Starts.all_done}
use Rattle.cs_piece.specs.Setups.{composition_of}
use Rattle.cs_tempo.specs.{declared.plot.Event.Event, declared.plot.Plot.Plot}
use Rattle.cs_life.specs.inner.Doing.{CanBeDone, HasGoneOn}
use Rattle.cs_life.proofs.{GivenTables.all_can_be_done, Going.begun, Going.goes_on}
use Rattle.cs_life.proofs.Growing.{all_stayed}
use Rattle.cs_typed.specs.TypedTree as typed
use Rattle.cs_life.proofs.life.Life.begin_cycle.Goals as goal

pub do_all-requires : goal.do_all-requires
do_all-requires g c =
    let left : HasGoneOn (still c.args.cycle) c.args.self.now c.args.voices.now.items (g.B.Bank.cells c.args.bank.now)
    c.args.self.now c.leave.new.voices.items (g.B.Bank.cells c.args.bank.now) =
    record { to = c.leave.ensures.left (composition_of c.args.self.now.setup.now) (g.B.Bank.cells c.args.bank.now) } in
    let setup = c.args.self.now.setup.now in
    let of_cycle : c.events_of-events.result.now ≡ filter (λ (e : Event). e.cycle == c.args.cycle) setup.plot.events =
    c.events_of-events.ensures
    ∙ ap (filter (λ (e : Event). e.cycle == c.args.cycle))
    (c.as_slice.ensures ∙ ap (λ (p : Plot). p.events) c.plot.ensures) in
    record {
      able = goes_on refl refl left
          (record {
            moment = c.requires.stands.0;
            stands = c.requires.stands.1;
            allows = c.requires.access;
          });
      events = subst (All (λ (e : Event). CanBeDone (composition_of setup) e.act)) (sym of_cycle)
          (All-filter (λ (e : Event). e.cycle == c.args.cycle)
          (λ (e : Event). CanBeDone (composition_of setup) e.act) setup.plot.events
          (all_can_be_done (typed.orchestra setup.orchestra) setup.plot c.facts.ensures.sizes
          c.facts.ensures.performable.each));
    }

pub start_waiting-requires : goal.start_waiting-requires
start_waiting-requires g c =
    let left : HasGoneOn (still c.args.cycle) c.args.self.now c.args.voices.now.items (g.B.Bank.cells c.args.bank.now)
    c.args.self.now c.leave.new.voices.items (g.B.Bank.cells c.args.bank.now) =
    record { to = c.leave.ensures.left (composition_of c.args.self.now.setup.now) (g.B.Bank.cells c.args.bank.now) } in
    record {
      able = goes_on (ap g.B.Bank.access c.do_all.ensures.rest) c.do_all.ensures.setup c.in_ok-do_all.ensures.done
          (goes_on refl refl left
          (record {
            moment = c.requires.stands.0;
            stands = c.requires.stands.1;
            allows = c.requires.access;
          }));
    }

pub returns-clause-begun : goal.returns-clause-begun
returns-clause-begun g c =
    let left : HasGoneOn (still c.args.cycle) c.args.self.now c.args.voices.now.items (g.B.Bank.cells c.args.bank.now)
    c.args.self.now c.leave.new.voices.items (g.B.Bank.cells c.args.bank.now) =
    record { to = c.leave.ensures.left (composition_of c.args.self.now.setup.now) (g.B.Bank.cells c.args.bank.now) } in
    let of_cycle : c.events_of-events.result.now ≡ filter (λ (e : Event). e.cycle == c.args.cycle)
    c.args.self.now.setup.now.plot.events =
    c.events_of-events.ensures
    ∙ ap (filter (λ (e : Event). e.cycle == c.args.cycle))
    (c.as_slice.ensures ∙ ap (λ (p : Plot). p.events) c.plot.ensures) in
    (begun c.args.cycle c.args.self.now c.do_all.new.self c.start_waiting.new.self c.args.voices.now.items
    c.leave.new.voices.items c.do_all.new.voices.items c.start_waiting.new.voices.items
    (g.B.Bank.cells c.args.bank.now) (g.B.Bank.cells c.do_all.new.bank) (g.B.Bank.cells c.start_waiting.new.bank)
    c.do_all.ensures.setup left
    (subst (λ (es : List Event). HasGoneOn (all_done (composition_of c.args.self.now.setup.now) es)
    c.args.self.now c.leave.new.voices.items (g.B.Bank.cells c.args.bank.now) c.do_all.new.self
    c.do_all.new.voices.items (g.B.Bank.cells c.do_all.new.bank)) of_cycle c.in_ok-do_all.ensures.done)
    c.in_ok-start_waiting.ensures.started).to

pub returns-clause-same : goal.returns-clause-same
returns-clause-same g c = λ stay. let all = c.all_stay.ensures stay in
    all_stayed c.args.voices.now.items c.leave.new.voices.items c.do_all.new.voices.items
    c.start_waiting.new.voices.items
    c.leave.ensures.same c.in_ok-do_all.ensures.grown c.in_ok-start_waiting.ensures.grown
    (omega (arith, all.0, c.len-playing.ensures, c.len-stayed.ensures))
    (omega (arith, all.1, c.len-stayed.ensures, c.len.ensures))
