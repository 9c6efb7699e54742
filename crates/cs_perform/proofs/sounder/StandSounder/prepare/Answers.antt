use Rattle.cs_piece_meaning.specs.Course.{begins}
use Rattle.cs_piece.specs.Setups.{composition_of}
use Rattle.cs_perform.proofs.Turning.{begins_notes, when_untold}
use Rattle.cs_perform.proofs.sounder.StandSounder.prepare.Goals as goal

pub begin-requires : goal.begin-requires
begin-requires g c = record { at = (c.args.performance.now.setup.now, c.requires.0, c.requires.1) }

pub tell_turns-requires : goal.tell_turns-requires
tell_turns-requires g c = (
  begins (composition_of c.args.performance.now.setup.now) c.args.cycle c.requires.0,
  c.in_ok-begin.ensures.begun c.args.performance.now.setup.now c.requires.0 c.requires.1,
)

pub returns-in-Told : goal.returns-in-Told
returns-in-Told g c =
    begins_notes c.tell_turns.result c.args.performance.now c.args.cycle c.args.self.now c.begin.new.self
    c.tell_turns.new.stand c.args.turns.now.items c.tell_turns.new.turns.items
    (c.in_ok-begin.ensures.begun c.args.performance.now.setup.now) c.in-Told.is c.tell_turns.ensures.at
    c.tell_turns.ensures.told

pub returns-in-Untold : goal.returns-in-Untold
returns-in-Untold g c = record {
  begun = c.in_ok-begin.ensures.begun c.args.performance.now.setup.now;
  turns = λ m at. when_untold c.args.performance.now.order.turns _ _ c.in-Untold.is;
}
