use Rattle.std.proofs.Common.{◌∙◌, ◌<◌, subst, sym}
use Rattle.cs_piece_meaning.specs.Starts.{entered}
use Rattle.cs_life.proofs.Standings.{live_so, refused_if, vain_so}
use Rattle.cs_life.specs.{Standing.StandsFor, inner.Starting.IsBegun}
use Rattle.cs_life.proofs.Growing.{grew_none}
use Rattle.cs_life.proofs.life.Life.enter.Goals as goal

pub returns-in_default : goal.returns-in_default
returns-in_default c = record {
  entered = λ k cells now s body t m h cycles room stands.
      vain_so k c.start_nothing.new.self c.args.voices.now.items cells now s body t m
      (refused_if k c.args.self.now.stage c.args.self.now.made.items now s body t c.args.begun c.in_default.not-Live h)
      (c.start_nothing.ensures.counted k c.args.voices.now.items cells m stands);
  grown = grew_none c.args.voices.now.items;
  setup = c.start_nothing.ensures.setup;
}

pub returns-clause-entered : goal.returns-clause-entered
returns-clause-entered c = λ k cells now s body t m h cycles room stands.
    subst (λ n. StandsFor k (record c.args.self.now { started = n }) c.join.new.voices.items cells
    (entered now s body t t.world.cause m)) (sym c.saturating_add-self.ensures)
    (live_so k c.args.self.now c.args.voices.now.items cells now s body t m stands c.in-Live.voice
    c.footprint.ensures.valid
    (subst (λ r. IsBegun k c.args.self.now.stage c.args.self.now.made.items now s body t r) c.in-Live.is h) room
    c.join.new.voices.items (λ none. c.in_ok-join.ensures.brief (sym cycles ∙ none))
    (λ any order. c.in_ok-join.ensures.joined (subst (λ n. 0 < n) cycles any) order))
