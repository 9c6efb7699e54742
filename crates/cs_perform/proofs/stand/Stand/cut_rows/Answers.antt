use Rattle.std.proofs.Common.{◌∙◌, rules}
use Rattle.cs_piece.specs.Setups.{composition_of}
use Rattle.cs_perform.proofs.{Readying.few_feet, Readying.rows_cut, Standings.own_course}
use Rattle.cs_perform.proofs.stand.Stand.cut_rows.Goals as goal

pub returns-then-self-clause-rows : goal.returns-then-self-clause-rows
returns-then-self-clause-rows g c = c.requires.at.2.current (search rules)

pub cut-requires-clause-over : goal.cut-requires-clause-over
cut-requires-clause-over g c =
    let at = c.requires.at.2 in (
      c.args.self.now.life.stage.zones.now,
      rw c.deref.ensures.value (c.serial_runs_perform.ensures.layouts (composition_of c.requires.at.0)
          c.args.self.now.life _ _ c.requires.at.1 at.stands),
    )

pub follow-requires-clause-few : goal.follow-requires-clause-few
follow-requires-clause-few g c =
    few_feet c.args.self.now.voices.items _ _ _ _ _ c.deref.ensures.value c.deref-2.ensures.value
    c.in_ok-cut.ensures.cut c.in_ok-feet.ensures c.requires.at.2.stands.stand.few

pub returns-clause-rows : goal.returns-clause-rows
returns-clause-rows g c =
    rows_cut c.args.self.now.voices.items _ _ _ _ _ _ c.deref.ensures.value c.deref-2.ensures.value
    c.in_ok-cut.ensures.cut c.in_ok-feet.ensures c.in_ok-follow.ensures.course.feet_are

pub returns-clause-at : goal.returns-clause-at
returns-clause-at g c s m at = record {
  setup = at.setup;
  stands = at.stands;
  areas = at.areas;
  block = c.cut.ensures.block ∙ at.block;
  course = own_course _ _ c.in_ok-follow.ensures.course;
  turns = at.turns;
  current = λ h. rows_cut c.args.self.now.voices.items _ _ _ _ _ _ c.deref.ensures.value c.deref-2.ensures.value
      c.in_ok-cut.ensures.cut c.in_ok-feet.ensures c.in_ok-follow.ensures.course.feet_are;
}
