use Rattle.std.proofs.Common.{◌∙◌}
use Rattle.cs_perform.proofs.Standings.{begun_at, of_setup, words_of_desk}
use Rattle.cs_perform.proofs.stand.Stand.begin.Goals as goal

pub begin_notes-requires-clause-stands : goal.begin_notes-requires-clause-stands
begin_notes-requires-clause-stands g c =
    let is = c.requires.at.2 in (c.requires.at.1, of_setup c.requires.at.0 _ _ _ c.requires.at.1 is.setup is.stands)

pub begin_notes-requires-clause-words : goal.begin_notes-requires-clause-words
begin_notes-requires-clause-words g c =
    let is = c.requires.at.2 in
    words_of_desk c.requires.at.0 _ _ _ _ c.requires.at.1 is.setup is.areas is.stands

pub returns : goal.returns
returns g c = record {
  begun = λ s m is. record {
    setup = c.begin_notes.ensures.setup ∙ is.setup;
    stands = begun_at s c.args.self.now.life.setup.now _ _ _ _ _ _ c.args.cycle m is.setup c.in_ok-same.ensures.begun
        is.stands;
    areas = c.begin_notes.ensures.areas ∙ is.areas;
    block = is.block;
    course = is.course;
    turns = is.turns;
    current = λ h. let both = c.is_still_so-self.ensures h in
        rw (c.in_ok-same.ensures.same both.1) (is.current both.0);
  };
}
