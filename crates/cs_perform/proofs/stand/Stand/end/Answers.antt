use Rattle.std.proofs.Common.{◌≡◌, arith, length}
use Rattle.std.proofs.lemmas.Bool.{eqb-true}
use Rattle.cs_piece.specs.Setups.{composition_of}
use Rattle.cs_perform.proofs.stand.Stand.end.Goals as goal

pub returns : goal.returns
returns g c = record {
  ended = λ s m at. record {
    setup = at.setup;
    stands = c.end_cycle.ensures.ended (composition_of s) _ m at.stands;
    areas = at.areas;
    block = at.block;
    course = at.course;
    turns = at.turns;
    current = λ h. let both = c.is_still_so-self.ensures h in
        let same : c.len-stayed.result ≡ c.len-playing.result = eqb-true _ _ both.1 in
        let many : length c.end_cycle.new.voices.items ≡ length c.args.self.now.voices.items =
        omega (arith, c.len-stayed.ensures, c.len-playing.ensures, same) in
        rw (c.end_cycle.ensures.same many) (at.current both.0);
  };
}
