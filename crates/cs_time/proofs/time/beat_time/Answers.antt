use Rattle.std.proofs.Common.{◌≡◌, ◌∙◌, List, [], ap, arith, sym}
use Rattle.std.proofs.lemmas.{Bool.Decides.nat_tests, List.nil_from_length}
use Rattle.cs_score.specs.declared.statement.TempoPoint.{TempoPoint}
use Rattle.cs_time.specs.Time.{time_of}
use Rattle.cs_time.proofs.Times.{along_is, sixty_time}
use Rattle.cs_time.proofs.time.beat_time.Goals as goal

pub returns-then-is_empty : goal.returns-then-is_empty
returns-then-is_empty c =
    let none : c.args.points.now ≡ [] = nil_from_length c.args.points.now (grind (arith, nat_tests)) in
    c.steady_time.ensures ∙ sixty_time c.args.beat ∙ ap (λ (ps : List TempoPoint). time_of ps c.args.beat) (sym none)

pub returns-else-is_empty : goal.returns-else-is_empty
returns-else-is_empty c =
    c.time_along.ensures.time ∙ along_is c.args.points.now c.args.beat (grind (arith, nat_tests))
