use Rattle.std.proofs.Common.{arith, ap, not, ◌∙◌}
use Rattle.cs_score.specs.Limits.{is_counted}
use Rattle.cs_score.proofs.Counts.{count_more, count_stays, one_at_most}
use Rattle.cs_score.proofs.kept.EventCount.see.Goals as goal

pub returns-then-is_none : goal.returns-then-is_none
returns-then-is_none c = λ all h.
    count_more all c.args.statement.now c.args.self.now _ (c.is_none.ensures ∙ ap not c.if-is_none.true) h
    (λ few. omega (
      arith,
      few,
      c.saturating_add-self.ensures,
      c.counted.ensures,
      one_at_most (is_counted c.args.statement.now.what),
    )) c.hit-self.ensures

pub returns-else-is_none : goal.returns-else-is_none
returns-else-is_none c =
    λ all h. count_stays all c.args.statement.now c.args.self.now (c.is_none.ensures ∙ ap not c.if-is_none.false) h
