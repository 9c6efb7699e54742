use Rattle.std.proofs.Common.{arith, ap, not, ◌∙◌}
use Rattle.cs_score.specs.Limits.{numbers_of}
use Rattle.cs_score.proofs.Counts.{none_of, numbers_more, numbers_stay}
use Rattle.cs_score.proofs.kept.TableNumbers.see.Goals as goal

pub returns-in_ok-see_table : goal.returns-in_ok-see_table
returns-in_ok-see_table c = λ all h.
    let none = c.is_none.ensures ∙ ap not c.if-is_none.true in
    numbers_more all c.args.statement.now c.args.self.now _ c.len.result none h
    (c.in_ok-see_table.ensures (numbers_of all) (h.seen (none_of c.args.self.now.hit none)))
    (omega (arith, c.see_table.new.seen.ok, c.len.ensures)) c.hit-self.ensures

pub returns-else-is_none : goal.returns-else-is_none
returns-else-is_none c =
    λ all h. numbers_stay all c.args.statement.now c.args.self.now (c.is_none.ensures ∙ ap not c.if-is_none.false) h
