use Rattle.std.proofs.Common.{Some}
use Rattle.std.proofs.lemmas.List.Elements.{All-pop}
use Rattle.cs_pool.specs.{declared.line.Line.Line, inner.Lines.IsIdle}
use Rattle.cs_pool.proofs.pool.close_all.Goals as goal

pub close-requires : goal.close-requires
close-requires g c =
    let P : Line g.row.J.Denot → Type 0 = λ line. IsIdle line in
    (All-pop P c.loop-line.lines.items c.pop.new.self.items (Some c.in-Some.line) c.in-Some.ensures.items
    c.loop-line.invariant).1

pub loop-line-preserved : goal.loop-line-preserved
loop-line-preserved g c =
    let P : Line g.row.J.Denot → Type 0 = λ line. IsIdle line in
    (All-pop P c.loop-line.lines.items c.pop.new.self.items (Some c.in-Some.line) c.in-Some.ensures.items
    c.loop-line.invariant).0
