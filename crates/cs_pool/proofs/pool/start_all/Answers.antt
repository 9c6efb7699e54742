use Rattle.std.proofs.Common.{◌∷◌, [], length-append, length, subst, sym, ap, arith}
use Rattle.std.proofs.lemmas.List.Elements.{All-push}
use Rattle.std.specs.List.{All}
use Rattle.cs_pool.specs.{declared.line.Line.Line, inner.Lines.IsIdle}
use Rattle.cs_pool.proofs.pool.start_all.Goals as goal

pub loop-preserved : goal.loop-preserved
loop-preserved g c =
    let P : Line g.row.J.Denot → Type 0 = λ line. IsIdle line in
    let before = c.loop.lines.items in
    let line = c.in-Ok-start.line in
    let i = c.loop.invariant in
    let is = c.push_reserved.ensures.items in (
      subst (All P) (sym is) (All-push P before line i.0 c.in-Ok-start.ensures),
      omega (arith, ap length is, length-append before (line ∷ []), i.1),
      omega (arith, c.push_reserved.ensures.capacity, i.2),
    )
