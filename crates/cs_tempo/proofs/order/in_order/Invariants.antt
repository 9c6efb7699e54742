use Rattle.std.proofs.Common.{◌≡◌, map, take, get_or}
use Rattle.cs_score.specs.declared.statement.ScoreStmt.{ScoreStmt}
use Rattle.cs_tempo.specs.declared.order.SortKey.{SortKey}
use Rattle.cs_tempo.proofs.order.in_order.Given as goal

abbrev pub invariant-loop-turn : goal.invariant-loop-turn
invariant-loop-turn l = (d : ScoreStmt)
    → map (λ s. s.now) l.order.items ≡ map (λ (t : SortKey). get_or l.section t.index d)
    (take l.turn-index l.turn-items)
