use Rattle.std.proofs.Common.{◌≡◌}
use Rattle.cs_score.specs.declared.statement.ScoreWhat.TheVariants.{Section}
use Rattle.cs_tempo.specs.inner.Turns.{turns_from, turn_order, sorted}
use Rattle.cs_tempo.proofs.{Sorting.is_sorted, Orders.turn_total, Orders.turn_same, Orders.turns_within}
use Rattle.cs_tempo.proofs.order.sorted_turns.Goals as goal

in_turn : (c : goal.In_ok-sort) → c.sort.new.self.items ≡ sorted turn_order (turns_from 0 c.args.section.now)
in_turn c =
    is_sorted turn_order turn_total turn_same (turns_from 0 c.args.section.now) c.sort.new.self.items
    (rw c.in_ok-turns.ensures at c.in_ok-sort.ensures.permutation) c.in_ok-sort.ensures.sorted

pub returns-clause-sorted : goal.returns-clause-sorted
returns-clause-sorted c = in_turn c

pub returns-clause-within : goal.returns-clause-within
returns-clause-within c = λ k d.
    rw (in_turn c) (turns_within c.args.section.now (record { line = 0; what = Section }) k d)
