use Rattle.std.proofs.Common.{◌≡◌, ◌≤◌, ◌++◌}
use Rattle.cs_board.specs.Opening.{each_below}
use Rattle.cs_desk.proofs.resting.push_zeros.Given as goal

abbrev pub invariant-loop : goal.invariant-loop
invariant-loop l = (l.counter ≤ l.count) × (l.words.items ≡ l.initial.words.items ++ each_below (λ t. 0) l.counter)
