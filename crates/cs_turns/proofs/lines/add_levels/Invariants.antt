use Rattle.std.proofs.Common.{◌≡◌, ◌++◌, codes, decimal, flat_map, take}
use Rattle.cs_turns.proofs.lines.add_levels.Given as goal

abbrev pub invariant-loop-note : goal.invariant-loop-note
invariant-loop-note l = l.line.items ≡ l.initial.line.items
    ++ flat_map (λ turn. codes " " ++ decimal turn) (take l.note l.graph.levels)
