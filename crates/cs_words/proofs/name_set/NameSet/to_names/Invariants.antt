use Rattle.std.proofs.Common.{◌≡◌, ◌++◌, drop, map}
use Rattle.cs_words.proofs.name_set.NameSet.to_names.Given as goal

abbrev pub invariant-loop-name : goal.invariant-loop-name
invariant-loop-name l =
    l.made ++ map (λ n. n.now) (drop l.name-index l.name-items) ≡ l.fn.self
