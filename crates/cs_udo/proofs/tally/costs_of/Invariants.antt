use Rattle.std.proofs.Common.{◌≡◌, length}
use Rattle.cs_udo.specs.{Library.definitions_of, inner.Tallies.IsPriced}
use Rattle.cs_udo.proofs.tally.costs_of.Given as goal

abbrev pub invariant-loop-definition : goal.invariant-loop-definition
invariant-loop-definition l =
    IsPriced (definitions_of l.library) l.costs.items × (length l.costs.items ≡ l.definition-index)
