use Rattle.std.proofs.Common.{rules}
use Rattle.std.proofs.lemmas.List.Sorted.{IsNonDecreasingBy-from_sort_by_key}
use Rattle.cs_ir.specs.Instruments.{Numbered}
use Rattle.cs_ir.proofs.Numbers.{rising, sorted}
use Rattle.cs_ir.proofs.instrument.Instruments.of.Goals as goal

pub returns-clause-ascending : goal.returns-clause-ascending
returns-clause-ascending c =
    rising c.args.items.items _ c.sort_unstable_by_key.ensures.permutation
    (sorted _ (IsNonDecreasingBy-from_sort_by_key (λ (i : Numbered). i.number) _ c.sort_unstable_by_key.ensures.sorted
    (λ a r q k. search rules))) c.requires

pub invariant_of-result : goal.invariant_of-result
invariant_of-result c =
    rising c.args.items.items _ c.sort_unstable_by_key.ensures.permutation
    (sorted _ (IsNonDecreasingBy-from_sort_by_key (λ (i : Numbered). i.number) _ c.sort_unstable_by_key.ensures.sorted
    (λ a r q k. search rules))) c.requires
