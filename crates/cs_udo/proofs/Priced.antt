-- The numbers that calls and definitions count as, capped.
use Rattle.std.proofs.Common.{◌≡◌, ◌∙◌, ◌+◌, ℕ, min, List, [], ◌∷◌, ◌++◌, length, slice_get, slice_index, Some, None}
use Rattle.std.proofs.Common.{arith, refl, sym, ap}
use borrow.Author.Count.{below_more}
use Rattle.std.proofs.lemmas.List.{length_push, get_or_append_left, get_or_push}
use Rattle.std.proofs.lemmas.{Option.same_Some, Grind.common_steps}
use Rattle.cs_grammar.specs.{declared.tree.Callee.Callee, Tree.Argument, Tree.Block, Tree.Definition}
use Rattle.cs_udo.specs.{Names.slots, declared.tally.RunningCount.RunningCount, Library.opcodes_of}
use Rattle.cs_udo.specs.Expanded.{Opcodes, defined, assignments, template}
use Rattle.cs_udo.specs.Counted.{size_of, call_count, counts_in, hit, statements_hit}
use Rattle.cs_udo.specs.inner.Tallies.{capped, total, after_counts, weight, IsPriced}
use Rattle.cs_udo.proofs.Tallied.{sum_after, passed_after}
use Rattle.cs_udo.proofs.Weighed.{AllFair, fair_template, call_weight, body_weight, length_slots}
use Rattle.cs_base.specs.declared.limit.Limit.TheVariants as limit

-- the running count before any statement
abbrev pub none_counted : RunningCount
none_counted = record { sum = 0; passed = None }

-- the price of a call of a user-defined opcode
pub price_is : (env inner : Opcodes) → AllFair inner
    → (d : Definition) (line : ℕ) (xs : List (List ℕ)) (callee : Callee) (args : List Argument)
    (given taken cost result : ℕ) → defined env callee ≡ Some (template inner d)
    → given ≡ capped (size_of (assignments line d.names args)) → taken ≡ capped (min (length xs) (length d.outs))
    → cost ≡ capped (weight (template inner d)) → result ≡ capped (capped (given + taken) + capped (cost + 1))
    → result ≡ capped (call_count line xs callee args (defined env callee))
price_is env inner fair d line xs callee args given taken cost result found g k c r =
    let same : result ≡ capped (call_count line xs callee args (Some (template inner d))) =
    omega (
      arith,
      r,
      g,
      k,
      c,
      length_slots 0 d.outs,
      call_weight line xs callee args (template inner d) (fair_template inner fair d),
    ) in
    same ∙ sym (ap (λ o. capped (call_count line xs callee args o)) found)

-- the cost of a definition
pub cost_is : (env : Opcodes) → AllFair env → (d : Definition) (t : RunningCount) (given result : ℕ)
    → t ≡ after_counts none_counted (counts_in env d.body)
    → given ≡ capped (size_of (assignments d.line (slots 0 d.outs) d.result)) → result ≡ capped (t.sum + given)
    → result ≡ capped (weight (template env d))
cost_is env fair d t given result counted g r =
    let sum : t.sum ≡ capped (0 + total (counts_in env d.body)) =
    ap (λ u. u.sum) counted ∙ sum_after none_counted 0 (counts_in env d.body) refl in
    omega (arith, r, g, sum, body_weight env fair d)

pub one_more_price : (ds : List Definition) (costs more : List ℕ) (cost : ℕ) (d : Definition) → IsPriced ds costs
    → slice_get ds (length costs) ≡ Some d → cost ≡ capped (weight (template (opcodes_of ds (length costs)) d))
    → more ≡ costs ++ cost ∷ [] → IsPriced ds more
one_more_price ds costs more cost d was here is e =
    grind (arith, common_steps, below_more, get_or_append_left, get_or_push, length_push, same_Some, slice_index)

-- ---- limits

pub statements_are : (env : Opcodes) (b : Block) (t : RunningCount) → t ≡ after_counts none_counted (counts_in env b)
    → hit limit.Statements t.passed ≡ statements_hit env b
statements_are env b t counted = grind (arith, common_steps, passed_after)
