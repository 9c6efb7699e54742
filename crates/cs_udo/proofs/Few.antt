-- Each instrument of an orchestra that exceeds no limit has few statements after its calls are expanded.
use Rattle.std.proofs.Common.{◌≡◌, ◌+◌, ◌≤◌, ℕ, List, [], ◌∷◌, length, map, Option, Some, None, Ok, refl, arith, subst}
use Rattle.std.proofs.Common.{sym}
use Rattle.std.specs.{List.AllByRecursion as Each, Option.option_or}
use Rattle.std.proofs.lemmas.{Option.none-some, Grind.common_steps}
use Rattle.cs_base.specs.{Limits.most_statements, declared.fault.OrcFault.OrcFault, declared.limit.LimitHit.LimitHit}
use Rattle.cs_grammar.specs.Tree.{Block, Definition, Instrument, Orchestra}
use Rattle.cs_udo.specs.Counted.{counts_in, first_limit, hit, limits, numbers_hit, size_of, statements_hit}
use Rattle.cs_udo.specs.Expanded.{Opcodes, before, calls_in, expanded_block, expanded_instrument, expanded_orchestra}
use Rattle.cs_udo.specs.{Expanded.opcodes_before, Names.as_it_is, Refused.first_fault, inner.Tallies.total}
use Rattle.cs_udo.specs.Expanding.{expanding, unless, within}
use Rattle.cs_udo.proofs.{Tallied.within_all, Weighed.AllFair, Weighed.block_counts, Weighed.fair_all}
use Rattle.cs_base.specs.declared.limit.Limit.TheVariants as limit

not_hit : (o : Option ℕ) → hit limit.Statements o ≡ None → o ≡ None
not_hit None e = refl
not_hit (Some line) e = absurd (none-some (record { limit = limit.Statements; line = line }) (sym e))

-- the sum of an instrument's counts is within the limit
few_statements : (env : Opcodes) (b : Block) → statements_hit env b ≡ None → total (counts_in env b) ≤ 2000
few_statements env b e = grind (arith, common_steps, not_hit, within_all)

second : (a b c : Option LimitHit) → option_or a (option_or b c) ≡ None → b ≡ None
second (Some f) b c e = absurd (none-some f (sym e))
second None (Some f) c e = absurd (none-some f (sym e))
second None None c e = refl

third : (a b c : Option LimitHit) → option_or a (option_or b c) ≡ None → c ≡ None
third (Some f) b c e = absurd (none-some f (sym e))
third None (Some f) c e = absurd (none-some f (sym e))
third None None c e = e

-- an instrument's statements are within the limit
abbrev pub HasFew : Instrument → Type 0
HasFew i = size_of i.body ≤ most_statements

-- an instrument within the limit still is after its calls are expanded
few_in : (opcodes : Opcodes) → AllFair opcodes → (b : Block) → statements_hit opcodes b ≡ None
    → size_of (expanded_block opcodes as_it_is 1 b) ≤ most_statements
few_in opcodes fair b e =
    let most : total (counts_in opcodes b) ≤ 2000 = few_statements opcodes b e in
    let all : total (counts_in opcodes b) ≡ size_of (expanded_block opcodes as_it_is 1 b) + calls_in opcodes b =
    block_counts opcodes fair as_it_is 1 b in
    omega (arith, most, all)

few_in_all : (ds : List Definition) (given : ℕ) (list : List Instrument) → limits ds given list ≡ None
    → Each HasFew (map (expanded_instrument ds) list)
few_in_all ds given [] e = tt
few_in_all ds given (i ∷ rest) e =
    let a : Option LimitHit = numbers_hit given i in
    let b : Option LimitHit = statements_hit (opcodes_before i.line ds) i.body in
    let c : Option LimitHit = limits ds (given + length i.numbers) rest in (
      few_in (opcodes_before i.line ds) (fair_all (before i.line ds)) i.body (second a b c e),
      few_in_all ds (given + length i.numbers) rest (third a b c e),
    )

pub few_of_expansion : (o made : Orchestra) → expanding o ≡ Ok made → Each HasFew made.instrs
few_of_expansion o made e = by (first_fault o) (first_limit o) e (λ none. few_in_all o.opcodes 0 o.instrs none)
  where
    by : (f : Option OrcFault) (passed : Option LimitHit) → unless f (within passed (expanded_orchestra o)) ≡ Ok made
        → (passed ≡ None → Each HasFew (map (expanded_instrument o.opcodes) o.instrs)) → Each HasFew made.instrs
    by None None e few =
        let same : expanded_orchestra o ≡ made = cc in
        subst (λ (x : Orchestra). Each HasFew x.instrs) same (few refl)
    by _ _ e few = absurd (cc)
