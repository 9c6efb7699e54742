use Rattle.std.proofs.lemmas.{Grind.common_steps, Option.slice_get-get_or}
use Rattle.std.proofs.Common.{ℕ, suc, ◌<◌, ◌+◌, ◌≡◌, ◌++◌, List, length, take, drop, slice_set, Some, sym, ap, ◌∙◌}
use Rattle.std.proofs.Common.{arith}
use Rattle.std.specs.Prelude.{ℤ}
use Rattle.cs_row.proofs.Fronts.{next_set, all_of}
use Rattle.cs_desk.proofs.plain.fill.Goals as goal

pub loop-addr-preserved : goal.loop-addr-preserved
loop-addr-preserved g c =
    let ys : List ℤ = c.args.numbers.now in
    let js : List ℤ = g.B.Bank.cells c.args.bank.now in
    let n : ℕ = c.loop-addr.addr in
    let x : ℤ = c.index-numbers-addr.result in
    let inv = c.loop-addr.invariant in
    let long : length ys ≡ length js = c.requires.numbers ∙ sym c.requires.cells in
    let low : n < length js = omega (arith, c.loop-addr-test.true, c.requires.cells) in
    let below : n < length ys = omega (arith, c.loop-addr-test.true, c.requires.numbers) in
    let more : n + 1 ≡ suc n = omega arith in
    record {
      low = omega (arith, c.loop-addr-test.true);
      cells = c.set.ensures.cells
          ∙ ap (λ l. slice_set l n x) inv.cells
          ∙ next_set ys js n x long low (slice_get-get_or ys n x below ∙ ap Some (sym c.index-numbers-addr.is))
          ∙ ap (λ k. take k ys ++ drop k js) (sym more);
      rest = c.set.ensures.rest ∙ inv.rest;
    }

pub returns-clause-cells : goal.returns-clause-cells
returns-clause-cells g c = grind (arith, common_steps, all_of)
