use Rattle.std.proofs.Common.{◌≡◌, ◌<◌, ◌≤◌, ◌+◌, ◌+ℤ◌, ◌∙◌, ℕ, ℤ, List, ap, arith, get_or, length, map, nat_lt, pos}
use Rattle.std.proofs.Common.{sym, subst, take, ltb-true}
use Rattle.std.proofs.lemmas.List.{get_or_past}
use Rattle.cs_base.proofs.Tests.{by_test}
use Rattle.cs_base.specs.Numbers.{total}
use Rattle.cs_row.specs.{Heard.HeardRow, Heard.IsSumOf, Laws.all_notes}
use Rattle.cs_row.proofs.Adding.{both_small, no_lower, nothing_small, notes_more, notes_within, total_more}
use Rattle.cs_row.proofs.sums.sum_rows.Goals as goal

pub add_sum-requires-clause-small : goal.add_sum-requires-clause-small
add_sum-requires-clause-small g c =
    let within = notes_within c.args.rows.now c.loop-at.at c.index-rows-at.result c.loop-at-test.true
    c.index-rows-at.is in (
      length c.index-rows-at.result.jobs,
      length (all_notes (take c.loop-at.at c.args.rows.now)),
      c.sum.ensures.small,
      c.loop-at.invariant.small,
      omega (arith, within, c.requires.few),
    )

pub loop-at-preserved : goal.loop-at-preserved
loop-at-preserved g c =
    let rows : List (HeardRow g.row.J.Denot) = c.args.rows.now in
    let at : ℕ = c.loop-at.at in
    let row : HeardRow g.row.J.Denot = c.index-rows-at.result in
    let low = c.loop-at-test.true in
    let is = c.index-rows-at.is in
    let inv = c.loop-at.invariant in
    let many = notes_more rows at row low is in
    let part : (k : ℕ) → get_or c.sum.result.now k (pos 0) ≡ get_or row.sum k (pos 0) =
    λ k. ap (λ (l : List ℤ). get_or l k (pos 0)) c.sum.ensures.sum in
    let long = c.add_sum.ensures.long in
    record {
      low = omega (arith, low);
      long = long ∙ inv.long;
      sums = λ k below.
          let there : k < length c.loop-at.block = omega (arith, below, long) in
          c.add_sum.ensures.sums k there ∙ ap (λ (z : ℤ). z +ℤ get_or c.sum.result.now k (pos 0)) (inv.sums k there)
          ∙ ap (λ (z : ℤ). total (map (λ (r : HeardRow g.row.J.Denot). get_or r.sum k (pos 0)) (take at rows)) +ℤ z)
          (part k)
          ∙ sym (total_more rows at row low is (λ r. get_or r.sum k (pos 0)));
      small = λ k. by_test (nat_lt k (length c.loop-at.block))
          (λ yes. let there : k < length c.loop-at.block = ltb-true k (length c.loop-at.block) yes in
          subst (IsSumOf (length (all_notes (take (at + 1) rows)))) (sym (c.add_sum.ensures.sums k there))
          (subst (λ (n : ℕ). IsSumOf n (get_or c.loop-at.block k (pos 0) +ℤ get_or c.sum.result.now k (pos 0)))
          (sym many)
          (both_small (length row.jobs) (length (all_notes (take at rows))) (get_or c.sum.result.now k (pos 0))
          (get_or c.loop-at.block k (pos 0)) (c.sum.ensures.small k) (inv.small k))))
          (λ past. let high : length c.loop-at.block ≤ k = no_lower k (length c.loop-at.block) past in
          subst (IsSumOf (length (all_notes (take (at + 1) rows))))
          (sym (get_or_past c.add_sum.new.block k (pos 0) (omega (arith, high, long))))
          (nothing_small (length (all_notes (take (at + 1) rows)))));
    }
