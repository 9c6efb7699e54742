use Rattle.std.proofs.Common.{◌≡◌, ◌≢◌, ◌<◌, ◌+◌, ◌+ℤ◌, ◌==◌, ◌∙◌, ℕ, ℤ, ap, arith, get_or, length, of_z, pos, set, sym}
use Rattle.std.proofs.Common.{subst, to_z, w64}
use Rattle.std.proofs.lemmas.{Bool.eqb-true, List.get_or-set_same, List.get_or-set_other, List.length-set}
use Rattle.cs_base.proofs.Tests.{by_test}
use Rattle.cs_row.specs.Heard.{IsSumOf}
use Rattle.cs_row.proofs.Adding.{apart, both_small, read_back}
use Rattle.cs_row.proofs.sums.add_sum.Goals as goal

pub add-requires : goal.add-requires
add-requires c =
    let at : ℕ = c.loop-at.at in
    let s = c.requires.small in
    let n : ℕ = s.0 in
    let m : ℕ = s.1 in
    let few = s.4 in
    let old = c.loop-at.invariant.rest at (omega arith) in
    let into : IsSumOf m (get_or c.loop-at.block at (pos 0)) = subst (IsSumOf m) (sym old) (s.3 at) in
    let part : IsSumOf n (get_or c.args.sum.now at (pos 0)) = s.2 at in (
      m,
      n,
      subst (IsSumOf m) (sym (read_back m (get_or c.loop-at.block at (pos 0)) into (omega (arith, few)))) into,
      subst (IsSumOf n) (sym (read_back n (get_or c.args.sum.now at (pos 0)) part (omega (arith, few)))) part,
      omega (arith, few),
    )

pub loop-at-preserved : goal.loop-at-preserved
loop-at-preserved c =
    let at : ℕ = c.loop-at.at in
    let inv = c.loop-at.invariant in
    let s = c.requires.small in
    let n : ℕ = s.0 in
    let m : ℕ = s.1 in
    let few = s.4 in
    let x : ℤ = get_or c.loop-at.block at (pos 0) in
    let y : ℤ = get_or c.args.sum.now at (pos 0) in
    let old = inv.rest at (omega arith) in
    let into : IsSumOf m x = subst (IsSumOf m) (sym old) (s.3 at) in
    let part : IsSumOf n y = s.2 at in
    let both : IsSumOf (m + n) (x +ℤ y) = both_small n m y x part into in
    let is : c.add.result ≡ x +ℤ y =
    c.add.ensures ∙ ap (λ (z : ℤ). z +ℤ to_z w64 (of_z w64 y)) (read_back m x into (omega (arith, few)))
    ∙ ap (λ (z : ℤ). x +ℤ z) (read_back n y part (omega (arith, few))) in
    let put : to_z w64 (of_z w64 c.add.result) ≡ x +ℤ y =
    ap (λ (z : ℤ). to_z w64 (of_z w64 z)) is ∙ read_back (m + n) (x +ℤ y) both (omega (arith, few)) in
    let low : at < length c.loop-at.block = omega (arith, c.loop-at-test.true, inv.long) in
    let v : ℤ = to_z w64 (of_z w64 c.add.result) in
    record {
      low = omega (arith, c.loop-at-test.true);
      long = length-set c.loop-at.block at v ∙ inv.long;
      added = λ k below. by_test (k == at)
          (λ yes. let e : k ≡ at = eqb-true k at yes in
          ap (λ (i : ℕ). get_or (set c.loop-at.block at v) i (pos 0)) e
          ∙ get_or-set_same c.loop-at.block at v (pos 0) low ∙ put ∙ ap (λ (z : ℤ). z +ℤ y) old
          ∙ ap (λ (i : ℕ). get_or c.args.block.now i (pos 0) +ℤ get_or c.args.sum.now i (pos 0)) (sym e))
          (λ other. let ne : k ≢ at = apart k at other in
          get_or-set_other c.loop-at.block at k v (pos 0) ne ∙ inv.added k (omega (arith, below, ne)));
      rest = λ k high. get_or-set_other c.loop-at.block at k v (pos 0) (omega (arith, high))
          ∙ inv.rest k (omega (arith, high));
    }
