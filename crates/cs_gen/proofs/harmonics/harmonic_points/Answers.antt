use Rattle.std.proofs.Common.{◌≡◌, ◌∙◌, ◌≤◌, ◌^◌, ap, arith, get_or, length, map, pos, subst, sym, unsigned_abs}
use Rattle.std.specs.List.{All}
use Rattle.std.proofs.lemmas.List.{take_all}
use Rattle.cs_base.specs.Numbers.{clamp}
use Rattle.cs_gen.specs.Points.{at_places, harmonics, len_of}
use Rattle.cs_gen.proofs.HarmonicSums.{points-more, points_are, sum_fits, written_over}
use Rattle.cs_gen.proofs.harmonics.harmonic_points.Goals as goal

pub loop-sum-preserved : goal.loop-sum-preserved
loop-sum-preserved c =
    let summed : c.deref-sum-items.result.now ≡ c.add_harmonics.new.sums =
    c.deref-sum-items.ensures.value
    ∙ written_over c.resize.new.self.len c.add_harmonics.new.sums c.resize.new.self.items
    (c.add_harmonics.ensures.sums.long ∙ ap length c.deref_mut.ensures.value)
    (omega (arith, c.resize.new.self.ok.0)) in
    let sums = c.deref-sum-items.result.now in
    let i = c.loop-sum.sum-index in
    let room = subst (All (λ z. unsigned_abs z ≤ 2 ^ 126)) (sym summed) c.add_harmonics.ensures.room in
    points-more sums c.loop-sum.points.items c.push.new.self.items i c.of_wide.result c.loop-sum-test.true
    c.loop-sum.invariant c.in_ok-push.ensures.items
    (c.of_wide.ensures ∙ ap clamp (sum_fits (get_or sums i (pos 0)) (room i (pos 0) c.loop-sum-test.true)))

pub returns : goal.returns
returns c =
    let summed : c.deref-sum-items.result.now ≡ c.add_harmonics.new.sums =
    c.deref-sum-items.ensures.value
    ∙ written_over c.resize.new.self.len c.add_harmonics.new.sums c.resize.new.self.items
    (c.add_harmonics.ensures.sums.long ∙ ap length c.deref_mut.ensures.value)
    (omega (arith, c.resize.new.self.ok.0)) in
    let all = c.args.strengths.now in
    let points = c.loop-sum.points.items in
    let len_is : length c.deref.result.now ≡ len_of c.args.size =
    ap length c.deref.ensures.value ∙ c.in_ok-heights.ensures.long ∙ omega (arith, c.from.ensures, c.len_of.ensures) in
    let n_is : length c.deref_mut.result.now ≡ c.args.size =
    ap length c.deref_mut.ensures.value ∙ omega (arith, c.resize.new.self.ok.0, c.in_ok-resize.ensures.len) in
    let done : points ≡ map clamp c.add_harmonics.new.sums =
    c.loop-sum.invariant
    ∙ ap (map clamp) (take_all c.loop-sum.sum-index c.deref-sum-items.result.now (omega (arith, c.loop-sum-test.false))
    ∙ summed) in
    subst (λ l. points ≡ at_places c.args.size (λ j. clamp (harmonics l all j))) len_is
    (subst (λ n. points ≡ at_places n (λ j. clamp (harmonics (length c.deref.result.now) all j))) n_is
    (points_are (length c.deref.result.now) all (length c.deref_mut.result.now) c.add_harmonics.new.sums points
    c.add_harmonics.ensures.sums done))
