use Rattle.std.proofs.Common.{ℕ, ◌<◌, ◌^◌, ℤ, pos, ◌≤ℤ◌, unsigned_abs, List, length, refl, rules, sym, subst, w64, ◌∙◌}
use Rattle.std.proofs.Common.{arith}
use Rattle.std.proofs.lemmas.Int.{to_z-of_z}
use Rattle.cs_signal.specs.{Operands.argument, Biquad.biquad_step, Biquad.inputs_by, inner.Short.AreShort}
use Rattle.cs_signal.proofs.{Biquads.stepped, Products.raw_within, Walks.HasRun_none, Walks.HasRun_step, Walks.read}
use Rattle.cs_signal.proofs.biquad.Biquad.near_steps.Goals as goal

pub returns-then-not-is_near-clause-run : goal.returns-then-not-is_near-clause-run
returns-then-not-is_near-clause-run c =
    HasRun_none biquad_step (λ j. inputs_by (argument c.args.x.now j) c.args.by.now) c.args.self.now
    (length c.args.out.now) c.args.out.now refl

pub of-divisor-requires-clause-low : goal.of-divisor-requires-clause-low
of-divisor-requires-clause-low c =
    subst (λ z. pos 1 ≤ℤ z) (sym (to_z-of_z w64 c.raw.result (search rules) ∙ c.raw.ensures.value)) c.requires.above

pub of-divisor-requires-clause-high : goal.of-divisor-requires-clause-high
of-divisor-requires-clause-high c =
    let within = raw_within c.raw.result c.raw.ensures.in_range in
    subst (λ z. unsigned_abs z < 2 ^ 48) (sym (to_z-of_z w64 c.raw.result (search rules))) (omega (arith, within))

pub loop-j-init : goal.loop-j-init
loop-j-init c = (
  HasRun_none biquad_step (λ j. inputs_by (argument c.args.x.now j) c.args.by.now) c.args.self.now
      (length c.args.out.now) c.args.out.now refl,
  (c.is_near.ensures c.if-not-is_near.false).1,
)

pub short_sum-requires-clause-small : goal.short_sum-requires-clause-small
short_sum-requires-clause-small c = (c.is_near.ensures c.if-not-is_near.false).0

pub short_sum-requires-clause-input : goal.short_sum-requires-clause-input
short_sum-requires-clause-input c = c.is_short.ensures c.if-not-is_short.false

pub short_sum-requires-clause-short : goal.short_sum-requires-clause-short
short_sum-requires-clause-short c = c.loop-j.invariant.1

pub divided-y-requires-clause-bounded : goal.divided-y-requires-clause-bounded
divided-y-requires-clause-bounded c =
    subst (λ z. unsigned_abs z < 2 ^ 61) (sym (to_z-of_z w64 c.short_sum.result (search rules)))
    c.short_sum.ensures.bounded

pub divided-y-requires-clause-known : goal.divided-y-requires-clause-known
divided-y-requires-clause-known c =
    c.of-divisor.ensures ∙ to_z-of_z w64 c.raw.result (search rules) ∙ c.raw.ensures.value

pub returns-then-not-is_short-2-clause-run : goal.returns-then-not-is_short-2-clause-run
returns-then-not-is_short-2-clause-run c =
    let at : ℕ → List ℤ = λ j. inputs_by (argument c.args.x.now j) c.args.by.now in
    let long = c.requires.x in
    HasRun_step biquad_step at c.args.self.now (length c.args.out.now) c.loop-j.j c.loop-j.unit c.follow.new.self
    c.loop-j.out c.divided-y.result c.loop-j.invariant.0 c.loop-j-test.true
    (stepped c.args.by.now c.loop-j.unit c.follow.new.self c.index-x-j.result _ c.divided-y.result _ c.follow.ensures
    c.divided-y.ensures (to_z-of_z w64 c.short_sum.result (search rules) ∙ c.short_sum.ensures.value)
    (read c.args.x.now c.loop-j.j c.index-x-j.result c.index-x-j.is (omega arith)))

pub loop-j-preserved : goal.loop-j-preserved
loop-j-preserved c =
    let at : ℕ → List ℤ = λ j. inputs_by (argument c.args.x.now j) c.args.by.now in
    let long = c.requires.x in
    let so_far = c.loop-j.invariant.1 in (
      HasRun_step biquad_step at c.args.self.now (length c.args.out.now) c.loop-j.j c.loop-j.unit c.follow.new.self
          c.loop-j.out c.divided-y.result c.loop-j.invariant.0 c.loop-j-test.true
          (stepped c.args.by.now c.loop-j.unit c.follow.new.self c.index-x-j.result _ c.divided-y.result _
          c.follow.ensures
          c.divided-y.ensures (to_z-of_z w64 c.short_sum.result (search rules) ∙ c.short_sum.ensures.value)
          (read c.args.x.now c.loop-j.j c.index-x-j.result c.index-x-j.is (omega arith))),
      subst AreShort (sym c.follow.ensures) (record {
        x1 = c.is_short.ensures c.if-not-is_short.false;
        x2 = so_far.x1;
        y1 = c.is_short-in-loop-j.ensures c.if-not-is_short-2.false;
        y2 = so_far.y1;
      }),
    )
