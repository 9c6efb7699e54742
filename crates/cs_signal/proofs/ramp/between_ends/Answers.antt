use Rattle.std.proofs.Common.{ℤ, ◌≡◌, ◌+◌, ◌+ℤ◌, ◌-ℤ◌, ◌*ℤ◌, pos, length, refl, ap, ◌∙◌, subst, sym, arith}
use Rattle.std.proofs.lemmas.Int.{ints}
use Rattle.cs_base.specs.Numbers.{IsRaw, clamp}
use Rattle.cs_base.proofs.Arithmetic.{clamp_same}
use Rattle.cs_signal.specs.{inner.Ramp.IsParted, Line.part_way}
use Rattle.cs_signal.proofs.{Ramps.floor_is, Ways.on_way, Ways.parts_of_value}
use Rattle.cs_signal.proofs.Rises.{HasRisen_none, HasRisen_more, HasRisen_all, steps_told}
use Rattle.cs_signal.proofs.ramp.between_ends.Goals as goal

pub told-step-requires-clause-rest : goal.told-step-requires-clause-rest
told-step-requires-clause-rest c =
    let below = c.rise_of.ensures.parts.below in let short = c.requires.short in omega (arith, below, short)

pub told-at-requires-clause-whole : goal.told-at-requires-clause-whole
told-at-requires-clause-whole c =
    let ends = c.rise_of.ensures.ends in
    let begun = c.requires.begun in
    let range : IsRaw c.risen.result.whole = subst IsRaw (sym c.risen.ensures.value)
    (on_way c.args.from c.args.to c.part_of.result.whole c.args.n c.args.d c.part_of.result.rest ends.0 ends.1
    (omega arith) c.part_of.ensures.parts) in
    let low = range.0 in let high = range.1 in omega (arith, ints, low, high)

pub told-at-requires-clause-rest : goal.told-at-requires-clause-rest
told-at-requires-clause-rest c =
    let below = c.part_of.ensures.parts.below in
    let short = c.requires.short in
    let same = c.risen.ensures.rest in
    omega (arith, below, short, same)

pub loop-j-init : goal.loop-j-init
loop-j-init c =
    let z : ℤ = (c.args.to -ℤ c.args.from) *ℤ pos c.args.n in
    let parts : IsParted z c.args.d (c.risen.result.whole -ℤ c.args.from) c.risen.result.rest =
    subst (λ r. IsParted z c.args.d (c.risen.result.whole -ℤ c.args.from) r) (sym c.risen.ensures.rest)
    (parts_of_value z c.args.from c.part_of.result.whole c.risen.result.whole c.args.d c.part_of.result.rest
    c.risen.ensures.value c.part_of.ensures.parts) in
    HasRisen_none c.args.from c.args.to c.args.n c.args.d c.inverse_of-inverse.result (length c.args.out.now)
    c.told-at.result.parts c.risen.result.whole c.risen.result.rest c.args.out.now refl c.told-at.ensures.value parts
    c.told-at.ensures.bounded

pub value-requires-clause-bounded : goal.value-requires-clause-bounded
value-requires-clause-bounded c =
    let bound = c.loop-j.invariant.bound in
    let inside = c.loop-j-test.true in
    let few = c.requires.few in
    omega (arith, bound, inside, few)

pub value-requires-clause-range : goal.value-requires-clause-range
value-requires-clause-range c =
    let inside = c.loop-j-test.true in
    let few = c.requires.few in
    let room = c.requires.room in
    let ends = c.rise_of.ensures.ends in
    let now = steps_told c.args.from c.args.to c.args.n c.args.d c.inverse_of-inverse.result (length c.args.out.now)
    c.loop-j.j c.loop-j.at.parts c.loop-j.out c.requires.some c.requires.short (omega arith)
    c.inverse_of-inverse.ensures.near c.loop-j.invariant in
    subst IsRaw (sym now.value)
    (on_way c.args.from c.args.to now.by (c.args.n + c.loop-j.j) c.args.d now.rest ends.0 ends.1 (omega arith)
    now.parts)

pub next-at-requires-clause-at : goal.next-at-requires-clause-at
next-at-requires-clause-at c =
    let bound = c.loop-j.invariant.bound in
    let inside = c.loop-j-test.true in
    let few = c.requires.few in
    omega (arith, bound, inside, few)

pub loop-j-preserved : goal.loop-j-preserved
loop-j-preserved c =
    let h = c.loop-j.invariant in
    let inside = c.loop-j-test.true in
    let few = c.requires.few in
    let room = c.requires.room in
    let step = c.rise_of.ensures in
    let now = steps_told c.args.from c.args.to c.args.n c.args.d c.inverse_of-inverse.result (length c.args.out.now)
    c.loop-j.j c.loop-j.at.parts c.loop-j.out c.requires.some c.requires.short (omega arith)
    c.inverse_of-inverse.ensures.near h in
    let raw : IsRaw (c.args.from +ℤ now.by) =
    on_way c.args.from c.args.to now.by (c.args.n + c.loop-j.j) c.args.d now.rest step.ends.0 step.ends.1 (omega arith)
    now.parts in
    let value : c.value.result ≡ clamp (part_way c.args.from c.args.to (c.args.n + c.loop-j.j) c.args.d) =
    c.value.ensures ∙ now.value ∙ sym (ap (λ q. clamp (c.args.from +ℤ q))
    (floor_is ((c.args.to -ℤ c.args.from) *ℤ pos (c.args.n + c.loop-j.j)) now.by c.args.d now.rest now.parts)
    ∙ clamp_same (c.args.from +ℤ now.by) raw) in
    HasRisen_more c.args.from c.args.to c.args.n c.args.d c.inverse_of-inverse.result (length c.args.out.now) c.loop-j.j
    c.loop-j.at.parts c.told-step.result.parts c.next-at.result.parts c.rise_of.result.whole c.rise_of.result.rest
    c.loop-j.out c.value.result h inside step.parts c.told-step.ensures.value c.told-step.ensures.bounded
    c.next-at.ensures value

pub returns : goal.returns
returns c =
    HasRisen_all c.args.from c.args.to c.args.n c.args.d c.inverse_of-inverse.result (length c.args.out.now)
    c.loop-j.j c.loop-j.at.parts c.loop-j.out c.loop-j.invariant c.loop-j-test.false c.loop-j.auto.j-end
