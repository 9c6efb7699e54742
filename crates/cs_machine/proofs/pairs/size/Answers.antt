use Rattle.std.proofs.Common.{◌≡◌, subst, arith, rules, ◌∙◌, to_z, of_z, w64}
use Rattle.std.proofs.lemmas.{Int.to_z-of_z, Nat.le_or_l, Nat.le_or_r}
use mir.Val.{SFits}
use Rattle.cs_machine.specs.inner.Narrow.{IsShort}
use Rattle.cs_machine.proofs.pairs.size.Goals as goal

pub returns : goal.returns
returns c = λ h.
    let l = le_or_l c.lifted.result c.lifted-2.result in
    let r = le_or_r c.lifted.result c.lifted-2.result in
    let x_fits : SFits w64 c.raw.result = search rules in
    let y_fits : SFits w64 c.raw-2.result = search rules in
    let x : to_z w64 (of_z w64 c.raw.result) ≡ c.args.x = to_z-of_z w64 c.raw.result x_fits ∙ c.raw.ensures.value in
    let y : to_z w64 (of_z w64 c.raw-2.result) ≡ c.args.y =
    to_z-of_z w64 c.raw-2.result y_fits ∙ c.raw-2.ensures.value in (
      subst IsShort x (c.lifted.ensures (omega (arith, h, l))),
      subst IsShort y (c.lifted-2.ensures (omega (arith, h, r))),
    )
