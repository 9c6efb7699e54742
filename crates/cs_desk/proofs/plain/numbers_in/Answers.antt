use Rattle.std.proofs.Common.{ℕ, ◌≡◌, ◌++◌, ◌∷◌, [], List, Some, sym, ap, ◌∙◌, arith, rules, w64}
use Rattle.std.specs.Prelude.{ℤ, slice_index}
use mir.Val.{SFits}
use Rattle.std.proofs.lemmas.Int.{to_z-of_z}
use Rattle.cs_base.specs.Numbers.{clamp}
use Rattle.cs_cells.specs.Cells.{signed, values}
use Rattle.cs_desk.proofs.{Ending.took, Plainly.value_at}
use Rattle.cs_desk.proofs.plain.numbers_in.Goals as goal

pub loop-at-preserved : goal.loop-at-preserved
loop-at-preserved c =
    let words : List ℕ = c.args.words.now in
    let n : ℕ = c.loop-at.at in
    let x : ℤ = c.of_raw.result in
    let fits : SFits w64 c.cast_signed.result = search rules in
    let same : x ≡ signed (slice_index words n) =
    c.of_raw.ensures ∙ ap clamp (to_z-of_z w64 c.cast_signed.result fits ∙ c.cast_signed.ensures) in (
      omega (arith, c.loop-at-test.true),
      c.push_reserved.ensures.items
          ∙ ap (λ l. l ++ x ∷ []) c.loop-at.invariant.1
          ∙ sym (took (values words) n x (value_at words n c.loop-at-test.true ∙ ap Some (sym same))),
      omega (arith, c.push_reserved.ensures.capacity, c.loop-at.invariant.2),
    )
