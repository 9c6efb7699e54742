use Rattle.std.proofs.Common.{◌≡◌, ◌<◌, ◌+◌, ◌-◌, ◌+ℤ◌, ℕ, ℤ, List, drop, get_or, length, pos, take, arith, sym, ◌∙◌}
use Rattle.std.proofs.{Common.ap, Common.subst, Math.IntN.+ℤ_idr}
use Rattle.std.proofs.lemmas.List.{length-drop, length-take-le}
use Rattle.cs_base.specs.Numbers.{IsRaw}
use Rattle.cs_ir.specs.Waves.{Wave}
use Rattle.cs_voice.proofs.{Columns.part_at, Sums.nothing_raw}
use Rattle.cs_voice.proofs.adding.add_voice.Goals as goal

pub returns-in-Some-clause-sums : goal.returns-in-Some-clause-sums
returns-in-Some-clause-sums c j low =
    let count : ℕ = c.args.from + length c.args.sums.now - c.args.from in
    let there : j < count = omega (arith, low) in
    c.add_row.ensures.sums j ∙ ap (λ z. get_or c.args.sums.now j (pos 0) +ℤ z)
    (part_at c.in-Some.row.now c.args.from count j there
    ∙ ap (λ (w : Wave). w (c.args.from + j)) c.in-Some.ensures.some)

pub returns-in-Some-clause-raw : goal.returns-in-Some-clause-raw
returns-in-Some-clause-raw c j low =
    let row : List ℤ = c.in-Some.row.now in
    let count : ℕ = c.args.from + length c.args.sums.now - c.args.from in
    let there : j < count = omega (arith, low) in
    let rest : length (drop c.args.from row) ≡ length row - c.args.from = length-drop c.args.from row in
    let whole : length (take count (drop c.args.from row)) ≡ count =
    length-take-le count (drop c.args.from row) (omega (arith, rest, c.in-Some.ensures.long, c.requires.from)) in
    subst IsRaw (part_at row c.args.from count j there ∙ ap (λ (w : Wave). w (c.args.from + j)) c.in-Some.ensures.some)
    (c.add_row.ensures.raw j (omega (arith, there, whole)))

pub returns-in_default-clause-sums : goal.returns-in_default-clause-sums
returns-in_default-clause-sums c = λ j low.
    sym (+ℤ_idr (get_or c.args.sums.now j (pos 0)))
    ∙ ap (λ (w : Wave). get_or c.args.sums.now j (pos 0) +ℤ w (c.args.from + j)) (sym c.in_default.ensures.none)

pub returns-in_default-clause-raw : goal.returns-in_default-clause-raw
returns-in_default-clause-raw c =
    λ j low. subst (λ (w : Wave). IsRaw (w (c.args.from + j))) (sym c.in_default.ensures.none) nothing_raw
