use Rattle.std.proofs.Common.{◌≡◌, ℕ, ◌+◌, ◌<◌, ◌≤◌, length, replicate, refl, ap, sym, ◌∙◌, arith}
use Rattle.std.specs.Prelude.{slice_index}
use Rattle.std.proofs.lemmas.List.{get_or_default}
use Rattle.cs_base.specs.Numbers.{clamp}
use Rattle.cs_signal.specs.Linseg.{LinsegState, linseg_step, on_pieces}
use Rattle.cs_signal.specs.{Operands.argument, Operands.inputs_at, Pace.last_number, Steps.run}
use Rattle.cs_signal.proofs.{Pieces.last_value, Ramps.linseg_holds, Ramps.linseg_ramp, Walks.read}
use Rattle.cs_signal.proofs.linseg.LinsegGenerator.render.Goals as goal

pub returns-then-piece-len : goal.returns-then-piece-len
returns-then-piece-len c =
    let s = c.self.inside in
    let at = inputs_at c.args.inputs.now in
    let k : ℕ = s.place.piece in
    let n : ℕ = length c.args.out.now in
    let t : LinsegState = record { values = s.values.items; lengths = s.lengths.items; number = s.number } in
    let z = argument s.values.items k in
    let place = c.self.invariant.2 in
    let end : length s.lengths.items ≤ k = omega (arith, c.if-piece-len.true) in
    let far = c.if-count-self.false in
    let low : s.number + n ≤ last_number = omega arith in
    let known : c.value.result ≡ clamp z =
    c.value.ensures ∙ ap (λ v. clamp (on_pieces v.values v.lengths v.number)) (sym c.self.view_is)
    ∙ sym (last_value s.values.items s.lengths.items s.number k s.place.begin z place end refl) in
    ap (λ o. (record { values = s.values.items; lengths = s.lengths.items; number = s.number + n }, o))
    (c.fill.ensures.after (λ y h. h) ∙ ap (replicate n) known)
    ∙ sym (linseg_holds at t 0 n k s.place.begin z place end refl low)
    ∙ ap (λ v. run linseg_step at v 0 n) c.self.view_is

pub returns-then-count-index : goal.returns-then-count-index
returns-then-count-index c =
    let s = c.self.inside in
    let at = inputs_at c.args.inputs.now in
    let k : ℕ = s.place.piece in
    let n : ℕ = length c.args.out.now in
    let t : LinsegState = record { values = s.values.items; lengths = s.lengths.items; number = s.number } in
    let x = c.index-then-count-index.result.now in
    let y = c.index-then-count-index-2.result.now in
    let d : ℕ = c.index-then-count-index-3.result.now in
    let ends = c.self.invariant.0 in
    let place = c.self.invariant.2 in
    let come = place.come.come in
    let real = place.real in
    let over = c.if-piece-len.false in
    let in_it : k < length s.lengths.items = omega arith in
    let ed : d ≡ slice_index s.lengths.items k =
    c.index-then-count-index-3.ensures ∙ get_or_default s.lengths.items k d 0 in_it in
    let asked : c.index.result.now ≡ slice_index s.lengths.items k =
    c.index.ensures ∙ get_or_default s.lengths.items k c.index.result.now 0 in_it in
    let inside = place.inside in_it in
    let fits = c.if-count-index.true in
    let far = c.if-count-self.false in
    let room : s.number + n ≤ s.place.begin + d = omega arith in
    let low : s.number + n ≤ last_number = omega arith in
    let here : x ≡ argument s.values.items k =
    read s.values.items k x c.index-then-count-index.ensures (omega arith) in
    let next : y ≡ argument s.values.items (k + 1) =
    read s.values.items (k + 1) y c.index-then-count-index-2.ensures (omega arith) in
    ap (λ o. (record { values = s.values.items; lengths = s.lengths.items; number = s.number + n }, o)) c.ramp.ensures
    ∙ sym (linseg_ramp at t 0 n k s.place.begin d x y place in_it ed room here next low)
    ∙ ap (λ v. run linseg_step at v 0 n) c.self.view_is
