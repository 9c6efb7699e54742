use Rattle.std.proofs.Common.{◌≡◌, ℕ, ◌+◌, ◌<◌, length, ap, rules, ◌∙◌, arith}
use Rattle.std.specs.Prelude.{slice_index}
use Rattle.std.proofs.lemmas.List.{get_or_default}
use Rattle.cs_base.specs.Numbers.{clamp}
use Rattle.cs_signal.specs.{Linseg.on_pieces, Operands.argument}
use Rattle.cs_signal.proofs.{Pieces.last_value, Pieces.on_piece, Walks.read}
use Rattle.cs_signal.proofs.linseg.Linseg.value.Goals as goal

pub returns-then-piece-len : goal.returns-then-piece-len
returns-then-piece-len c =
    let s = c.self.inside in
    let k : ℕ = s.place.piece in
    let ends = c.self.invariant.0 in
    let in_it : k < length s.lengths.items = omega (arith, c.len.ensures, c.if-piece-len.true) in
    let d : ℕ = c.index-then-piece-len-2.result.now in
    let ed : d ≡ slice_index s.lengths.items k =
    c.index-then-piece-len-2.ensures ∙ get_or_default s.lengths.items k d 0 in_it in
    let here : c.index.result.now ≡ argument s.values.items k =
    read s.values.items k c.index.result.now c.index.ensures (omega arith) in
    let next : c.index-then-piece-len.result.now ≡ argument s.values.items (k + 1) =
    read s.values.items (k + 1) c.index-then-piece-len.result.now c.index-then-piece-len.ensures (omega arith) in
    c.part_way.ensures ∙ on_piece s.values.items s.lengths.items s.number k s.place.begin d c.index.result.now
    c.index-then-piece-len.result.now c.self.invariant.2 in_it ed here next
    ∙ ap (λ v. clamp (on_pieces v.values v.lengths v.number)) c.self.view_is

pub returns-else-piece-len : goal.returns-else-piece-len
returns-else-piece-len c =
    let s = c.self.inside in
    let k : ℕ = s.place.piece in
    let ends = c.self.invariant.0 in
    let place = c.self.invariant.2 in
    let real = place.real in
    let z = c.index-else-piece-len.result.now in
    let value : z ≡ argument s.values.items k = read s.values.items k z c.index-else-piece-len.ensures (omega arith) in
    let same : c.of_raw.result ≡ clamp c.raw.result = search rules in
    same ∙ ap clamp c.raw.ensures.value ∙ last_value s.values.items s.lengths.items s.number k s.place.begin z place
    (omega (arith, c.len.ensures, c.if-piece-len.false)) value
    ∙ ap (λ v. clamp (on_pieces v.values v.lengths v.number)) c.self.view_is
