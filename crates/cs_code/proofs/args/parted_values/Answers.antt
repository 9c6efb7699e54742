use Rattle.std.proofs.Common.{◌≡◌, ◌∙◌, ◌+◌, ◌∷◌, List, map, drop, arith, refl, ap}
use Rattle.cs_typed.specs.TypedTree.{Argument, argument}
use Rattle.cs_words.specs.Catalogue.{row_of, letter_at, is_settled}
use Rattle.cs_code.specs.inner.Emitted.{expressions_of}
use Rattle.cs_code.proofs.Lists.{settled_more, moving_more, dropped}
use Rattle.cs_code.proofs.args.parted_values.Goals as goal

pub loop-arg-preserved : goal.loop-arg-preserved
loop-arg-preserved c =
    let was = c.loop-arg.invariant in
    let i = c.loop-arg.arg-index in
    let x = c.arg-item.result in
    let row = row_of c.args.call.now.opcode in
    let args : List Argument = map argument (drop i c.args.call.now.args.now) in
    let rest : List Argument = map argument (drop (i + 1) c.args.call.now.args.now) in
    let split : args ≡ argument x ∷ rest =
    ap (map argument) (dropped c.args.call.now.args.now i x (omega arith) c.arg-item.is) in
    let made = c.in_ok-add.ensures in
    let n = c.loop-arg.place in
    let m = n + 1 in
    let on : m ≡ n + 1 = refl in
    let settles = is_settled c.letter.result in
    let took : settles ≡ is_settled (letter_at row n) =
    ap is_settled (c.letter.ensures ∙ ap (λ s. letter_at s n) c.signature_of-row.ensures) in (
      on ∙ ap (λ k. k + 1) was.0,
      settled_more row args n m (argument x) rest settles (expressions_of c.loop-arg.parted.settled.items)
          (expressions_of c.add.new.self.settled.items) _ split took on made.settled was.1,
      moving_more row args n m (argument x) rest settles (expressions_of c.loop-arg.parted.moving.items)
          (expressions_of c.add.new.self.moving.items) _ split took on made.moving was.2,
    )
