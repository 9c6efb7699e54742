use Rattle.std.proofs.Common.{◌≡◌, ◌++◌, ◌∷◌, [], List, Some, pos, sym, ap, ◌∙◌, arith, get_or}
use Rattle.std.proofs.lemmas.Option.{slice_get-get_or}
use Rattle.std.specs.Prelude.{ℤ}
use Rattle.cs_desk.proofs.Ending.{took}
use Rattle.cs_desk.proofs.plain.numbers_of.Goals as goal

pub loop-addr-preserved : goal.loop-addr-preserved
loop-addr-preserved g c =
    let cells : List ℤ = g.B.Bank.cells c.args.bank.now in
    let n = c.loop-addr.addr in
    let i = c.loop-addr.invariant in
    let value : c.get.result ≡ get_or cells n (pos 0) = c.get.ensures.value ∙ ap (λ l. get_or l n (pos 0)) i.0 in (
      c.get.ensures.cells ∙ i.0,
      c.get.ensures.rest ∙ i.1,
      c.push_reserved.ensures.items ∙ ap (λ l. l ++ c.get.result ∷ []) i.2
          ∙ sym (took cells n c.get.result
          (slice_get-get_or cells n (pos 0) (omega (arith, c.loop-addr-test.true, c.requires.count))
          ∙ ap Some (sym value))),
      omega (arith, c.push_reserved.ensures.capacity, i.3),
    )
