use Rattle.std.proofs.Common.{◌≡◌, ◌<◌, ◌+◌, ◌∙◌, ◌&&◌, ap, arith, refl}
use Rattle.cs_base.specs.Rates.{same_res}
use Rattle.cs_cells.specs.Cells.{cell}
use Rattle.cs_ir.specs.Resources.{places_of, reaches, zak_place}
use Rattle.cs_meaning.specs.Pieces.{index}
use Rattle.cs_machine.specs.inner.Numbers.{cleared_in, clears, end_of, from_of}
use Rattle.cs_machine.proofs.Clearing.{all_cleared, cleared_twice, clears_more, none_cleared, nothing_cleared}
use Rattle.cs_machine.proofs.Writing.{set_again}
use Rattle.cs_machine.proofs.zak.clear_places.Goals as goal

pub loop-n-init : goal.loop-n-init
loop-n-init g c = record {
  cells = nothing_cleared c.args.at.now.layout.now
      (clears c.args.space c.args.reach c.from_of-from.result c.from_of-from.result)
      (cell (g.B.Bank.cells c.args.bank.now)) (none_cleared c.args.space c.args.reach c.from_of-from.result);
  from = omega arith;
  within = c.from_of-from.ensures.within;
  rest = refl;
}

pub clear_place-requires-clause-write : goal.clear_place-requires-clause-write
clear_place-requires-clause-write g c area reached at =
    set_again g.B.Bank.access (g.B.Bank.rest c.args.bank.now) (g.B.Bank.rest c.loop-n.bank) area
    c.loop-n.invariant.rest (c.requires.write c.loop-n.n area low reached at)
  where
    low : c.loop-n.n < places_of c.args.at.now.spaces c.args.space
    low =
        let before = c.loop-n-test.true in
        let within = c.end_of-end.ensures.within in
        let places = c.places_of-places.ensures in
        omega arith

pub loop-n-preserved : goal.loop-n-preserved
loop-n-preserved g c = record {
  cells = c.clear_place.ensures.cells ∙ ap (cleared_in c.args.at.now.layout.now
      (λ r. reaches c.args.reach c.loop-n.n && same_res r (zak_place c.args.space c.loop-n.n))) c.loop-n.invariant.cells
      ∙ cleared_twice c.args.at.now.layout.now (clears c.args.space c.args.reach c.from_of-from.result c.loop-n.n)
      (λ r. reaches c.args.reach c.loop-n.n && same_res r (zak_place c.args.space c.loop-n.n))
      (clears c.args.space c.args.reach c.from_of-from.result (c.loop-n.n + 1)) (cell (g.B.Bank.cells c.args.bank.now))
      (clears_more c.args.space c.args.reach c.from_of-from.result c.loop-n.n c.loop-n.invariant.from);
  from = let low = c.loop-n.invariant.from in omega arith;
  within = let before = c.loop-n-test.true in omega arith;
  rest = c.clear_place.ensures.rest ∙ c.loop-n.invariant.rest;
}

pub returns-clause-cells : goal.returns-clause-cells
returns-clause-cells g c piece same =
    let at_end : c.loop-n.n ≡ c.end_of-end.result =
    (let past = c.loop-n-test.false in let within = c.loop-n.invariant.within in omega arith) in
    let cells = cell (g.B.Bank.cells c.args.bank.now) in
    let places = places_of c.args.at.now.spaces c.args.space in
    c.loop-n.invariant.cells
    ∙ ap (λ n. cleared_in c.args.at.now.layout.now (clears c.args.space c.args.reach c.from_of-from.result n) cells)
    (at_end ∙ end) ∙ ap (λ m. cleared_in c.args.at.now.layout.now
    (clears c.args.space c.args.reach m (end_of places (index c.args.last))) cells)
    (c.from_of-from.ensures.value ∙ ap (λ e. from_of e c.index-since.result) end
    ∙ ap (from_of (end_of places (index c.args.last))) c.index-since.ensures)
    ∙ all_cleared c.args.at.now.layout.now piece c.args.at.now.spaces c.requires.spaces c.requires.zak same c.args.space
    c.args.reach c.args.first c.args.last cells c.words-places.ensures.laid
  where
    end : c.end_of-end.result ≡ end_of (places_of c.args.at.now.spaces c.args.space) (index c.args.last)
    end = c.end_of-end.ensures.value ∙ ap (λ k. end_of k c.index-to.result) c.places_of-places.ensures
        ∙ ap (end_of (places_of c.args.at.now.spaces c.args.space)) c.index-to.ensures
