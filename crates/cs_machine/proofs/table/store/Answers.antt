use Rattle.std.proofs.Common.{◌≡◌, ◌∙◌, ◌<◌, ap, arith, refl, Some}
use Rattle.cs_gen.specs.{Points.len_of, Places.place_of_index}
use Rattle.cs_signal.specs.Operands.{operand_at}
use Rattle.cs_cells.specs.Cells.{cell}
use Rattle.cs_meaning.specs.Pieces.{stored}
use Rattle.cs_voice_meaning.specs.Placing.{wave_in, with_wave}
use Rattle.cs_machine.proofs.{Curved.some_points, Curved.place_within, Writing.set_again, Writing.within_here}
use Rattle.cs_machine.proofs.Storing.{none_stored, one_stored, in_table}
use Rattle.cs_base.specs.declared.resource.Rate.TheVariants as rate
use Rattle.cs_machine.proofs.table.store.Goals as goal

pub loop-j-init : goal.loop-j-init
loop-j-init g c = record { cells = none_stored c.args.area (cell (g.B.Bank.cells c.args.bank.now)); rest = refl }

pub place_of_index-place-requires : goal.place_of_index-place-requires
place_of_index-place-requires g c = let some = some_points c.args.area.length c.requires.power in let is =
    c.len_of-len.ensures in omega (arith, some, is)

pub set_frame-requires-clause-frame : goal.set_frame-requires-clause-frame
set_frame-requires-clause-frame g c =
    place_within c.args.area.length c.place_of_index-place.result
    (let low = c.place_of_index-place.ensures.inside in let is = c.len_of-len.ensures in omega (arith, low, is))

pub set_frame-requires-clause-write : goal.set_frame-requires-clause-write
set_frame-requires-clause-write g c =
    set_again g.B.Bank.access (g.B.Bank.rest c.args.bank.now) (g.B.Bank.rest c.loop-j.bank) c.args.area
    c.loop-j.invariant.rest c.requires.write

pub loop-j-preserved : goal.loop-j-preserved
loop-j-preserved g c =
    let low : c.place_of_index-place.result < c.args.area.length =
    place_within c.args.area.length c.place_of_index-place.result
    (let l = c.place_of_index-place.ensures.inside in let is = c.len_of-len.ensures in omega (arith, l, is)) in
    let access = g.B.Bank.access (g.B.Bank.rest c.loop-j.bank) in
    let can = set_again g.B.Bank.access (g.B.Bank.rest c.args.bank.now) (g.B.Bank.rest c.loop-j.bank) c.args.area
    c.loop-j.invariant.rest c.requires.write in
    record {
      cells = ap cell c.set_frame.ensures.cells
          ∙ one_stored (g.B.Bank.cells c.loop-j.bank) (cell (g.B.Bank.cells c.args.bank.now)) c.args.area
          (λ j. place_of_index (len_of c.args.area.length) (operand_at c.args.ndx.now j)) (operand_at c.args.sig.now)
          (wave_in rate.Audio c.args.area (cell (g.B.Bank.cells c.args.bank.now))) c.loop-j.j
          c.place_of_index-place.result c.at-in-loop-j.result c.loop-j.invariant.cells
          (c.place_of_index-place.ensures.value ∙ ap (λ n. place_of_index n c.at.result) c.len_of-len.ensures
          ∙ ap (place_of_index (len_of c.args.area.length)) c.at.ensures) low
          (within_here access.can_set access.count (g.B.Bank.cells c.loop-j.bank) c.args.area
          c.place_of_index-place.result (g.met.B.Bank.counted c.loop-j.bank) can low) c.at-in-loop-j.ensures;
      rest = c.set_frame.ensures.rest ∙ c.loop-j.invariant.rest;
    }

pub returns-clause-cells : goal.returns-clause-cells
returns-clause-cells g c t size =
    in_table t c.args.area (operand_at c.args.ndx.now) (operand_at c.args.sig.now)
    (wave_in rate.Audio c.args.area (cell (g.B.Bank.cells c.args.bank.now))) c.args.steps
    (cell (g.B.Bank.cells c.args.bank.now)) (cell (g.B.Bank.cells c.loop-j.bank)) size (c.loop-j.invariant.cells
    ∙ ap (λ n. with_wave (Some c.args.area)
    (stored (λ j. place_of_index (len_of c.args.area.length) (operand_at c.args.ndx.now j)) (operand_at c.args.sig.now)
    n (wave_in rate.Audio c.args.area (cell (g.B.Bank.cells c.args.bank.now)))) (cell (g.B.Bank.cells c.args.bank.now)))
    (let e : c.loop-j.j ≡ c.args.steps = omega (arith, c.loop-j-test.false) in e))
