use Rattle.std.proofs.Common.{◌∙◌, ◌&&◌, ap, subst, sym}
use Rattle.cs_base.specs.Rates.{same_res}
use Rattle.cs_cells.specs.Cells.{cell}
use Rattle.cs_ir.specs.Resources.{reaches, zak_place}
use Rattle.cs_voice_meaning.specs.Placing.{HasArea, area_of}
use Rattle.cs_machine.specs.inner.Numbers.{cleared_in}
use Rattle.cs_machine.proofs.Clearing.{has_area, nothing_cleared, one_cleared}
use Rattle.cs_machine.proofs.zak.clear_place.Goals as goal

pub area_in-area-requires : goal.area_in-area-requires
area_in-area-requires g c = subst (HasArea c.args.at.now.layout.now) (sym c.zak_place.ensures)
    (has_area c.args.at.now.layout.now c.args.at.now.spaces c.args.space c.args.number c.requires.spaces c.requires.zak
    c.requires.number)

pub clear-requires-clause-write : goal.clear-requires-clause-write
clear-requires-clause-write g c = c.requires.write c.area_in-area.result (sym c.contains.ensures ∙ c.if-contains.true)
    (ap (area_of c.args.at.now.layout.now) (sym c.zak_place.ensures) ∙ c.area_in-area.ensures.value)

pub returns-then-contains-clause-cells : goal.returns-then-contains-clause-cells
returns-then-contains-clause-cells g c =
    let before = cell (g.B.Bank.cells c.args.bank.now) in
    c.clear.ensures.cells
    ∙ one_cleared c.args.at.now.layout.now (zak_place c.args.space c.args.number) c.area_in-area.result before
    c.words.ensures.laid
    (ap (area_of c.args.at.now.layout.now) (sym c.zak_place.ensures) ∙ c.area_in-area.ensures.value)
    ∙ ap (λ b. cleared_in c.args.at.now.layout.now (λ r. b && same_res r (zak_place c.args.space c.args.number)) before)
    (sym (sym c.contains.ensures ∙ c.if-contains.true))

pub returns-else-contains-clause-cells : goal.returns-else-contains-clause-cells
returns-else-contains-clause-cells g c = nothing_cleared c.args.at.now.layout.now
    (λ r. reaches c.args.reach c.args.number && same_res r (zak_place c.args.space c.args.number))
    (cell (g.B.Bank.cells c.args.bank.now)) (λ r. ap (λ b. b && same_res r (zak_place c.args.space c.args.number))
    (sym c.contains.ensures ∙ c.if-contains.false))
