use Rattle.std.proofs.Common.{◌∙◌, ◌≤◌, ◌++◌, ℤ, List, [], ◌∷◌, ap, arith, length, take}
use Rattle.cs_cells.specs.Cells.{cell}
use Rattle.cs_ir.specs.{Placed.regs_read, declared.register.Reg.Reg}
use Rattle.cs_machine.specs.{Players.PlayerData, Players.curve_at, Registers.values}
use Rattle.cs_machine.proofs.Gathered.{few, same_firsts}
use Rattle.cs_ugen.specs.{Units.unit_step, declared.unit.UnitState.UnitState}
use Rattle.cs_machine.proofs.gather.step_on_many.Goals as goal

pub firsts-inputs-requires-clause-few : goal.firsts-inputs-requires-clause-few
firsts-inputs-requires-clause-few g c =
    few c.args.player.now.state (length (regs_read c.args.from)) c.requires.count

pub returns-clause-value : goal.returns-clause-value
returns-clause-value g c =
    let p : PlayerData = c.args.player.now in
    let points : List ℤ = curve_at p.points p.area (cell (g.B.Bank.cells c.args.bank.now)) in
    let from : List Reg = regs_read c.args.from in
    let most : length from ≤ 7 = few p.state (length from) c.requires.count in
    let long : length from ≤ length c.firsts-inputs.result = omega (arith, most, c.firsts-inputs.ensures.long) in
    ap (λ (r : UnitState × ℤ). (r.0, r.1 ∷ [])) (c.step.ensures.value
    ∙ ap (λ n. unit_step p.state (take n c.firsts-inputs.result ++ points)) c.len.ensures
    ∙ ap (λ xs. unit_step p.state (xs ++ points))
    (same_firsts (values c.args.regs.now) c.firsts-inputs.result from long c.firsts-inputs.ensures.first))
