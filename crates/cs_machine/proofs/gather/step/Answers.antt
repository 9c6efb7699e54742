use Rattle.std.proofs.Common.{◌∙◌, ◌≤◌, ◌++◌, ℤ, List, [], ◌∷◌, ap, arith, length, take}
use Rattle.cs_cells.specs.Cells.{cell}
use Rattle.cs_ir.specs.{Placed.regs_read, declared.register.Reg.Reg}
use Rattle.cs_machine.specs.{Players.PlayerData, Players.curve_at, Registers.values}
use Rattle.cs_machine.proofs.Gathered.{same_firsts, three_first}
use Rattle.cs_ugen.specs.{Units.unit_step, declared.unit.UnitState.UnitState}
use Rattle.cs_machine.proofs.gather.step.Goals as goal

pub returns-then-len-le-FEW_INPUTS-clause-value : goal.returns-then-len-le-FEW_INPUTS-clause-value
returns-then-len-le-FEW_INPUTS-clause-value g c =
    let p : PlayerData = c.args.player.now in
    let points : List ℤ = curve_at p.points p.area (cell (g.B.Bank.cells c.args.bank.now)) in
    let from : List Reg = regs_read c.args.from in
    let few : length from ≤ 3 = omega (arith, c.len.ensures, c.if-len-le-FEW_INPUTS.true) in
    let a : ℤ = c.first_at.result in
    let b : ℤ = c.first_at-then-len-le-FEW_INPUTS.result in
    let d : ℤ = c.first_at-then-len-le-FEW_INPUTS-2.result in
    ap (λ (r : UnitState × ℤ). (r.0, r.1 ∷ [])) (c.step.ensures.value
    ∙ ap (λ n. unit_step p.state (take n (a ∷ b ∷ d ∷ []) ++ points)) c.len-then-len-le-FEW_INPUTS.ensures
    ∙ ap (λ xs. unit_step p.state (xs ++ points)) (same_firsts (values c.args.regs.now) (a ∷ b ∷ d ∷ []) from few
    (three_first (values c.args.regs.now) from a b d c.first_at.ensures
    c.first_at-then-len-le-FEW_INPUTS.ensures c.first_at-then-len-le-FEW_INPUTS-2.ensures few)))
