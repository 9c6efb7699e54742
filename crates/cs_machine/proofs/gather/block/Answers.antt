use Rattle.std.proofs.Common.{◌≡◌, ◌∙◌, ◌≤◌, ℤ, List, [], ◌∷◌, ◌++◌, ap, arith, length, min, subst, sym, take}
use Rattle.std.proofs.lemmas.List.{length-take, Elements.All-cons, Elements.All-nil, Elements.All-take}
use Rattle.std.specs.List.{All}
use Rattle.cs_cells.specs.Cells.{cell}
use Rattle.cs_ir.specs.{Placed.regs_read, declared.register.Reg.Reg}
use Rattle.cs_machine.specs.{Players.PlayerData, Players.curve_at, Registers.values}
use Rattle.cs_machine.proofs.Gathered.{same_inputs, three_stand}
use Rattle.cs_signal.specs.{Operands.Lasts, Steps.run, declared.operand.Operand.Operand}
use Rattle.cs_ugen.specs.Units.{inputs_at, unit_step}
use Rattle.cs_machine.proofs.gather.block.Goals as goal

pub block-requires-clause-count : goal.block-requires-clause-count
block-requires-clause-count g c =
    let n = c.len-then-len-le-FEW_INPUTS.result in
    let long : min n 3 ≡ length (regs_read c.args.from) =
    omega (arith, c.len.ensures, c.if-len-le-FEW_INPUTS.true, c.len-then-len-le-FEW_INPUTS.ensures) in
    length-take n (c.operand_at.result ∷ c.operand_at-then-len-le-FEW_INPUTS.result
    ∷ c.operand_at-then-len-le-FEW_INPUTS-2.result ∷ []) ∙ long ∙ c.requires.count

pub block-requires-clause-last : goal.block-requires-clause-last
block-requires-clause-last g c =
    let P = Lasts c.args.regs.now.ksmps in
    let a : Operand = c.operand_at.result in
    let b : Operand = c.operand_at-then-len-le-FEW_INPUTS.result in
    let d : Operand = c.operand_at-then-len-le-FEW_INPUTS-2.result in
    let n = c.len-then-len-le-FEW_INPUTS.result in
    subst (λ k. All (Lasts k) (take n (a ∷ b ∷ d ∷ []))) (sym c.requires.row) (All-take P n (a ∷ b ∷ d ∷ [])
    (All-cons P a (b ∷ d ∷ []) c.operand_at.ensures.lasts
    (All-cons P b (d ∷ []) c.operand_at-then-len-le-FEW_INPUTS.ensures.lasts
    (All-cons P d [] c.operand_at-then-len-le-FEW_INPUTS-2.ensures.lasts (All-nil P)))))

pub block-requires-clause-read : goal.block-requires-clause-read
block-requires-clause-read g c = c.requires.read

pub block_on_many-requires-clause-read : goal.block_on_many-requires-clause-read
block_on_many-requires-clause-read g c = c.requires.read

pub returns-then-len-le-FEW_INPUTS-clause-value : goal.returns-then-len-le-FEW_INPUTS-clause-value
returns-then-len-le-FEW_INPUTS-clause-value g c =
    let p : PlayerData = c.args.player.now in
    let points : List ℤ = curve_at p.points p.area (cell (g.B.Bank.cells c.args.bank.now)) in
    let from : List Reg = regs_read c.args.from in
    let few : length from ≤ 3 = omega (arith, c.len.ensures, c.if-len-le-FEW_INPUTS.true) in
    let a : Operand = c.operand_at.result in
    let b : Operand = c.operand_at-then-len-le-FEW_INPUTS.result in
    let d : Operand = c.operand_at-then-len-le-FEW_INPUTS-2.result in
    c.block.ensures.value
    ∙ ap (λ n. run unit_step (λ j. inputs_at (take n (a ∷ b ∷ d ∷ [])) j ++ points) p.state 0 (length c.args.row.now))
    c.len-then-len-le-FEW_INPUTS.ensures ∙ ap (λ at. run unit_step at p.state 0 (length c.args.row.now))
    (same_inputs (values c.args.regs.now) (a ∷ b ∷ d ∷ []) from points few
    (three_stand (values c.args.regs.now) from a b d c.operand_at.ensures.stands
    c.operand_at-then-len-le-FEW_INPUTS.ensures.stands c.operand_at-then-len-le-FEW_INPUTS-2.ensures.stands few))

pub returns-then-len-le-FEW_INPUTS-clause-player : goal.returns-then-len-le-FEW_INPUTS-clause-player
returns-then-len-le-FEW_INPUTS-clause-player g c = c.block.ensures.player

pub returns-else-len-le-FEW_INPUTS-clause-value : goal.returns-else-len-le-FEW_INPUTS-clause-value
returns-else-len-le-FEW_INPUTS-clause-value g c = c.block_on_many.ensures.value

pub returns-else-len-le-FEW_INPUTS-clause-player : goal.returns-else-len-le-FEW_INPUTS-clause-player
returns-else-len-le-FEW_INPUTS-clause-player g c = c.block_on_many.ensures.player
