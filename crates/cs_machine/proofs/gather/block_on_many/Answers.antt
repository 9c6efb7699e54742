use Rattle.std.proofs.Common.{◌≡◌, ◌∙◌, ◌≤◌, ℤ, List, ◌++◌, ap, arith, length, min, subst, sym, take}
use Rattle.std.proofs.lemmas.List.{length-take, Elements.All-take}
use Rattle.std.specs.List.{All}
use Rattle.cs_cells.specs.Cells.{cell}
use Rattle.cs_ir.specs.{Placed.regs_read, declared.register.Reg.Reg}
use Rattle.cs_machine.specs.{Players.PlayerData, Players.curve_at, Registers.values}
use Rattle.cs_machine.proofs.Gathered.{few, same_inputs}
use Rattle.cs_signal.specs.{Operands.Lasts, Steps.run}
use Rattle.cs_ugen.specs.Units.{inputs_at, unit_step}
use Rattle.cs_machine.proofs.gather.block_on_many.Goals as goal

pub operands-inputs-requires-clause-few : goal.operands-inputs-requires-clause-few
operands-inputs-requires-clause-few g c =
    few c.args.player.now.state (length (regs_read c.args.from)) c.requires.count

pub block-requires-clause-count : goal.block-requires-clause-count
block-requires-clause-count g c =
    let long : min c.len.result (length c.operands-inputs.result) ≡ length (regs_read c.args.from) =
    omega (
      arith,
      c.len.ensures,
      c.operands-inputs.ensures.long,
      few c.args.player.now.state (length (regs_read c.args.from)) c.requires.count,
    ) in
    length-take c.len.result c.operands-inputs.result ∙ long ∙ c.requires.count

pub block-requires-clause-last : goal.block-requires-clause-last
block-requires-clause-last g c =
    subst (λ n. All (Lasts n) (take c.len.result c.operands-inputs.result)) (sym c.requires.row)
    (All-take (Lasts c.args.regs.now.ksmps) c.len.result c.operands-inputs.result c.operands-inputs.ensures.last)

pub block-requires-clause-read : goal.block-requires-clause-read
block-requires-clause-read g c = c.requires.read

pub returns-clause-value : goal.returns-clause-value
returns-clause-value g c =
    let p : PlayerData = c.args.player.now in
    let points : List ℤ = curve_at p.points p.area (cell (g.B.Bank.cells c.args.bank.now)) in
    let from : List Reg = regs_read c.args.from in
    let most : length from ≤ 7 = few p.state (length from) c.requires.count in
    let long : length from ≤ length c.operands-inputs.result =
    omega (arith, most, c.operands-inputs.ensures.long) in
    c.block.ensures.value
    ∙ ap (λ n. run unit_step (λ j. inputs_at (take n c.operands-inputs.result) j ++ points) p.state 0
    (length c.args.row.now)) c.len.ensures ∙ ap (λ at. run unit_step at p.state 0 (length c.args.row.now))
    (same_inputs (values c.args.regs.now) c.operands-inputs.result from points long c.operands-inputs.ensures.stand)

pub returns-clause-player : goal.returns-clause-player
returns-clause-player g c = c.block.ensures.player

pub returns-clause-same : goal.returns-clause-same
returns-clause-same g c = c.block.ensures.same

pub returns-clause-rest : goal.returns-clause-rest
returns-clause-rest g c = c.block.ensures.rest
