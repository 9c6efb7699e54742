use Rattle.std.proofs.Common.{◌∙◌, ap, refl, subst, sym}
use Rattle.cs_base.specs.Rates.{res_rate}
use Rattle.cs_cells.specs.Cells.{cell}
use Rattle.cs_ir.specs.Machine.{write}
use Rattle.cs_machine.specs.{Registers.IsWritten, States.machine_of}
use Rattle.cs_voice_meaning.specs.Placing.{area_of, wave_in, wave_of}
use Rattle.cs_machine.proofs.Done.{writes}
use Rattle.cs_voice.proofs.shared.load.Goals as goal

pub returns-clause-does : goal.returns-clause-does
returns-clause-does g c = λ areas piece stock kinds counts at placed state.
    let before = cell (g.B.Bank.cells c.args.bank.now) in
    writes (wave_in (res_rate c.args.res) c.area_in-area.result before)
    (record { players = refl; outs = refl; delays = refl; ended = refl }) (ap cell c.read.ensures.same) state
    (subst (λ r. IsWritten c.args.state.now.regs c.args.into (wave_in r c.area_in-area.result before) c.read.new.regs)
    c.rate.ensures c.read.ensures.values) c.read.ensures.row
    (λ next asks cause. ap (λ o. write piece.head.ksmps c.args.into (wave_of o (res_rate c.args.res) before)
    (machine_of c.args.state.now before next asks cause))
    (ap (λ l. area_of l c.args.res) (sym at.layout) ∙ c.area_in-area.ensures.value))
