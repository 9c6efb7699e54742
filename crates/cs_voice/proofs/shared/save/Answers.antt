use Rattle.std.proofs.Common.{◌≡◌, ◌∙◌, Some, ap, refl, subst, sym}
use Rattle.cs_base.specs.Rates.{res_rate}
use Rattle.cs_cells.specs.Cells.{cell}
use Rattle.cs_ir.specs.Waves.{held}
use Rattle.cs_machine.specs.{Registers.values, States.machine_of}
use Rattle.cs_voice_meaning.specs.Placing.{area_of, with_wave}
use Rattle.cs_machine.proofs.Done.{changes}
use Rattle.cs_voice.proofs.Sharing.{saved_here}
use Rattle.cs_voice.proofs.shared.save.Goals as goal

pub returns-clause-does : goal.returns-clause-does
returns-clause-does g c = λ into areas piece stock kinds counts at placed state.
    let before = cell (g.B.Bank.cells c.args.bank.now) in
    let after = cell (g.B.Bank.cells c.write.new.bank) in
    let w = values c.args.state.now.regs c.args.x in
    let ksmps = c.args.state.now.regs.ksmps in
    changes (record { regs = refl; rest = record { players = refl; outs = refl; delays = refl; ended = refl } }) state
    c.write.ensures.row
    (λ next asks cause. ap (λ cells. machine_of c.args.state.now cells next asks cause)
    (saved_here areas c.args.res c.area_in-area.result (res_rate c.args.res) w ksmps
    piece.head.ksmps before after (ap (λ l. area_of l c.args.res) (sym at.layout) ∙ c.area_in-area.ensures.value)
    state.frames (subst (λ r. after ≡ with_wave (Some c.area_in-area.result) (held ksmps r w) before) c.rate.ensures
    c.write.ensures.cells)))
