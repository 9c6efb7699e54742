use Rattle.std.proofs.Common.{◌∙◌, ap, sym, subst}
use Rattle.cs_gen.specs.Tables.{curve_of}
use Rattle.cs_ugen.specs.Points.{IsCurve, curve_len}
use Rattle.cs_cells.specs.Cells.{cell}
use Rattle.cs_machine.specs.Access.{live_points}
use Rattle.cs_machine.proofs.Curved.{live_curve, live_len}
use Rattle.cs_machine.proofs.live.LiveTableCurve.len.Goals as goal

pub returns-clause-value : goal.returns-clause-value
returns-clause-value g c =
    c.self.invariant.len_is ∙ sym (live_len c.self.inside.area (cell (g.B.Bank.cells c.self.inside.bank.now)))
    ∙ ap (λ v. curve_len (curve_of (live_points v.area (cell (g.B.Bank.cells v.bank))))) c.self.view_is

pub returns-clause-curve : goal.returns-clause-curve
returns-clause-curve g c =
    subst (λ v. IsCurve (curve_of (live_points v.area (cell (g.B.Bank.cells v.bank))))) c.self.view_is
    (live_curve c.self.inside.area (cell (g.B.Bank.cells c.self.inside.bank.now)) c.self.invariant.power)
