use Rattle.std.proofs.Common.{◌∙◌, ◌+◌, ◌<◌, ◌≤◌, ap, arith, refl, sym, subst}
use Rattle.cs_gen.specs.Tables.{curve_of}
use Rattle.cs_ugen.specs.Points.{curve_len}
use Rattle.cs_signal.specs.Operands.{argument}
use Rattle.cs_cells.specs.Cells.{cell}
use Rattle.cs_machine.specs.Access.{live_points}
use Rattle.cs_machine.proofs.Curved.{guard_within, read_guard, read_there}
use Rattle.cs_machine.proofs.live.LiveTableCurve.at.Goals as goal

pub get_frame-requires-else-place-self-clause-frame : goal.get_frame-requires-else-place-self-clause-frame
get_frame-requires-else-place-self-clause-frame g c =
    subst (λ n. n < c.self.inside.area.length) (sym c.self.invariant.guard_is)
    (guard_within c.self.inside.area.length c.self.invariant.power)

pub returns-then-place-self-clause-value : goal.returns-then-place-self-clause-value
returns-then-place-self-clause-value g c =
    read_there c.self.inside.area (cell (g.B.Bank.cells c.self.inside.bank.now)) c.args.place c.args.place
    c.get_frame.result
    (let l = c.if-place-self.true in let is = c.self.invariant.len_is in omega (arith, l, is)) refl
    c.get_frame.ensures.value
    ∙ ap (λ v. argument (curve_of (live_points v.area (cell (g.B.Bank.cells v.bank)))) c.args.place) c.self.view_is

pub returns-else-place-self-clause-value : goal.returns-else-place-self-clause-value
returns-else-place-self-clause-value g c =
    read_guard c.self.inside.area (cell (g.B.Bank.cells c.self.inside.bank.now)) c.args.place
    c.get_frame-else-place-self.result c.self.invariant.power
    (subst (λ v. c.args.place ≤ curve_len (curve_of (live_points v.area (cell (g.B.Bank.cells v.bank)))))
    (sym c.self.view_is) c.requires)
    (let l = c.if-place-self.false in let is = c.self.invariant.len_is in omega (arith, l, is))
    (c.get_frame-else-place-self.ensures.value
    ∙ ap (λ n. cell (g.B.Bank.cells c.self.inside.bank.now) (c.self.inside.area.first + n)) c.self.invariant.guard_is)
    ∙ ap (λ v. argument (curve_of (live_points v.area (cell (g.B.Bank.cells v.bank)))) c.args.place) c.self.view_is
