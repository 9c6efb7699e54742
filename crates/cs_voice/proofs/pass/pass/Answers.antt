use Rattle.std.proofs.Common.{inr, refl, rules, subst, sym}
use Rattle.std.proofs.lemmas.Result.{IfOk-weaker}
use Rattle.cs_cells.specs.Cells.{cell}
use Rattle.cs_voice.specs.{Passing.Passes, Starts.sheet_for}
use Rattle.cs_voice.proofs.Began.{can_pass}
use Rattle.cs_voice.proofs.pass.pass.Goals as goal

pub run-passed-requires : goal.run-passed-requires
run-passed-requires g c = inr (
  c.init-code.result.now,
  sheet_for c.args.note.now c.args.finds.now.at.fields.now,
  refl,
  refl,
  can_pass (g.B.Bank.access (g.B.Bank.rest c.args.bank.now)) c.args.finds.now c.args.note.now
      c.args.finds.now.at.fields.now c.init-code.result.now c.args.state.now c.init-code.ensures.same
      c.init-code.ensures.valid c.requires,
)

pub returns-clause-passes : goal.returns-clause-passes
returns-clause-passes g c = IfOk-weaker c.run-passed.result _ _
    (λ refused made fields given.
    let before = cell (g.B.Bank.cells c.args.bank.now) in
    let after = cell (g.B.Bank.cells c.run-passed.new.bank) in
    let passes : Passes (sheet_for c.args.note.now fields) c.args.state.now before c.swap.new.y.items
    c.run-passed.new.state after c.give_asks.new.asks.items refused =
    subst (λ f. Passes (sheet_for c.args.note.now f) c.args.state.now before c.swap.new.y.items
    c.run-passed.new.state after c.give_asks.new.asks.items refused) given
    (subst (λ asks. Passes (sheet_for c.args.note.now c.args.finds.now.at.fields.now) c.args.state.now before
    c.swap.new.y.items c.run-passed.new.state after asks refused) (sym c.give_asks.ensures)
    (made c.args.finds.now c.args.note.now.made.now c.init-code.result.now
    (sheet_for c.args.note.now c.args.finds.now.at.fields.now) refl refl refl
    (can_pass (g.B.Bank.access (g.B.Bank.rest c.args.bank.now)) c.args.finds.now c.args.note.now
    c.args.finds.now.at.fields.now c.init-code.result.now c.args.state.now c.init-code.ensures.same
    c.init-code.ensures.valid c.requires))) in
    search rules) c.run-passed.ensures.passes
