use Rattle.std.proofs.Common.{◌≡◌, length, ap, arith, rules, subst, ℕ}
use Rattle.std.specs.Global.{Vec}
use Rattle.cs_cells.specs.{Access.AllowsBelow, Access.full_access, Areas.word_count}
use Rattle.cs_rows_trial.proofs.notes.begin.Goals as goal

pub start-requires-clause-tables : goal.start-requires-clause-tables
start-requires-clause-tables c = c.stage-stage.ensures.stage.can_be_played _ (search rules)

pub start-requires-clause-access : goal.start-requires-clause-access
start-requires-clause-access c =
    let areas = c.stage-stage.result.layout.now in
    let long = ap (λ (v : Vec ℕ). length v.items) c.new-bank.ensures.words in
    let laid = ap word_count c.stage-stage.ensures.layout in
    let same : word_count areas ≡ length c.new-bank.result.words.now.items = omega (arith, long, laid, c.requires) in
    subst (λ n. AllowsBelow (full_access n) (word_count areas)) same
    (record { get = λ a l. l; set = λ a l. l; there = λ a l. l })
