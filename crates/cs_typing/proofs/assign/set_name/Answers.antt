use Rattle.std.proofs.Common.{◌∙◌, sym}
use Rattle.cs_grammar.specs.Tree.{expression}
use Rattle.cs_typing.specs.{Expressions.expression_by, Settings.at, Statements.set_fault_by, inner.Answers.Judged}
use Rattle.cs_typing.specs.{inner.Held.known_of, inner.Routines.knows_in, inner.Routines.variable_in}
use Rattle.cs_typing.proofs.Answers.{failed}
use Rattle.cs_typed.specs.TypedTree as typed
use Rattle.cs_typing.proofs.assign.set_name.Goals as goal

pub returns-in_err-set-clause-fault : goal.returns-in_err-set-clause-fault
returns-in_err-set-clause-fault c =
    failed (λ r. Judged r (at c.args.line (set_fault_by c.args.setting (knows_in (known_of c.args.names.now))
    c.args.name.now (expression c.args.e.now)))) c.from_residual.result _ c.from_residual.ensures.1
    (c.in_err-set.ensures.fault c.args.name.now (sym c.name_rate.ensures))

pub returns-clause-fault : goal.returns-clause-fault
returns-clause-fault c = c.in_ok-set.ensures.fault c.args.name.now (sym c.name_rate.ensures)

pub returns-clause-made : goal.returns-clause-made
returns-clause-made c =
    let value = expression_by (variable_in (known_of c.args.names.now)) (expression c.args.e.now) in
    λ rs. c.in_ok-set.ensures.made rs ∙ λ i. typed.then_block (typed.block rs c.args.done.now.items)
    (typed.alone (typed.set c.args.line (c.name_rate.ensures i) (c.variable.ensures i) value))
