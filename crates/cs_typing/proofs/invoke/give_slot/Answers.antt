use Rattle.std.proofs.Common.{◌≡◌, ◌∙◌, ap}
use Rattle.cs_base.specs.Rates.{at_rate}
use Rattle.cs_grammar.specs.Tree.{expression}
use Rattle.cs_typed.specs.declared.tree.Var.TheVariants.{Local}
use Rattle.cs_udo.specs.Names.{slot}
use Rattle.cs_udo.proofs.Fresh.{slot_rate}
use Rattle.cs_typing.specs.{Expressions.expression_by, Settings.at, Statements.set_fault_by, inner.Answers.Judged}
use Rattle.cs_typing.specs.{inner.Held.known_of, inner.Routines.knows_in, inner.Routines.variable_in}
use Rattle.cs_typing.proofs.Answers.{failed}
use Rattle.cs_typed.specs.TypedTree as typed
use Rattle.cs_typing.proofs.invoke.give_slot.Goals as goal

pub returns-in_err-set-clause-fault : goal.returns-in_err-set-clause-fault
returns-in_err-set-clause-fault c =
    failed (λ r. Judged r (at c.args.line (set_fault_by c.args.setting (knows_in (known_of c.args.names.now))
    (slot 0 c.args.rate) (expression c.args.e.now)))) c.from_residual.result _ c.from_residual.ensures.1
    (c.in_err-set.ensures.fault (slot 0 c.args.rate) (slot_rate 0 c.args.rate))

pub returns-clause-fault : goal.returns-clause-fault
returns-clause-fault c = c.in_ok-set.ensures.fault (slot 0 c.args.rate) (slot_rate 0 c.args.rate)

pub returns-clause-made : goal.returns-clause-made
returns-clause-made c =
    let k = known_of c.args.names.now in
    let r = c.args.rate in
    let value = expression_by (variable_in k) (expression c.args.e.now) in
    let number : c.of-number.result ≡ at_rate k.locals.counts r =
    c.of-number.ensures ∙ ap (λ t. at_rate t r) c.counts.ensures in
    λ rs. c.in_ok-set.ensures.made rs ∙ ap (λ n. typed.then_block (typed.block rs c.args.done.now.items)
    (typed.alone (typed.set c.args.line r (Local r n) value))) number
