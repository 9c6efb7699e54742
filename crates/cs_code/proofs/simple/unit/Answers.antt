use Rattle.std.proofs.Common.{◌≡◌, ◌∙◌, ◌++◌, ◌⊎◌, [], ap, refl, rules, sym}
use Rattle.cs_ir.specs.Waves.{if_init}
use Rattle.cs_meaning.specs.{Core.unit, When.beginning, When.cycle}
use Rattle.cs_code.specs.inner.Code.{keep_all_code, run_code, start_code, unit_code}
use Rattle.cs_code.specs.{inner.Emitted.expressions_of, inner.Emitted.when_of, inner.Kept.past_all}
use Rattle.cs_code.proofs.{Chains.code_each, Chains.code_once, Chains.each_is, Growing.grew_as, Growing.grew_nothing}
use Rattle.cs_code.proofs.Growing.{grew_two}
use Rattle.cs_ir.specs.declared.op.Act.TheVariants as act
use Rattle.cs_base.specs.declared.resource.Rate.TheVariants as rate
use Rattle.cs_code.specs.declared.frame.Pass.TheVariants as pass
use Rattle.cs_code.proofs.simple.unit.Goals as goal

pub returns-in_ok-run-in-Initialisation-Init : goal.returns-in_ok-run-in-Initialisation-Init
returns-in_ok-run-in-Initialisation-Init c =
    let p = c.args.p in
    let k = c.args.call.now in
    let r = k.rate in
    let vs = k.results.now in
    let xs = expressions_of c.args.values.now.moving.items in
    let is = expressions_of c.args.values.now.settled.items in
    let does = act.Unit k.opcode p.unit c.args.reach in
    let begins = start_code r k.opcode p.unit is in
    let arm = c.in-Initialisation-Init in
    record {
      ops = grew_two c.args.ops.now c.start.new.ops c.run.new.ops _ _ _ c.in_ok-start-in-Initialisation-Init.ensures
          c.in_ok-run-in-Initialisation-Init.ensures.ops
          ((λ i. start_code r k.opcode p.unit (expressions_of (c.deref.ensures.value i))
          ++ run_code (when_of (arm.is-0 i)) 0 does r vs
          (expressions_of (c.deref-in-Initialisation-Init.ensures.value i)))
          ∙ code_once c.args.context.pass pass.Initialisation p (unit r vs k.opcode c.args.reach xs is) r
          (begins ++ unit_code beginning 0 r vs k.opcode p.unit c.args.reach xs) (keep_all_code p.part xs ++ begins)
          arm.is-0 arm.is-1 refl);
      next = λ i. record { part = if_init (sym arm.is-1 i) p.part (past_all p.part xs); unit = c.in_ok-unit.ensures i };
    }

pub returns-in_ok-start-in-Initialisation-Control : goal.returns-in_ok-start-in-Initialisation-Control
returns-in_ok-start-in-Initialisation-Control c =
    let p = c.args.p in
    let k = c.args.call.now in
    let r = k.rate in
    let vs = k.results.now in
    let xs = expressions_of c.args.values.now.moving.items in
    let is = expressions_of c.args.values.now.settled.items in
    let begins = start_code r k.opcode p.unit is in
    let arm = c.in-Initialisation-Control in
    let moves : (r ≡ rate.Control) ⊎ (r ≡ rate.Audio) = search rules in
    let kept = c.in_ok-part-in-Initialisation-Control.ensures in
    let moving = c.deref-in-Initialisation-Control.ensures.value in
    let part = kept.next ∙ ap (λ l. past_all p.part (expressions_of l)) moving
    ∙ sym (each_is r p.part (past_all p.part xs) moves) in
    record {
      ops = grew_two c.args.ops.now c.keep_all.new.ops c.start-in-Initialisation-Control.new.ops _ _ _ kept.ops
          c.in_ok-start-in-Initialisation-Control.ensures ((λ i. keep_all_code p.part (expressions_of (moving i))
          ++ start_code r k.opcode p.unit (expressions_of (c.deref-in-Initialisation-Control-2.ensures.value i)))
          ∙ code_each c.args.context.pass pass.Initialisation p (unit r vs k.opcode c.args.reach xs is) r
          (begins ++ unit_code beginning 0 r vs k.opcode p.unit c.args.reach xs) (keep_all_code p.part xs ++ begins)
          arm.is-0 moves refl);
      next = λ i. record { part = part i; unit = c.in_ok-unit.ensures i };
    }

pub returns-in-Performance-Init : goal.returns-in-Performance-Init
returns-in-Performance-Init c =
    let p = c.args.p in
    let k = c.args.call.now in
    let r = k.rate in
    let vs = k.results.now in
    let xs = expressions_of c.args.values.now.moving.items in
    let is = expressions_of c.args.values.now.settled.items in
    let arm = c.in-Performance-Init in
    record {
      ops = grew_nothing c.args.ops.now _
          (sym (code_once c.args.context.pass pass.Performance p (unit r vs k.opcode c.args.reach xs is) r []
          (unit_code cycle p.part r vs k.opcode p.unit c.args.reach xs) arm.is-0 arm.is-1 refl));
      next = λ i. record { part = if_init (sym arm.is-1 i) p.part (past_all p.part xs); unit = c.in_ok-unit.ensures i };
    }

pub returns-in_ok-part-in-Performance-Control : goal.returns-in_ok-part-in-Performance-Control
returns-in_ok-part-in-Performance-Control c =
    let p = c.args.p in
    let k = c.args.call.now in
    let r = k.rate in
    let vs = k.results.now in
    let xs = expressions_of c.args.values.now.moving.items in
    let is = expressions_of c.args.values.now.settled.items in
    let arm = c.in-Performance-Control in
    let moves : (r ≡ rate.Control) ⊎ (r ≡ rate.Audio) = search rules in
    let ran = c.in_ok-part-in-Performance-Control.ensures in
    let moving = c.deref-in-Performance-Control.ensures.value in
    let part = ran.next ∙ ap (λ l. past_all p.part (expressions_of l)) moving
    ∙ sym (each_is r p.part (past_all p.part xs) moves) in
    record {
      ops = grew_as c.args.ops.now c.run-in-Performance-Control.new.ops _ _ ran.ops
          ((λ i. run_code (when_of (arm.is-0 i)) p.part (act.Unit k.opcode p.unit c.args.reach) r vs
          (expressions_of (moving i)))
          ∙ code_each c.args.context.pass pass.Performance p (unit r vs k.opcode c.args.reach xs is) r []
          (unit_code cycle p.part r vs k.opcode p.unit c.args.reach xs) arm.is-0 moves refl);
      next = λ i. record { part = part i; unit = c.in_ok-unit.ensures i };
    }
