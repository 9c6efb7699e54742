use Rattle.std.proofs.Common.{◌≡◌, ◌∙◌, ◌++◌, ◌⊎◌, [], ap, refl, rules, sym}
use Rattle.cs_ir.specs.Waves.{if_init}
use Rattle.cs_meaning.specs.{Core.store, Core.table_reach, When.beginning, When.cycle}
use Rattle.cs_code.specs.inner.Code.{keep_all_code, on_code, seek_code, store_code}
use Rattle.cs_code.specs.{inner.Emitted.expressions_of, inner.Emitted.when_of}
use Rattle.cs_code.specs.inner.Kept.{past_all, past_parts}
use Rattle.cs_code.proofs.{Chains.code_each, Chains.code_once, Chains.each_is, Growing.grew_as, Growing.grew_nothing}
use Rattle.cs_code.proofs.Growing.{grew_two}
use Rattle.cs_ir.specs.declared.op.Act.TheVariants as act
use Rattle.cs_base.specs.declared.resource.Rate.TheVariants as rate
use Rattle.cs_code.specs.declared.frame.Pass.TheVariants as pass
use Rattle.cs_code.proofs.simple.store.Goals as goal

pub returns-in_ok-push_on-in-Initialisation-Init : goal.returns-in_ok-push_on-in-Initialisation-Init
returns-in_ok-push_on-in-Initialisation-Init c =
    let way = c.args.context.pass in
    let p = c.args.p in
    let r = c.args.rate in
    let es = expressions_of c.args.values.now in
    let is = expressions_of c.args.settled.now in
    let reach = table_reach is in
    let arm = c.in-Initialisation-Init in
    record {
      ops = grew_two c.args.ops.now c.seek.new.ops c.push_on.new.ops _ _ _ c.in_ok-seek-in-Initialisation-Init.ensures
          c.in_ok-push_on-in-Initialisation-Init.ensures.ops
          (ap (λ w. seek_code is ++ on_code (when_of w) 0 (act.Store c.table_reach.result) c.temp-into.result es)
          arm.is-0
          ∙ ap (λ k. seek_code is ++ on_code beginning 0 (act.Store k) c.temp-into.result es) c.table_reach.ensures
          ∙ ap (λ q. seek_code is ++ on_code beginning 0 (act.Store reach) q es) c.temp-into.ensures
          ∙ code_once way pass.Initialisation p (store r reach es is) r
          (seek_code is ++ store_code beginning 0 r reach es) (keep_all_code p.part es ++ seek_code is)
          arm.is-0 arm.is-1 refl);
      next = ap (λ q. past_parts (if_init q p.part (past_all p.part es)) p) (sym arm.is-1);
    }

pub returns-in_ok-seek-in-Initialisation-Control : goal.returns-in_ok-seek-in-Initialisation-Control
returns-in_ok-seek-in-Initialisation-Control c =
    let way = c.args.context.pass in
    let p = c.args.p in
    let r = c.args.rate in
    let es = expressions_of c.args.values.now in
    let is = expressions_of c.args.settled.now in
    let reach = table_reach is in
    let arm = c.in-Initialisation-Control in
    let moves : (r ≡ rate.Control) ⊎ (r ≡ rate.Audio) = search rules in
    let kept = c.in_ok-part-in-Initialisation-Control.ensures in
    record {
      ops = grew_two c.args.ops.now c.keep_all.new.ops c.seek-in-Initialisation-Control.new.ops _ _ _ kept.ops
          c.in_ok-seek-in-Initialisation-Control.ensures (code_each way pass.Initialisation p (store r reach es is) r
          (seek_code is ++ store_code beginning 0 r reach es) (keep_all_code p.part es ++ seek_code is)
          arm.is-0 moves refl);
      next = ap (λ n. past_parts n p) (kept.next ∙ sym (each_is r p.part (past_all p.part es) moves));
    }

pub returns-in-Performance-Init : goal.returns-in-Performance-Init
returns-in-Performance-Init c =
    let way = c.args.context.pass in
    let p = c.args.p in
    let r = c.args.rate in
    let es = expressions_of c.args.values.now in
    let is = expressions_of c.args.settled.now in
    let reach = table_reach is in
    let arm = c.in-Performance-Init in
    record {
      ops = grew_nothing c.args.ops.now _
          (sym (code_once way pass.Performance p (store r reach es is) r [] (store_code cycle p.part r reach es)
          arm.is-0 arm.is-1 refl));
      next = ap (λ q. past_parts (if_init q p.part (past_all p.part es)) p) (sym arm.is-1);
    }

pub returns-in_ok-part-in-Performance-Control : goal.returns-in_ok-part-in-Performance-Control
returns-in_ok-part-in-Performance-Control c =
    let way = c.args.context.pass in
    let p = c.args.p in
    let r = c.args.rate in
    let es = expressions_of c.args.values.now in
    let is = expressions_of c.args.settled.now in
    let reach = table_reach is in
    let arm = c.in-Performance-Control in
    let moves : (r ≡ rate.Control) ⊎ (r ≡ rate.Audio) = search rules in
    let ran = c.in_ok-part-in-Performance-Control.ensures in
    record {
      ops = grew_as c.args.ops.now c.push_on-in-Performance-Control.new.ops _ _ ran.ops
          (ap (λ w. on_code (when_of w) p.part (act.Store c.table_reach.result) c.temp-into.result es) arm.is-0
          ∙ ap (λ k. on_code cycle p.part (act.Store k) c.temp-into.result es) c.table_reach.ensures
          ∙ ap (λ q. on_code cycle p.part (act.Store reach) q es) c.temp-into.ensures
          ∙ code_each way pass.Performance p (store r reach es is) r [] (store_code cycle p.part r reach es)
          arm.is-0 moves refl);
      next = ap (λ n. past_parts n p) (ran.next ∙ sym (each_is r p.part (past_all p.part es) moves));
    }
