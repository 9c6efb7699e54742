use Rattle.std.proofs.Common.{◌≡◌, ◌-◌, true, false, sym, subst, ◌∙◌, arith}
use Rattle.cs_cells.specs.{Areas.IsFootprint, declared.footprint.Footprint.Footprint}
use Rattle.cs_graph.proofs.CommonLemmas.{broken, clash_of, one_more}
use Rattle.cs_graph.proofs.one_chain.is_one_chain.Goals as goal

pub do_clash-requires : goal.do_clash-requires
do_clash-requires g c =
    let P : Footprint → Type 0 = IsFootprint c.requires.0 in (
      c.requires.0,
      subst P (sym c.footprint.ensures.foot)
          (subst (λ j. P (g.J.Job.means.foot j)) (sym c.index-jobs-later.is)
          (c.requires.1 (c.loop-later.later - 1) c.index-jobs-later.result (omega (arith, c.loop-later-test.true)))),
      subst P (sym c.footprint-in-loop-later.ensures.foot)
          (subst (λ j. P (g.J.Job.means.foot j)) (sym c.index-jobs-later-in-loop-later.is)
          (c.requires.1 c.loop-later.later c.index-jobs-later-in-loop-later.result
          (omega (arith, c.loop-later-test.true)))),
    )

pub returns-then-not-do_clash : goal.returns-then-not-do_clash
returns-then-not-do_clash g c = (
  λ h. absurd (let wrong : false ≡ true = h in cc),
  λ all. absurd (broken g.J.Job.means.foot c.args.jobs.now c.loop-later.later c.index-jobs-later.result
      c.index-jobs-later-in-loop-later.result (omega (arith, c.loop-later.auto.later))
      (omega (arith, c.loop-later-test.true)) c.index-jobs-later.is c.index-jobs-later-in-loop-later.is
      (λ clash. absurd (let wrong : true ≡ false =
      sym (c.do_clash.ensures.1 (clash_of _ _ _ _ c.footprint.ensures.foot c.footprint-in-loop-later.ensures.foot
      clash)) ∙ c.if-not-do_clash.true in cc)) all),
)

pub loop-later-preserved : goal.loop-later-preserved
loop-later-preserved g c =
    one_more g.J.Job.means.foot c.args.jobs.now c.loop-later.later c.index-jobs-later.result
    c.index-jobs-later-in-loop-later.result (omega (arith, c.loop-later.auto.later))
    (omega (arith, c.loop-later-test.true)) c.index-jobs-later.is c.index-jobs-later-in-loop-later.is
    (clash_of _ _ _ _ (sym c.footprint.ensures.foot) (sym c.footprint-in-loop-later.ensures.foot)
    (c.do_clash.ensures.0 c.if-not-do_clash.false)) c.loop-later.invariant
