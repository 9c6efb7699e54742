use Rattle.std.proofs.Common.{◌≡◌, ◌<◌, ◌++◌, ◌∷◌, [], length, map, take, get_or, sym, ap, ◌∙◌, arith}
use Rattle.std.proofs.lemmas.List.{map_more}
use Rattle.cs_desk.proofs.course.feet_of.Goals as goal

pub loop-job-preserved : goal.loop-job-preserved
loop-job-preserved g c =
    let f = g.J.Job.means.foot in
    let jobs = c.args.jobs.now in
    let i = c.loop-job.job-index in
    let job = c.job-item.result in
    let inv = c.loop-job.invariant in
    let low : i < length jobs = omega (arith, c.loop-job-test.true) in
    let is : c.in_ok-copy.field-0 ≡ f (get_or jobs i job) =
    c.in_ok-copy.ensures ∙ c.footprint.ensures.foot ∙ ap f c.job-item.is in (
      omega (arith, low),
      c.push_reserved.ensures.items ∙ ap (λ l. l ++ c.in_ok-copy.field-0 ∷ []) inv.1
          ∙ ap (λ x. map f (take i jobs) ++ x ∷ []) is ∙ sym (map_more f jobs i job low),
      omega (arith, c.push_reserved.ensures.capacity, inv.2),
    )
