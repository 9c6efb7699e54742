use Rattle.std.proofs.Common.{◌≡◌, ◌+◌, ◌-◌, ℕ, arith, ap, ◌∙◌}
use Rattle.std.proofs.lemmas.List.{take_rest}
use Rattle.cs_tempo.specs.inner.Clock.{point_at}
use Rattle.cs_time.specs.Time.{time_along}
use Rattle.cs_tempo.proofs.Clocks.{rises_drop, point_in_range, next_time}
use Rattle.cs_time.proofs.Times.{rises_small}
use Rattle.cs_tempo.proofs.clock.time_at.Goals as goal

pub first_part-requires-clause-rising : goal.first_part-requires-clause-rising
first_part-requires-clause-rising c = rw take_rest (rises_drop c.args.points.now (c.args.k - 1) c.requires.rising)

pub first_part-requires-clause-beat : goal.first_part-requires-clause-beat
first_part-requires-clause-beat c = point_in_range c.args.points.now c.args.k c.requires.within c.requires.rising

step : (c : goal.After-first_part)
    → c.args.before + c.first_part.result ≡ time_along c.args.points.now (point_at c.args.points.now c.args.k).beat
step c =
    let j : ℕ = c.args.k - 1 in
    let k : j + 1 ≡ c.args.k = omega arith in
    let part = rw take_rest at c.first_part.ensures in
    let next = next_time c.args.points.now j c.first_part.result c.requires.rising (omega arith) in
    let next' = rw k at next in ap (λ n. n + c.first_part.result) c.requires.before ∙ next' part

pub overflow_add-result : goal.overflow_add-result
overflow_add-result c =
    let small = rises_small c.args.points.now (point_at c.args.points.now c.args.k).beat c.requires.rising in
    let early = point_in_range c.args.points.now c.args.k c.requires.within c.requires.rising in
    omega (arith, step c, small, early)

pub returns : goal.returns
returns c = step c
