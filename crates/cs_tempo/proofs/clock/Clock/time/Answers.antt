use Rattle.std.proofs.Common.{◌≡◌, ◌+◌, arith, ap, subst, ◌∙◌}
use Rattle.std.proofs.lemmas.List.{take_rest}
use Rattle.cs_tempo.specs.inner.Clock.{Pace}
use Rattle.cs_time.specs.Time.{time_of, IsTempo}
use Rattle.cs_tempo.proofs.Clocks.{rises_drop, reading}
use Rattle.cs_time.proofs.Times.{time_small, tempo_rises}
use Rattle.cs_tempo.proofs.clock.Clock.time.Goals as goal

pub beat_time-requires-clause-rising : goal.beat_time-requires-clause-rising
beat_time-requires-clause-rising c = tempo_rises c.self.inside.points.now c.self.invariant.tempo

pub returns-then-is_empty-clause-time : goal.returns-then-is_empty-clause-time
returns-then-is_empty-clause-time c =
    c.beat_time.ensures ∙ ap (λ (p : Pace). time_of p.tempo c.args.beat) c.self.view_is

pub returns-then-is_empty-clause-small : goal.returns-then-is_empty-clause-small
returns-then-is_empty-clause-small c =
    omega (arith, c.beat_time.ensures, time_small c.self.inside.points.now c.args.beat c.self.invariant.tempo)

pub beat_time-requires-2-clause-rising : goal.beat_time-requires-2-clause-rising
beat_time-requires-2-clause-rising c =
    rw take_rest (rises_drop c.self.inside.points.now c.ramp_of-k.result
    (tempo_rises c.self.inside.points.now c.self.invariant.tempo))

read : (c : goal.After-beat_time-2)
    → c.index.result.now + c.beat_time-2.result ≡ time_of c.self.inside.points.now c.args.beat
read c =
    reading c.self.inside.points.now c.self.inside.times.items c.ramp_of-k.result c.args.beat c.index.result.now
    c.beat_time-2.result
    c.self.invariant c.ramp_of-k.ensures.within c.ramp_of-k.ensures.before c.index.ensures c.beat_time-2.ensures

pub overflow_add-result : goal.overflow_add-result
overflow_add-result c = omega (arith, read c, time_small c.self.inside.points.now c.args.beat c.self.invariant.tempo)

pub returns-clause-time : goal.returns-clause-time
returns-clause-time c = read c ∙ (ap (λ (p : Pace). time_of p.tempo c.args.beat) c.self.view_is)

pub returns-clause-small : goal.returns-clause-small
returns-clause-small c = omega (arith, read c, time_small c.self.inside.points.now c.args.beat c.self.invariant.tempo)

pub returns-then-is_empty-clause-tempo : goal.returns-then-is_empty-clause-tempo
returns-then-is_empty-clause-tempo c = subst (λ (p : Pace). IsTempo p.tempo) c.self.view_is c.self.invariant.tempo

pub returns-clause-tempo : goal.returns-clause-tempo
returns-clause-tempo c = subst (λ (p : Pace). IsTempo p.tempo) c.self.view_is c.self.invariant.tempo
