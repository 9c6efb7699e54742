use Rattle.std.proofs.Common.{◌-◌, ◌*◌, ◌/◌, arith, sym, ap, ◌∙◌}
use Rattle.cs_time.proofs.Floors.{ramp_time_is, ramp_time_of_nothing}
use Rattle.cs_time.proofs.Ramps.{shorter_within, ramp_up, ramp_down}
use Rattle.cs_time.proofs.time.ramp_time.Goals as goal

pub returns-then-x-eq0 : goal.returns-then-x-eq0
returns-then-x-eq0 c = rw c.if-x-eq0.true (sym (ramp_time_of_nothing c.args.first c.args.last c.args.span))

pub overflow_sub-result : goal.overflow_sub-result
overflow_sub-result c =
    let h = shorter_within c.args.first c.args.last c.args.span c.args.x c.requires.last.0 (omega arith) (omega arith)
    c.requires.x in
    omega (arith, h, c.steady_time-even.ensures, c.shorter.ensures)

pub returns-then-first-last : goal.returns-then-first-last
returns-then-first-last c =
    rw (c.steady_time-even.ensures, c.longer.ensures.value)
    (ramp_up c.args.first c.args.last c.args.span c.args.x c.if-first-last.true
    ∙ sym (ramp_time_is c.args.first c.args.last c.args.span c.args.x c.requires.first.0 c.requires.last.0
    c.requires.x))

pub returns-else-first-last : goal.returns-else-first-last
returns-else-first-last c =
    ap (λ n. n - c.shorter.result) c.steady_time-even.ensures
    ∙ ap (λ n. c.args.first * c.args.x / 1000000 - n) c.shorter.ensures.value
    ∙ ramp_down c.args.first c.args.last c.args.span c.args.x c.if-first-last.false
    ∙ sym (ramp_time_is c.args.first c.args.last c.args.span c.args.x c.requires.first.0 c.requires.last.0 c.requires.x)

pub steady_time-even-requires : goal.steady_time-even-requires
steady_time-even-requires c = record { length = omega arith; x = omega arith }

pub overflow_sub-first : goal.overflow_sub-first
overflow_sub-first c = omega arith

pub longer-requires : goal.longer-requires
longer-requires c = record { rise = omega arith; span = omega arith; x = (omega arith, omega arith) }

pub shorter-requires : goal.shorter-requires
shorter-requires c = record { fall = omega arith; span = omega arith; x = (omega arith, omega arith) }
