use Rattle.std.proofs.Common.{arith}
use Rattle.cs_score.specs.declared.statement.TempoPoint.{TempoPoint}
use Rattle.cs_time.proofs.Times.{first_of_one, first_of_more, first_point, next_point}
use Rattle.cs_time.proofs.time.first_part.Goals as goal

abbrev no_point : TempoPoint
no_point = record { beat = 0; tempo = 0 }

pub returns-in-len1 : goal.returns-in-len1
returns-in-len1 c =
    first_of_one c.args.points.now no_point c.args.beat c.steady_time.result
    c.in-len1.len_at_least c.in-len1.len_below (cc)

pub returns-in-len2-up : goal.returns-in-len2-up
returns-in-len2-up c =
    first_of_more c.args.points.now no_point c.args.beat c.ramp_time.result c.in-len2-up.len_at_least (cc)

pub beat_length-requires : goal.beat_length-requires
beat_length-requires c =
    let p = first_point c.args.points.now no_point c.in-len1.len_at_least c.requires.rising in (p.slow, p.fast)

pub steady_time-requires : goal.steady_time-requires
steady_time-requires c = record { length = c.beat_length.ensures.range.1; x = omega arith }

pub beat_length-requires-in-len2-up : goal.beat_length-requires-in-len2-up
beat_length-requires-in-len2-up c =
    let p = first_point c.args.points.now no_point (omega arith) c.requires.rising in (p.slow, p.fast)

pub beat_length-requires-in-len2-up-2 : goal.beat_length-requires-in-len2-up-2
beat_length-requires-in-len2-up-2 c =
    let p = (next_point c.args.points.now no_point c.in-len2-up.len_at_least c.requires.rising).1 in (p.slow, p.fast)

pub overflow_sub-next : goal.overflow_sub-next
overflow_sub-next c = (next_point c.args.points.now no_point c.in-len2-up.len_at_least c.requires.rising).0

pub ramp_time-requires : goal.ramp_time-requires
ramp_time-requires c =
    let q = (next_point c.args.points.now no_point c.in-len2-up.len_at_least c.requires.rising).1 in record {
      first = c.beat_length-in-len2-up.ensures.range;
      last = c.beat_length-in-len2-up-2.ensures.range;
      span = omega (arith, q.beat);
      x = omega (arith, c.saturating_sub-in-len2-up.ensures, c.min.ensures);
    }
