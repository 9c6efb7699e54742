-- The time of a beat, in nanoseconds from the start of its section, and the cycle of a time.
use Rattle.std.specs.Prelude.{ℕ, pos, ◌-◌, ◌+◌, ◌*◌, ◌/◌, ◌^◌, ◌+ℤ◌, ◌-ℤ◌, ◌*ℤ◌, min, unsigned_abs, List, [], ◌∷◌}
use Rattle.cs_base.specs.Numbers.{floor_div}
use Rattle.cs_score.specs.Ranges.{AreTempoPoints, AreRising, IsTempoPoint}
use Rattle.cs_score.specs.declared.statement.TempoPoint.{TempoPoint}

-- the duration of a beat in nanoseconds, for a tempo in millionths of a beat per minute
unfoldable pub beat_length : ℕ → ℕ
beat_length tempo = 60 * 10 ^ 15 / tempo

-- The time at x millionths into a ramp of `span` millionths, along which a beat's duration goes evenly from
-- `first` to `last`. It is the sum of first * x / 10^6 and (last - first) * x^2 / (2 * span * 10^6), each
-- rounded down. The sum is never below 0.
unfoldable pub ramp_time : ℕ → ℕ → ℕ → ℕ → ℕ
ramp_time first last span x =
    unsigned_abs (pos (first * x / 1000000)
    +ℤ floor_div ((pos last -ℤ pos first) *ℤ pos (x * x)) (pos (2 * span * 1000000)))

-- the part of the time before a beat that is spent between a point of the tempo and the next, or after the
-- last point
unfoldable pub part_of : TempoPoint → List TempoPoint → ℕ → ℕ
part_of p [] beat = beat_length p.tempo * (beat - p.beat) / 1000000
part_of p (q ∷ _) beat =
    ramp_time (beat_length p.tempo) (beat_length q.tempo) (q.beat - p.beat) (min beat q.beat - p.beat)

-- the time of a beat along the points of a tempo: the sum of the parts before it
unfoldable pub time_along : List TempoPoint → ℕ → ℕ
time_along [] beat = 0
time_along (p ∷ later) beat = part_of p later beat + time_along later beat

-- a tempo without points is 60 beats a minute
abbrev pub or_sixty : List TempoPoint → List TempoPoint
or_sixty [] = record { beat = 0; tempo = 60000000 } ∷ []
or_sixty (p ∷ later) = p ∷ later

-- the time of a beat of a section, along the points of its tempo
abbrev pub time_of : List TempoPoint → ℕ → ℕ
time_of tempo beat = time_along (or_sixty tempo) beat

-- a section's tempo: no points, or the points of a tempo statement
abbrev pub IsTempo : List TempoPoint → Type 0
IsTempo [] = Unit {0}
IsTempo (p ∷ later) = AreTempoPoints (p ∷ later)

-- points in ascending order of beats, each in its range
abbrev pub Rises : List TempoPoint → Type 0
Rises [] = Unit {0}
Rises (p ∷ later) = IsTempoPoint p × AreRising p.beat later

-- the cycle of a time at `sr` frames a second and `ksmps` frames a cycle, rounded half up
unfoldable pub cycle_of : ℕ → ℕ → ℕ → ℕ
cycle_of ns sr ksmps = (2 * ns * sr + ksmps * 10 ^ 9) / (2 * ksmps * 10 ^ 9)

-- a time in nanoseconds, converted to 65,536ths of a second and rounded down
unfoldable pub seconds_of : ℕ → ℕ
seconds_of ns = ns * 65536 / 10 ^ 9
