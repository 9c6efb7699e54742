-- Time along the points of a tempo never falls, and stays small.
use Rattle.std.proofs.Common.{◌≡◌, ℕ, ◌+◌, ◌-◌, ◌*◌, ◌/◌, ◌^◌, ◌<◌, ◌≤◌, min, List, [], ◌∷◌, drop, length, get_or}
use Rattle.std.proofs.{Common.arith, Common.refl, Common.subst, Math.Nat.mul-le-mul_left, Math.Nat.div-le_of_le-mul}
use Rattle.std.proofs.lemmas.{List.drop_more, Nat.le-div}
use Rattle.cs_score.specs.{Ranges.IsTempoPoint, Ranges.AreRising, declared.statement.TempoPoint.TempoPoint}
use Rattle.cs_time.specs.Time.{beat_length, ramp_time, part_of, time_along, time_of, IsTempo, Rises, cycle_of}
use Rattle.cs_time.proofs.{Floors.ramp_time_grows, Floors.ramp_time_small, Ramps.div_grows, Ramps.steady_small}

pub beat_slow : (t : ℕ) → 1000000 ≤ t → t ≤ 60000000000 → 1000000 ≤ beat_length t
unfolding beat_length
beat_slow t slow fast = le-div 1000000 (60 * 10 ^ 15) t (omega arith) (omega arith)

pub beat_fast : (t : ℕ) → 1000000 ≤ t → beat_length t ≤ 60000000000
unfolding beat_length
beat_fast t slow = div-le_of_le-mul t (omega arith)

part_small : (p q : TempoPoint) (rest : List TempoPoint) (beat : ℕ) → IsTempoPoint p → IsTempoPoint q → p.beat ≤ q.beat
    → part_of p (q ∷ rest) beat ≤ 60000 * (min beat q.beat - p.beat)
unfolding part_of
part_small p q rest beat a b order =
    ramp_time_small (beat_length p.tempo) (beat_length q.tempo) (q.beat - p.beat) (min beat q.beat - p.beat)
    (beat_slow p.tempo a.slow a.fast) (beat_slow q.tempo b.slow b.fast)
    (beat_fast p.tempo a.slow) (beat_fast q.tempo b.slow) (omega arith)

last_small : (p : TempoPoint) (beat : ℕ) → IsTempoPoint p → part_of p [] beat ≤ 60000 * (beat - p.beat)
unfolding part_of
last_small p beat a = steady_small (beat_length p.tempo) (beat - p.beat) (beat_fast p.tempo a.slow)

pub along_small : (p : TempoPoint) (later : List TempoPoint) (beat : ℕ) → IsTempoPoint p → AreRising p.beat later →
    time_along (p ∷ later) beat ≤ 60000 * (beat - p.beat)
unfolding time_along
along_small p [] beat a r = omega (arith, last_small p beat a)
along_small p (q ∷ rest) beat a r =
    omega (arith, part_small p q rest beat a r.1 r.0, along_small q rest beat r.1 r.2)

part_grows : (p q : TempoPoint) (rest : List TempoPoint) (x y : ℕ) → IsTempoPoint p → IsTempoPoint q → p.beat ≤ q.beat
    → x ≤ y → part_of p (q ∷ rest) x ≤ part_of p (q ∷ rest) y
unfolding part_of
part_grows p q rest x y a b order up =
    ramp_time_grows (beat_length p.tempo) (beat_length q.tempo) (q.beat - p.beat) (min x q.beat - p.beat)
    (min y q.beat - p.beat)
    (beat_slow p.tempo a.slow a.fast) (beat_slow q.tempo b.slow b.fast) (omega arith) (omega arith)

last_grows : (p : TempoPoint) (x y : ℕ) → x ≤ y → part_of p [] x ≤ part_of p [] y
unfolding part_of
last_grows p x y up = div_grows _ _ 1000000 (mul-le-mul_left (beat_length p.tempo) (omega arith))

pub along_grows : (p : TempoPoint) (later : List TempoPoint) (x y : ℕ) → IsTempoPoint p → AreRising p.beat later → x ≤ y
    → time_along (p ∷ later) x ≤ time_along (p ∷ later) y
unfolding time_along
along_grows p [] x y a r up = omega (arith, last_grows p x y up)
along_grows p (q ∷ rest) x y a r up =
    omega (arith, part_grows p q rest x y a r.1 r.0 up, along_grows q rest x y r.1 r.2 up)

-- the point of a tempo without points is in range
sixty : IsTempoPoint (record { beat = 0; tempo = 60000000 })
sixty = record { beat = omega arith; slow = omega arith; fast = omega arith }

-- time never falls as the beat grows
pub time_grows : (tempo : List TempoPoint) (x y : ℕ) → IsTempo tempo → x ≤ y → time_of tempo x ≤ time_of tempo y
time_grows [] x y t up = along_grows (record { beat = 0; tempo = 60000000 }) [] x y sixty tt up
time_grows (p ∷ later) x y t up = along_grows p later x y t.1.1 t.1.2 up

pub time_small : (tempo : List TempoPoint) (x : ℕ) → IsTempo tempo → time_of tempo x ≤ 60000 * x
time_small [] x t = omega (arith, along_small (record { beat = 0; tempo = 60000000 }) [] x sixty tt)
time_small (p ∷ later) x t = omega (arith, along_small p later x t.1.1 t.1.2)

-- cycles never fall as time grows
pub cycles_grow : (x y sr ksmps : ℕ) → x ≤ y → cycle_of x sr ksmps ≤ cycle_of y sr ksmps
unfolding cycle_of
cycles_grow x y sr ksmps up =
    div_grows (2 * x * sr + ksmps * 10 ^ 9) (2 * y * sr + ksmps * 10 ^ 9) (2 * ksmps * 10 ^ 9)
    (omega (arith, mul-le-mul_left sr up))

-- the first part of a time, along one point
pub first_of_one : (ps : List TempoPoint) (d : TempoPoint) (beat r : ℕ) → 1 ≤ length ps → length ps < 2 →
    r ≡ beat_length (get_or ps 0 d).tempo * (beat - (get_or ps 0 d).beat) / 1000000
    → time_along ps beat ≡ r + time_along (drop 1 ps) beat
unfolding time_along part_of
first_of_one [] d beat r some one e = absurd (omega arith)
first_of_one (p ∷ []) d beat r some one e = rw e refl
first_of_one (p ∷ q ∷ rest) d beat r some one e = absurd (omega arith)

pub first_of_more : (ps : List TempoPoint) (d : TempoPoint) (beat r : ℕ) → 2 ≤ length ps →
    r ≡ ramp_time (beat_length (get_or ps 0 d).tempo) (beat_length (get_or ps 1 d).tempo)
    ((get_or ps 1 d).beat - (get_or ps 0 d).beat)
    (min beat (get_or ps 1 d).beat - (get_or ps 0 d).beat) → time_along ps beat ≡ r + time_along (drop 1 ps) beat
unfolding time_along part_of
first_of_more [] d beat r some e = absurd (omega arith)
first_of_more (p ∷ []) d beat r some e = absurd (omega arith)
first_of_more (p ∷ q ∷ rest) d beat r some e = rw e refl

-- no time passes before a beat along points that come after it
pub none_left : (ps : List TempoPoint) (k : ℕ) (d : TempoPoint) (beat : ℕ) → k < length ps → Rises (drop k ps) →
    beat ≤ (get_or ps k d).beat → time_along (drop k ps) beat ≡ 0
none_left ps k d beat some r early =
    let e = drop_more ps k d some in
    let r' : Rises (get_or ps k d ∷ drop (k + 1) ps) = subst Rises e r in
    rw e (omega (arith, along_small (get_or ps k d) (drop (k + 1) ps) beat r'.0 r'.1))

pub rises_on : (p : TempoPoint) (later : List TempoPoint) → Rises (p ∷ later) → Rises later
rises_on p [] r = tt
rises_on p (q ∷ rest) r = (r.1.1, r.1.2)

pub rises_small : (ps : List TempoPoint) (beat : ℕ) → Rises ps → time_along ps beat ≤ 60000 * beat
unfolding time_along
rises_small [] beat r = omega arith
rises_small (p ∷ later) beat r = omega (arith, along_small p later beat r.0 r.1)

-- if a tempo has points, the time of a beat is the time along them
pub along_is : (ps : List TempoPoint) (beat : ℕ) → 0 < length ps → time_along ps beat ≡ time_of ps beat
along_is [] beat some = absurd (omega arith)
along_is (p ∷ later) beat some = refl

-- without points, a beat lasts one second
pub sixty_time : (beat : ℕ) → 1000000000 * beat / 1000000 ≡ time_of [] beat
unfolding time_along part_of beat_length
sixty_time beat = let e : beat - 0 ≡ beat = omega arith in rw e (omega arith)

pub tempo_rises : (tempo : List TempoPoint) → IsTempo tempo → Rises tempo
tempo_rises [] t = tt
tempo_rises (p ∷ later) t = (t.1.1, t.1.2)

pub rises_behind : (ps : List TempoPoint) → Rises ps → Rises (drop 1 ps)
rises_behind [] r = tt
rises_behind (p ∷ later) r = rises_on p later r

-- the first two of several ascending points are in range
pub first_point : (ps : List TempoPoint) (d : TempoPoint) → 1 ≤ length ps → Rises ps → IsTempoPoint (get_or ps 0 d)
first_point [] d some r = absurd (omega arith)
first_point (p ∷ later) d some r = r.0

pub next_point : (ps : List TempoPoint) (d : TempoPoint) → 2 ≤ length ps → Rises ps
    → ((get_or ps 0 d).beat ≤ (get_or ps 1 d).beat) × IsTempoPoint (get_or ps 1 d)
next_point [] d some r = absurd (omega arith)
next_point (p ∷ []) d some r = absurd (omega arith)
next_point (p ∷ q ∷ rest) d some r = (r.1.0, r.1.1)
