-- The time of a beat, from the time of a point at or before it.
use Rattle.std.proofs.Common.{◌≡◌, ℕ, zero, suc, ◌+◌, ◌-◌, ◌*◌, ◌^◌, ◌<◌, ◌≤◌, min, List, [], ◌∷◌, drop, take, length}
use Rattle.std.proofs.Common.{get_or, arith, refl, sym, ◌∙◌}
use Rattle.std.proofs.lemmas.List.{drop-drop, take_rest, get_or_read, length-drop}
use Rattle.std.proofs.lemmas.Nat.{mul-le, div_below}
use Rattle.cs_score.specs.{Ranges.AreRising, Ranges.beats_end, declared.statement.TempoPoint.TempoPoint}
use Rattle.cs_time.specs.Time.{part_of, time_along, time_of, Rises, cycle_of}
use Rattle.cs_tempo.specs.inner.Clock.{point_at, IsTimed}
use Rattle.cs_time.proofs.Times.{along_is, along_small, rises_on, tempo_rises}

-- the later points of a rising tempo rise too
pub rises_drop : (ps : List TempoPoint) (k : ℕ) → Rises ps → Rises (drop k ps)
rises_drop ps zero r = r
rises_drop [] (suc k) r = tt
rises_drop (p ∷ later) (suc k) r = rises_drop later k (rises_on p later r)

pub point_in_range : (ps : List TempoPoint) (k : ℕ) → k < length ps → Rises ps → (point_at ps k).beat < beats_end
point_in_range [] k some r = absurd (omega arith)
point_in_range (p ∷ later) zero some r = r.0.beat
point_in_range (p ∷ later) (suc k) some r = point_in_range later k (omega arith) (rises_on p later r)

rises_to : (f : ℕ) (ps : List TempoPoint) (k : ℕ) → k < length ps → AreRising f ps → f ≤ (point_at ps k).beat
rises_to f [] k some r = absurd (omega arith)
rises_to f (p ∷ later) zero some r = r.0
rises_to f (p ∷ later) (suc k) some r = omega (arith, r.0, rises_to p.beat later k (omega arith) r.2)

-- the time between two points is the same for every beat after them
whole_part : (p q : TempoPoint) (rest : List TempoPoint) (x y : ℕ) → q.beat ≤ x → q.beat ≤ y
    → part_of p (q ∷ rest) x ≡ part_of p (q ∷ rest) y
unfolding part_of
whole_part p q rest x y a b =
    let e : min x q.beat ≡ min y q.beat = omega arith in rw e refl

nothing_yet : (p : TempoPoint) (later : List TempoPoint) (x : ℕ) → Rises (p ∷ later) → x ≤ p.beat
    → time_along (p ∷ later) x ≡ 0
nothing_yet p later x r early = omega (arith, along_small p later x r.0 r.1)

-- the time of a beat is the time of a point at or before it, plus the time from there
pub time_from : (ps : List TempoPoint) (k : ℕ) (x : ℕ) → Rises ps → k < length ps → (point_at ps k).beat ≤ x →
    time_along ps x ≡ time_along ps (point_at ps k).beat + time_along (drop k ps) x
unfolding time_along
time_from [] k x r some h = absurd (omega arith)
time_from (p ∷ later) zero x r some h = omega (arith, nothing_yet p later p.beat r (omega arith))
time_from (p ∷ []) (suc k) x r some h = absurd (omega arith)
time_from (p ∷ q ∷ rest) (suc k) x r some h =
    let on = rises_on p (q ∷ rest) r in
    let low : q.beat ≤ (point_at (q ∷ rest) k).beat =
    rises_to q.beat (q ∷ rest) k (omega arith) (omega arith, on.0, on.1) in
    let e = whole_part p q rest x (point_at (q ∷ rest) k).beat (omega arith) low in
    omega (arith, e, time_from (q ∷ rest) k x on (omega arith) h)

rises_by_one : (ps : List TempoPoint) (j : ℕ) → Rises ps → j + 1 < length ps
    → (point_at ps j).beat ≤ (point_at ps (j + 1)).beat
rises_by_one [] j r some = absurd (omega arith)
rises_by_one (p ∷ later) zero r some = rises_to p.beat later 0 (omega arith) r.1
rises_by_one (p ∷ later) (suc j) r some = let e : suc j + 1 ≡ suc (j + 1) =
    omega arith in rw e (rises_by_one later j (rises_on p later r) (omega arith))

nothing_from : (ps : List TempoPoint) (k : ℕ) → Rises ps → k < length ps
    → time_along (drop k ps) (point_at ps k).beat ≡ 0
nothing_from [] k r some = absurd (omega arith)
nothing_from (p ∷ later) zero r some = nothing_yet p later p.beat r (omega arith)
nothing_from (p ∷ later) (suc k) r some = nothing_from later k (rises_on p later r) (omega arith)

-- the time of the next point
pub next_time : (ps : List TempoPoint) (j part : ℕ) → Rises ps → j + 1 < length ps →
    time_along (drop j ps) (point_at ps (j + 1)).beat ≡ part + time_along (drop 1 (drop j ps))
    (point_at ps (j + 1)).beat → time_along ps (point_at ps j).beat + part ≡ time_along ps (point_at ps (j + 1)).beat
next_time ps j part r some e =
    let up : (point_at ps j).beat ≤ (point_at ps (j + 1)).beat = rises_by_one ps j r some in
    let split = time_from ps j (point_at ps (j + 1)).beat r (omega arith) up in
    let e' = rw (drop-drop 1 j ps) at e in
    let none = nothing_from ps (j + 1) r some in
    omega (arith, split, e', none)

-- time begins at 0
pub first_time : (ps : List TempoPoint) → Rises ps → 0 ≡ time_along ps (point_at ps 0).beat
unfolding time_along
first_time [] r = refl
first_time (p ∷ later) r = sym (nothing_yet p later p.beat r (omega arith))

-- the number of a cycle fits into its type
pub cycle_small : (ns sr ksmps : ℕ) → ns ≤ 60000 * beats_end → sr ≤ 192000 → 1 ≤ ksmps → cycle_of ns sr ksmps < 2 ^ 47
unfolding cycle_of
cycle_small ns sr ksmps early slow some =
    let m : ns * sr ≤ 60000 * beats_end * 192000 = mul-le ns sr (60000 * beats_end) 192000 early slow in
    div_below (2 * ns * sr + ksmps * 10 ^ 9) (2 * ksmps * 10 ^ 9) (2 ^ 47) (omega arith) (omega (arith, m))

-- a clock's result: the time of a point, plus the time from there
pub reading : (ps : List TempoPoint) (times : List ℕ) (k x t part : ℕ) → IsTimed ps times → k < length ps
    → (point_at ps k).beat ≤ x →
    t ≡ get_or times k t → part ≡ time_of (take (length ps - k) (drop k ps)) x → t + part ≡ time_of ps x
reading [] times k x t part timed some early at e = absurd (omega arith)
reading (p ∷ later) times k x t part timed some early at e =
    let ps : List TempoPoint = p ∷ later in
    let read : t ≡ get_or times k 0 = get_or_read times k t (omega (arith, timed.known.long)) at 0 in
    let behind : part ≡ time_of (drop k ps) x = rw take_rest at e in
    let rest : part ≡ time_along (drop k ps) x =
    behind ∙ sym (along_is (drop k ps) x (omega (arith, length-drop k ps))) in
    omega (arith, read, rest, timed.known.each k some, time_from ps k x (tempo_rises ps timed.tempo) some early)
