-- The cycles of a score's events never fall, and each note ends within the score.
use Rattle.std.proofs.Common.{◌≡◌, ℕ, zero, suc, ◌+◌, ◌<◌, ◌≤◌, true, false, ◌==◌, List, [], ◌∷◌, ◌++◌, map, sum}
use Rattle.std.proofs.Common.{length, get_or, Option, Some, None, arith, refl, ap, sym, subst, ⊎_elim, ◌⊎◌, inl, inr}
use Rattle.std.specs.{List.All, List.AllByRecursion as Each, Option.IfSome, Ordering.is_lt, Ordering.nat_cmp}
use Rattle.std.specs.{Ordering.ordering_then, declared.cmp.Ordering.Ordering, List.Sorted.IsNonDecreasingBy}
use Rattle.std.specs.declared.cmp.Ordering.TheVariants.{Less, Greater}
use Rattle.std.proofs.lemmas.{Bool.cases_Bool, Bool.cases_order, Bool.Decides.nat_tests, List.Sums.sum_by-cons}
use Rattle.std.proofs.lemmas.List.Elements.{All-from_recursion, recursion_from_All}
use Rattle.cs_base.specs.declared.head.Head.{Head}
use Rattle.cs_score.specs.{Ranges.IsInRange, Ranges.HasRange, declared.statement.TempoPoint.TempoPoint}
use Rattle.cs_score.specs.{declared.statement.ScoreWhat.ScoreWhat, declared.statement.ScoreStmt.ScoreStmt}
use Rattle.cs_score.specs.declared.statement.ScoreWhat.TheVariants.{Note, Hold, Table, Tempo}
use Rattle.cs_tempo.specs.{declared.plot.Event.Event, declared.plot.EventAct.EventAct, inner.Clock.Pace}
use Rattle.cs_time.specs.Time.{IsTempo}
use Rattle.cs_tempo.specs.{Pairing.stop_of, Limits.cycles_in, inner.Events.HasEnd, inner.Events.IsTurnIn}
use Rattle.cs_tempo.specs.Sections.{sections_of, own_points, or_else, tempo_of, cycle_at, reach_of, greatest, length_of}
use Rattle.cs_tempo.specs.Order.{has_turn, beat_of, order_of, put, in_order}
use Rattle.cs_tempo.specs.Plot.{SectionSetting, acts_of, events_along, setting_of, events_from}
use Rattle.cs_tempo.proofs.Elements.{each_append, each_more, sections_each}
use Rattle.cs_time.proofs.Times.{time_grows}
use Rattle.cs_tempo.proofs.Walks.{start_within, stop_within, order_each}
use Rattle.cs_time.proofs.Times.{cycles_grow}
use Rattle.cs_base.proofs.Tests.{is_below, isnt_below}

-- a beat's cycle never falls as the beat grows
pub cycle_grows : (head : Head) (tempo : List TempoPoint) (a b : ℕ) → IsTempo tempo → a ≤ b
    → cycle_at head tempo a ≤ cycle_at head tempo b
unfolding cycle_at
cycle_grows head tempo a b t up = cycles_grow _ _ head.sr head.ksmps (time_grows tempo a b t up)

-- turns in order: no beat is before the beat of the previous turn
abbrev pub BeatsRise : ℕ → List ScoreStmt → Type 0
BeatsRise low [] = Unit {0}
BeatsRise low (s ∷ later) = (low ≤ beat_of s.what) × BeatsRise (beat_of s.what) later

below_is_less : (a b : ℕ) → a < b → nat_cmp a b ≡ Less
below_is_less a b h = rw (is_below a b h) refl

above_is_greater : (a b : ℕ) → b < a → nat_cmp a b ≡ Greater
above_is_greater a b h =
    let apart : (a == b) ≡ false = grind (arith, nat_tests) in rw (isnt_below a b (omega arith), apart) refl

before_is_low : (a b : ℕ) (x : Ordering) → is_lt (ordering_then (nat_cmp a b) x) ≡ true → a ≤ b
before_is_low a b x h =
    ⊎_elim (λ e. omega (arith, e))
    (λ g. ⊎_elim (λ l. omega (arith, l))
    (λ r. absurd (let e = above_is_greater a b r in let f = ap (λ o. is_lt (ordering_then o x)) e in cc)) g)
    (cases_order a b)

not_before_is_high : (a b : ℕ) (x : Ordering) → is_lt (ordering_then (nat_cmp a b) x) ≡ false → b ≤ a
not_before_is_high a b x h =
    ⊎_elim (λ e. omega (arith, e))
    (λ g. ⊎_elim (λ l. absurd (let e = below_is_less a b l in let f = ap (λ o. is_lt (ordering_then o x)) e in cc))
    (λ r. omega (arith, r)) g) (cases_order a b)

put_rises : (low : ℕ) (s : ScoreStmt) (us : List ScoreStmt) → low ≤ beat_of s.what → BeatsRise low us
    → BeatsRise low (put s us)
unfolding put
put_rises low s [] p r = (p, tt)
put_rises low s (u ∷ us) p r =
    ⊎_elim
    (λ t. rw t (r.0, put_rises (beat_of u.what) s us (before_is_low (beat_of u.what) (beat_of s.what) _ t) r.1))
    (λ f. rw f (p, (not_before_is_high (beat_of u.what) (beat_of s.what) _ f, r.1)))
    (cases_Bool (is_lt (order_of u.what s.what)))

pub order_rises : (section : List ScoreStmt) → BeatsRise 0 (in_order section)
unfolding in_order
order_rises [] = tt
order_rises (s ∷ later) =
    ⊎_elim
    (λ t. rw t (put_rises 0 s (in_order later) (omega arith) (order_rises later)))
    (λ f. rw f (order_rises later)) (cases_Bool (has_turn s.what))

-- events in order: none is before the previous one
abbrev pub Climb : ℕ → List Event → Type 0
Climb low [] = Unit {0}
Climb low (e ∷ later) = (low ≤ e.cycle) × Climb e.cycle later

climb_from : (low : ℕ) (es : List Event) (j : ℕ) (d : Event) → Climb low es → j < length es
    → low ≤ (get_or es j d).cycle
climb_from low [] j d c h = absurd (omega arith)
climb_from low (e ∷ es) zero d c h = c.0
climb_from low (e ∷ es) (suc j) d c h = omega (arith, c.0, climb_from e.cycle es j d c.1 (omega arith))

pub climb_far : (low : ℕ) (es : List Event) → Climb low es → IsNonDecreasingBy (λ (e : Event). e.cycle) es
climb_far low [] c i j d up h = absurd (omega arith)
climb_far low (e ∷ es) c zero zero d up h = omega arith
climb_far low (e ∷ es) c zero (suc j) d up h = climb_from e.cycle es j d c.1 (omega arith)
climb_far low (e ∷ es) c (suc i) zero d up h = absurd (omega arith)
climb_far low (e ∷ es) c (suc i) (suc j) d up h = climb_far e.cycle es c.1 i j d (omega arith) (omega arith)

climb_low : (low m : ℕ) (es : List Event) → m ≤ low → Climb low es → Climb m es
climb_low low m [] h c = tt
climb_low low m (e ∷ es) h c = (omega (arith, c.0), c.1)

climb_append : (low top : ℕ) (xs ys : List Event) → Climb low xs → Each (λ e. e.cycle ≤ top) xs → low ≤ top
    → Climb top ys → Climb low (xs ++ ys)
climb_append low top [] ys c e up d = climb_low top low ys up d
climb_append low top (x ∷ xs) ys c e up d = (c.0, climb_append x.cycle top xs ys c.1 e.1 e.0 d)

-- a turn has at most one action
pub one_act : (set : SectionSetting) (stop : Option ℕ) (w : ScoreWhat)
    → (acts_of set stop w ≡ []) ⊎ ((a : EventAct) × (acts_of set stop w ≡ a ∷ []))
unfolding acts_of
one_act set stop (Note instr at len more) = inr (_, refl)
one_act set stop (Hold instr at given more) = inr (_, refl)
one_act set stop (Table number at size gen args) = inr (_, refl)
one_act set stop _ = inl refl

along_climbs : (set : SectionSetting) (low m : ℕ) (earlier ss : List ScoreStmt) → IsTempo set.tempo → BeatsRise low ss →
    m ≤ set.offset + cycle_at set.head set.tempo low → Climb m (events_along set earlier ss)
unfolding events_along
along_climbs set low m earlier [] t r h = tt
along_climbs set low m earlier (s ∷ ss) t r h =
    let up = cycle_grows set.head set.tempo low (beat_of s.what) t r.0 in
    ⊎_elim
    (λ e. rw e (along_climbs set (beat_of s.what) m (s ∷ earlier) ss t r.1 (omega (arith, up))))
    (λ e. rw e.1 (omega (arith, up), along_climbs set (beat_of s.what) _ (s ∷ earlier) ss t r.1 (omega arith)))
    (one_act set (stop_of earlier ss s) s.what)

abbrev first_cycles : List EventAct → ℕ
first_cycles [] = 0
first_cycles (a ∷ _) = cycles_in a

-- a note ends within its section
act_within : (set : SectionSetting) (stop : Option ℕ) (w : ScoreWhat) (a : EventAct) → HasRange w
    → reach_of set.head set.tempo w ≤ set.cycles → has_turn w ≡ true →
    IfSome stop (HasEnd (record { head = set.head; tempo = set.tempo }) set.cycles) → acts_of set stop w ≡ a ∷ [] →
    cycle_at set.head set.tempo (beat_of w) + cycles_in a ≤ set.cycles
unfolding acts_of
act_within set stop (Note instr at len more) a r h t s e =
    let start = (start_within (record { head = set.head; tempo = set.tempo }) set.cycles (Note instr at len more) r h
    t).cycle in
    let n = ap first_cycles e in omega (arith, n, start, h)
act_within set None (Hold instr at given more) a r h t s e = let n = ap first_cycles e in omega (arith, n, h)
act_within set (Some b) (Hold instr at given more) a r h t s e = let n =
    ap first_cycles e in omega (arith, n, h, s.cycle)
act_within set stop (Table number at size gen args) a r h t s e = let n = ap first_cycles e in omega (arith, n, h)
act_within set stop _ a r h t s e = absurd (cc)

along_within : (set : SectionSetting) (earlier ss : List ScoreStmt)
    → Each (IsTurnIn (record { head = set.head; tempo = set.tempo }) set.cycles) ss →
    Each (λ (e : Event). e.cycle + cycles_in e.act ≤ set.offset + set.cycles) (events_along set earlier ss)
unfolding events_along
along_within set earlier [] t = tt
along_within set earlier (s ∷ ss) t =
    let pace : Pace = record { head = set.head; tempo = set.tempo } in
    let stop = stop_within pace set.cycles earlier ss s t.1 in
    ⊎_elim
    (λ e. rw e (along_within set (s ∷ earlier) ss t.1))
    (λ e. rw e.1 (
      omega (arith, act_within set (stop_of earlier ss s) s.what e.0 t.0.range t.0.reach t.0.turn stop e.1),
      along_within set (s ∷ earlier) ss t.1,
    ))
    (one_act set (stop_of earlier ss s) s.what)

-- the tempo of a section is in range
either_tempo : (tempo : List TempoPoint) (w : ScoreWhat) → IsTempo tempo → HasRange w
    → IsTempo (or_else tempo (own_points w))
either_tempo (p ∷ later) w t r = t
either_tempo [] (Tempo (p ∷ points)) t r = r
either_tempo [] _ t r = tt

pub tempo_in_range : (section : List ScoreStmt) → All IsInRange section → IsTempo (tempo_of section)
unfolding tempo_of
tempo_in_range [] r = tt
tempo_in_range (s ∷ later) r =
    either_tempo (tempo_of later) s.what (tempo_in_range later (λ k d l. r (suc k) d (omega arith)))
    (r 0 s (omega arith))

reach_each : (f : ScoreStmt → ℕ) (section : List ScoreStmt) → Each (λ s. f s ≤ greatest (map f section)) section
reach_each f [] = tt
reach_each f (s ∷ later) = (omega arith, each_more _ _ later (λ u h. omega (arith, h)) (reach_each f later))

pub reach_all : (head : Head) (section : List ScoreStmt)
    → All (λ s. reach_of head (tempo_of section) s.what ≤ length_of head section) section
unfolding length_of
reach_all head section =
    All-from_recursion (λ s. reach_of head (tempo_of section) s.what
    ≤ greatest (map (λ u. reach_of head (tempo_of section) u.what) section)) section
    (reach_each (λ u. reach_of head (tempo_of section) u.what) section)

pub sections_in_range : (score : List ScoreStmt) → All IsInRange score → Each (All IsInRange) (sections_of score)
sections_in_range score r =
    each_more (Each IsInRange) (All IsInRange) (sections_of score) (λ section e. All-from_recursion IsInRange section e)
    (sections_each IsInRange score (recursion_from_All IsInRange score r))

-- the events of sections end within them
pub from_within : (head : Head) (offset : ℕ) (sections : List (List ScoreStmt)) → Each (All IsInRange) sections →
    Each (λ (e : Event). e.cycle + cycles_in e.act ≤ offset + sum (map (length_of head) sections))
    (events_from head offset sections)
unfolding events_from
from_within head offset [] r = tt
from_within head offset (section ∷ others) r =
    let total = sum_by-cons (λ (n : ℕ). n) (length_of head section) (map (length_of head) others) in
    let turns = order_each (record { head = head; tempo = tempo_of section }) (length_of head section) section r.0
    (reach_all head section) in
    each_append _ _ _ (each_more _ _ _ (λ e h. omega (arith, h, total))
    (along_within (setting_of head offset section) [] (in_order section) turns))
    (each_more _ _ _ (λ e h. omega (arith, h, total)) (from_within head (offset + length_of head section) others r.1))

pub from_climbs : (head : Head) (offset : ℕ) (sections : List (List ScoreStmt)) → Each (All IsInRange) sections
    → Climb offset (events_from head offset sections)
unfolding events_from
from_climbs head offset [] r = tt
from_climbs head offset (section ∷ others) r =
    let set : SectionSetting = setting_of head offset section in
    let turns = order_each (record { head = head; tempo = tempo_of section }) (length_of head section) section r.0
    (reach_all head section) in
    climb_append offset (offset + length_of head section) (events_along set [] (in_order section)) _
    (along_climbs set 0 offset [] (in_order section) (tempo_in_range section r.0) (order_rises section) (omega arith))
    (each_more _ _ _ (λ e h. omega (arith, h)) (along_within set [] (in_order section) turns)) (omega arith)
    (from_climbs head (offset + length_of head section) others r.1)

pub reach_moved : (head head' : Head) (tempo tempo' : List TempoPoint) (n n' : ℕ) (w : ScoreWhat) → head ≡ head'
    → tempo ≡ tempo' → n ≡ n' → reach_of head' tempo' w ≤ n' → reach_of head tempo w ≤ n
reach_moved head head' tempo tempo' n n' w p q r h =
    subst (λ x. reach_of head tempo w ≤ x) (sym r)
    (subst (λ x. reach_of head x w ≤ n') (sym q) (subst (λ x. reach_of x tempo' w ≤ n') (sym p) h))
