-- The walk along a section's turns.
use Rattle.std.proofs.Common.{◌≡◌, ℕ, zero, suc, ◌+◌, ◌<◌, ◌≤◌, List, [], ◌∷◌, ◌++◌, drop, take, map, reverse, length}
use Rattle.std.proofs.Common.{get_or, true, nat_eq, Option, Some, slice_get, arith, refl, ap, sym, ◌∙◌, append_assoc}
use Rattle.std.proofs.Common.{append-nil, subst, ⊎_elim}
use Rattle.std.specs.{List.All, List.AllByRecursion as Each, Option.IfSome, HashMap.get}
use Rattle.std.proofs.lemmas.{Bool.cases_Bool, Bool.Decides.nat_tests, List.get_or-map}
use Rattle.std.proofs.lemmas.List.{drop_more, drop_all, take_more, reverse-append, length-reverse, length-take}
use Rattle.std.proofs.lemmas.List.Elements.{All-from_recursion, All-map, recursion_from_All}
use Rattle.cs_score.specs.{Ranges.IsInRange, Ranges.HasRange, declared.statement.ScoreWhat.ScoreWhat}
use Rattle.cs_score.specs.declared.statement.ScoreWhat.TheVariants.{Note, Hold, Stop, Table}
use Rattle.cs_score.specs.declared.statement.ScoreStmt.{ScoreStmt}
use Rattle.cs_tempo.specs.{declared.plot.Event.Event, inner.Clock.Pace, Sections.cycle_at, Sections.end_of}
use Rattle.cs_tempo.specs.{Sections.reach_of, Order.has_turn, Order.beat_of, Order.in_order, Pairing.ended_by}
use Rattle.cs_tempo.specs.{Pairing.stop_of, inner.Queue.Queue, inner.Events.HasEnd, inner.Events.IsTurnIn}
use Rattle.cs_tempo.specs.inner.Counted.{own_stop, sounding, sounding_after, stops_of}
use Rattle.cs_tempo.specs.inner.Stops.{Shows, Queues, AreQueues, ending}
use Rattle.cs_tempo.specs.Plot.{SectionSetting, events_at, events_along}
use Rattle.cs_tempo.proofs.{Ended.first_ended, Elements.put_each}

note_within : (pace : Pace) (cycles at len : ℕ) → end_of pace.head pace.tempo at len ≤ cycles
    → cycle_at pace.head pace.tempo at ≤ cycles
note_within pace cycles at len h = grind (arith, nat_tests)

-- the cycle of a turn's beat is within its section
pub start_within : (pace : Pace) (cycles : ℕ) (w : ScoreWhat) → HasRange w → reach_of pace.head pace.tempo w ≤ cycles
    → has_turn w ≡ true → HasEnd pace cycles (beat_of w)
start_within pace cycles (Note instr at len more) r h t =
    record { beat = omega (arith, r.1); cycle = note_within pace cycles at len h }
start_within pace cycles (Hold instr at given more) r h t = record { beat = r.1; cycle = omega arith }
start_within pace cycles (Stop instr at) r h t = record { beat = r.1; cycle = h }
start_within pace cycles (Table number at size gen args) r h t = record { beat = r.1; cycle = h }
start_within pace cycles _ r h t = absurd (cc)

own_within : (pace : Pace) (cycles n : ℕ) (w : ScoreWhat) (later : List ℕ) → HasRange w
    → reach_of pace.head pace.tempo w ≤ cycles →
    Each (HasEnd pace cycles) later → Each (HasEnd pace cycles) (own_stop n w ++ later)
own_within pace cycles n (Stop instr at) later r h e =
    ⊎_elim (λ t. rw t (record { beat = r.1; cycle = h }, e)) (λ f. rw f e) (cases_Bool (nat_eq n instr))
own_within pace cycles n _ later r h e = e

-- each stop of an instrument is within the section
stops_within : (pace : Pace) (cycles n : ℕ) (ss : List ScoreStmt) → Each (IsTurnIn pace cycles) ss
    → Each (HasEnd pace cycles) (stops_of n ss)
unfolding stops_of
stops_within pace cycles n [] e = tt
stops_within pace cycles n (s ∷ ss) e =
    own_within pace cycles n s.what _ e.0.range e.0.reach (stops_within pace cycles n ss e.1)

found_within : (P : ℕ → Type 0) (xs : List ℕ) (k : ℕ) → Each P xs → IfSome (slice_get xs k) P
found_within P [] k e = tt
found_within P (x ∷ xs) zero e = e.0
found_within P (x ∷ xs) (suc k) e = found_within P xs k e.1

-- the rest of a list from the index of a walk on
pub ahead : (ss : List ScoreStmt) (k : ℕ) (s : ScoreStmt) → k < length ss → s ≡ get_or ss k s
    → drop k ss ≡ s ∷ drop (k + 1) ss
ahead ss k s some at = drop_more ss k s some ∙ ap (λ x. x ∷ drop (k + 1) ss) (sym at)

pub behind : (ss : List ScoreStmt) (k : ℕ) (s : ScoreStmt) → k < length ss → s ≡ get_or ss k s
    → reverse (take (k + 1) ss) ≡ s ∷ reverse (take k ss)
behind ss k s some at =
    ap reverse (take_more ss k s some ∙ ap (λ x. take k ss ++ x ∷ []) (sym at)) ∙ reverse-append (take k ss) (s ∷ [])

pub events_step : (set : SectionSetting) (ss : List ScoreStmt) (k : ℕ) (s : ScoreStmt) (done : List Event)
    → k < length ss → s ≡ get_or ss k s → (done ++ events_at set (stop_of (reverse (take k ss)) (drop (k + 1) ss) s) s)
    ++ events_along set (reverse (take (k + 1) ss)) (drop (k + 1) ss)
    ≡ done ++ events_along set (reverse (take k ss)) (drop k ss)
unfolding events_along
events_step set ss k s done some at =
    rw (ahead ss k s some at, behind ss k s some at) (append_assoc done _ _)

pub events_none : (set : SectionSetting) (ss : List ScoreStmt) (k : ℕ) (done : List Event) → length ss ≤ k →
    done ++ events_along set (reverse (take k ss)) (drop k ss) ≡ done
unfolding events_along
events_none set ss k done all = rw (drop_all k ss all) (append-nil done)

-- a turn's ending stop, from the queues
module _ (earlier later : List ScoreStmt) (s : ScoreStmt) where
  ending_of : (w : ScoreWhat) (stops : ℕ → List ℕ) → s.what ≡ w → ((n : ℕ) → stops n ≡ own_stop n w ++ stops_of n later)
      → ending w stops (λ n. sounding n earlier) ≡ ended_by w (length earlier) (s ∷ earlier) later
  ending_of (Hold instr at given more) stops is e =
      ap (λ xs. slice_get xs (sounding instr earlier)) (e instr)
      ∙ sym (first_ended s instr at given more earlier later is)
  ending_of _ stops is e = refl

  pub ending_is : ending s.what (λ n. stops_of n (s ∷ later)) (λ n. sounding n earlier) ≡ stop_of earlier later s
  unfolding stops_of
  ending_is = ending_of s.what (λ n. stops_of n (s ∷ later)) refl (λ n. refl)

  -- the stop that ends a held note is within the section
  ended_within : (pace : Pace) (cycles : ℕ) (w : ScoreWhat) → s.what ≡ w → Each (IsTurnIn pace cycles) later
      → IfSome (ended_by w (length earlier) (s ∷ earlier) later) (HasEnd pace cycles)
  ended_within pace cycles (Hold instr at given more) is e =
      subst (λ (o : Option ℕ). IfSome o (HasEnd pace cycles)) (sym (first_ended s instr at given more earlier later is))
      (found_within (HasEnd pace cycles) (stops_of instr later) (sounding instr earlier)
      (stops_within pace cycles instr later e))
  ended_within pace cycles _ is e = tt

pub stop_within : (pace : Pace) (cycles : ℕ) (earlier later : List ScoreStmt) (s : ScoreStmt)
    → Each (IsTurnIn pace cycles) later → IfSome (stop_of earlier later s) (HasEnd pace cycles)
stop_within pace cycles earlier later s e = ended_within earlier later s pace cycles s.what refl e

few_more : (n : ℕ) (w : ScoreWhat) (m k : ℕ) → m ≤ k → sounding_after n w m ≤ suc k
few_more n (Hold instr at given more) m k h =
    ⊎_elim (λ t. rw t (omega arith)) (λ f. rw f (omega arith)) (cases_Bool (nat_eq n instr))
few_more n (Stop instr at) m k h =
    ⊎_elim (λ t. rw t (omega arith)) (λ f. rw f (omega arith)) (cases_Bool (nat_eq n instr))
few_more n _ m k h = omega arith

pub few_sound : (n : ℕ) (ss : List ScoreStmt) → sounding n ss ≤ length ss
unfolding sounding
few_sound n [] = omega arith
few_sound n (s ∷ ss) = few_more n s.what (sounding n ss) (length ss) (few_sound n ss)

pub few_queues : (queues : Queues) (earlier later : List ScoreStmt) (n : ℕ) (queue : Queue)
    → AreQueues queues earlier later → get nat_eq queues n ≡ Some queue → queue.sounding ≤ length earlier
few_queues queues earlier later n queue a e =
    let shown : Shows (Some queue) (stops_of n later) (sounding n earlier) =
    subst (λ (o : Option Queue). Shows o (stops_of n later) (sounding n earlier)) e (a n) in
    omega (arith, shown.1, few_sound n earlier)

pub queues_step : (queues : Queues) (earlier later : List ScoreStmt) (s : ScoreStmt) →
    ((n : ℕ) → Shows (get nat_eq queues n) (stops_of n later) (sounding_after n s.what (sounding n earlier)))
    → AreQueues queues (s ∷ earlier) later
unfolding sounding
queues_step queues earlier later s h = h

pub queues_at : (queues : Queues) (earlier later : List ScoreStmt) (s : ScoreStmt) (n : ℕ)
    → AreQueues queues earlier (s ∷ later) →
    Shows (get nat_eq queues n) (own_stop n s.what ++ stops_of n later) (sounding n earlier)
unfolding stops_of
queues_at queues earlier later s n a = a n

-- the turns of a section in order
pub order_each : (pace : Pace) (cycles : ℕ) (section : List ScoreStmt) → All IsInRange section
    → All (λ s. reach_of pace.head pace.tempo s.what ≤ cycles) section → Each (IsTurnIn pace cycles) (in_order section)
unfolding in_order
order_each pace cycles [] r h = tt
order_each pace cycles (s ∷ later) r h =
    let rest = order_each pace cycles later (λ k d l. r (suc k) d (omega arith)) (λ k d l. h (suc k) d (omega arith)) in
    ⊎_elim
    (λ t. rw t (put_each (IsTurnIn pace cycles) s (in_order later)
    (record { range = r 0 s (omega arith); reach = h 0 s (omega arith); turn = t }) rest))
    (λ f. rw f rest) (cases_Bool (has_turn s.what))

pub each_map : {X Y : Type 0} (P : Y → Type 0) (f : X → Y) (xs : List X) → All (λ x. P (f x)) xs → Each P (map f xs)
each_map P f xs a = recursion_from_All P (map f xs) (All-map P f xs a)

each_seen : {X Y : Type 0} (P : Y → Type 0) (f : X → Y) (xs : List X) → Each P (map f xs) → Each (λ x. P (f x)) xs
each_seen P f [] e = tt
each_seen P f (x ∷ xs) e = (e.0, each_seen P f xs e.1)

pub all_map : {X Y : Type 0} (P : Y → Type 0) (f : X → Y) (xs : List X) → Each P (map f xs) → All (λ x. P (f x)) xs
all_map P f xs e = All-from_recursion (λ x. P (f x)) xs (each_seen P f xs e)

-- an item of a list, mapped by a function
pub seen_at : {X Y : Type 0} (f : X → Y) (xs : List X) (k : ℕ) (x : X) → k < length xs → x ≡ get_or xs k x
    → f x ≡ get_or (map f xs) k (f x)
seen_at f xs k x some at = ap f at ∙ sym (get_or-map f xs k x (f x) some)

-- one step of the walk: the turn s at index k, the turns before it and the turns after it
module _ (ss : List ScoreStmt) (k : ℕ) (s : ScoreStmt) (some : k < length ss) (here : s ≡ get_or ss k s) where
  abbrev pub before : List ScoreStmt
  before = reverse (take k ss)

  abbrev pub after : List ScoreStmt
  after = drop (k + 1) ss

  pub lines_here : (queues : Queues) → AreQueues queues (reverse (take k ss)) (drop k ss)
      → AreQueues queues (reverse (take k ss)) (s ∷ drop (k + 1) ss)
  lines_here queues a = subst (λ later. AreQueues queues (reverse (take k ss)) later) (ahead ss k s some here) a

  pub stop_is : (r : Option ℕ) (queues : Queues) → AreQueues queues (reverse (take k ss)) (drop k ss) →
      ((stops : ℕ → List ℕ) (sounds : ℕ → ℕ) → ((n : ℕ) → Shows (get nat_eq queues n) (stops n) (sounds n))
      → r ≡ ending s.what stops sounds) → r ≡ stop_of (reverse (take k ss)) (drop (k + 1) ss) s
  stop_is r queues a h =
      h (λ n. stops_of n (s ∷ drop (k + 1) ss)) (λ n. sounding n (reverse (take k ss))) (lines_here queues a)
      ∙ ending_is (reverse (take k ss)) (drop (k + 1) ss) s

  pub lines_then : (queues queues' : Queues) → AreQueues queues (reverse (take k ss)) (drop k ss) →
      ((n : ℕ) (stops : List ℕ) (sounds : ℕ) → Shows (get nat_eq queues n) (own_stop n s.what ++ stops) sounds
      → Shows (get nat_eq queues' n) stops (sounding_after n s.what sounds)) →
      AreQueues queues' (reverse (take (k + 1) ss)) (drop (k + 1) ss)
  lines_then queues queues' a h =
      subst (λ earlier. AreQueues queues' earlier (drop (k + 1) ss)) (sym (behind ss k s some here))
      (queues_step queues' (reverse (take k ss)) (drop (k + 1) ss) s
      (λ n. h n (stops_of n (drop (k + 1) ss)) (sounding n (reverse (take k ss)))
      (queues_at queues (reverse (take k ss)) (drop (k + 1) ss) s n (lines_here queues a))))

pub few_before : (ss : List ScoreStmt) (k : ℕ) → length (reverse (take k ss)) ≤ k
few_before ss k = omega (arith, length-reverse (take k ss), length-take k ss)
