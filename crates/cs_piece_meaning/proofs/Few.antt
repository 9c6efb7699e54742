-- A piece whose instruments schedule few notes has few starts.
use Rattle.std.proofs.Common.{◌≡◌, ◌≤◌, ◌<◌, ℕ, ℤ, pos, zero, suc, ◌+◌, ◌*◌, ◌==◌, Bool, true, false, List, [], ◌∷◌}
use Rattle.std.proofs.Common.{length, filter, is_some, slice_index_or, Option, Some, None, refl, arith, if◌then◌else◌}
use Rattle.std.proofs.lemmas.Bool.Decides.{nat_tests}
use Rattle.cs_base.specs.Limits.{most_asks, most_events, most_statements}
use Rattle.cs_gen.specs.Points.{points_of}
use Rattle.cs_ir.specs.{Asks.ask_of, declared.ask.Ask.Ask}
use Rattle.cs_meaning.specs.{Core.Block, Notes.Note}
use Rattle.cs_meaning.specs.Plain.{Cause, Plain, Table, find_table, shared_with}
use Rattle.cs_sched.specs.{Times.begins_in, Times.due_of, declared.due.Due.Due, declared.pending.Added.Added}
use Rattle.cs_sched.specs.Waiting.{answer_to, with_answer}
use Rattle.cs_tempo.specs.{declared.plot.Event.Event, declared.plot.EventAct.EventAct}
use Rattle.cs_piece_meaning.specs.Bounded.{IsBounded}
use Rattle.cs_piece_meaning.specs.Course.{begins, closing, events_in, moment_at, still}
use Rattle.cs_piece_meaning.specs.Moments.{Composition, Moment, clock_of, piece_with}
use Rattle.cs_piece_meaning.specs.Starts.{Start, act_done, all_asked, all_done, asked, begun, counted, entered}
use Rattle.cs_piece_meaning.specs.Starts.{first_started, has_room, in_vain, initialised, start_of, started, taken}
use Rattle.cs_piece_meaning.specs.Starts.{time_of, unless_none, waited, with_points}
use Rattle.cs_piece_meaning.proofs.Counting.{below, below_none, in_time, kept_more, taken_one, waiting_in}
use Rattle.cs_piece_meaning.proofs.{Unended.begins_asking, Waits.few_kept}
use Rattle.cs_base.specs.declared.resource.Res.TheVariants as res
use Rattle.cs_sched.specs.declared.pending.Added.TheVariants as added
use Rattle.cs_tempo.specs.declared.plot.EventAct.TheVariants as act

-- THE EVENTS of all cycles together are the events of the piece

-- whether an event is in cycle k, as a number
abbrev here : ℕ → ℕ → ℕ
here cycle k = if cycle == k then 1 else 0

-- a number equals at most one of the numbers below another
none_here : (cycle n : ℕ) → n ≤ cycle → below n (here cycle) ≡ 0
none_here cycle zero l = refl
none_here cycle (suc n) l = by (cycle == n) refl (none_here cycle n (omega (arith, l)))
  where
    by : (b : Bool) → (cycle == n) ≡ b → below n (here cycle) ≡ 0 → below n (here cycle) + (if b then 1 else 0) ≡ 0
    by true e before = absurd (let same : cycle ≡ n = grind (arith, nat_tests) in omega (arith, same, l))
    by false e before = omega (arith, before)

once_here : (cycle n : ℕ) → below n (here cycle) ≤ 1
once_here cycle zero = omega arith
once_here cycle (suc n) = by (cycle == n) refl (once_here cycle n)
  where
    by : (b : Bool) → (cycle == n) ≡ b → below n (here cycle) ≤ 1 → below n (here cycle) + (if b then 1 else 0) ≤ 1
    by true e before =
        let same : cycle ≡ n = grind (arith, nat_tests) in
        let none : below n (here cycle) ≡ 0 = none_here cycle n (omega (arith, same)) in omega (arith, none)
    by false e before = omega (arith, before)

abbrev events_at : List Event → ℕ → ℕ
events_at events k = length (filter (λ (e : Event). e.cycle == k) events)

more_events : (e : Event) (es : List Event) (k : ℕ) → events_at (e ∷ es) k ≡ here e.cycle k + events_at es k
more_events e es k = by (e.cycle == k)
  where
    by : (b : Bool) → length
        (if b then e ∷ filter (λ (x : Event). x.cycle == k) es else filter (λ (x : Event). x.cycle == k) es)
        ≡ (if b then 1 else 0) + events_at es k
    by true = omega arith
    by false = omega arith

below_both : (f g h : ℕ → ℕ) → ((k : ℕ) → f k ≡ g k + h k) → (n : ℕ) → below n f ≡ below n g + below n h
below_both f g h each zero = refl
below_both f g h each (suc n) =
    let before = below_both f g h each n in let now = each n in omega (arith, before, now)

all_events : (n : ℕ) (es : List Event) → below n (events_at es) ≤ length es
all_events n [] = no_events n
  where
    no_events : (k : ℕ) → below k (events_at []) ≤ 0
    no_events zero = omega arith
    no_events (suc k) = let before = no_events k in omega (arith, before)
all_events n (e ∷ es) =
    let both = below_both (events_at (e ∷ es)) (here e.cycle) (events_at es) (more_events e es) n in
    let one = once_here e.cycle n in
    let rest = all_events n es in omega (arith, both, one, rest)

-- THE COST OF A START is at most 2,001: the start itself, and one for each statement that schedules a note
-- which isn't added. A note that is added has its own start later.
abbrev price : ℕ
price = 2001

module _ (c : Composition) (bounded : IsBounded c) where
  -- the starts counted, plus the cost of each waiting note; and the credit of the notes that were added
  abbrev spent : Moment → ℕ
  spent m = m.started + m.not_started + price * waiting_in c.cycles m.waiting

  abbrev earned : Moment → ℕ
  earned m = price * m.waiting.kept

  -- from one moment to another, the starts spent exceed the credit earned by at most n
  abbrev Costs : ℕ → Moment → Moment → Type 0
  Costs n a b = spent b + earned a ≤ spent a + earned b + n

  costs_both : (i j k : ℕ) (a b d : Moment) → i + j ≤ k → Costs i a b → Costs j b d → Costs k a d
  costs_both i j k a b d l p q = numbers i j k (spent a) (earned a) (spent b) (earned b) (spent d) (earned d) l p q
    where
      numbers : (i j k sa ea sb eb sd ed : ℕ) → i + j ≤ k → sb + ea ≤ sa + eb + i → sd + eb ≤ sb + ed + j
          → sd + ea ≤ sa + ed + k
      numbers i j k sa ea sb eb sd ed l p q = omega (arith, l, p, q)

  asked_costs : (now : ℕ) (time : ℤ) (a : Ask) (m : Moment) → Costs 1 m (asked c now time a m)
  asked_costs now time a m = by (answer_to (clock_of c) now a m.waiting.kept) (in_time c now a m.waiting.kept)
    where
      d : Due
      d = due_of (clock_of c) now time a

      by : (answer : Added) → (answer ≡ added.Kept → begins_in (clock_of c) now a < c.cycles)
          → Costs 1 m (counted answer (record m { waiting = with_answer answer d m.waiting }))
      by added.Kept early = let more = kept_more c.cycles d m.waiting (early refl) in omega (arith, more)
      by _ early = omega arith

  all_cost : (now : ℕ) (time : ℤ) (asks : List (List ℤ)) (m : Moment)
      → Costs (length asks) m (all_asked c now time asks m)
  all_cost now time [] m = omega arith
  all_cost now time (a ∷ asks) m =
      let next : Moment = asked c now time (ask_of a) m in
      costs_both 1 (length asks) (length (a ∷ asks)) m next (all_asked c now time asks next) (omega arith)
      (asked_costs now time (ask_of a) m) (all_cost now time asks next)

  entered_costs : (now : ℕ) (s : Start) (body : Block) (t : Note Plain) (cause : Option Cause) (m : Moment)
      → Costs 1 m (entered now s body t cause m)
  entered_costs now s body t None m = omega arith
  entered_costs now s body t (Some cause) m = omega arith

  initialised_costs : (now : ℕ) (s : Start) (body : Block) (t : Note Plain) (m : Moment)
      → length t.world.asks ≤ most_statements → Costs price m (initialised c now s body t m)
  initialised_costs now s body t m few =
      let before : Moment = record m { shared = t.world.shared } in
      let done : Moment = all_asked c now (time_of s) t.world.asks before in
      costs_both (length t.world.asks) 1 price m done (entered now s body t t.world.cause done) (omega (arith, few))
      (all_cost now (time_of s) t.world.asks before) (entered_costs now s body t t.world.cause done)

  started_costs : (now : ℕ) (s : Start) (o : Option Block) (m : Moment) → c.instrument s.number ≡ o
      → Costs price m (started c now s o m)
  started_costs now s None m there = omega arith
  started_costs now s (Some body) m there = by (has_room s m)
    where
      few : length (begun c m.made s body m).world.asks ≤ most_statements
      few =
          let own = begins_asking (piece_with c m.made s.fields) body m.shared in
          let most = bounded.instruments s.number body there in omega (arith, own, most)

      by : (b : Bool) → Costs price m (if b then initialised c now s body (begun c m.made s body m) m else in_vain m)
      by true = initialised_costs now s body (begun c m.made s body m) m few
      by false = omega arith

  -- the events of a cycle
  points_cost : (t : Option Table) (number : ℕ) (points : List ℤ) (m : Moment)
      → Costs 0 m (with_points t number points m)
  points_cost None number points m = omega arith
  points_cost (Some t) number points m = by (is_some t.frozen)
    where
      by : (b : Bool) → Costs 0 m (if b then m else record m
          { shared = shared_with (res.Table number) (λ j. slice_index_or points j (pos 0)) m.shared })
      by true = omega arith
      by false = omega arith

  act_costs : (now : ℕ) (a : EventAct) (m : Moment) → Costs price m (act_done c now a m)
  act_costs now (act.Start instr cycles fields) m =
      let s : Start = record { number = pos instr; cycles = cycles; fields = fields } in
      started_costs now s (c.instrument (pos instr)) m refl
  act_costs now (act.Table number size gen args) m =
      let made : Moment = record m { made = number ∷ m.made } in
      let next : Moment = with_points (find_table c.tables (pos number)) number (points_of size gen args) made in
      costs_both 0 0 price m made next (omega arith) (omega arith)
      (points_cost (find_table c.tables (pos number)) number (points_of size gen args) made)

  events_cost : (es : List Event) (m : Moment) → Costs (price * length es) m (all_done c es m)
  events_cost [] m = omega arith
  events_cost (e ∷ es) m =
      let next : Moment = act_done c e.cycle e.act m in
      costs_both price (price * length es) (price * length (e ∷ es)) m next (all_done c es next) (omega arith)
      (act_costs e.cycle e.act m) (events_cost es next)

  -- the notes that wait for the cycle, each with its cost
  first_cost : (now : ℕ) (d : Due) (rest : List Due) (m : Moment) → now ≤ c.cycles → m.waiting.due now ≡ d ∷ rest
      → Costs 0 m (first_started c now (d ∷ rest) m)
  first_cost now d rest m l is =
      let out : Moment = record m { waiting = taken now rest m.waiting } in
      let one = taken_one c.cycles now d rest m.waiting l is in
      let next = started_costs now (start_of d) (c.instrument d.number) out refl in omega (arith, one, next)

  waited_cost : (n now : ℕ) (m : Moment) → now ≤ c.cycles → Costs 0 m (waited n c now m)
  waited_cost zero now m l = omega arith
  waited_cost (suc n) now m l = by (m.waiting.due now) refl (λ x. waited_cost n now x l)
    where
      by : (ds : List Due) → m.waiting.due now ≡ ds → ((x : Moment) → Costs 0 x (waited n c now x))
          → Costs 0 m (unless_none ds m (waited n c now (first_started c now ds m)))
      by [] is later = omega arith
      by (d ∷ rest) is later =
          let next : Moment = first_started c now (d ∷ rest) m in
          costs_both 0 0 0 m next (waited n c now next) (omega arith) (first_cost now d rest m l is) (later next)

  begins_cost : (n : ℕ) (m : Moment) → n ≤ c.cycles → Costs (price * events_at c.events n) m (begins c n m)
  begins_cost n m l =
      let es : List Event = events_in c n in
      let done : Moment = all_done c es (still n m) in
      costs_both (price * length es) 0 (price * length es) m done (begins c n m) (omega arith)
      (events_cost es (still n m)) (waited_cost most_asks n done l)

  moment_cost : (n : ℕ) → n ≤ c.cycles
      → spent (moment_at c n) ≤ earned (moment_at c n) + price * below n (events_at c.events)
  moment_cost zero l = let idle = below_none (suc c.cycles) (λ k. 0) (λ k h. refl) in omega (arith, idle)
  moment_cost (suc n) l =
      let before = moment_cost n (omega (arith, l)) in
      let now = begins_cost n (moment_at c n) (omega (arith, l)) in
      numbers (spent (moment_at c n)) (earned (moment_at c n)) (spent (begins c n (moment_at c n)))
      (earned (begins c n (moment_at c n))) (below n (events_at c.events)) (events_at c.events n) before now
    where
      numbers : (sa ea sb eb x y : ℕ) → sa ≤ ea + price * x → sb + ea ≤ sa + eb + price * y → sb ≤ eb + price * (x + y)
      numbers sa ea sb eb x y p q = omega (arith, p, q)

  pub few_starts : (closing c).started + (closing c).not_started ≤ (most_events + most_asks) * (most_statements + 1)
  few_starts =
      let last : Moment = moment_at c c.cycles in
      let before = moment_cost c.cycles (omega arith) in
      let now = begins_cost c.cycles last (omega arith) in
      let kept : (closing c).waiting.kept ≤ most_asks = few_kept c c.cycles in
      let events : below (suc c.cycles) (events_at c.events) ≤ length c.events = all_events (suc c.cycles) c.events in
      let few : length c.events ≤ most_events = bounded.events in
      numbers (spent last) (earned last) (closing c).started (closing c).not_started
      (waiting_in c.cycles (closing c).waiting)
      (closing c).waiting.kept (below c.cycles (events_at c.events)) (events_at c.events c.cycles) (length c.events)
      before now kept events few
    where
      numbers : (sa ea s n w k x y e : ℕ) → sa ≤ ea + price * x → s + n + price * w + ea ≤ sa + price * k + price * y
          → k ≤ most_asks → x + y ≤ e → e ≤ most_events → s + n ≤ (most_events + most_asks) * (most_statements + 1)
      numbers sa ea s n w k x y e p q l m f = omega (arith, p, q, l, m, f)
