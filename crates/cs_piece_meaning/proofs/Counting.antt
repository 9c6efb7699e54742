-- Each start is counted once, either among the starts that started a note or among those that didn't.
use Rattle.std.proofs.Common.{◌≡◌, ◌≢◌, ◌≤◌, ◌<◌, ◌∙◌, ℕ, ℤ, pos, zero, suc, ◌+◌, ◌==◌, Bool, cond, true, false, nat_le}
use Rattle.std.proofs.Common.{List, [], ◌∷◌, ◌++◌, length, is_some, slice_index_or, Option, Some, None, refl, sym, ap}
use Rattle.std.proofs.Common.{arith, eq-eqb, length-append, ne_eqb, if◌then◌else◌}
use Rattle.std.specs.{Int.is_negative, List.count_by}
use Rattle.std.proofs.lemmas.{Bool.Decides.nat_tests, List.FromFn.sum_by-map-range_with_len_more, List.Sums.sum_by-cons}
use Rattle.cs_base.specs.Limits.{most_asks}
use Rattle.cs_gen.specs.Points.{points_of}
use Rattle.cs_ir.specs.{Asks.ask_of, declared.ask.Ask.Ask}
use Rattle.cs_meaning.specs.{Core.Block, Notes.Note}
use Rattle.cs_meaning.specs.Plain.{Cause, Plain, Table, find_table, shared_with}
use Rattle.cs_sched.specs.{Times.begins_in, Times.due_of, declared.due.Due.Due, declared.pending.Added.Added}
use Rattle.cs_sched.specs.Waiting.{Waiting, answer_to, with_answer}
use Rattle.cs_tempo.specs.{declared.plot.Event.Event, declared.plot.EventAct.EventAct}
use Rattle.cs_piece_meaning.specs.Counting.{asks_of, asks_of_act, asks_of_events, asks_of_first, asks_of_waiting}
use Rattle.cs_piece_meaning.specs.Counting.{is_start, none_without, starts_before, starts_from, starts_in, starts_note}
use Rattle.cs_piece_meaning.specs.Course.{begins, closing, events_in, moment_at, still}
use Rattle.cs_piece_meaning.specs.Moments.{Composition, Moment, clock_of}
use Rattle.cs_piece_meaning.specs.Starts.{Start, act_done, all_asked, all_done, asked, begun, counted, entered}
use Rattle.cs_piece_meaning.specs.Starts.{first_started, has_room, in_vain, initialised, start_of, started, taken}
use Rattle.cs_piece_meaning.specs.Starts.{time_of, unless_none, waited, with_points}
use Rattle.cs_piece_meaning.proofs.Waits.{none_waits}
use Rattle.cs_base.specs.declared.resource.Res.TheVariants as res
use Rattle.cs_sched.specs.declared.pending.Added.TheVariants as added
use Rattle.cs_tempo.specs.declared.plot.EventAct.TheVariants as act

-- THE SUM of a function over the numbers below n

abbrev pub below : ℕ → (ℕ → ℕ) → ℕ
below zero f = 0
below (suc n) f = below n f + f n

-- the sum is one more if the function is one more at one place
module _ (f g : ℕ → ℕ) (j : ℕ) (others : (k : ℕ) → k ≢ j → g k ≡ f k) (here : g j ≡ f j + 1) where
  below_it : (n : ℕ) → n ≤ j → below n g ≡ below n f
  below_it zero l = refl
  below_it (suc n) l =
      let before = below_it n (omega (arith, l)) in
      let now : g n ≡ f n = others n (λ e. let never : suc n ≤ n = omega (arith, e, l) in omega (arith, never)) in omega
      (arith, before, now)

  above_it : (n : ℕ) → j < n → below n g ≡ below n f + 1
  above_it zero l = absurd (omega (arith, l))
  above_it (suc n) l = by (n == j) refl (λ k. above_it n k)
    where
      by : (b : Bool) → (n == j) ≡ b → (j < n → below n g ≡ below n f + 1) → below n g + g n ≡ below n f + f n + 1
      by true e earlier =
          let same : n ≡ j = grind (arith, nat_tests) in
          let before = below_it n (omega (arith, same)) in
          let now : g n ≡ f n + 1 = ap g same ∙ (here ∙ ap (λ k. f k + 1) (sym same)) in omega (arith, before, now)
      by false e earlier =
          let apart : n ≢ j = grind (arith, nat_tests) in
          let further : j < n = grind (arith, nat_tests) in
          let before = earlier further in
          let now = others n apart in omega (arith, before, now)

pub below_none : (n : ℕ) (f : ℕ → ℕ) → ((k : ℕ) → k < n → f k ≡ 0) → below n f ≡ 0
below_none zero f h = refl
below_none (suc n) f h =
    let before = below_none n f (λ k l. h k (omega (arith, l))) in let now =
    h n (omega arith) in omega (arith, before, now)

-- THE WAITING NOTES in a piece of `cycles` cycles

abbrev pub waiting_in : ℕ → Waiting → ℕ
waiting_in cycles w = below (suc cycles) (λ k. length (w.due k))

-- one more note is added
pub kept_more : (cycles : ℕ) (d : Due) (w : Waiting) → d.cycle < cycles
    → waiting_in cycles (with_answer added.Kept d w) ≡ waiting_in cycles w + 1
kept_more cycles d w l =
    above_it (λ k. length (w.due k)) (λ k. length (if k == d.cycle then w.due k ++ d ∷ [] else w.due k)) d.cycle
    (λ k apart. ap (λ b. length (if b then w.due k ++ d ∷ [] else w.due k)) (ne_eqb k d.cycle apart))
    (ap (λ b. length (if b then w.due d.cycle ++ d ∷ [] else w.due d.cycle)) (eq-eqb d.cycle d.cycle refl)
    ∙ length-append (w.due d.cycle) (d ∷ [])) (suc cycles) (omega (arith, l))

-- one note is taken out
pub taken_one : (cycles now : ℕ) (d : Due) (rest : List Due) (w : Waiting) → now ≤ cycles → w.due now ≡ d ∷ rest
    → waiting_in cycles w ≡ waiting_in cycles (taken now rest w) + 1
taken_one cycles now d rest w l is =
    let long : suc (length rest) ≡ length rest + 1 = omega arith in
    above_it (λ k. length (if k == now then rest else w.due k)) (λ k. length (w.due k)) now
    (λ k apart. ap (λ b. length (if b then rest else w.due k)) (sym (ne_eqb k now apart)))
    (ap length is ∙ long ∙ ap (λ b. length (if b then rest else w.due now) + 1) (sym (eq-eqb now now refl)))
    (suc cycles) (omega (arith, l))

-- STARTS that are counted, and starts that wait to be counted

module _ (c : Composition) where
  abbrev total : Moment → ℕ
  total m = m.started + m.not_started + waiting_in c.cycles m.waiting

  pub in_time : (now : ℕ) (a : Ask) (kept : ℕ) → answer_to (clock_of c) now a kept ≡ added.Kept
      → begins_in (clock_of c) now a < c.cycles
  in_time now a kept h = by (is_negative a.dur) (nat_le most_asks kept) (nat_le c.cycles (begins_in (clock_of c) now a))
      refl h
    where
      by : (b1 b2 b3 : Bool) → nat_le c.cycles (begins_in (clock_of c) now a) ≡ b3
          → (if b1 then added.Negative else (if b2 then added.TooMany else (if b3 then added.PastEnd else added.Kept)))
          ≡ added.Kept → begins_in (clock_of c) now a < c.cycles
      by false false false e h = grind (arith, nat_tests)
      by _ _ _ e h = absurd (cc)

  asked_more : (now : ℕ) (time : ℤ) (a : Ask) (m : Moment) → total (asked c now time a m) ≡ total m + 1
  asked_more now time a m = by (answer_to (clock_of c) now a m.waiting.kept) (in_time now a m.waiting.kept)
    where
      d : Due
      d = due_of (clock_of c) now time a

      by : (answer : Added) → (answer ≡ added.Kept → begins_in (clock_of c) now a < c.cycles)
          → total (counted answer (record m { waiting = with_answer answer d m.waiting })) ≡ total m + 1
      by added.Kept early = let more = kept_more c.cycles d m.waiting (early refl) in omega (arith, more)
      by _ early = omega arith

  all_more : (now : ℕ) (time : ℤ) (asks : List (List ℤ)) (m : Moment)
      → total (all_asked c now time asks m) ≡ total m + length asks
  all_more now time [] m = omega arith
  all_more now time (a ∷ asks) m =
      let one = asked_more now time (ask_of a) m in
      let rest = all_more now time asks (asked c now time (ask_of a) m) in omega (arith, one, rest)

  entered_more : (now : ℕ) (s : Start) (body : Block) (t : Note Plain) (cause : Option Cause) (m : Moment)
      → total (entered now s body t cause m) ≡ total m + 1
  entered_more now s body t None m = omega arith
  entered_more now s body t (Some cause) m = omega arith

  initialised_more : (now : ℕ) (s : Start) (body : Block) (t : Note Plain) (m : Moment)
      → total (initialised c now s body t m) ≡ total m + length t.world.asks + 1
  initialised_more now s body t m =
      let before : Moment = record m { shared = t.world.shared } in
      let asks = all_more now (time_of s) t.world.asks before in
      let enters = entered_more now s body t t.world.cause (all_asked c now (time_of s) t.world.asks before) in omega
      (arith, asks, enters)

  started_more : (now : ℕ) (s : Start) (o : Option Block) (m : Moment)
      → total (started c now s o m) ≡ total m + asks_of c s o m + 1
  started_more now s None m = omega arith
  started_more now s (Some body) m = by (has_room s m)
    where
      by : (b : Bool) → total (if b then initialised c now s body (begun c m.made s body m) m else in_vain m)
          ≡ total m + (if b then length (begun c m.made s body m).world.asks else 0) + 1
      by true = initialised_more now s body (begun c m.made s body m) m
      by false = omega arith

  -- the events of a cycle
  points_same : (t : Option Table) (number : ℕ) (points : List ℤ) (m : Moment)
      → total (with_points t number points m) ≡ total m
  points_same None number points m = refl
  points_same (Some t) number points m = by (is_some t.frozen)
    where
      by : (b : Bool) → total (if b then m else record m
          { shared = shared_with (res.Table number) (λ j. slice_index_or points j (pos 0)) m.shared }) ≡ total m
      by true = refl
      by false = refl

  act_more : (now : ℕ) (a : EventAct) (m : Moment)
      → total (act_done c now a m) ≡ total m + cond (starts_note a) 1 0 + asks_of_act c a m
  act_more now (act.Start instr cycles fields) m =
      let s : Start = record { number = pos instr; cycles = cycles; fields = fields } in
      let more = started_more now s (c.instrument (pos instr)) m in omega (arith, more)
  act_more now (act.Table number size gen args) m =
      let same = points_same (find_table c.tables (pos number)) number (points_of size gen args)
      (record m { made = number ∷ m.made }) in omega (arith, same)

  events_more : (es : List Event) (m : Moment)
      → total (all_done c es m) ≡ total m + count_by is_start es + asks_of_events c es m
  events_more [] m = omega arith
  events_more (e ∷ es) m =
      let one = act_more e.cycle e.act m in
      let rest = events_more es (act_done c e.cycle e.act m) in
      let all = sum_by-cons (λ (x : Event). cond (is_start x) 1 0) e es in omega (arith, one, rest, all)

  -- the notes that wait for the cycle
  first_more : (now : ℕ) (ds : List Due) (m : Moment) → now ≤ c.cycles → m.waiting.due now ≡ ds
      → total (first_started c now ds m) ≡ total m + asks_of_first c now ds m
  first_more now [] m l is = omega arith
  first_more now (d ∷ rest) m l is =
      let one = taken_one c.cycles now d rest m.waiting l is in
      let more = started_more now (start_of d) (c.instrument d.number)
      (record m { waiting = taken now rest m.waiting }) in omega (arith, one, more)

  waited_more : (n now : ℕ) (m : Moment) → now ≤ c.cycles
      → total (waited n c now m) ≡ total m + asks_of_waiting n c now m
  waited_more zero now m l = omega arith
  waited_more (suc n) now m l = by (m.waiting.due now) refl (λ x. waited_more n now x l)
    where
      by : (ds : List Due) → m.waiting.due now ≡ ds
          → ((x : Moment) → total (waited n c now x) ≡ total x + asks_of_waiting n c now x)
          → total (unless_none ds m (waited n c now (first_started c now ds m)))
          ≡ total m + none_without ds (asks_of_first c now ds m + asks_of_waiting n c now (first_started c now ds m))
      by [] is later = omega arith
      by (d ∷ rest) is later =
          let first = first_more now (d ∷ rest) m l is in
          let more = later (first_started c now (d ∷ rest) m) in omega (arith, first, more)

  added_up : (a b t x y z : ℕ) → b ≡ a + x + y → t ≡ b + z → t ≡ a + (x + y + z)
  added_up a b t x y z e f = omega (arith, e, f)

  begins_more : (n : ℕ) (m : Moment) → n ≤ c.cycles → total (begins c n m) ≡ total m + starts_from c n (still n m)
  unfolding starts_from
  begins_more n m l =
      let es : List Event = events_in c n in
      let done : Moment = all_done c es (still n m) in
      added_up (total m) (total done) (total (begins c n m)) (count_by is_start es) (asks_of_events c es (still n m))
      (asks_of_waiting most_asks c n done) (events_more es (still n m)) (waited_more most_asks n done l)

  more_cycles : (n : ℕ) → starts_before c (suc n) ≡ starts_before c n + starts_in c n
  more_cycles n =
      ap (starts_before c) (let e : suc n ≡ n + 1 = omega arith in e)
      ∙ sum_by-map-range_with_len_more (λ (x : ℕ). x) (starts_in c) 0 n n (omega arith)

  after_more : (t a s u : ℕ) → a ≡ s → t ≡ a + u → t ≡ s + u
  after_more t a s u e f = omega (arith, e, f)

  moment_counts : (n : ℕ) → n ≤ c.cycles → total (moment_at c n) ≡ starts_before c n
  moment_counts zero l = let idle = below_none (suc c.cycles) (λ k. 0) (λ k h. refl) in omega (arith, idle)
  moment_counts (suc n) l =
      after_more (total (begins c n (moment_at c n))) (total (moment_at c n)) (starts_before c n) (starts_in c n)
      (moment_counts n (omega (arith, l))) (begins_more n (moment_at c n) (omega (arith, l))) ∙ sym (more_cycles n)

  without_waiting : (s n w t : ℕ) → w ≡ 0 → s + n + w ≡ t → s + n ≡ t
  without_waiting s n w t e f = omega (arith, e, f)

  pub none_lost : (closing c).started + (closing c).not_started ≡ starts_before c (c.cycles + 1)
  none_lost =
      let idle : waiting_in c.cycles (closing c).waiting ≡ 0 =
      below_none (suc c.cycles) (λ k. length ((closing c).waiting.due k))
      (λ k h. ap length (none_waits c c.cycles k (omega (arith, h)))) in
      let all : total (closing c) ≡ starts_before c (suc c.cycles) =
      after_more (total (closing c)) (total (moment_at c c.cycles)) (starts_before c c.cycles) (starts_in c c.cycles)
      (moment_counts c.cycles (omega arith)) (begins_more c.cycles (moment_at c c.cycles) (omega arith))
      ∙ sym (more_cycles c.cycles) in
      without_waiting (closing c).started (closing c).not_started (waiting_in c.cycles (closing c).waiting)
      (starts_before c (suc c.cycles)) idle all
      ∙ ap (starts_before c) (let e : suc c.cycles ≡ c.cycles + 1 = omega arith in e)
