-- A fact that holds throughout the steps at the beginning of a cycle, if it is preserved whenever a note
-- joins, a note is scheduled, or a waiting note is taken out.
use Rattle.std.proofs.Common.{◌≡◌, ◌∙◌, ◌⊎◌, inl, inr, ⊎_elim, ℕ, ℤ, pos, zero, suc, ◌+◌, ◌<◌, ◌≤◌, is_some}
use Rattle.std.proofs.Common.{slice_index_or, ◌==◌, ◌||◌, Bool, true, false, nat_lt, List, [], ◌∷◌, length, Option}
use Rattle.std.proofs.Common.{Some, None, refl, sym, subst, arith, if◌then◌else◌}
use Rattle.std.specs.Prelude.{All}
use Rattle.std.proofs.lemmas.Bool.Decides.{nat_tests}
use Rattle.std.proofs.lemmas.List.Elements.{All-head, All-tail, filter_passes}
use Rattle.cs_base.specs.Limits.{most_asks, most_notes}
use Rattle.cs_ir.specs.{Asks.ask_of, declared.ask.Ask.Ask}
use Rattle.cs_meaning.specs.{Core.Block, Notes.Note}
use Rattle.cs_meaning.specs.Plain.{Cause, Plain, Table, find_table, shared_with}
use Rattle.cs_sched.specs.Waiting.{Waiting, answer_to, with_answer}
use Rattle.cs_sched.specs.{Times.due_of, declared.due.Due.Due, declared.pending.Added.Added}
use Rattle.cs_tempo.specs.{declared.plot.Event.Event, declared.plot.EventAct.EventAct}
use Rattle.cs_gen.specs.Points.{points_of}
use Rattle.cs_piece_meaning.specs.Course.{begins, events_in, still}
use Rattle.cs_piece_meaning.specs.Moments.{Active, Composition, Moment, clock_of, piece_with}
use Rattle.cs_piece_meaning.specs.Starts.{Start, act_done, all_asked, all_done, asked, begun, counted, entered}
use Rattle.cs_piece_meaning.specs.Starts.{first_started, has_room, in_vain, initialised, joined, start_in, start_of}
use Rattle.cs_piece_meaning.specs.Starts.{started, taken, time_of, unless_none, waited, with_points}
use Rattle.cs_piece_meaning.proofs.Unended.{begins_unended}
use Rattle.cs_base.specs.declared.resource.Res.TheVariants as res
use Rattle.cs_sched.specs.declared.pending.Added.TheVariants as added
use Rattle.cs_tempo.specs.declared.plot.EventAct.TheVariants as act

-- scheduling notes doesn't change the notes that play
counted_active : (answer : Added) (m : Moment) → (counted answer m).active ≡ m.active
counted_active added.Kept m = refl
counted_active _ m = refl

module _ (c : Composition) (now : ℕ) (time : ℤ) where
  asked_active : (a : List ℤ) (m : Moment) → (asked c now time (ask_of a) m).active ≡ m.active
  asked_active a m =
      let answer = answer_to (clock_of c) now (ask_of a) m.waiting.kept in
      counted_active answer (record m
      { waiting = with_answer answer (due_of (clock_of c) now time (ask_of a)) m.waiting })

  pub all_active : (asks : List (List ℤ)) (m : Moment) → (all_asked c now time asks m).active ≡ m.active
  all_active [] m = refl
  all_active (a ∷ asks) m = all_active asks (asked c now time (ask_of a) m) ∙ asked_active a m

-- there is room for a start
abbrev pub Roomy : Start → List Active → Type 0
Roomy s active = (s.cycles ≡ 0) ⊎ (length active < most_notes)

-- A fact about the notes that play, the number of starts, the waiting notes, and a number that increases when
-- a waiting note is taken out.
abbrev pub Fact : Type 1
Fact = ℕ → List Active → ℕ → Waiting → Type 0

abbrev pub At : Fact → ℕ → Moment → Type 0
At S x m = S x m.active m.started m.waiting

-- The fact is preserved when a note joins, when one is scheduled, and when one is taken out.
pub record Keeps (c : Composition) (now : ℕ) (S : Fact) : Type 0 where
  pub join : (x : ℕ) (s : Start) (body : Block) (t : Note Plain) (active : List Active) (age : ℕ) (w : Waiting)
      → c.instrument s.number ≡ Some body
      → t.world.ended ≡ false → Roomy s active → S x active age w → S x (joined now s body t active age) (age + 1) w
  pub add : (x : ℕ) (active : List Active) (count : ℕ) (w : Waiting) (time : ℤ) (a : Ask) → S x active count w
      → S x active count (with_answer (answer_to (clock_of c) now a w.kept) (due_of (clock_of c) now time a) w)
  pub take : (x : ℕ) (active : List Active) (count : ℕ) (w : Waiting) (d : Due) (rest : List Due) → w.due now ≡ d ∷ rest
      → S x active count w → S (x + 1) active count (taken now rest w)

module _ (c : Composition) (now : ℕ) (S : Fact) (keeps : Keeps c now S) where
  counted_keeps : (x : ℕ) (answer : Added) (m : Moment) → At S x m → At S x (counted answer m)
  counted_keeps x added.Kept m h = h
  counted_keeps x _ m h = h

  asked_keeps : (x : ℕ) (time : ℤ) (a : Ask) (m : Moment) → At S x m → At S x (asked c now time a m)
  asked_keeps x time a m h =
      let answer = answer_to (clock_of c) now a m.waiting.kept in
      counted_keeps x answer (record m { waiting = with_answer answer (due_of (clock_of c) now time a) m.waiting })
      (keeps.add x m.active m.started m.waiting time a h)

  all_keep : (x : ℕ) (time : ℤ) (asks : List (List ℤ)) (m : Moment) → At S x m → At S x (all_asked c now time asks m)
  all_keep x time [] m h = h
  all_keep x time (a ∷ asks) m h =
      all_keep x time asks (asked c now time (ask_of a) m) (asked_keeps x time (ask_of a) m h)

  entered_keeps : (x : ℕ) (s : Start) (body : Block) (t : Note Plain) (cause : Option Cause) (m : Moment)
      → c.instrument s.number ≡ Some body
      → t.world.ended ≡ false → Roomy s m.active → At S x m → At S x (entered now s body t cause m)
  entered_keeps x s body t None m there on room h = keeps.join x s body t m.active m.started m.waiting there on room h
  entered_keeps x s body t (Some cause) m there on room h = h

  initialised_keeps : (x : ℕ) (s : Start) (body : Block) (t : Note Plain) (m : Moment)
      → c.instrument s.number ≡ Some body
      → t.world.ended ≡ false → Roomy s m.active → At S x m → At S x (initialised c now s body t m)
  initialised_keeps x s body t m there on room h =
      let before : Moment = record m { shared = t.world.shared } in
      let same = all_active c now (time_of s) t.world.asks before in
      entered_keeps x s body t t.world.cause (all_asked c now (time_of s) t.world.asks before) there on
      (subst (Roomy s) (sym same) room) (all_keep x (time_of s) t.world.asks before h)

  roomy : (s : Start) (m : Moment) → has_room s m ≡ true → Roomy s m.active
  roomy s m h = by (s.cycles == 0) refl h
    where
      by : (b : Bool) → (s.cycles == 0) ≡ b → (b || nat_lt (length m.active) most_notes) ≡ true → Roomy s m.active
      by true e k = inl (grind (arith, nat_tests))
      by false e k = inr (grind (arith, nat_tests))

  started_keeps : (x : ℕ) (s : Start) (o : Option Block) (m : Moment) → c.instrument s.number ≡ o → At S x m
      → At S x (started c now s o m)
  started_keeps x s None m there h = h
  started_keeps x s (Some body) m there h = by (has_room s m) refl
    where
      by : (b : Bool) → has_room s m ≡ b
          → At S x (if b then initialised c now s body (begun c m.made s body m) m else in_vain m)
      by false e = h
      by true e =
          initialised_keeps x s body (begun c m.made s body m) m there
          (begins_unended (piece_with c m.made s.fields) body m.shared) (roomy s m e) h

  start_keeps : (x : ℕ) (s : Start) (m : Moment) → At S x m → At S x (start_in c now s m)
  start_keeps x s m h = started_keeps x s (c.instrument s.number) m refl h

  -- the events of the cycle
  points_keep : (x : ℕ) (t : Option Table) (number : ℕ) (points : List ℤ) (m : Moment) → At S x m
      → At S x (with_points t number points m)
  points_keep x None number points m h = h
  points_keep x (Some t) number points m h = by (is_some t.frozen)
    where
      by : (b : Bool) → At S x (if b then m else record m
          { shared = shared_with (res.Table number) (λ j. slice_index_or points j (pos 0)) m.shared })
      by true = h
      by false = h

  act_keeps : (x : ℕ) (a : EventAct) (m : Moment) → At S x m → At S x (act_done c now a m)
  act_keeps x (act.Start instr cycles fields) m h =
      start_keeps x (record { number = pos instr; cycles = cycles; fields = fields }) m h
  act_keeps x (act.Table number size gen args) m h =
      points_keep x (find_table c.tables (pos number)) number (points_of size gen args)
      (record m { made = number ∷ m.made }) h

  events_keep : (x : ℕ) (es : List Event) (m : Moment) → All (λ (e : Event). (e.cycle == now) ≡ true) es → At S x m
      → At S x (all_done c es m)
  events_keep x [] m here h = h
  events_keep x (e ∷ es) m here h =
      let first : (e.cycle == now) ≡ true = All-head (λ (y : Event). (y.cycle == now) ≡ true) e es here in
      let is : e.cycle ≡ now = grind (arith, nat_tests) in
      events_keep x es (act_done c e.cycle e.act m) (All-tail (λ (y : Event). (y.cycle == now) ≡ true) e es here)
      (subst (λ at. At S x (act_done c at e.act m)) (sym is) (act_keeps x e.act m h))

  -- the notes that wait for the cycle, until none is left or as many were taken out as there may be
  first_keeps : (x : ℕ) (d : Due) (rest : List Due) (m : Moment) → m.waiting.due now ≡ d ∷ rest → At S x m
      → At S (x + 1) (first_started c now (d ∷ rest) m)
  first_keeps x d rest m is h =
      start_keeps (x + 1) (start_of d) (record m { waiting = taken now rest m.waiting })
      (keeps.take x m.active m.started m.waiting d rest is h)

  abbrev pub Over : ℕ → Moment → Type 0
  Over most m = (y : ℕ) × At S y m × ((most ≤ y) ⊎ (m.waiting.due now ≡ []))

  waited_keeps : (n x : ℕ) (m : Moment) → At S x m → Over (x + n) (waited n c now m)
  waited_keeps zero x m h = (x, h, inl (omega arith))
  waited_keeps (suc n) x m h =
      by (m.waiting.due now) refl (λ d rest is. further d rest
      (waited_keeps n (x + 1) (first_started c now (d ∷ rest) m) (first_keeps x d rest m is h)))
    where
      further : (d : Due) (rest : List Due) → Over (x + 1 + n) (waited n c now (first_started c now (d ∷ rest) m))
          → Over (x + suc n) (waited n c now (first_started c now (d ∷ rest) m))
      further d rest r = (r.0, r.1, ⊎_elim (λ l. inl (omega (arith, l))) (λ e. inr e) r.2)

      by : (ds : List Due) → m.waiting.due now ≡ ds → ((d : Due) (rest : List Due) → m.waiting.due now ≡ d ∷ rest
          → Over (x + suc n) (waited n c now (first_started c now (d ∷ rest) m)))
          → Over (x + suc n) (unless_none ds m (waited n c now (first_started c now ds m)))
      by [] is more = (x, h, inr is)
      by (d ∷ rest) is more = more d rest is

  pub begins_keeps : (m : Moment) → At S 0 (still now m) → Over most_asks (begins c now m)
  begins_keeps m h =
      waited_keeps most_asks 0 (all_done c (events_in c now) (still now m))
      (events_keep 0 (events_in c now) (still now m) (filter_passes (λ (e : Event). e.cycle == now) c.events) h)
