-- Things are done one after another.
use Rattle.std.proofs.Common.{◌≡◌, ℕ, ℤ, pos, zero, suc, ◌+◌, ◌-◌, ◌<◌, ◌≤◌, ◌==◌, Bool, true, false, cond, List, ◌∷◌}
use Rattle.std.proofs.Common.{[], ◌++◌, length, length-drop, take, drop, get_or, get_or-drop, leb, ltb, refl, sym, ◌∙◌}
use Rattle.std.proofs.Common.{ap, subst, arith}
use Rattle.std.specs.{List.All, List.filter, List.Sorted.IsPartitionPoint}
use Rattle.std.proofs.lemmas.{Bool.Decides.nat_tests, List.take_more}
use Rattle.cs_cells.specs.{Access.Access, Access.AllowsBelow, Areas.word_count, Cells.Cells}
use Rattle.cs_piece_meaning.specs.{Course.begins, Course.events_in, Course.still, Moments.Composition, Moments.Moment}
use Rattle.cs_piece_meaning.specs.Starts.{act_done, all_done, all_waited, made_table, start_in}
use Rattle.cs_gen.specs.Points.{points_of}
use Rattle.cs_piece.specs.Setups.{composition_of}
use Rattle.cs_tempo.specs.{declared.plot.Event.Event, declared.plot.EventAct.EventAct}
use Rattle.cs_voice.specs.VoiceData.{VoiceData}
use Rattle.cs_life.specs.{Standing.StandsFor, declared.life.Life.Life}
use Rattle.cs_life.specs.inner.Doing.{CanBeDone, CanBeMade, CanGoOn, HasGoneOn}
use Rattle.cs_tempo.specs.declared.plot.EventAct.TheVariants as act

-- after something was done, the next thing can be done
pub goes_on : {access access' : Access} {leads : Moment → Moment} {life new : Life}
    {voices after : List VoiceData} {cells left : Cells} → access' ≡ access → new.setup.now ≡ life.setup.now
    → HasGoneOn leads life voices cells new after left → CanGoOn access life voices cells
    → CanGoOn access' new after left
goes_on {access} {access'} {leads} {life} {new} {voices} {after} {cells} {left} same setup done h = record {
  moment = leads h.moment;
  stands = subst (λ x. StandsFor (composition_of x) new after left (leads h.moment)) (sym setup)
      (done.to h.moment h.stands);
  allows = subst (λ x. AllowsBelow access' (word_count x.layout)) (sym setup)
      (subst (λ a. AllowsBelow a (word_count life.setup.now.layout)) (sym same) h.allows);
}

-- one thing, and then another
pub one_then : {leads follows : Moment → Moment} {life mid new : Life} {voices mids after : List VoiceData}
    {cells middle left : Cells} → mid.setup.now ≡ life.setup.now → HasGoneOn leads life voices cells mid mids middle
    → HasGoneOn follows mid mids middle new after left
    → HasGoneOn (λ m. follows (leads m)) life voices cells new after left
one_then {leads} {follows} {life} {mid} {new} {voices} {mids} {after} {cells} {middle} {left} setup one two = record {
  to = λ m h. subst (λ x. StandsFor (composition_of x) new after left (follows (leads m))) setup
      (two.to (leads m) (subst (λ x. StandsFor (composition_of x) mid mids middle (leads m)) (sym setup) (one.to m h)));
}

-- ---- events

done_more : (c : Composition) (es : List Event) (e : Event) (m : Moment)
    → all_done c (es ++ e ∷ []) m ≡ act_done c e.cycle e.act (all_done c es m)
done_more c [] e m = refl
done_more c (x ∷ es) e m = done_more c es e (act_done c x.cycle x.act m)

-- one more event is done
pub event_done : (es : List Event) (k : ℕ) (e : Event) {life mid new : Life} {voices mids after : List VoiceData}
    {cells middle left : Cells} → k < length es → e ≡ get_or es k e → mid.setup.now ≡ life.setup.now
    → HasGoneOn (all_done (composition_of life.setup.now) (take k es)) life voices cells mid mids middle
    → HasGoneOn (act_done (composition_of mid.setup.now) e.cycle e.act) mid mids middle new after left
    → HasGoneOn (all_done (composition_of life.setup.now) (take (k + 1) es)) life voices cells new after left
event_done es k e {life} {mid} {new} {voices} {mids} {after} {cells} {middle} {left} below is setup one two =
    let c = composition_of life.setup.now in
    let here : take (k + 1) es ≡ take k es ++ e ∷ [] =
    take_more es k e below ∙ ap (λ x. take k es ++ x ∷ []) (sym is) in
    subst (λ f. HasGoneOn f life voices cells new after left)
    (λ i m. (ap (λ x. act_done x e.cycle e.act (all_done c (take k es) m)) (ap composition_of setup)
    ∙ sym (done_more c (take k es) e m) ∙ ap (λ xs. all_done c xs m) (sym here)) i)
    (one_then setup one two)

-- the events of a cycle are consecutive
module _ (p : Event → Bool) where
  none_before : (es : List Event) (i : ℕ) → i ≤ length es → ((k : ℕ) (d : Event) → k < i → p (get_or es k d) ≡ false)
      → filter p es ≡ filter p (drop i es)
  none_before es zero h fails = refl
  none_before [] (suc i) h fails = absurd (omega arith)
  none_before (e ∷ es) (suc i) h fails =
      ap (λ b. cond b (e ∷ filter p es) (filter p es)) (fails 0 e (omega arith))
      ∙ none_before es i (omega arith) (λ k d lt. fails (suc k) d (omega arith))

  no_more : (es : List Event) → ((k : ℕ) (d : Event) → k < length es → p (get_or es k d) ≡ false) → filter p es ≡ []
  no_more [] fails = refl
  no_more (e ∷ es) fails =
      ap (λ b. cond b (e ∷ filter p es) (filter p es)) (fails 0 e (omega arith))
      ∙ no_more es (λ k d lt. fails (suc k) d (omega arith))

  these : (es : List Event) (n : ℕ) → n ≤ length es → ((k : ℕ) (d : Event) → k < n → p (get_or es k d) ≡ true)
      → ((k : ℕ) (d : Event) → n ≤ k → k < length es → p (get_or es k d) ≡ false) → take n es ≡ filter p es
  these es zero h holds fails = sym (no_more es (λ k d lt. fails k d (omega arith) lt))
  these [] (suc n) h holds fails = absurd (omega arith)
  these (e ∷ es) (suc n) h holds fails =
      ap (λ xs. e ∷ xs) (these es n (omega arith) (λ k d lt. holds (suc k) d (omega arith))
      (λ k d le lt. fails (suc k) d (omega arith) (omega arith)))
      ∙ sym (ap (λ b. cond b (e ∷ filter p es) (filter p es)) (holds 0 e (omega arith)))

-- ---- a cycle begins

-- notes have left, the events have been done, and the notes that waited have been started
pub begun : (cycle : ℕ) (life mid new : Life) (voices stayed mids after : List VoiceData) (cells middle last : Cells)
    → mid.setup.now ≡ life.setup.now
    → HasGoneOn (still cycle) life voices cells life stayed cells
    → HasGoneOn (all_done (composition_of life.setup.now) (events_in (composition_of life.setup.now) cycle))
    life stayed cells mid mids middle
    → HasGoneOn (all_waited (composition_of mid.setup.now) cycle) mid mids middle new after last
    → HasGoneOn (begins (composition_of life.setup.now) cycle) life voices cells new after last
begun cycle life mid new voices stayed mids after cells middle last same leave events wait =
    one_then refl leave (one_then same events
    (subst (λ x. HasGoneOn (all_waited (composition_of x) cycle) mid mids middle new after last) same wait))

-- ---- the events of a cycle

before_it : (x n : ℕ) → ltb x n ≡ true → (x == n) ≡ false
before_it x n h = grind (arith, nat_tests)

behind_it : (x n : ℕ) → leb x n ≡ false → (x == n) ≡ false
behind_it x n h = grind (arith, nat_tests)

it_is : (x n : ℕ) → ltb x n ≡ false → leb x n ≡ true → (x == n) ≡ true
it_is x n h k = grind (arith, nat_tests)

-- the events of a cycle: from the first that isn't before it up to those after it
pub events_between : (es rest : List Event) (cycle first count : ℕ) → first ≤ length es → rest ≡ drop first es
    → count ≤ length rest
    → IsPartitionPoint (λ (e : Event). ltb e.cycle cycle ≡ true) (λ (e : Event). ltb e.cycle cycle ≡ false) es first
    → IsPartitionPoint (λ (e : Event). leb e.cycle cycle ≡ true) (λ (e : Event). leb e.cycle cycle ≡ false) rest count
    → take count rest ≡ filter (λ (e : Event). e.cycle == cycle) es
events_between es rest cycle first count low is high point until =
    let long : length rest ≡ length es - first = ap length is ∙ length-drop first es in
    let from : (k : ℕ) (d : Event) → k < length rest → ltb (get_or rest k d).cycle cycle ≡ false =
    λ k d lt. subst (λ (e : Event). ltb e.cycle cycle ≡ false)
    (sym (ap (λ xs. get_or xs k d) is ∙ get_or-drop first es k d))
    (point.1 (first + k) d (omega arith) (omega (arith, long, lt))) in
    these (λ (e : Event). e.cycle == cycle) rest count high
    (λ k d lt. it_is (get_or rest k d).cycle cycle (from k d (omega (arith, lt, high))) (until.0 k d (omega arith) lt))
    (λ k d le lt. behind_it (get_or rest k d).cycle cycle (until.1 k d le lt))
    ∙ ap (filter (λ (e : Event). e.cycle == cycle)) is
    ∙ sym (none_before (λ (e : Event). e.cycle == cycle) es first low
    (λ k d lt. before_it (get_or es k d).cycle cycle (point.0 k d (omega arith) lt)))

-- one of some events can be done
pub event_can : (life new : Life) (es : List Event) (k : ℕ) (e : Event) → new.setup.now ≡ life.setup.now
    → All (λ (x : Event). CanBeDone (composition_of life.setup.now) x.act) es → k < length es → e ≡ get_or es k e
    → CanBeDone (composition_of new.setup.now) e.act
event_can life new es k e setup all below is =
    subst (λ x. CanBeDone (composition_of x) e.act) (sym setup)
    (subst (λ (x : Event). CanBeDone (composition_of life.setup.now) x.act) (sym is) (all k e below))

-- a table that an event defines, by the parts that a call passes
pub table_given : (c : Composition) (a : EventAct) (number : ℕ) (size gen s g : ℤ) (args xs : List ℤ)
    → a ≡ act.Table number size gen args
    → s ≡ size → g ≡ gen → xs ≡ args → CanBeDone c a → CanBeMade c number s g xs
table_given c a number size gen s g args xs is es eg exs can =
    subst (λ x. CanBeMade c number x g xs) (sym es)
    (subst (λ x. CanBeMade c number size x xs) (sym eg)
    (subst (λ x. CanBeMade c number size gen x) (sym exs) (subst (CanBeDone c) is can)))

-- a note of an event has started
pub note_done : (now : ℕ) {life new : Life} {voices after : List VoiceData} {cells left : Cells} {instr cycles : ℕ}
    {number : ℤ} {given fields : List ℤ} {a : EventAct}
    → a ≡ act.Start instr cycles fields → number ≡ pos instr → given ≡ fields
    → ((m : Moment) → StandsFor (composition_of life.setup.now) life voices cells m
    → StandsFor (composition_of life.setup.now) new after left (start_in (composition_of life.setup.now) now
    (record { number = number; cycles = cycles; fields = given }) m))
    → HasGoneOn (act_done (composition_of life.setup.now) now a) life voices cells new after left
note_done now {life} {new} {voices} {after} {cells} {left} {instr} {cycles} is en ef h =
    subst (λ x. HasGoneOn (act_done (composition_of life.setup.now) now x) life voices cells new after left) (sym is)
    (record {
      to = λ m s. subst (λ n. StandsFor (composition_of life.setup.now) new after left n)
          (λ i. start_in (composition_of life.setup.now) now
          (record { number = en i; cycles = cycles; fields = ef i }) m) (h m s);
    })

-- a table was made
pub table_done : (now : ℕ) {life new : Life} {voices after : List VoiceData} {cells left : Cells} {number : ℕ}
    {size gen s g : ℤ} {args xs : List ℤ} {a : EventAct}
    → a ≡ act.Table number size gen args → s ≡ size → g ≡ gen → xs ≡ args
    → ((m : Moment) → StandsFor (composition_of life.setup.now) life voices cells m
    → StandsFor (composition_of life.setup.now) new after left
    (made_table (composition_of life.setup.now) number (points_of s g xs) m))
    → HasGoneOn (act_done (composition_of life.setup.now) now a) life voices cells new after left
table_done now {life} {new} {voices} {after} {cells} {left} {number} is es eg exs h =
    subst (λ x. HasGoneOn (act_done (composition_of life.setup.now) now x) life voices cells new after left) (sym is)
    (record {
      to = λ m st. subst (λ n. StandsFor (composition_of life.setup.now) new after left n)
          (λ i. made_table (composition_of life.setup.now) number (points_of (es i) (eg i) (exs i)) m) (h m st);
    })
