-- A definition that is typed at its first call, and one that was typed before.
use Rattle.std.proofs.Common.{◌≡◌, ◌∙◌, ◌+◌, ◌<◌, ◌++◌, ◌≢◌, ◌==◌, ℕ, Bool, true, false, List, [], ◌∷◌, Option, Some}
use Rattle.std.proofs.Common.{None, zero, suc, Bor, length, map, slice_get, slice_set, Vec, Global, refl, sym, ap}
use Rattle.std.proofs.Common.{arith, IfSome, subst}
use Rattle.std.specs.Option.{is_some, option_or}
use Rattle.std.proofs.lemmas.{Bool.Decides.nat_tests, List.append-nil, List.length-map, Option.same_Some}
use Rattle.cs_base.specs.declared.resource.Rate.{Rate}
use Rattle.cs_grammar.specs.{Tree.Definition, WellFormed.WellFormedDefinition}
use Rattle.cs_typed.specs.{Places.inside, declared.setting.Setting.Setting, declared.tree.TypedStmt.TypedStmt}
use Rattle.cs_typing.specs.{Known.Shared, declared.routines.RoutineTable.RoutineTable, declared.routines.Site.Site}
use Rattle.cs_typing.specs.{declared.routines.TypedDefinition.TypedDefinition, inner.Routines.typed_block_in}
use Rattle.cs_typing.specs.inner.Listed.{AreTyped, IsListed, IsLonger, IsTyped, blocks_in, routines_of}
use Rattle.cs_typing.specs.inner.Routines.{Routine, Routines, block_fault_in, known_in, number_in, routine_of}
use Rattle.cs_udo.specs.Names.{slots}
use Rattle.cs_udo.proofs.Weighed.{length_slots}
use Rattle.cs_typing.specs.inner.Slots.{slot_numbers, slots_fault, slots_past, slots_set}
use Rattle.cs_typing.proofs.Listed.{at_end, length_both, routines_length, routines_more, typed_on}
use Rattle.cs_typing.proofs.RoutineSlots.{behind_body, body_counts, body_fault, body_form, body_locals, body_numbers}
use Rattle.cs_typing.proofs.{RoutineSlots.first_locals, Walked.first_steady}
use Rattle.cs_typing.proofs.RoutineSteady.{Apart, IsAgain, Steady, definition_steady, first_again}
use Rattle.cs_typed.specs.TypedTree as typed

-- statements with a definition before them are inside a body, in a piece with this number of channels
pub placed_inside : (s : Site) (place : ℕ) → place < s.visible → s.setting ≡ inside s.setting.channels
placed_inside s place lt =
    let e : s.setting.inside ≡ true = s.placed (omega (arith, lt)) in
    λ i. record { inside = e i; channels = s.setting.channels }

-- ---- typed before

module _ (channels : ℕ) (ds : List Definition) (place : ℕ) (d : Definition) (here : slice_get ds place ≡ Some d)
    (g : Shared) (t : RoutineTable) (was : AreTyped channels ds g t) (it : TypedDefinition)
    (at : slice_get t.by_definition.items place ≡ Some (Some it)) where
  once : IsTyped channels g (routine_of (routines_of ds place) d) it (blocks_in t)
  once = was.each place it d at here

  pub again_fault : (routine_of (routines_of ds place) d).fault (inside channels) g ≡ None
  again_fault = once.fault

  pub again_shared : (routine_of (routines_of ds place) d).shared g ≡ g
  again_shared = once.shared

  pub again_listed : IsListed t place (routine_of (routines_of ds place) d) g
  again_listed = record {
    it = it;
    at = at;
    block = once.block;
    within = once.within;
    locals = once.locals;
    slots = once.slots;
  }

-- the entry that is found in a table
pub found_it : (o : Option (Bor TypedDefinition)) (t : RoutineTable) (place : ℕ)
    → IfSome o (λ it. slice_get t.by_definition.items place ≡ Some (Some it.now)) → is_some o ≡ true
    → (it : TypedDefinition) × (slice_get t.by_definition.items place ≡ Some (Some it))
found_it None t place h e = absurd (cc e)
found_it (Some b) t place h e = (b.now, h)

-- a list with another item at an index
pub set_here : {A : Type 0} (xs : List A) (i : ℕ) (x : A) → i < length xs → slice_get (slice_set xs i x) i ≡ Some x
set_here [] i x lt = absurd (omega (arith, lt))
set_here (y ∷ xs) zero x lt = refl
set_here (y ∷ xs) (suc i) x lt = set_here xs i x (omega (arith, lt))

pub set_other : {A : Type 0} (xs : List A) (i : ℕ) (x : A) (k : ℕ) → k ≢ i
    → slice_get (slice_set xs i x) k ≡ slice_get xs k
set_other (y ∷ xs) zero x zero h = absurd (h refl)
set_other (y ∷ xs) (suc i) x (suc k) h = set_other xs i x k (λ e. h (ap (λ n. suc n) e))
set_other xs i x k h = refl

-- ---- typed now

same_place : (a b : ℕ) → (a == b) ≡ true → a ≡ b
same_place a b h = grind (arith, nat_tests, h)

other_place : (a b : ℕ) → (a == b) ≡ false → a ≢ b
other_place a b h e = absurd (grind (arith, nat_tests, h, e))

module _ (s : Setting) (ds : List Definition) (place : ℕ) (d : Definition) (well : WellFormedDefinition d)
    (g : Shared) where
  abbrev rs : Routines
  rs = routines_of ds place

  abbrev r : Routine
  r = routine_of rs d

  steady : Steady r
  steady = definition_steady rs (first_steady ds place) d

  -- neither the body nor the slots break a rule
  pub now_fault : block_fault_in s rs (known_in g (first_locals rs d well)) d.body ≡ None
      → slots_fault s (behind_body rs d well g) d.line d.outs d.result ≡ None → r.fault s g ≡ None
  now_fault body slots =
      body_fault rs d well s g
      ∙ ap (λ f. option_or f (slots_fault s (behind_body rs d well g) d.line d.outs d.result)) body ∙ slots

  module _ (none : r.fault s g ≡ None) (free : Apart g) (b : RoutineTable) (body : Vec TypedStmt Global)
      (numbers : List ℕ) (c : RoutineTable) (it : TypedDefinition)
      (made : (more : List typed.Block) → typed.block (blocks_in b ++ more) body.items
      ≡ typed.then_block (typed_block_in rs (known_in g (first_locals rs d well)) d.body)
      (slots_set (behind_body rs d well g) d.line d.outs d.result)) (pushed : c.list.items ≡ b.list.items ++ body ∷ [])
      (is : it.routine ≡ length b.list.items)
      (locals : it.locals ≡ (slots_past (body_locals rs d well) d.outs d.result).counts)
      (slots : it.slots.items ≡ slot_numbers (body_locals rs d well).counts d.outs d.result)
      (at : slice_get c.by_definition.items place ≡ Some (Some it)) where
    form : typed.block (blocks_in b) body.items ≡ r.block g
    form =
        ap (λ bs. typed.block bs body.items) (sym (append-nil (blocks_in b))) ∙ made [] ∙ sym (body_form rs d well g)

    blocks : blocks_in c ≡ blocks_in b ++ typed.block (blocks_in b) body.items ∷ []
    blocks = ap typed.routines pushed ∙ routines_more b.list.items body

    many : length (blocks_in b) ≡ it.routine
    many = routines_length b.list.items ∙ sym is

    stands : typed.routine_at (blocks_in c) it.routine ≡ r.block g
    stands =
        ap (λ k. typed.routine_at (blocks_in c) k) (sym many)
        ∙ ap (λ bs. typed.routine_at bs (length (blocks_in b))) blocks
        ∙ at_end (blocks_in b) (typed.block (blocks_in b) body.items) ∙ form

    one_longer : length (blocks_in c) ≡ length (blocks_in b) + 1
    one_longer = ap length blocks ∙ length_both (blocks_in b) (typed.block (blocks_in b) body.items ∷ [])

    within : it.routine < length (blocks_in c)
    within = omega (arith, one_longer, many)

    numbered : it.slots.items ≡ map (number_in r.last) r.results
    numbered = slots ∙ sym (body_numbers rs d well)

    counted : it.locals ≡ r.last.counts
    counted = locals ∙ sym (body_counts rs d well)

    pub now_listed : IsListed c place r g
    now_listed = record {
      it = it;
      at = at;
      block = sym stands;
      within = within;
      locals = counted;
      slots = numbered;
    }

    pub now_longer : IsLonger b c
    now_longer = (typed.block (blocks_in b) body.items ∷ [], blocks)

    again : IsAgain r s g (r.shared g)
    again = first_again r steady s g none free

    here_typed : (channels : ℕ) → s ≡ inside channels → IsTyped channels (r.shared g) r it (blocks_in c)
    here_typed channels e = record {
      fault = ap (λ q. r.fault q (r.shared g)) (sym e) ∙ again.sound;
      shared = again.same;
      within = within;
      block = again.form ∙ sym stands;
      locals = counted;
      slots = numbered;
    }

    pub now_typed : (channels : ℕ) → s ≡ inside channels → slice_get ds place ≡ Some d
        → AreTyped channels ds (r.shared g) b
        → ((k : ℕ) → k ≢ place → slice_get c.by_definition.items k ≡ slice_get b.by_definition.items k)
        → length c.by_definition.items ≡ length b.by_definition.items → AreTyped channels ds (r.shared g) c
    now_typed channels e here was others marks = record {
      fit = was.fit;
      marks = marks ∙ was.marks;
      each = λ k q x at_k here_k. each_typed k q x (k == place) refl at_k here_k;
      apart = was.apart;
    }
      where
        at_place : (k : ℕ) (q : TypedDefinition) (x : Definition) → k ≡ place
            → slice_get c.by_definition.items k ≡ Some (Some q) → slice_get ds k ≡ Some x
            → IsTyped channels (r.shared g) (routine_of (routines_of ds k) x) q (blocks_in c)
        at_place k q x p at_k here_k =
            let found : slice_get c.by_definition.items place ≡ Some (Some q) =
            ap (slice_get c.by_definition.items) (sym p) ∙ at_k in
            let same_it : it ≡ q = same_Some it q (same_Some (Some it) (Some q) (sym at ∙ found)) in
            let same_d : d ≡ x = same_Some d x (sym here ∙ ap (slice_get ds) (sym p) ∙ here_k) in
            subst (λ (n : ℕ). IsTyped channels (r.shared g) (routine_of (routines_of ds n) x) q (blocks_in c)) (sym p)
            (subst (λ (y : Definition). IsTyped channels (r.shared g) (routine_of rs y) q (blocks_in c)) same_d
            (subst (λ (z : TypedDefinition). IsTyped channels (r.shared g) r z (blocks_in c)) same_it
            (here_typed channels e)))

        each_typed : (k : ℕ) (q : TypedDefinition) (x : Definition) (w : Bool) → (k == place) ≡ w
            → slice_get c.by_definition.items k ≡ Some (Some q) → slice_get ds k ≡ Some x
            → IsTyped channels (r.shared g) (routine_of (routines_of ds k) x) q (blocks_in c)
        each_typed k q x true h at_k here_k = at_place k q x (same_place k place h) at_k here_k
        each_typed k q x false h at_k here_k =
            let before = was.each k q x (sym (others k (other_place k place h)) ∙ at_k) here_k in
            subst (λ (bs : List typed.Block). IsTyped channels (r.shared g) (routine_of (routines_of ds k) x) q bs)
            (sym blocks) (typed_on channels (r.shared g) (routine_of (routines_of ds k) x) q (blocks_in b)
            (typed.block (blocks_in b) body.items ∷ []) before)

-- ---- the definition that is found

-- there are as many slots as results
pub slots_many : (r : Routine) (outs : List Rate) (numbers : List ℕ) → r.results ≡ slots 0 outs
    → numbers ≡ map (number_in r.last) r.results → length numbers ≡ length outs
slots_many r outs numbers e is =
    ap length is ∙ length-map r.results (number_in r.last) ∙ ap length e ∙ length_slots 0 outs

-- at most one definition is found at an index
pub same_it : (a b : TypedDefinition) → Some (Some a) ≡ Some (Some b) → a ≡ b
same_it a b e = same_Some a b (same_Some (Some a) (Some b) e)
