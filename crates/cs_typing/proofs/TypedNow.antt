-- A definition at its first call: the results for its body and its slots together.
use Rattle.std.proofs.Common.{◌≡◌, ◌∙◌, ◌<◌, ◌++◌, ℕ, List, [], ◌∷◌, Some, None, length, slice_get, slice_set, Vec}
use Rattle.std.proofs.Common.{Global, refl, sym, ap, subst}
use Rattle.std.specs.{List.All, Option.option_or}
use Rattle.std.proofs.lemmas.{List.length-set, Option.get_or_from_slice_get, Option.slice_get_within}
use Rattle.cs_base.specs.{declared.fault.OrcFault.OrcFault, declared.per_rate.PerRate.PerRate}
use Rattle.cs_grammar.specs.{Tree.Block, Tree.Definition, WellFormed.WellFormedDefinition}
use Rattle.cs_typed.specs.{Places.inside, declared.setting.Setting.Setting, declared.tree.TypedStmt.TypedStmt}
use Rattle.cs_typing.specs.{Known.Shared, declared.routines.RoutineTable.RoutineTable}
use Rattle.cs_typing.specs.declared.routines.TypedDefinition.{TypedDefinition}
use Rattle.cs_typing.specs.inner.Listed.{AreTyped, IsListed, IsLonger, blocks_in, routines_of}
use Rattle.cs_typing.specs.inner.Routines.{KnownInBody, Routine, block_fault_in, known_after_block, known_in}
use Rattle.cs_typing.specs.inner.Routines.{routine_of, typed_block_in}
use Rattle.cs_typing.specs.inner.Slots.{slot_numbers, slots_fault, slots_past, slots_set}
use Rattle.cs_typing.proofs.RoutineSlots.{behind_body, body_fault, body_locals, body_shared, first_locals}
use Rattle.cs_typing.proofs.RoutineSteady.{Apart}
use Rattle.cs_typing.proofs.TypedOnce.{now_fault, now_listed, now_longer, now_typed, set_here, set_other}
use Rattle.cs_typed.specs.TypedTree as typed

-- a property of all definitions holds for the one at an index
pub well_at : (ds : List Definition) (place : ℕ) (d : Definition) → All WellFormedDefinition ds
    → slice_get ds place ≡ Some d → WellFormedDefinition d
well_at ds place d h at =
    subst WellFormedDefinition (get_or_from_slice_get ds place d d at) (h place d (slice_get_within ds place d at))

-- it has its routine, which is the last one of a longer table, and everything typed remains valid
pub record IsTypedThen (s : Setting) (ds : List Definition) (place : ℕ) (d : Definition) (g h : Shared)
    (b c : RoutineTable) : Type 0 where
  pub listed : IsListed c place (routine_of (routines_of ds place) d) g
  pub longer : IsLonger b c
  pub each : (channels : ℕ) → s ≡ inside channels → slice_get ds place ≡ Some d → AreTyped channels ds h b
      → AreTyped channels ds h c

module _ (s : Setting) (ds : List Definition) (place : ℕ) (d : Definition) (well : WellFormedDefinition d)
    (g : Shared) (k1 kb : KnownInBody) (start : k1 ≡ known_in g (first_locals (routines_of ds place) d well)) where
  abbrev r : Routine
  r = routine_of (routines_of ds place) d

  -- a fault of the body
  pub body_breaks : (stmts : Block) → stmts ≡ d.body → (f : OrcFault)
      → block_fault_in s (routines_of ds place) k1 stmts ≡ Some f → r.fault s g ≡ Some f
  body_breaks stmts lent f e =
      body_fault (routines_of ds place) d well s g
      ∙ sym (λ i. option_or (block_fault_in s (routines_of ds place) (start i) (lent i))
      (slots_fault s (behind_body (routines_of ds place) d well g) d.line d.outs d.result))
      ∙ ap (λ o. option_or o (slots_fault s (behind_body (routines_of ds place) d well g) d.line d.outs d.result)) e

  module _ (stmts : Block) (lent : stmts ≡ d.body) (none_body : block_fault_in s (routines_of ds place) k1 stmts ≡ None)
      (known : kb ≡ known_after_block (routines_of ds place) k1 stmts) where
    at_slots : kb ≡ behind_body (routines_of ds place) d well g
    at_slots = known ∙ λ i. known_after_block (routines_of ds place) (start i) (lent i)

    no_body_fault : block_fault_in s (routines_of ds place) (known_in g (first_locals (routines_of ds place) d well))
        d.body ≡ None
    no_body_fault = sym (λ i. block_fault_in s (routines_of ds place) (start i) (lent i)) ∙ none_body

    -- a fault of the slots
    pub slots_breaks : (f : OrcFault) → slots_fault s kb d.line d.outs d.result ≡ Some f → r.fault s g ≡ Some f
    slots_breaks f e =
        body_fault (routines_of ds place) d well s g
        ∙ ap (λ o. option_or o (slots_fault s (behind_body (routines_of ds place) d well g) d.line d.outs d.result))
        no_body_fault ∙ ap (λ k. slots_fault s k d.line d.outs d.result) (sym at_slots) ∙ e

    pub shared_then : kb.shared ≡ r.shared g
    shared_then = ap (λ k. k.shared) at_slots ∙ sym (body_shared (routines_of ds place) d well g)

    module _ (none_slots : slots_fault s kb d.line d.outs d.result ≡ None) where
      pub no_fault : r.fault s g ≡ None
      no_fault =
          now_fault s ds place d well g no_body_fault
          (sym (ap (λ k. slots_fault s k d.line d.outs d.result) at_slots) ∙ none_slots)

      module _ (free : Apart g) (b c : RoutineTable) (first : List TypedStmt) (body : Vec TypedStmt Global)
          (locals : PerRate ℕ) (slots : Vec ℕ Global)
          (gives : (more : List typed.Block) → typed.block (blocks_in b ++ more) first
          ≡ typed_block_in (routines_of ds place) k1 stmts) (adds : (bs : List typed.Block) → typed.block bs body.items
          ≡ typed.then_block (typed.block bs first) (slots_set kb d.line d.outs d.result))
          (counts : locals ≡ (slots_past kb.locals d.outs d.result).counts)
          (numbers : slots.items ≡ slot_numbers kb.locals.counts d.outs d.result)
          (within : place < length b.by_definition.items) (pushed : c.list.items ≡ b.list.items ++ body ∷ [])
          (marks : c.by_definition.items ≡ slice_set b.by_definition.items place
          (Some (record { routine = length b.list.items; locals = locals; slots = slots }))) where
        abbrev it : TypedDefinition
        it = record { routine = length b.list.items; locals = locals; slots = slots }

        made : (more : List typed.Block) → typed.block (blocks_in b ++ more) body.items ≡ typed.then_block
            (typed_block_in (routines_of ds place) (known_in g (first_locals (routines_of ds place) d well)) d.body)
            (slots_set (behind_body (routines_of ds place) d well g) d.line d.outs d.result)
        made more =
            adds (blocks_in b ++ more) ∙ ap (λ x. typed.then_block x (slots_set kb d.line d.outs d.result)) (gives more)
            ∙ λ i. typed.then_block (typed_block_in (routines_of ds place) (start i) (lent i))
            (slots_set (at_slots i) d.line d.outs d.result)

        all_counts : locals ≡ (slots_past (body_locals (routines_of ds place) d well) d.outs d.result).counts
        all_counts = counts ∙ ap (λ k. (slots_past k.locals d.outs d.result).counts) at_slots

        all_numbers : slots.items ≡ slot_numbers (body_locals (routines_of ds place) d well).counts d.outs d.result
        all_numbers = numbers ∙ ap (λ k. slot_numbers k.locals.counts d.outs d.result) at_slots

        at : slice_get c.by_definition.items place ≡ Some (Some it)
        at = ap (λ l. slice_get l place) marks ∙ set_here b.by_definition.items place (Some it) within

        pub then_typed : IsTypedThen s ds place d g kb.shared b c
        then_typed = record {
          listed = now_listed s ds place d well g no_fault free b body [] c it made pushed refl all_counts all_numbers
              at;
          longer = now_longer s ds place d well g no_fault free b body [] c it made pushed refl all_counts all_numbers
              at;
          each = λ channels e here was.
              subst (λ h. AreTyped channels ds h c) (sym shared_then)
              (now_typed s ds place d well g no_fault free b body [] c it made pushed refl all_counts all_numbers at
              channels e here (subst (λ h. AreTyped channels ds h b) shared_then was)
              (λ k isnt. ap (λ l. slice_get l k) marks ∙ set_other b.by_definition.items place (Some it) k isnt)
              (ap length marks ∙ length-set b.by_definition.items place (Some it)));
        }
