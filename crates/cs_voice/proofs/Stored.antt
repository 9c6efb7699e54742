-- Cells after stores into a live table are as the definition says.
use Rattle.std.proofs.Common.{◌≡◌, ℕ, ℤ, pos, Bool, true, false, not, List, [], ◌∷◌, Option, Some, None, if◌then◌else◌}
use Rattle.std.proofs.Common.{refl, sym, ◌∙◌, ap, subst}
use Rattle.std.specs.Option.{is_some}
use Rattle.cs_base.specs.declared.resource.Rate.{Rate}
use Rattle.cs_ir.specs.{Registers.rate_at, Resources.Stock, Resources.reaches, Waves.Wave, Waves.operand}
use Rattle.cs_ir.specs.{declared.op.Reach.Reach, declared.register.Counts.Counts, declared.register.Reg.Reg}
use Rattle.cs_cells.specs.{Access.Access, declared.footprint.Area.Area}
use Rattle.cs_meaning.specs.Model.{store_at, store_into, with_value}
use Rattle.cs_meaning.specs.Pieces.{Piece, Table, find_table, index, is_live, places_of_indices, steps_of, stored}
use Rattle.cs_machine.specs.{Registers.values, declared.state.State.State}
use Rattle.cs_machine.specs.States.{Does, IsStateIn, machine_of}
use Rattle.cs_voice_meaning.proofs.Naming.{found_number}
use Rattle.cs_voice_meaning.specs.{Follows.Kinds, VoiceWorld.VoiceState, VoiceWorld.voice_model}
use Rattle.cs_voice_meaning.specs.Placing.{IsPlaced, area_of, wave_in, wave_of, with_wave}
use Rattle.cs_voice.specs.Cells.{IsStorable, MayStore, stored_area}
use Rattle.cs_base.specs.declared.resource.Rate.TheVariants as rate
use Rattle.cs_base.specs.declared.resource.Res.TheVariants as res
use Rattle.cs_ir.specs.declared.op.Act.TheVariants as act

-- n values were stored into an area, at the indexes of another value, in a table of any number with its size
abbrev pub Stores : Option Area → ℕ → Wave → Wave → (ℕ → ℤ) → (ℕ → ℤ) → Type 0
Stores None n signal index before after = after ≡ before
Stores (Some area) n signal index before after = (t : Table) → t.size ≡ area.length
    → after ≡ with_wave (Some area) (stored (places_of_indices t index) signal n (wave_in rate.Audio area before))
    before

pub stores_same : (area : Area) (m n : ℕ) (s v i w : Wave) (before after : ℕ → ℤ) → m ≡ n → s ≡ v → i ≡ w
    → Stores (Some area) m s i before after → Stores (Some area) n v w before after
stores_same area m n s v i w before after e f g h =
    subst (λ k. Stores (Some area) k v w before after) e
    (subst (λ x. Stores (Some area) m x w before after) f (subst (λ x. Stores (Some area) m s x before after) g h))

-- an area that is stored into may be set
pub stored_there : (access : Access) (areas : List Area) (reach : Reach) (k : Option ℕ) (area : Area)
    → stored_area areas reach k ≡ Some area → MayStore access areas reach → IsStorable access area
stored_there access areas reach None area is may = absurd (cc)
stored_there access areas reach (Some n) area is may = by_reach (reaches reach n) refl is
  where
    by_reach : (b : Bool) → reaches reach n ≡ b → (if b then area_of areas (res.Table n) else None) ≡ Some area
        → IsStorable access area
    by_reach true e at = may n area e at
    by_reach false e at = absurd (cc)

module _ (areas : List Area) (stock : Stock) (piece : Piece) (r : Rate) (ws : List Wave) (x : VoiceState)
    (placed : IsPlaced areas stock piece) where
  -- a value stored in a table
  abbrev put_into : Table → VoiceState
  put_into t = with_value (voice_model areas piece) (res.Table t.number)
      (stored (places_of_indices t (operand 1 ws)) (operand 0 ws) (steps_of piece.head.ksmps r)
      (wave_of (area_of areas (res.Table t.number)) rate.Audio x.shared)) x

  -- a table without an area stores nothing
  nowhere : (t : Table) → area_of areas (res.Table t.number) ≡ None → put_into t ≡ x
  nowhere t at = ap (λ o. record x {
    shared = with_wave o (stored (places_of_indices t (operand 1 ws)) (operand 0 ws) (steps_of piece.head.ksmps r)
        (wave_of o rate.Audio x.shared)) x.shared;
  }) at

  either : (b : Bool) (y : VoiceState) → y ≡ x → (if b then y else x) ≡ x
  either true y h = h
  either false y h = refl

  not_there : (n : ℕ) → area_of areas (res.Table n) ≡ None → (o : Option Table) → find_table piece.tables (pos n) ≡ o
      → store_into (voice_model areas piece) r ws o x ≡ x
  not_there n at None e = refl
  not_there n at (Some t) e =
      either (is_live t) (put_into t)
      (nowhere t (ap (λ m. area_of areas (res.Table m)) (found_number piece.tables (pos n) t e) ∙ at))

  live_takes : (t : Table) → t.frozen ≡ None → store_into (voice_model areas piece) r ws (Some t) x ≡ put_into t
  live_takes t e = ap (λ f. if not (is_some f) then put_into t else x) e

  by_area : (n : ℕ) (o : Option Area) → area_of areas (res.Table n) ≡ o → (after : ℕ → ℤ)
      → Stores o (steps_of piece.head.ksmps r) (operand 0 ws) (operand 1 ws) x.shared after
      → record x { shared = after } ≡ store_into (voice_model areas piece) r ws (find_table piece.tables (pos n)) x
  by_area n None at after h =
      (λ i. record x { shared = h i }) ∙ sym (not_there n at (find_table piece.tables (pos n)) refl)
  by_area n (Some a) at after h =
      let is = placed.live n a at in
      let t : Table = is.table in
      let here : area_of areas (res.Table t.number) ≡ Some a =
      ap (λ m. area_of areas (res.Table m)) (found_number piece.tables (pos n) t is.found) ∙ at in
      let long : t.size ≡ a.length = sym ((placed.tables (pos n) t is.found is.live).size a here) in
      (λ i. record x { shared = h t long i }) ∙ ap (λ o. record x {
        shared = with_wave o (stored (places_of_indices t (operand 1 ws)) (operand 0 ws) (steps_of piece.head.ksmps r)
            (wave_of o rate.Audio x.shared)) x.shared;
      }) (sym here) ∙ sym (live_takes t is.live)
      ∙ ap (λ o. store_into (voice_model areas piece) r ws o x) (sym is.found)

  stored_as : (reach : Reach) (k : Option ℕ) (after : ℕ → ℤ)
      → Stores (stored_area areas reach k) (steps_of piece.head.ksmps r) (operand 0 ws) (operand 1 ws) x.shared after
      → record x { shared = after } ≡ store_at (voice_model areas piece) r reach ws k x
  stored_as reach None after h = λ i. record x { shared = h i }
  stored_as reach (Some n) after h = by_reach (reaches reach n) h
    where
      by_reach : (b : Bool) → Stores (if b then area_of areas (res.Table n) else None) (steps_of piece.head.ksmps r)
          (operand 0 ws) (operand 1 ws) x.shared after
          → record x { shared = after }
          ≡ (if b then store_into (voice_model areas piece) r ws (find_table piece.tables (pos n)) x else x)
      by_reach true g = by_area n (area_of areas (res.Table n)) refl after g
      by_reach false g = λ i. record x { shared = g i }

-- the act of a store, by the cells after it
pub store_done : (areas : List Area) (piece : Piece) (stock : Stock) (kinds : Kinds) (counts : Counts) (reach : Reach)
    (into signal place table : Reg)
    (s : State) (before after : ℕ → ℤ) → IsPlaced areas stock piece → IsStateIn areas piece kinds counts s
    → Stores (stored_area areas reach (index (values s.regs table 0))) (steps_of s.regs.ksmps (rate_at into))
    (values s.regs signal) (values s.regs place) before after
    → Does areas piece kinds counts (act.Store reach) into (signal ∷ place ∷ table ∷ []) s before s after
store_done areas piece stock kinds counts reach into signal place table s before after placed state h = record {
  machine = λ next asks cause i. record (machine_of s before next asks cause) {
    world = (stored_as areas stock piece (rate_at into)
        (values s.regs signal ∷ values s.regs place ∷ values s.regs table ∷ [])
        (machine_of s before next asks cause).world placed reach (index (values s.regs table 0)) after
        (subst (λ n. Stores (stored_area areas reach (index (values s.regs table 0))) (steps_of n (rate_at into))
        (values s.regs signal) (values s.regs place) before after) state.frames h)) i;
  };
  state = state;
}
