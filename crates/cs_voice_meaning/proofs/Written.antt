-- A voice changes only cells of resources that its code may write.
use Rattle.std.proofs.Common.{arith, ◌≡◌, ℕ, ℤ, pos, zero, suc, ◌+◌, ◌-◌, ◌&&◌, Bool, true, false, not, List, ◌∷◌}
use Rattle.std.proofs.Common.{nat_le, [], slice_get, slice_index_or, Option, Some, None, if◌then◌else◌, refl, sym, ◌∙◌}
use Rattle.std.proofs.Common.{ap, subst}
use Rattle.std.proofs.lemmas.{Grind.common_steps, Bool.and_parts}
use Rattle.cs_base.specs.{Rates.same_res, Rates.res_rate, declared.resource.Rate.Rate, declared.resource.Res.Res}
use Rattle.cs_base.proofs.{Rates.same_res_here, Tests.by_test}
use Rattle.cs_words.specs.declared.catalogue.Opcode.{Opcode}
use Rattle.cs_words.specs.{declared.catalogue.Shape.Shape, declared.catalogue.Space.Space}
use Rattle.cs_ir.specs.{Registers.rate_at, Machine.Machine, Machine.acts, Machine.step, Machine.run, Machine.write}
use Rattle.cs_ir.specs.{Resources.zak_place, Waves.Wave, Waves.held, Waves.operand, Waves.first_values}
use Rattle.cs_ir.specs.{declared.op.Act.Act, declared.op.Op.Op, declared.op.Reach.Reach, declared.register.Reg.Reg}
use Rattle.cs_ir.specs.Resources.{Stock, reaches, shape_uses, writes_places, act_writes, tables_within, places_within}
use Rattle.cs_cells.specs.{Cells.in_area, declared.footprint.Area.Area}
use Rattle.cs_meaning.specs.Model.{WorldModel, with_value, unit_does, store_into, store_at, cleared, zak_does}
use Rattle.cs_meaning.specs.Model.{lacks_table, starts, out_to, out_to_numbered}
use Rattle.cs_meaning.specs.Pieces.{Piece, Table, find_table, index, is_cleared, is_between, at_place, has_place}
use Rattle.cs_voice_meaning.specs.Placing.{area_of, with_wave, IsPlaced}
use Rattle.cs_voice_meaning.specs.VoiceWorld.{Playing, VoiceState, lies_cleared, voice_model, voice_world}
use Rattle.cs_voice_meaning.specs.{Follows.AreNamed, Voices.OpsWritten}
use Rattle.cs_voice_meaning.proofs.Naming.{place_named, table_named}
use Rattle.cs_voice_meaning.proofs.{Placed.area_at, Shared.any_at, Models.live_is}
use Rattle.cs_base.specs.declared.resource.Res.TheVariants as res
use Rattle.cs_words.specs.declared.catalogue.Shape.TheVariants as shape
use Rattle.cs_words.specs.declared.catalogue.Space.TheVariants as space
use Rattle.cs_ir.specs.declared.op.Act.TheVariants as act

-- a resource whose area is at a place has an area
some_area : (areas : List Area) (place : ℕ) (area : Area) → slice_get areas place ≡ Some area
    → (b : Area) × (area_of areas area.res ≡ Some b)
some_area [] place area h = absurd (cc)
some_area (x ∷ areas) zero area h =
    let e : x ≡ area = cc in (
      x,
      ap (λ b. if b then Some x else area_of areas area.res)
          (ap (λ z. same_res z.res area.res) e ∙ same_res_here area.res),
    )
some_area (x ∷ areas) (suc place) area h = by_case (some_area areas place area h) (same_res x.res area.res)
  where
    by_case : (b : Area) × (area_of areas area.res ≡ Some b) → (t : Bool)
        → (b : Area) × ((if t then Some x else area_of areas area.res) ≡ Some b)
    by_case later true = (x, refl)
    by_case later false = later

-- a resource that is cleared is an existing place of the space
cleared_place : (piece : Piece) (sp : Space) (reach : Reach) (first last : ℤ) (g : Res)
    → is_cleared piece sp reach first last g ≡ true
    → (n : ℕ) × (zak_place sp n ≡ g) × (has_place piece sp reach n ≡ true)
cleared_place piece space.Control reach first last (res.ZakK n) h =
    (n, refl, (and_parts (has_place piece space.Control reach n) (is_between first last n) h).0)
cleared_place piece space.Audio reach first last (res.ZakA n) h =
    (n, refl, (and_parts (has_place piece space.Audio reach n) (is_between first last n) h).0)
cleared_place piece _ reach first last _ h = absurd (cc)

module _ (areas : List Area) (stock : Stock) (piece : Piece) (a : ℕ) (placed : IsPlaced areas stock piece) where
  abbrev model : WorldModel (ℕ → ℤ) Playing
  model = voice_model areas piece

  kept_by_wave : (o : Option Area) (w : Wave) (c : ℕ → ℤ) → in_area o a ≡ false → with_wave o w c a ≡ c a
  kept_by_wave None w c h = refl
  kept_by_wave (Some area) w c h = ap (λ b. if b then w (a - area.first) else c a) h

  same_cell : (b : Bool) (x y : VoiceState) (z : ℤ) → (b ≡ true → x.shared a ≡ z) → y.shared a ≡ z
      → (if b then x else y).shared a ≡ z
  same_cell true x y z h k = h refl
  same_cell false x y z h k = k

  same_cell_of : (b : Bool) (p q : VoiceState × Wave) (z : ℤ) → p.0.shared a ≡ z → q.0.shared a ≡ z
      → (if b then p else q).0.shared a ≡ z
  same_cell_of true p q z h k = h
  same_cell_of false p q z h k = k

  starts_keep : (opcode : Opcode) (r : Rate) (u : ℕ) (is : List ℤ) (x : VoiceState)
      → (starts model opcode r u is x).shared a ≡ x.shared a
  starts_keep opcode r u is x = grind (arith, common_steps, nat_le, not, same_cell, slice_index_or)

  unit_keeps : (opcode : Opcode) (r : Rate) (u : ℕ) (reach : Reach) (ws : List Wave) (o : Option Playing)
      (x : VoiceState) → (unit_does model opcode r u reach ws o x).0.shared a ≡ x.shared a
  unit_keeps opcode r u reach ws None x = refl
  unit_keeps opcode r u reach ws (Some p) x = grind (arith, common_steps, same_cell_of)

  table_keeps : (r : Rate) (ws : List Wave) (o : Option Table) (x : VoiceState)
      → ((t : Table) → o ≡ Some t → t.frozen ≡ None → in_area (area_of areas (res.Table t.number)) a ≡ false)
      → (store_into model r ws o x).shared a ≡ x.shared a
  table_keeps r ws None x named = refl
  table_keeps r ws (Some t) x named = grind (arith, common_steps, kept_by_wave, live_is, same_cell)

  store_keeps : (r : Rate) (reach : Reach) (ws : List Wave) (i : Option ℕ) (x : VoiceState)
      → AreNamed (λ g. in_area (area_of areas g) a ≡ false) (tables_within stock reach)
      → (store_at model r reach ws i x).shared a ≡ x.shared a
  store_keeps r reach ws None x named = refl
  store_keeps r reach ws (Some n) x named = same_cell (reaches reach n) _ x (x.shared a)
      (λ touches. table_keeps r ws (find_table piece.tables (pos n)) x
      (λ t found live. table_named areas stock piece (λ g. in_area (area_of areas g) a ≡ false) placed reach (pos n) t
      named touches found live)) refl

  place_keeps : (sp : Space) (reach : Reach) (i : Option ℕ) (x : VoiceState) (w : Res → Wave)
      → AreNamed (λ g. in_area (area_of areas g) a ≡ false) (places_within stock sp reach)
      → (at_place piece sp reach i x (λ g. with_value model g (w g) x)).shared a ≡ x.shared a
  place_keeps sp reach None x w named = refl
  place_keeps sp reach (Some n) x w named =
      same_cell _ _ _ _ (λ there. kept_by_wave (area_of areas (zak_place sp n)) (w (zak_place sp n)) x.shared
      (place_named _ stock _ _ _ _ placed.spaces named there)) refl

  clear_keeps : (sp : Space) (reach : Reach) (first last : ℤ) (x : VoiceState)
      → AreNamed (λ g. in_area (area_of areas g) a ≡ false) (places_within stock sp reach)
      → (cleared model (is_cleared piece sp reach first last) x).shared a ≡ x.shared a
  clear_keeps sp reach first last x named =
      let clears : Res → Bool = is_cleared piece sp reach first last in
      let none : lies_cleared areas clears a ≡ false = by_test (lies_cleared areas clears a) (λ yes.
      let found = any_at (λ z. in_area (Some z) a && clears z.res) areas yes in
      let both = and_parts (in_area (Some found.1) a) (clears found.1.res) found.3 in
      let own = some_area areas found.0 found.1 found.2 in
      let at = area_at areas found.1.res own.0 own.1 in
      let one : found.0 ≡ at.0 =
      placed.laid.apart found.0 at.0 found.1.res (found.1, found.2, refl) (own.0, at.1, at.2) in
      let some : Some found.1 ≡ Some own.0 = sym found.2 ∙ ap (slice_get areas) one ∙ at.1 in
      let place = cleared_place piece sp reach first last found.1.res both.1 in
      let outside : in_area (area_of areas found.1.res) a ≡ false =
      subst (λ g. in_area (area_of areas g) a ≡ false) place.1
      (place_named (λ g. in_area (area_of areas g) a ≡ false) stock piece.spaces sp reach place.0 placed.spaces named
      place.2) in
      let inside : in_area (area_of areas found.1.res) a ≡ true = ap (λ o. in_area o a) (own.1 ∙ sym some) ∙ both.0 in
      absurd (cc)) (λ f. f) in
      ap (λ b. if b then pos 0 else x.shared a) none

  zak_keeps : (sh : Shape) (reach : Reach) (ws : List Wave) (x : VoiceState)
      → AreNamed (λ g. in_area (area_of areas g) a ≡ false) (if writes_places sh then shape_uses stock sh reach else [])
      → (zak_does model sh reach ws x).0.shared a ≡ x.shared a
  zak_keeps (shape.ZakPut sp) reach ws x named = place_keeps sp reach (index (operand 1 ws 0)) x _ named
  zak_keeps shape.ZakMix reach ws x named = place_keeps space.Audio reach (index (operand 1 ws 0)) x _ named
  zak_keeps (shape.ZakClear sp) reach ws x named = clear_keeps sp reach (operand 0 ws 0) (operand 1 ws 0) x named
  zak_keeps _ reach ws x named = refl

  written_keeps : (b : Bool) (into : Reg) (p : VoiceState × Wave) (m : Machine VoiceState) (z : ℤ) → p.0.shared a ≡ z
      → (if b then write piece.head.ksmps into p.1 (record m { world = p.0 }) else record m
      { world = p.0 }).world.shared a ≡ z
  written_keeps true into p m z h = h
  written_keeps false into p m z h = h

  out_at_keeps : (i : Option ℕ) (w : Wave) (x : VoiceState)
      → (out_to_numbered piece.head.nchnls i w x).shared a ≡ x.shared a
  out_at_keeps None w x = refl
  out_at_keeps (Some n) w x =
      same_cell (nat_le 1 n && nat_le n piece.head.nchnls) (out_to (n - 1) w x) x (x.shared a) (λ e. refl) refl

  acts_keep : (t : Act) (into : Reg) (ws : List Wave) (m : Machine VoiceState)
      → AreNamed (λ g. in_area (area_of areas g) a ≡ false) (act_writes stock t)
      → (acts (voice_world areas piece) t into ws m).world.shared a ≡ m.world.shared a
  acts_keep (act.Save g) into ws m h = kept_by_wave _ _ _ h.0
  acts_keep (act.Start opcode k) into ws m h = starts_keep opcode (rate_at into) k (first_values ws) m.world
  acts_keep (act.Unit opcode k reach) into ws m h = grind (arith, common_steps, unit_keeps, written_keeps)
  acts_keep act.Seek into ws m h =
      same_cell (lacks_table model (first_values ws)) _ m.world (m.world.shared a) (λ e. refl) refl
  acts_keep (act.Store reach) into ws m h = store_keeps (rate_at into) reach ws (index (operand 2 ws 0)) m.world h
  acts_keep (act.Zak opcode reach) into ws m h = grind (arith, common_steps, written_keeps, zak_keeps)
  acts_keep act.OutAt into ws m h = out_at_keeps (index (operand 0 ws 0)) (operand 1 ws) m.world
  acts_keep _ into ws m h = refl

  either_keeps : (b : Bool) (n m : Machine VoiceState) (z : ℤ) → n.world.shared a ≡ z → m.world.shared a ≡ z
      → (if b then n else m).world.shared a ≡ z
  either_keeps true n m z h k = h
  either_keeps false n m z h k = k

  -- a cell outside all resources that the ops may write keeps its value
  pub run_keeps : (place : ℕ) (ops : List Op) (m : Machine VoiceState)
      → OpsWritten stock (λ g. in_area (area_of areas g) a ≡ false) ops
      → (run (voice_world areas piece) place ops m).world.shared a ≡ m.world.shared a
  run_keeps place [] m h = refl
  run_keeps place (op ∷ ops) m h = grind (
    arith,
    common_steps,
    acts_keep,
    common_steps,
    either_keeps,
    run_keeps (place + 1) ops (step (voice_world areas piece) place op m) h.1,
  )
