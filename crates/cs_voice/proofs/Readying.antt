-- Facts about an op that is ready, by its act: everything that the calls which do the act require.
use Rattle.std.proofs.Common.{◌≡◌, ℕ, ℤ, ◌<◌, ◌==◌, suc, Bool, true, List, [], ◌∷◌, length, slice_index_or, Some, None}
use Rattle.std.proofs.Common.{if◌then◌else◌, refl, sym, ◌∙◌, ap, subst, eqb-true, ltb-true}
use Rattle.std.proofs.lemmas.Bool.{and_parts}
use Rattle.cs_base.specs.{Rates.is_audio, Rates.res_rate, declared.resource.Rate.Rate}
use Rattle.cs_words.specs.Catalogue.{moving_letters, row_of, takes}
use Rattle.cs_words.specs.{declared.catalogue.Letter.Letter, declared.catalogue.Opcode.Opcode}
use Rattle.cs_words.specs.{declared.catalogue.Shape.Shape, declared.catalogue.Space.Space}
use Rattle.cs_words.proofs.EachOpcode.{when_all}
use Rattle.cs_ugen.specs.Units.{IsUnitOpcode, moving_count}
use Rattle.cs_ir.specs.{Registers.rate_at, Units.is_unit, Units.is_zak, Validity.takes_from, Validity.writes}
use Rattle.cs_ir.specs.{declared.op.Act.Act, declared.op.Op.Op, declared.op.Reach.Reach, declared.register.Reg.Reg}
use Rattle.cs_ir.specs.Resources.{Stock, act_uses, act_writes, places_within, shape_uses, writes_places}
use Rattle.cs_ir.proofs.Shapes.{run_shape}
use Rattle.cs_ir.specs.Validity.{bound_at, finds, has_register, may_run_at, runs_with, stores_with, take_all}
use Rattle.cs_cells.specs.Access.{Access}
use Rattle.cs_meaning.specs.Pieces.{Piece}
use Rattle.cs_machine.specs.{Players.PlayerData, declared.state.NoteSetting.NoteSetting, declared.state.State.State}
use Rattle.cs_voice_meaning.specs.Follows.{ActNamed, AreNamed, Kinds}
use Rattle.cs_voice_meaning.specs.{Placing.HasArea, Placing.cell_count, Voices.has_channel}
use Rattle.cs_voice_meaning.proofs.Channels.{channel_there}
use Rattle.cs_machine.proofs.Done.{has_room}
use Rattle.cs_machine.specs.States.{Does, DoesAt, HasRoom, IsPlayerOf, MayGet, MaySet}
use Rattle.cs_voice.specs.Cells.{AreSized, CanMix, DoesOver, MayReach, MayStore}
use Rattle.cs_voice.specs.{Ready.DoesOp, Ready.IsFit, Ready.IsReady, Units.DoesUnit, Units.MayPlay}
use Rattle.cs_voice.proofs.Fitting.{Parts, found, parts, takes_as}
use Rattle.cs_voice.proofs.{Points.unit_result, Touching.may_reach, Touching.may_run, Touching.may_store}
use Rattle.cs_words.specs.declared.catalogue.Letter.TheVariants as letter
use Rattle.cs_words.specs.declared.catalogue.Opcode.TheVariants as op
use Rattle.cs_words.specs.declared.catalogue.Shape.TheVariants as shape
use Rattle.cs_words.specs.declared.catalogue.Space.TheVariants as space
use Rattle.cs_ir.specs.declared.op.Act.TheVariants as act

-- ---- operands of units, of stores and of acts on zak places

take_count : (ls : List Letter) (bound : Rate) (xs : List Reg) → take_all ls bound xs ≡ true → length xs ≡ length ls
take_count [] bound [] h = refl
take_count [] bound (x ∷ xs) h = absurd (cc)
take_count (l ∷ ls) bound [] h = absurd (cc)
take_count (l ∷ ls) bound (x ∷ xs) h =
    ap (λ n. suc n) (take_count ls bound xs (and_parts (takes l bound (rate_at x)) (take_all ls bound xs) h).1)

run_takes : (o : Opcode) (r : Rate) (xs : List Reg) → runs_with (row_of o) r xs ≡ true
    → take_all (moving_letters (row_of o)) (bound_at (row_of o) r) xs ≡ true
run_takes o r xs h = (and_parts (take_all (moving_letters (row_of o)) (bound_at (row_of o) r) xs)
    (may_run_at (row_of o) r) h).0

pub is_a_unit : (o : Opcode) (u : ℕ) (reach : Reach) (r : Rate) (xs : List Reg)
    → takes_from (act.Unit o u reach) r xs ≡ true → IsUnitOpcode o
is_a_unit o u reach r xs h = run_shape o r xs h

pub unit_count : (o : Opcode) (u : ℕ) (reach : Reach) (r : Rate) (xs : List Reg)
    → takes_from (act.Unit o u reach) r xs ≡ true → length xs ≡ moving_count o
unit_count o u reach r xs h =
    take_count (moving_letters (row_of o)) (bound_at (row_of o) r) xs
    (run_takes o r xs (and_parts (is_unit (row_of o).shape) (runs_with (row_of o) r xs) h).1)

zak_takes : (o : Opcode) (reach : Reach) (r : Rate) (xs : List Reg) → takes_from (act.Zak o reach) r xs ≡ true
    → take_all (moving_letters (row_of o)) (bound_at (row_of o) r) xs ≡ true
zak_takes o reach r xs h = run_takes o r xs (and_parts (is_zak (row_of o).shape) (runs_with (row_of o) r xs) h).1

pub is_a_zak : (o : Opcode) (reach : Reach) (r : Rate) (xs : List Reg) → takes_from (act.Zak o reach) r xs ≡ true
    → is_zak (row_of o).shape ≡ true
is_a_zak o reach r xs h = (and_parts (is_zak (row_of o).shape) (runs_with (row_of o) r xs) h).0

-- an act on zak places has no other shape
pub not_zak : (s : Shape) → is_zak s ≡ true → ((z : Space) → s ≡ shape.ZakGet z → ⊥)
    → ((z : Space) → s ≡ shape.ZakPut z → ⊥) → (s ≡ shape.ZakMix → ⊥) → ((z : Space) → s ≡ shape.ZakClear z → ⊥) → ⊥
not_zak (shape.ZakGet z) h g p m c = g z refl
not_zak (shape.ZakPut z) h g p m c = p z refl
not_zak shape.ZakMix h g p m c = m refl
not_zak (shape.ZakClear z) h g p m c = c z refl
not_zak _ h g p m c = absurd (cc)

-- the number of operands of an act on zak places, by its opcode's shape: one to read, any other two
abbrev pub zak_count : Shape → ℕ
zak_count (shape.ZakGet s) = 1
zak_count _ = 2

counts_so : Opcode → Bool
counts_so o = length (moving_letters (row_of o)) == zak_count (row_of o).shape

pub zak_long : (o : Opcode) (reach : Reach) (r : Rate) (xs : List Reg) (n : ℕ)
    → takes_from (act.Zak o reach) r xs ≡ true → zak_count (row_of o).shape ≡ n → length xs ≡ n
unfolding counts_so
zak_long o reach r xs n h e =
    take_count (moving_letters (row_of o)) (bound_at (row_of o) r) xs (zak_takes o reach r xs h)
    ∙ eqb-true (length (moving_letters (row_of o))) (zak_count (row_of o).shape)
    (when_all (λ o. is_zak (row_of o).shape) counts_so refl o (is_a_zak o reach r xs h)) ∙ e

-- only an audio register is mixed into a zak place
mixes : (o : Opcode) → (row_of o).shape ≡ shape.ZakMix → o ≡ op.Zawm
mixes op.Zawm h = refl
mixes _ h = absurd (cc)

pub mix_sounds : (o : Opcode) (reach : Reach) (r : Rate) (xs : List Reg) (x n : Reg)
    → takes_from (act.Zak o reach) r xs ≡ true → (row_of o).shape ≡ shape.ZakMix
    → xs ≡ x ∷ n ∷ [] → is_audio (rate_at x) ≡ true
mix_sounds o reach r xs x n h mix e =
    let is : o ≡ op.Zawm = mixes o mix in
    let all : take_all (moving_letters (row_of op.Zawm)) (bound_at (row_of op.Zawm) r) (x ∷ n ∷ []) ≡ true =
    ap (λ q. take_all (moving_letters (row_of q)) (bound_at (row_of q) r) (x ∷ n ∷ [])) (sym is)
    ∙ ap (take_all (moving_letters (row_of o)) (bound_at (row_of o) r)) (sym e) ∙ zak_takes o reach r xs h in
    (and_parts (is_audio (rate_at x)) (take_all (letter.Place ∷ []) (bound_at (row_of op.Zawm) r) (n ∷ [])) all).0

-- a store takes three operands
pub store_long : (r : Rate) (xs : List Reg) → stores_with r xs ≡ true → length xs ≡ 3
store_long r (x ∷ y ∷ n ∷ []) h = refl
store_long r xs h = absurd (cc)

-- ---- each op

module _ {access : Access} {at : NoteSetting} {piece : Piece} {kinds : Kinds} {stock : Stock}
    {o : Op} {s : State} (r : IsReady access at piece kinds stock o s) where
  pub room_of : HasRoom s
  room_of = has_room at.layout.now piece kinds s.regs.counts s r.state

  pub sized_of : AreSized at.layout.now s.regs.ksmps
  sized_of = record {
    frames = subst (λ n. 0 < n) (sym r.state.frames) r.placed.frames;
    cells = λ g area is value. r.placed.cells g area is value
        ∙ ap (λ n. cell_count n (res_rate g)) (sym r.state.frames);
  }

  pub parts_of : Parts s.regs.counts o
  parts_of = parts s.regs.counts r.end r.place o r.fine

  pub fit_of : IsFit o s
  fit_of = record {
    end = r.end;
    place = r.place;
    fine = r.fine;
    room = has_room at.layout.now piece kinds s.regs.counts s r.state;
    channel = subst (λ n. has_channel n o.act ≡ true) (sym r.state.channels)
        (channel_there s.regs.counts piece.head.nchnls o.act (rate_at o.into) o.from parts_of.takes parts_of.from
        r.channel);
  }

  -- an op's act, by its name
  pub uses_of : {a : Act} → o.act ≡ a → AreNamed (MayGet access at.layout.now) (act_uses stock a)
  uses_of {a} e = subst (λ b. AreNamed (MayGet access at.layout.now) (act_uses stock b)) e r.can.uses

  pub writes_of : {a : Act} → o.act ≡ a → AreNamed (MaySet access at.layout.now) (act_writes stock a)
  writes_of {a} e = subst (λ b. AreNamed (MaySet access at.layout.now) (act_writes stock b)) e r.can.writes

  pub takes_of : {a : Act} → o.act ≡ a → takes_from a (rate_at o.into) o.from ≡ true
  takes_of {a} e = takes_as o a e (parts s.regs.counts r.end r.place o r.fine).takes

  pub into_of : {a : Act} → o.act ≡ a → writes a ≡ true → has_register s.regs.counts o.into ≡ true
  into_of {a} e w = (parts s.regs.counts r.end r.place o r.fine).into (ap writes e ∙ w)

  pub kind_of : {opcode : Opcode} {u : ℕ} {reach : Reach} → o.act ≡ act.Unit opcode u reach
      → kinds u ≡ (opcode, (rate_at o.into))
  kind_of {opcode} {u} {reach} e = (subst (λ a. ActNamed stock kinds (HasArea at.layout.now) a (rate_at o.into)) e
      r.named).0

  pub number_of : {opcode : Opcode} {u : ℕ} {reach : Reach} → o.act ≡ act.Unit opcode u reach
      → u < length s.players.items
  number_of {opcode} {u} {reach} e = subst (λ n. u < n) (sym r.state.units) (ltb-true u s.regs.counts.units
      (ap (finds s.regs.counts r.end r.place) (sym e) ∙ found s.regs.counts r.end r.place o r.fine))

  -- the player of a unit
  pub player_of : {opcode : Opcode} {u : ℕ} {reach : Reach} → o.act ≡ act.Unit opcode u reach → (p : PlayerData)
      → slice_index_or s.players.items u None ≡ Some p → IsPlayerOf at.layout.now piece (opcode, (rate_at o.into)) p
  player_of {opcode} {u} {reach} e p is = subst (λ k. IsPlayerOf at.layout.now piece k p)
      (subst (λ a. ActNamed stock kinds (HasArea at.layout.now) a (rate_at o.into)) e r.named).0 (r.state.players u
      p is)

  -- the register of a unit's result exists, and its table may be read
  pub unit_into : {opcode : Opcode} {u : ℕ} {reach : Reach} → o.act ≡ act.Unit opcode u reach
      → has_register s.regs.counts o.into ≡ true
  unit_into {opcode} {u} {reach} e =
      into_of e (unit_result opcode (is_a_unit opcode u reach (rate_at o.into) o.from (takes_of e))).some

  pub unit_may_play : {opcode : Opcode} {u : ℕ} {reach : Reach} → o.act ≡ act.Unit opcode u reach → (p : PlayerData)
      → slice_index_or s.players.items u None ≡ Some p → MayPlay access reach o.from p
  unit_may_play {opcode} {u} {reach} e p is =
      let takes = takes_of e in
      may_run access at.layout.now stock piece opcode (rate_at o.into) reach o.from p
      (is_a_unit opcode u reach (rate_at o.into) o.from takes) (unit_count opcode u reach (rate_at o.into) o.from takes)
      r.placed (uses_of e) (player_of e p is)

  pub op_may_store : {reach : Reach} → o.act ≡ act.Store reach → MayStore access at.layout.now reach
  op_may_store {reach} e = may_store access at.layout.now stock piece reach r.placed (writes_of e)

  -- the zak places of the space that its shape reads, and of the space that it writes
  module _ {opcode : Opcode} {reach : Reach} (e : o.act ≡ act.Zak opcode reach) where
    pub may_read : (z : Space) {sh : Shape} → (row_of opcode).shape ≡ sh
        → ((stock : Stock) → shape_uses stock sh reach ≡ places_within stock z reach)
        → MayReach access.can_get access.count at z reach
    may_read z {sh} is these =
        may_reach access.can_get access.count at stock piece z reach r.placed.spaces r.setting.spaces
        (subst (AreNamed (MayGet access at.layout.now)) (ap (λ q. shape_uses stock q reach) is ∙ these stock)
        (uses_of e))

    pub may_write : (z : Space) {sh : Shape} → (row_of opcode).shape ≡ sh
        → ((stock : Stock) → (if writes_places sh then shape_uses stock sh reach else []) ≡ places_within stock z reach)
        → MayReach access.can_set access.count at z reach
    may_write z {sh} is these =
        may_reach access.can_set access.count at stock piece z reach r.placed.spaces r.setting.spaces
        (subst (AreNamed (MaySet access at.layout.now))
        (ap (λ q. if writes_places q then shape_uses stock q reach else []) is ∙ these stock) (writes_of e))

    -- a register may name the audio places that are mixed into
    pub can_mix : {number : Reg} → (row_of opcode).shape ≡ shape.ZakMix → has_register s.regs.counts number ≡ true
        → CanMix access at reach number s
    can_mix is there = record {
      register = there;
      room = room_of;
      sized = sized_of;
      read = may_read space.Audio is (λ stock. refl);
      write = may_write space.Audio is (λ stock. refl);
    }

-- ---- an op that is done

pub does_over : {at : NoteSetting} {o : Op} {b : Act} {into : Reg} {ys : List Reg} {old : State} {before : ℕ → ℤ}
    {new : State} {after : ℕ → ℤ} → o.act ≡ b → into ≡ o.into → o.from ≡ ys → DoesOver at b into ys old before new after
    → DoesOver at o.act o.into o.from old before new after
does_over {at} {o} {b} {into} {ys} {old} {before} {new} {after} e g f h =
    subst (λ d. DoesOver at d o.into o.from old before new after) (sym e)
    (subst (λ l. DoesOver at b o.into l old before new after) (sym f)
    (subst (λ q. DoesOver at b q ys old before new after) g h))

pub does_op : {access : Access} {at : NoteSetting} {o : Op} {b : Act} {into : Reg} {ys : List Reg} {old : State}
    {before : ℕ → ℤ} {new : State} {after : ℕ → ℤ}
    → o.act ≡ b → into ≡ o.into → o.from ≡ ys → DoesOver at b into ys old before new after
    → DoesOp access at o old before new after
does_op {access} {at} {o} {b} {into} {ys} {old} {before} {new} {after} e g f h piece kinds stock r =
    does_over {at = at} {o = o} e g f h at.layout.now piece stock kinds old.regs.counts r.setting r.placed r.state

pub does_op_unit : {access : Access} {at : NoteSetting} {o : Op} {opcode : Opcode} {u : ℕ} {reach : Reach}
    {into : Reg} {ys : List Reg} {old : State} {before : ℕ → ℤ} {new : State} {after : ℕ → ℤ}
    → o.act ≡ act.Unit opcode u reach → into ≡ o.into → o.from ≡ ys → IsUnitOpcode opcode
    → DoesUnit u reach into ys old before new after → DoesOp access at o old before new after
does_op_unit {access} {at} {o} {opcode} {u} {reach} {into} {ys} {old} {before} {new} {after} e g f is h
    piece kinds stock r =
    subst (λ d. Does at.layout.now piece kinds old.regs.counts d o.into o.from old before new after) (sym e)
    (subst (λ l. Does at.layout.now piece kinds old.regs.counts (act.Unit opcode u reach) o.into l old before new after)
    (sym f) (subst (λ q. DoesUnit u reach q ys old before new after) g h at.layout.now piece stock kinds old.regs.counts
    opcode is (kind_of r e) r.placed r.state))

pub does_op_plain : {access : Access} {at : NoteSetting} {o : Op} {old : State} {cells : ℕ → ℤ} {new : State}
    → DoesAt at o.act o.into o.from old new → DoesOp access at o old cells new cells
does_op_plain {access} {at} {o} {old} {cells} {new} h piece kinds stock r =
    h at.layout.now piece kinds old.regs.counts cells r.setting r.state
