-- Zak places: what their opcodes do to the place that a value names.
use Rattle.std.proofs.Common.{◌≡◌, ℕ, ℤ, pos, ◌≤◌, ◌&&◌, Bool, true, false, not, List, [], ◌∷◌, length, nat_lt, Option}
use Rattle.std.proofs.Common.{Some, None, if◌then◌else◌, refl, sym, ◌∙◌, ap, subst, arith, ltb-true}
use Rattle.std.proofs.lemmas.{Bool.and_parts, Bool.Decides.nat_tests, List.get_or_past, Option.none-some}
use Rattle.cs_base.specs.{Rates.res_rate, declared.resource.Res.Res, declared.spaces.Spaces.Spaces}
use Rattle.cs_base.proofs.Tests.{by_test, some_is}
use Rattle.cs_words.proofs.EachOpcode.{when_all}
use Rattle.cs_words.specs.{Catalogue.row_of, declared.catalogue.Shape.Shape, declared.catalogue.Space.Space}
use Rattle.cs_words.specs.declared.catalogue.Opcode.{Opcode}
use Rattle.cs_ir.specs.Machine.{Machine, acts, gives, in_world, write, written}
use Rattle.cs_ir.specs.Resources.{places_of, reaches, writes_places, zak_place}
use Rattle.cs_ir.specs.{Validity.has_value, declared.op.Reach.Reach, declared.register.Reg.Reg}
use Rattle.cs_ir.specs.Waves.{Wave, held, silence}
use Rattle.cs_cells.specs.declared.footprint.Area.{Area}
use Rattle.cs_meaning.specs.Model.{cleared, saved, zak_does}
use Rattle.cs_meaning.specs.Pieces.{Piece, added, at_place, index, is_cleared}
use Rattle.cs_machine.proofs.Done.{KeepsMachine, KeepsRest, changes, writes}
use Rattle.cs_machine.proofs.{Found.if_false, Found.if_true, Writing.frame_past}
use Rattle.cs_machine.specs.{Rows.row_wave, Access.CanTouch, Registers.IsWritten, Registers.values}
use Rattle.cs_machine.specs.{States.MayTouch, States.machine_of, declared.state.NoteSetting.NoteSetting}
use Rattle.cs_machine.specs.declared.state.State.{State}
use Rattle.cs_voice_meaning.specs.Placing.{area_of, wave_in, wave_of, with_wave}
use Rattle.cs_voice_meaning.specs.VoiceWorld.{VoiceState, lies_cleared, read_cells, voice_model, voice_world}
use Rattle.cs_voice.specs.{Cells.DoesOver, Cells.MayReach, inner.Zak.reached}
use Rattle.cs_base.specs.declared.resource.Rate.TheVariants as rate
use Rattle.cs_words.specs.declared.catalogue.Opcode.TheVariants as op
use Rattle.cs_words.specs.declared.catalogue.Shape.TheVariants as shape
use Rattle.cs_words.specs.declared.catalogue.Space.TheVariants as space
use Rattle.cs_ir.specs.declared.op.Act.TheVariants as act

-- ---- the acts, by the shapes of their opcodes

-- an opcode that reads has a result, and one that writes has none
pub get_gives : (o : Opcode) (s : Space) → (row_of o).shape ≡ shape.ZakGet s → gives o ≡ true
get_gives op.Zkr s h = refl
get_gives op.Zar s h = refl
get_gives _ s h = absurd (cc)

no_result : (b : Bool) → not b ≡ true → b ≡ false
no_result true h = absurd (cc)
no_result false h = refl

write_gives : (o : Opcode) (sh : Shape) → (row_of o).shape ≡ sh → writes_places sh ≡ true → gives o ≡ false
write_gives o sh is h =
    no_result (gives o) (when_all (λ o. writes_places (row_of o).shape) (λ o. not (gives o)) refl o
    (ap writes_places is ∙ h))

module _ (areas : List Area) (piece : Piece) (o : Opcode) (reach : Reach) (into : Reg) (m : Machine VoiceState) where
  shaped : (sh : Shape) (ws : List Wave) → (row_of o).shape ≡ sh
      → acts (voice_world areas piece) (act.Zak o reach) into ws m ≡ written piece.head.ksmps o into
      (zak_does (voice_model areas piece) sh reach ws m.world) m
  shaped sh ws is = ap (λ q. written piece.head.ksmps o into (zak_does (voice_model areas piece) q reach ws m.world) m)
      is

  pub getting : (s : Space) (v : Wave) → (row_of o).shape ≡ shape.ZakGet s
      → acts (voice_world areas piece) (act.Zak o reach) into (v ∷ []) m ≡ write piece.head.ksmps into
      (at_place piece s reach (index (v 0)) silence (λ g. read_cells areas g m.world.shared)) m
  getting s v is = shaped (shape.ZakGet s) (v ∷ []) is ∙ if_true (gives o) _ _ (get_gives o s is)

  pub putting : (s : Space) (w v : Wave) → (row_of o).shape ≡ shape.ZakPut s
      → acts (voice_world areas piece) (act.Zak o reach) into (w ∷ v ∷ []) m
      ≡ in_world (at_place piece s reach (index (v 0)) m.world (λ g. saved (voice_model areas piece) g w m.world)) m
  putting s w v is = shaped (shape.ZakPut s) (w ∷ v ∷ []) is
      ∙ if_false (gives o) _ _ (write_gives o (shape.ZakPut s) is refl)

  pub mixing : (w v : Wave) → (row_of o).shape ≡ shape.ZakMix
      → acts (voice_world areas piece) (act.Zak o reach) into (w ∷ v ∷ []) m
      ≡ in_world (at_place piece space.Audio reach (index (v 0)) m.world
      (λ g. saved (voice_model areas piece) g (added (read_cells areas g m.world.shared) w) m.world)) m
  mixing w v is = shaped shape.ZakMix (w ∷ v ∷ []) is ∙ if_false (gives o) _ _ (write_gives o shape.ZakMix is refl)

  pub clearing : (s : Space) (v w : Wave) → (row_of o).shape ≡ shape.ZakClear s
      → acts (voice_world areas piece) (act.Zak o reach) into (v ∷ w ∷ []) m
      ≡ in_world (cleared (voice_model areas piece) (is_cleared piece s reach (v 0) (w 0)) m.world) m
  clearing s v w is = shaped (shape.ZakClear s) (v ∷ w ∷ []) is
      ∙ if_false (gives o) _ _ (write_gives o (shape.ZakClear s) is refl)

-- ---- the place that a number names

pub at_reached : {A : Type 0} (at : NoteSetting) (piece : Piece) (s : Space) (reach : Reach) (k : Option ℕ) (g : Res)
    (other : A) (found : Res → A)
    → piece.spaces ≡ at.spaces → reached at s reach k ≡ Some g → at_place piece s reach k other found ≡ found g
at_reached at piece s reach None g other found same h = absurd cc
at_reached {A} at piece s reach (Some n) g other found same h =
    ap (λ (spaces : Spaces). if nat_lt n (places_of spaces s) && reaches reach n then found (zak_place s n) else other)
    same ∙ by (nat_lt n (places_of at.spaces s) && reaches reach n) h
  where
    by : (b : Bool) → (if b then Some (zak_place s n) else None) ≡ Some g
        → (if b then found (zak_place s n) else other) ≡ found g
    by true e = ap found (some_is (zak_place s n) g e)
    by false e = absurd cc

pub not_reached : {A : Type 0} (at : NoteSetting) (piece : Piece) (s : Space) (reach : Reach) (k : Option ℕ) (other : A)
    (found : Res → A)
    → piece.spaces ≡ at.spaces → reached at s reach k ≡ None → at_place piece s reach k other found ≡ other
not_reached at piece s reach None other found same h = refl
not_reached {A} at piece s reach (Some n) other found same h =
    ap (λ (spaces : Spaces). if nat_lt n (places_of spaces s) && reaches reach n then found (zak_place s n) else other)
    same ∙ by (nat_lt n (places_of at.spaces s) && reaches reach n) h
  where
    by : (b : Bool) → (if b then Some (zak_place s n) else None) ≡ None
        → (if b then found (zak_place s n) else other) ≡ other
    by true e = absurd cc
    by false e = refl

place_of_number : (at : NoteSetting) (s : Space) (reach : Reach) (k : Option ℕ) (g : Res)
    → reached at s reach k ≡ Some g → (n : ℕ) × (zak_place s n ≡ g)
place_of_number at s reach None g h = absurd cc
place_of_number at s reach (Some n) g h = (n, by (nat_lt n (places_of at.spaces s) && reaches reach n) h)
  where
    by : (b : Bool) → (if b then Some (zak_place s n) else None) ≡ Some g → zak_place s n ≡ g
    by true e = some_is (zak_place s n) g e
    by false e = absurd cc

pub reached_value : (at : NoteSetting) (s : Space) (reach : Reach) (k : Option ℕ) (g : Res)
    → reached at s reach k ≡ Some g → has_value g ≡ true
reached_value at s reach k g h = let p =
    place_of_number at s reach k g h in subst (λ r. has_value r ≡ true) p.1 (place_value s p.0)
  where
    place_value : (s : Space) (n : ℕ) → has_value (zak_place s n) ≡ true
    place_value space.Control n = refl
    place_value space.Audio n = refl

-- a place may be touched if all places within reach may be
pub area_touched : (allowed : ℕ → Type 0) (count : ℕ) (at : NoteSetting) (g : Res) (area : Area)
    → MayTouch allowed count at.layout.now g → area_of at.layout.now g ≡ Some area → CanTouch allowed count area
area_touched allowed count at g area may there =
    subst (CanTouch allowed count) (some_is may.0 area (sym may.1 ∙ there)) may.2

pub reached_may : (allowed : ℕ → Type 0) (count : ℕ) (at : NoteSetting) (s : Space) (reach : Reach) (k : Option ℕ)
    (g : Res)
    → MayReach allowed count at s reach → reached at s reach k ≡ Some g → MayTouch allowed count at.layout.now g
reached_may allowed count at s reach None g may h = absurd cc
reached_may allowed count at s reach (Some n) g may h =
    by_test (nat_lt n (places_of at.spaces s) && reaches reach n)
    (λ yes. let both = and_parts (nat_lt n (places_of at.spaces s)) (reaches reach n) yes in
    let same : zak_place s n ≡ g =
    some_is (zak_place s n) g (ap (λ b. if b then Some (zak_place s n) else None) (sym yes) ∙ h) in
    subst (MayTouch allowed count at.layout.now) same (may n (ltb-true n (places_of at.spaces s) both.0) both.1))
    (λ no. absurd (none-some g (ap (λ b. if b then Some (zak_place s n) else None) (sym no) ∙ h)))

pub reached_touched : (allowed : ℕ → Type 0) (count : ℕ) (at : NoteSetting) (s : Space) (reach : Reach) (k : Option ℕ)
    (g : Res) (area : Area)
    → MayReach allowed count at s reach → reached at s reach k ≡ Some g → area_of at.layout.now g ≡ Some area
    → CanTouch allowed count area
reached_touched allowed count at s reach k g area may h there =
    area_touched allowed count at g area (reached_may allowed count at s reach k g may h) there

pub reached_sound : (at : NoteSetting) (reach : Reach) (k : Option ℕ) (g : Res)
    → reached at space.Audio reach k ≡ Some g → res_rate g ≡ rate.Audio
reached_sound at reach k g h = let p = place_of_number at space.Audio reach k g h in sym (ap res_rate p.1)

-- ---- mixing changes no frames after the cycle

pub mixed_held : (n : ℕ) (area : Area) (cells : ℕ → ℤ) (row : List ℤ) → area.length ≡ n → length row ≡ n
    → added (wave_in rate.Audio area cells) (row_wave row) ≡ held n rate.Audio
    (added (wave_in rate.Audio area cells) (row_wave row))
mixed_held n area cells row size long = λ i j. at j i
  where
    at : (j : ℕ) → added (wave_in rate.Audio area cells) (row_wave row) j
        ≡ held n rate.Audio (added (wave_in rate.Audio area cells) (row_wave row)) j
    at j = by_test (nat_lt j n)
        (λ yes. sym (ap (λ b. if b then added (wave_in rate.Audio area cells) (row_wave row) j else pos 0) yes))
        (λ no. let far : n ≤ j = grind (arith, nat_tests) in
        ap (λ z. added (λ i. z) (row_wave row) j) (frame_past area cells j (omega (arith, far, size)))
        ∙ ap (λ z. added (λ i. pos 0) (λ i. z) j) (get_or_past row j (pos 0) (omega (arith, far, long)))
        ∙ sym (ap (λ b. if b then added (wave_in rate.Audio area cells) (row_wave row) j else pos 0) no))

-- the cells after the act of mixing
pub mixed_here : (areas : List Area) (g : Res) (area : Area) (x : Wave) (row : List ℤ) (n ksmps : ℕ)
    (before after : ℕ → ℤ)
    → area_of areas g ≡ Some area → res_rate g ≡ rate.Audio → area.length ≡ n → length row ≡ n → n ≡ ksmps
    → row_wave row ≡ x → after ≡ with_wave (Some area) (added (wave_in rate.Audio area before) (row_wave row)) before
    → with_wave (area_of areas g) (held ksmps (res_rate g) (added (wave_of (area_of areas g) (res_rate g) before) x))
    before ≡ after
mixed_here areas g area x row n ksmps before after found sound size long same own is =
    ap (λ o. with_wave o (held ksmps (res_rate g) (added (wave_of o (res_rate g) before) x)) before) found
    ∙ ap (λ r. with_wave (Some area) (held ksmps r (added (wave_in r area before) x)) before) sound
    ∙ ap (λ y. with_wave (Some area) (held ksmps rate.Audio (added (wave_in rate.Audio area before) y)) before)
    (sym own)
    ∙ ap (λ k. with_wave (Some area) (held k rate.Audio (added (wave_in rate.Audio area before) (row_wave row))) before)
    (sym same) ∙ ap (λ w. with_wave (Some area) w before) (sym (mixed_held n area before row size long)) ∙ sym is

-- ---- the acts, at the place that a register names

-- a state in which nothing has changed
same_state : (s : State) → KeepsMachine s s
same_state s = record { regs = refl; rest = record { players = refl; outs = refl; delays = refl; ended = refl } }

module _ (at : NoteSetting) (o : Opcode) (reach : Reach) (s : Space) (number : Reg) {old : State} where
  -- a place within reach is read and written like any resource
  pub loaded : {g : Res} {into : Reg} {new : State} {before after : ℕ → ℤ} → (row_of o).shape ≡ shape.ZakGet s
      → reached at s reach (index (values old.regs number 0)) ≡ Some g
      → DoesOver at (act.Load g) into [] old before new after
      → DoesOver at (act.Zak o reach) into (number ∷ []) old before new after
  loaded {g} {into} {new} {before} {after} is here does areas piece stock kinds counts setting placed state =
      let done = does areas piece stock kinds counts setting placed state in
      record {
        machine = λ next asks cause. let m = machine_of old before next asks cause in
            done.machine next asks cause ∙ sym (getting areas piece o reach into m s (values old.regs number) is
            ∙ ap (λ w. write piece.head.ksmps into w m)
            (at_reached at piece s reach (index (values old.regs number 0)) g silence (λ q. read_cells areas q before)
            setting.spaces here));
        state = done.state;
      }

  pub saved_at : {g : Res} {x into : Reg} {new : State} {before after : ℕ → ℤ} → (row_of o).shape ≡ shape.ZakPut s
      → reached at s reach (index (values old.regs number 0)) ≡ Some g
      → DoesOver at (act.Save g) into (x ∷ []) old before new after
      → DoesOver at (act.Zak o reach) into (x ∷ number ∷ []) old before new after
  saved_at {g} {x} {into} {new} {before} {after} is here does areas piece stock kinds counts setting placed state =
      let done = does areas piece stock kinds counts setting placed state in
      record {
        machine = λ next asks cause. let m = machine_of old before next asks cause in
            done.machine next asks cause
            ∙ sym (putting areas piece o reach into m s (values old.regs x) (values old.regs number) is
            ∙ ap (λ y. in_world y m) (at_reached at piece s reach (index (values old.regs number 0)) g m.world
            (λ q. saved (voice_model areas piece) q (values old.regs x) m.world) setting.spaces here));
        state = done.state;
      }

  -- if there is no place, 0 is read, and nothing is written
  pub none_loaded : {into : Reg} {new : State} {cells : ℕ → ℤ} → (row_of o).shape ≡ shape.ZakGet s
      → reached at s reach (index (values old.regs number 0)) ≡ None
      → KeepsRest old new → IsWritten old.regs into silence new.regs → length new.row.items ≡ old.regs.ksmps
      → DoesOver at (act.Zak o reach) into (number ∷ []) old cells new cells
  none_loaded {into} {new} {cells} is none rest written row areas piece stock kinds counts setting placed state =
      writes silence rest refl state written row
      (λ next asks cause. let m = machine_of old cells next asks cause in
      getting areas piece o reach into m s (values old.regs number) is ∙ ap (λ w. write piece.head.ksmps into w m)
      (not_reached at piece s reach (index (values old.regs number 0)) silence (λ q. read_cells areas q cells)
      setting.spaces none))

  pub none_saved : {x into : Reg} {cells : ℕ → ℤ} → (row_of o).shape ≡ shape.ZakPut s
      → reached at s reach (index (values old.regs number 0)) ≡ None
      → DoesOver at (act.Zak o reach) into (x ∷ number ∷ []) old cells old cells
  none_saved {x} {into} {cells} is none areas piece stock kinds counts setting placed state =
      changes (same_state old) state (state.row ∙ sym state.frames)
      (λ next asks cause. let m = machine_of old cells next asks cause in
      putting areas piece o reach into m s (values old.regs x) (values old.regs number) is ∙ ap (λ y. in_world y m)
      (not_reached at piece s reach (index (values old.regs number 0)) m.world
      (λ q. saved (voice_model areas piece) q (values old.regs x) m.world) setting.spaces none))

-- places are cleared from the number in one register to the number in another
pub cleared_from : (at : NoteSetting) (o : Opcode) (reach : Reach) (s : Space) (first last : Reg) (f l : ℤ)
    {into : Reg} {old : State} {before after : ℕ → ℤ} → (row_of o).shape ≡ shape.ZakClear s
    → f ≡ values old.regs first 0 → l ≡ values old.regs last 0 → ((piece : Piece) → piece.spaces ≡ at.spaces → after
    ≡ (λ a. if lies_cleared at.layout.now (is_cleared piece s reach f l) a then pos 0 else before a))
    → DoesOver at (act.Zak o reach) into (first ∷ last ∷ []) old before old after
cleared_from at o reach s first last f l {into} {old} {before} {after} is from to does areas piece stock kinds counts
    setting placed state =
    let v = values old.regs first in
    let w = values old.regs last in
    changes (same_state old) state (state.row ∙ sym state.frames)
    (λ next asks cause.
    clearing areas piece o reach into (machine_of old before next asks cause) s v w is
    ∙ ap (λ cells. machine_of old cells next asks cause)
    (ap (λ ls a. if lies_cleared ls (is_cleared piece s reach (v 0) (w 0)) a then pos 0 else before a)
    (sym setting.layout)
    ∙ ap (λ z a. if lies_cleared at.layout.now (is_cleared piece s reach z (w 0)) a then pos 0 else before a) (sym from)
    ∙ ap (λ z a. if lies_cleared at.layout.now (is_cleared piece s reach f z) a then pos 0 else before a) (sym to)
    ∙ sym (does piece setting.spaces)))
