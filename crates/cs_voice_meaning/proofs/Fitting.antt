-- A voice stays within the numbers that its codes count.
use Rattle.std.proofs.Common.{◌≡◌, ℕ, ℤ, pos, ◌+◌, ◌-◌, ◌&&◌, ◌||◌, ◌==◌, Bool, true, false, not, List, ◌∷◌, map, []}
use Rattle.std.proofs.Common.{length, nat_lt, nat_le, slice_index_or, Option, Some, None, if◌then◌else◌, refl, sym, ◌∙◌}
use Rattle.std.proofs.Common.{ap, subst, arith, eqb-true}
use Rattle.std.specs.List.{list_all}
use Rattle.std.proofs.lemmas.{Bool.and_parts, Bool.Decides.nat_tests, Grind.common_steps}
use Rattle.cs_base.specs.{Rates.is_audio, declared.resource.Rate.Rate, declared.resource.Res.Res}
use Rattle.cs_words.specs.{Catalogue.row_of, declared.catalogue.Shape.Shape, declared.catalogue.Space.Space}
use Rattle.cs_words.specs.declared.catalogue.Opcode.{Opcode}
use Rattle.cs_ir.proofs.RegisterKinds.{same_reg_is}
use Rattle.cs_ir.specs.{Registers.rate_at, declared.op.Act.Act, declared.op.Op.Op, declared.op.Reach.Reach}
use Rattle.cs_ir.specs.{declared.register.Counts.Counts, declared.register.Reg.Reg}
use Rattle.cs_ir.specs.Machine.{Machine, same_reg, write, acts, is_done, step, run, gives, new_machine}
use Rattle.cs_ir.specs.Validity.{has_register, writes, finds, takes_from, is_fine, fine_from}
use Rattle.cs_ir.specs.Waves.{Wave, held, silence, operand, first_values}
use Rattle.cs_cells.specs.{Cells.Cells, Cells.cell, declared.footprint.Area.Area}
use Rattle.cs_meaning.specs.Model.{WorldModel, with_value, put_unit, unit_does, store_into, store_at, zak_does}
use Rattle.cs_meaning.specs.Model.{lacks_table, starts, out_to, out_to_numbered}
use Rattle.cs_meaning.specs.Pieces.{Piece, Table, is_live, index, at_place, has_place, added}
use Rattle.cs_voice_meaning.specs.VoiceWorld.{Playing, VoiceState, voice_model, voice_world, fresh_voice}
use Rattle.cs_voice_meaning.specs.Voices.{Sheet, Sounding, IsPlayable, IsSound, begins, seen, initialised, voice_of}
use Rattle.cs_voice_meaning.specs.Voices.{performed, has_channel, have_channels}
use Rattle.cs_voice_meaning.specs.Room.{FitsIn, VoiceFits, channels_for}
use Rattle.cs_voice_meaning.proofs.Channels.{channel_there, numbered_there}
use Rattle.cs_base.specs.declared.resource.Rate.TheVariants as rate
use Rattle.cs_words.specs.declared.catalogue.Shape.TheVariants as shape
use Rattle.cs_words.specs.declared.catalogue.Space.TheVariants as space
use Rattle.cs_ir.specs.declared.op.Act.TheVariants as act

-- ---- registers and frames

twice : (b : Bool) (x : ℤ) → (if b then (if b then x else pos 0) else pos 0) ≡ (if b then x else pos 0)
twice true x = refl
twice false x = refl

held_twice : (ksmps : ℕ) (r : Rate) (w : Wave) → held ksmps r (held ksmps r w) ≡ held ksmps r w
held_twice ksmps rate.Audio w = λ i j. twice (nat_lt j ksmps) (w j) i
held_twice ksmps _ w = refl

past_frames : (b : Bool) (x : ℤ) → (if b then x else pos 0) ≡ x → b ≡ false → x ≡ pos 0
past_frames true x h e = absurd (cc)
past_frames false x h e = sym h

kept_frames : (b : Bool) (x : ℤ) → (b ≡ false → x ≡ pos 0) → (if b then x else pos 0) ≡ x
kept_frames true x h = refl
kept_frames false x h = sym (h refl)

zero_added : (x y : ℤ) → x ≡ pos 0 → y ≡ pos 0 → added (λ j. x) (λ j. y) 0 ≡ pos 0
zero_added x y e f = ap (λ z. added (λ j. z) (λ j. y) 0) e ∙ ap (λ z. added (λ j. pos 0) (λ j. z) 0) f

added_held : (ksmps : ℕ) (w v : Wave) → held ksmps rate.Audio w ≡ w → held ksmps rate.Audio v ≡ v
    → held ksmps rate.Audio (added w v) ≡ added w v
added_held ksmps w v h k = grind (arith, common_steps, kept_frames, nat_lt, past_frames, zero_added)

audio_is : (r : Rate) → is_audio r ≡ true → r ≡ rate.Audio
audio_is rate.Audio h = refl
audio_is _ h = absurd (cc)

module _ (areas : List Area) (piece : Piece) (counts : Counts) (channels : ℕ) where
  abbrev model : WorldModel (ℕ → ℤ) Playing
  model = voice_model areas piece

  abbrev pub Fits : Machine VoiceState → Type 0
  Fits m = FitsIn counts piece.head.ksmps channels m.regs m.world.units m.world.outs

  abbrev Sound : Wave → Type 0
  Sound w = held piece.head.ksmps rate.Audio w ≡ w

  -- the world of a machine that fits
  abbrev Room : VoiceState → Type 0
  Room x = ((u : ℕ) → nat_lt u counts.units ≡ false → x.units u ≡ None)
      × ((c : ℕ) → nat_lt c channels ≡ false → x.outs c ≡ silence) × ((c : ℕ) → Sound (x.outs c))

  room_of : (m : Machine VoiceState) → Fits m → Room m.world
  room_of m f = (f.units, f.outs, f.frames)

  in_room : (m : Machine VoiceState) (x : VoiceState) → Fits m → Room x → Fits (record m { world = x })
  in_room m x f r = record { regs = f.regs; keeps = f.keeps; units = r.0; outs = r.1; frames = r.2 }

  either_room : (b : Bool) (x y : VoiceState) → Room x → Room y → Room (if b then x else y)
  either_room true x y h k = h
  either_room false x y h k = k

  either_room_of : (b : Bool) (p q : VoiceState × Wave) → Room p.0 → Room q.0 → Room (if b then p else q).0
  either_room_of true p q h k = h
  either_room_of false p q h k = k

  -- ---- a register is written

  put_other : (b : Bool) (q into : Reg) (w v : Wave) → same_reg q into ≡ b → has_register counts into ≡ true
      → has_register counts q ≡ false → v ≡ silence → (if b then w else v) ≡ silence
  put_other true q into w v e there past h = grind (arith, common_steps, same_reg_is)
  put_other false q into w v e there past h = h

  put_held : (b : Bool) (q into : Reg) (w v : Wave) → same_reg q into ≡ b → held piece.head.ksmps (rate_at q) v ≡ v
      → held piece.head.ksmps (rate_at q) (if b then held piece.head.ksmps (rate_at into) w else v)
      ≡ (if b then held piece.head.ksmps (rate_at into) w else v)
  put_held true q into w v e h = grind (arith, common_steps, held_twice, same_reg_is)
  put_held false q into w v e h = h

  write_fits : (into : Reg) (w : Wave) (m : Machine VoiceState) → has_register counts into ≡ true → Fits m
      → Fits (write piece.head.ksmps into w m)
  write_fits into w m there f = grind (arith, common_steps, put_held, put_other)

  -- ---- a unit is stored under an existing number

  put_past : (b : Bool) (p : Playing) (o : Option Playing) (u n : ℕ) → (n == u) ≡ b → nat_lt u counts.units ≡ true
      → nat_lt n counts.units ≡ false → o ≡ None → (if b then Some p else o) ≡ None
  put_past true p o u n e there past h = grind (arith, common_steps, eqb-true, nat_lt)
  put_past false p o u n e there past h = h

  put_room : (u : ℕ) (p : Playing) (x : VoiceState) → nat_lt u counts.units ≡ true → Room x → Room (put_unit u p x)
  put_room u p x there r = (λ n past. put_past (n == u) p (x.units n) u n refl there past (r.0 n past), r.1, r.2)

  unit_room : (opcode : Opcode) (r : Rate) (u : ℕ) (reach : Reach) (ws : List Wave) (o : Option Playing)
      (x : VoiceState) → nat_lt u counts.units ≡ true → Room x → Room (unit_does model opcode r u reach ws o x).0
  unit_room opcode r u reach ws None x there k = k
  unit_room opcode r u reach ws (Some p) x there k = grind (arith, common_steps, either_room_of, put_room)

  table_room : (r : Rate) (ws : List Wave) (o : Option Table) (x : VoiceState) → Room x
      → Room (store_into model r ws o x)
  table_room r ws None x k = k
  table_room r ws (Some t) x k = either_room (is_live t) _ x k k

  store_room : (r : Rate) (reach : Reach) (ws : List Wave) (i : Option ℕ) (x : VoiceState) → Room x
      → Room (store_at model r reach ws i x)
  store_room r reach ws None x k = k
  store_room r reach ws (Some n) x k = grind (arith, common_steps, either_room, table_room)

  place_room : (sp : Space) (reach : Reach) (i : Option ℕ) (x : VoiceState) (w : Res → Wave) → Room x
      → Room (at_place piece sp reach i x (λ g. with_value model g (w g) x))
  place_room sp reach None x w k = k
  place_room sp reach (Some n) x w k = either_room (has_place piece sp reach n) _ x k k

  zak_room : (sh : Shape) (reach : Reach) (ws : List Wave) (x : VoiceState) → Room x
      → Room (zak_does model sh reach ws x).0
  zak_room (shape.ZakPut sp) reach ws x k = place_room sp reach (index (operand 1 ws 0)) x _ k
  zak_room shape.ZakMix reach ws x k = place_room space.Audio reach (index (operand 1 ws 0)) x _ k
  zak_room _ reach ws x k = k

  starts_room : (opcode : Opcode) (r : Rate) (u : ℕ) (is : List ℤ) (x : VoiceState) → nat_lt u counts.units ≡ true
      → Room x → Room (starts model opcode r u is x)
  starts_room opcode r u is x there k = grind (arith, common_steps, either_room, nat_le, not, put_room, slice_index_or)

  -- ---- output

  out_past : (b : Bool) (w v : Wave) (n c : ℕ) → (n == c) ≡ b → nat_lt c channels ≡ true → nat_lt n channels ≡ false
      → v ≡ silence → (if b then w else v) ≡ silence
  out_past true w v n c e there past h = grind (arith, common_steps, eqb-true, nat_lt)
  out_past false w v n c e there past h = h

  either_sound : (b : Bool) (w v : Wave) → Sound w → Sound v → Sound (if b then w else v)
  either_sound true w v h k = h
  either_sound false w v h k = k

  out_room : (c : ℕ) (w : Wave) (x : VoiceState) → nat_lt c channels ≡ true → Sound w → Room x → Room (out_to c w x)
  out_room c w x there sound k = grind (arith, common_steps, added_held, either_sound, out_past)

  channel_below : (n count : ℕ) → (nat_le 1 n && nat_le n count) ≡ true → nat_lt (n - 1) count ≡ true
  channel_below n count h = let both = and_parts (nat_le 1 n) (nat_le n count) h in grind (arith, nat_tests)

  when_room : (b : Bool) (x y : VoiceState) → (b ≡ true → Room x) → Room y → Room (if b then x else y)
  when_room true x y h k = h refl
  when_room false x y h k = k

  out_at_room : (i : Option ℕ) (w : Wave) (x : VoiceState) → Sound w → Room x → Room (out_to_numbered channels i w x)
  out_at_room None w x sound k = k
  out_at_room (Some n) w x sound k = grind (arith, common_steps, channel_below, nat_le, out_room, when_room)

  reg_sound : (m : Machine VoiceState) (x : Reg) → Fits m → is_audio (rate_at x) ≡ true → Sound (m.regs x)
  reg_sound m x f h = subst (λ r. held piece.head.ksmps r (m.regs x) ≡ m.regs x) (audio_is (rate_at x) h) (f.keeps x)

  -- the output of a valid op is an a-rate signal
  out_sound : (m : Machine VoiceState) (c : ℕ) (r : Rate) (from : List Reg) → takes_from (act.Out c) r from ≡ true
      → Fits m → Sound (operand 0 (map m.regs from))
  out_sound m c r (x ∷ []) h f = reg_sound m x f h
  out_sound m c r _ h f = absurd (cc)

  out_at_sound : (m : Machine VoiceState) (r : Rate) (from : List Reg) → takes_from act.OutAt r from ≡ true → Fits m
      → Sound (operand 1 (map m.regs from))
  out_at_sound m r (x ∷ y ∷ []) h f =
      reg_sound m y f (and_parts (not (is_audio (rate_at x))) (is_audio (rate_at y)) h).1
  out_at_sound m r _ h f = absurd (cc)

  written_there : (b c : Bool) → (not b || c) ≡ true → b ≡ true → c ≡ true
  written_there true c h e = h
  written_there false c h e = absurd (cc)

  written_fits : (b : Bool) (into : Reg) (p : VoiceState × Wave) (m : Machine VoiceState)
      → (b ≡ true → has_register counts into ≡ true) → Room p.0 → Fits m
      → Fits (if b then write piece.head.ksmps into p.1 (record m { world = p.0 }) else record m { world = p.0 })
  written_fits true into p m there k f = write_fits into p.1 (record m { world = p.0 }) (there refl) (in_room m p.0 f k)
  written_fits false into p m there k f = in_room m p.0 f k

  acts_fit : (t : Act) (into : Reg) (from : List Reg) (end place : ℕ) (m : Machine VoiceState)
      → (writes t ≡ true → has_register counts into ≡ true) → finds counts end place t ≡ true
      → takes_from t (rate_at into) from ≡ true
      → (list_all (has_register counts) from ≡ true) × (has_channel piece.head.nchnls t ≡ true)
      × (channels ≡ channels_for counts piece.head.nchnls) → Fits m
      → Fits (acts (voice_world areas piece) t into (map m.regs from) m)
  acts_fit (act.Save g) into from end place m w fi ta ch f =
      in_room m (acts (voice_world areas piece) (act.Save g) into (map m.regs from) m).world f (room_of m f)
  acts_fit (act.Start opcode k) into from end place m w fi ta ch f =
      in_room m (acts (voice_world areas piece) (act.Start opcode k) into (map m.regs from) m).world f
      (starts_room opcode (rate_at into) k (first_values (map m.regs from)) m.world fi (room_of m f))
  acts_fit (act.Unit opcode k reach) into from end place m w fi ta ch f =
      written_fits _ _ (unit_does model opcode (rate_at into) k reach (map m.regs from) (m.world.units k) m.world) m w
      (unit_room opcode (rate_at into) _ reach (map m.regs from) (m.world.units k) m.world fi (room_of m f)) f
  acts_fit act.Seek into from end place m w fi ta ch f =
      in_room m (acts (voice_world areas piece) act.Seek into (map m.regs from) m).world f
      (either_room (lacks_table model (first_values (map m.regs from))) _ m.world (room_of m f) (room_of m f))
  acts_fit (act.Store reach) into from end place m w fi ta ch f =
      in_room m (acts (voice_world areas piece) (act.Store reach) into (map m.regs from) m).world f
      (store_room (rate_at into) reach (map m.regs from) (index (operand 2 (map m.regs from) 0)) m.world (room_of m f))
  acts_fit (act.Zak opcode reach) into from end place m w fi ta ch f =
      written_fits (gives opcode) into (zak_does model (row_of opcode).shape reach (map m.regs from) m.world) m w
      (zak_room (row_of opcode).shape reach (map m.regs from) m.world (room_of m f)) f
  acts_fit (act.Jump to) into from end place m w fi ta ch f = f
  acts_fit (act.Unless to) into from end place m w fi ta ch f = f
  acts_fit (act.Out c) into from end place m w fi ta ch f =
      in_room m (acts (voice_world areas piece) (act.Out c) into (map m.regs from) m).world f
      (out_room c (operand 0 (map m.regs from)) m.world (subst (λ n. nat_lt c n ≡ true) (sym ch.2)
      (channel_there counts piece.head.nchnls (act.Out c) (rate_at into) from ta ch.0 ch.1))
      (out_sound m c (rate_at into) from ta f) (room_of m f))
  acts_fit act.OutAt into from end place m w fi ta ch f =
      in_room m (acts (voice_world areas piece) act.OutAt into (map m.regs from) m).world f (subst
      (λ n. Room (out_to_numbered n (index (operand 0 (map m.regs from) 0)) (operand 1 (map m.regs from)) m.world))
      (ch.2 ∙ numbered_there counts piece.head.nchnls (rate_at into) from ta ch.0)
      (out_at_room (index (operand 0 (map m.regs from) 0)) (operand 1 (map m.regs from)) m.world
      (out_at_sound m (rate_at into) from ta f) (room_of m f)))
  acts_fit act.Turnoff into from end place m w fi ta ch f =
      in_room m (acts (voice_world areas piece) act.Turnoff into (map m.regs from) m).world f (room_of m f)
  acts_fit act.Ask into from end place m w fi ta ch f =
      in_room m (acts (voice_world areas piece) act.Ask into (map m.regs from) m).world f (room_of m f)
  acts_fit _ into from end place m w fi ta ch f = write_fits into _ m (w refl) f

  either_fits : (b : Bool) (n m : Machine VoiceState) → Fits n → Fits m → Fits (if b then n else m)
  either_fits true n m h k = h
  either_fits false n m h k = k

  step_fits : (end place : ℕ) (op : Op) (m : Machine VoiceState) → is_fine counts end place op ≡ true
      → has_channel piece.head.nchnls op.act ≡ true → channels ≡ channels_for counts piece.head.nchnls → Fits m
      → Fits (step (voice_world areas piece) place op m)
  step_fits end place op m fine ch is f =
      let own : Bool = not (writes op.act) || has_register counts op.into in
      let reads : Bool = list_all (has_register counts) op.from in
      let names : Bool = finds counts end place op.act in
      let takes : Bool = takes_from op.act (rate_at op.into) op.from in
      let outer = and_parts (own && reads && names) takes fine in
      let middle = and_parts (own && reads) names outer.0 in
      let into = and_parts own reads middle.0 in
      either_fits _ _ _ (acts_fit _ _ _ _ _ _ (written_there _ _ into.0) middle.1 outer.1 (into.1, ch, is) f) f

  -- a machine that fits still fits after more ops
  pub run_fits : (end place : ℕ) (ops : List Op) (m : Machine VoiceState) → fine_from counts end place ops ≡ true
      → have_channels piece.head.nchnls ops ≡ true → channels ≡ channels_for counts piece.head.nchnls → Fits m
      → Fits (run (voice_world areas piece) place ops m)
  run_fits end place [] m fine ch is f = f
  run_fits end place (op ∷ ops) m fine ch is f =
      let now = and_parts (is_fine counts end place op) (fine_from counts end (place + 1) ops) fine in
      let channel = and_parts (has_channel piece.head.nchnls op.act) (have_channels piece.head.nchnls ops) ch in
      run_fits end (place + 1) ops (step (voice_world areas piece) place op m) now.1 channel.1 is
      (step_fits end place op m now.0 channel.0 is f)

silent_held : (ksmps : ℕ) (r : Rate) → held ksmps r silence ≡ silence
silent_held ksmps rate.Init = refl
silent_held ksmps rate.Control = refl
silent_held ksmps rate.Audio = grind (arith, common_steps, nat_lt)

-- a voice fits as it begins
pub begins_fitting : (s : Sheet) (counts : Counts) (cells : ℕ → ℤ) → IsPlayable s
    → fine_from counts (length s.init) 0 s.init ≡ true → VoiceFits counts (voice_of s (initialised s cells))
begins_fitting s counts cells playable fine =
    run_fits s.areas s.piece counts (channels_for counts s.piece.head.nchnls) (length s.init) 0 s.init
    (new_machine (fresh_voice cells)) fine playable.init_channels refl (record {
      regs = λ q past. refl;
      keeps = λ q. silent_held s.piece.head.ksmps (rate_at q);
      units = λ u past. refl;
      outs = λ c past. refl;
      frames = λ c. silent_held s.piece.head.ksmps rate.Audio;
    })

pub goes_on_fitting : (v : Sounding) (counts : Counts) (c : Cells) → IsSound v
    → fine_from counts (length v.sheet.perf) 0 v.sheet.perf ≡ true → VoiceFits counts v
    → VoiceFits counts (performed v c)
goes_on_fitting v counts c playable fine fits =
    run_fits v.sheet.areas v.sheet.piece counts (channels_for counts v.sheet.piece.head.nchnls) (length v.sheet.perf) 0
    v.sheet.perf (begins v (seen v.sheet (cell c))) fine playable.perf_channels refl (record {
      regs = fits.regs;
      keeps = fits.keeps;
      units = fits.units;
      outs = λ c past. refl;
      frames = λ c. silent_held v.sheet.piece.head.ksmps rate.Audio;
    })
