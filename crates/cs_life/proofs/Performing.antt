-- A cycle of voices that represent a moment leaves voices that represent the moment after it.
use Rattle.std.proofs.Common.{◌≡◌, ℕ, ℤ, ◌≤◌, ◌==◌, Bool, List, ◌∷◌, length, map, refl, sym, ◌∙◌, ap, subst, arith, []}
use Rattle.std.proofs.lemmas.List.FromFn.{length-map-range_with_len}
use Rattle.std.specs.List.{All, AllZip, list_any}
use Rattle.cs_base.specs.{Limits.most_notes, declared.resource.Res.Res}
use Rattle.cs_cells.proofs.SerialRun.{length-serial_jobs}
use Rattle.cs_cells.specs.{Areas.word_count, Areas.IsFootprint, Cells.Cells, Cells.cell}
use Rattle.cs_cells.specs.Serial.{serial_cells, serial_jobs}
use Rattle.cs_piece_meaning.specs.Course.{next, performed, serial}
use Rattle.cs_piece_meaning.specs.Moments.{Composition, Active, Moment, as_made, field_of, piece_with}
use Rattle.cs_ir.specs.Waves.{Wave}
use Rattle.cs_meaning.specs.Plain.{Piece, Table}
use Rattle.cs_piece.specs.VoicesOfNotes.{GoesOn, Hold, IsVoiceOf, next_note}
use Rattle.cs_piece.specs.Ready.{IsStageOf}
use Rattle.cs_ugen.specs.Generators.{pace_of, the_generators}
use Rattle.cs_voice_meaning.specs.Voices.{Sheet, Sounding, left_by}
use Rattle.cs_voice.specs.{Starts.piece_at, Starts.sheet_at, Tables.table_at, Tables.tables_of, Memory.table_of}
use Rattle.cs_voice.specs.{declared.stage.Stage.Stage, declared.stage.PieceTable.PieceTable}
use Rattle.cs_machine.specs.States.{header_of}
use Rattle.cs_voice.specs.VoiceData.{VoiceData, IsOn, made, sounding_on}
use Rattle.cs_voice.specs.VoiceMeaning.{IsVoice, Performs, after, leaves, voice_job}
use Rattle.cs_life.specs.Standing.{Plays, StandsFor, VoicesStand, flags_of}
use Rattle.cs_life.specs.declared.life.Life.{Life}
use Rattle.cs_life.proofs.{Flags.flags_fit, Orders.order_over, Places.all_on_left}
use Rattle.cs_voice_meaning.specs.Voices as sounding

-- Tables as a note finds them: the composition's as they were made, and the stage's by their flags.
pub same_tables : (tables : List Table) (at : List PieceTable) (numbers : List ℕ) → map table_of at ≡ map made tables
    → map (as_made numbers) tables ≡ tables_of at (flags_of tables numbers)
same_tables [] [] numbers e = refl
same_tables (t ∷ tables) (x ∷ at) numbers e =
    let first : table_of x ≡ made t = cc in
    let rest : map table_of at ≡ map made tables = cc in
    let b : Bool = list_any (λ n. n == t.number) numbers in
    let here : as_made numbers t ≡ table_at x b = ap (λ (u : Table). record u { present = b }) (sym first) in
    λ i. here i ∷ same_tables tables at numbers rest i
same_tables _ _ numbers e = absurd cc

-- the piece that a note finds
pub same_piece : (c : Composition) (stage : Stage) (flags : List Bool) (numbers : List ℕ) (fields : List ℤ)
    → IsStageOf c stage
    → flags ≡ flags_of c.tables numbers → piece_with c numbers fields ≡ piece_at stage flags fields
same_piece c stage flags numbers fields is f =
    let head : c.head ≡ header_of stage.head.now = sym is.head in
    let spaces : c.spaces ≡ stage.spaces = sym is.spaces in
    let tables : map (as_made numbers) c.tables ≡ tables_of stage.tables.now flags =
    same_tables c.tables stage.tables.now numbers is.tables ∙ ap (tables_of stage.tables.now) (sym f) in
    λ i. record {
      head = head i;
      spaces = spaces i;
      tables = tables i;
      generators = the_generators (pace_of (head i));
      fields = field_of fields;
    }

-- a step of the way through a cycle: the voice, the cells, and what notes share after it
record Stepped (c : Composition) (stage : Stage) (flags : List Bool) (numbers : List ℕ) (v : VoiceData) (a : Active)
    (cells : Cells)
    (shared : Res → Wave) : Type 0 where
  plays : Plays c stage flags (after v cells) (next c numbers shared a)
  hold : Hold stage.layout.now (cell (leaves v cells)) (next c numbers shared a).note.world.shared
  long : length (leaves v cells) ≡ length cells

-- the complete way through a cycle
record Passed (c : Composition) (stage : Stage) (flags : List Bool) (numbers : List ℕ) (voices : List VoiceData)
    (active : List Active)
    (cells : Cells) (shared : Res → Wave) : Type 0 where
  play : AllZip (Plays c stage flags) (serial_jobs voice_job voices cells) (serial c numbers shared active).0
  hold : Hold stage.layout.now (cell (serial_cells voice_job voices cells)) (serial c numbers shared active).1
  long : length (serial_cells voice_job voices cells) ≡ length cells

module _ (c : Composition) (stage : Stage) (flags : List Bool) (numbers : List ℕ) (is : IsStageOf c stage)
    (f : flags ≡ flags_of c.tables numbers)
    (law : (s : Sheet) (d : VoiceData) (cells : Cells) → IsOn s d → IsVoice d → Performs s d cells) where
  one : (v : VoiceData) (a : Active) (cells : Cells) (shared : Res → Wave) → length cells ≡ word_count stage.layout.now
      → Hold stage.layout.now (cell cells) shared → Plays c stage flags v a
      → Stepped c stage flags numbers v a cells shared
  one v a cells shared long hold p =
      let s : Sheet = sheet_at p.i v.age p.foot stage flags v.fields in
      let done : Performs s v cells = law s v cells p.on p.valid in
      let enough : word_count stage.layout.now ≤ length cells = omega arith in
      let go : GoesOn s a.body p.of.plan p.of.kinds (sounding_on s v) a.note cells shared =
      (p.of.performs v.age flags v.fields (flags_fit stage.tables.now c.tables numbers flags is.tables f)).goes_on
      (sounding_on s v) a.note
      cells shared enough p.note hold in
      let piece : piece_with c numbers a.fields ≡ s.piece =
      same_piece c stage flags numbers a.fields is f ∙ (λ k. record s.piece { fields = λ n. p.fields n k }) in
      let note : next_note s.piece a.body shared a.note ≡ (next c numbers shared a).note =
      ap (λ (x : Piece). next_note x a.body shared a.note) (sym piece) in
      record {
        plays = record {
          i = p.i;
          foot = p.foot;
          of = p.of;
          number = p.number;
          until = p.until;
          fields = p.fields;
          on = done.sheet;
          valid = done.valid;
          note = subst (λ (x : Sounding). IsVoiceOf s p.of.plan p.of.kinds x (next c numbers shared a).note)
              (sym done.voice)
              (subst (λ t. IsVoiceOf s p.of.plan p.of.kinds (sounding.performed (sounding_on s v) cells) t) note
              go.voice);
        };
        hold = subst (λ (d : Cells). Hold stage.layout.now (cell d) (next c numbers shared a).note.world.shared)
            (sym done.cells)
            (subst (λ t. Hold stage.layout.now (cell (left_by (sounding_on s v) cells)) t.world.shared) note go.cells);
        long = ap length done.cells ∙ length-map-range_with_len _ 0 (length cells);
      }

  all : (voices : List VoiceData) (active : List Active) (cells : Cells) (shared : Res → Wave)
      → length cells ≡ word_count stage.layout.now → Hold stage.layout.now (cell cells) shared
      → AllZip (Plays c stage flags) voices active → Passed c stage flags numbers voices active cells shared
  all [] [] cells shared long hold p = record { play = tt; hold = hold; long = refl }
  all (v ∷ voices) (a ∷ active) cells shared long hold p =
      let s : Stepped c stage flags numbers v a cells shared = one v a cells shared long hold p.0 in
      let r : Passed c stage flags numbers voices active (leaves v cells) (next c numbers shared a).note.world.shared =
      all voices active (leaves v cells) (next c numbers shared a).note.world.shared (s.long ∙ long) s.hold p.1 in
      record { play = (s.plays, r.play); hold = r.hold; long = r.long ∙ s.long }
  all _ _ cells shared long hold p = absurd p

-- a cycle doesn't change the numbers of their instruments
same_numbers : (voices : List VoiceData) (cells : Cells)
    → map (λ (v : VoiceData). v.number) (serial_jobs voice_job voices cells) ≡ map (λ (v : VoiceData). v.number) voices
same_numbers [] cells = refl
same_numbers (v ∷ voices) cells = λ i. v.number ∷ same_numbers voices (leaves v cells) i

-- The voices of a moment, run one after another, perform its cycle.
pub runs_perform : ((s : Sheet) (d : VoiceData) (cells : Cells) → IsOn s d → IsVoice d → Performs s d cells)
    → (c : Composition) (life : Life) (voices : List VoiceData) (cells : Cells) (m : Moment)
    → StandsFor c life voices cells m
    → StandsFor c life (serial_jobs voice_job voices cells) (serial_cells voice_job voices cells) (performed c m)
runs_perform law c life voices cells m s =
    let v : VoicesStand c life.stage life.made.items voices cells m = s.stand in
    let r : Passed c life.stage life.made.items m.made voices m.active cells m.shared =
    all c life.stage life.made.items m.made v.stage_is v.made law voices m.active cells m.shared v.long v.hold v.play in
    record {
      stand = record {
        stage_is = v.stage_is;
        made = v.made;
        hold = r.hold;
        long = r.long ∙ v.long;
        play = r.play;
        in_order = order_over (λ (x : VoiceData). x.number) (λ (x : VoiceData). x.number) voices
            (serial_jobs voice_job voices cells) (same_numbers voices cells) v.in_order;
        few = subst (λ n. n ≤ most_notes) (sym (length-serial_jobs voice_job voices cells)) v.few;
      };
      layout = s.layout;
      zones = s.zones;
      due = s.due;
      kept = s.kept;
      started = s.started;
      not_started = s.not_started;
    }

-- What a run of the voices of a moment requires: they have the same zones, and each has a footprint in terms
-- of them.
pub layouts : (c : Composition) (life : Life) (voices : List VoiceData) (cells : Cells) (m : Moment)
    → StandsFor c life voices cells m
    → All (λ (v : VoiceData). v.zones ≡ life.stage.zones.now) voices
layouts c life voices cells m s = all_on_left (Plays c life.stage life.made.items) (λ v. v.zones ≡ life.stage.zones.now)
    (λ v a p. sym p.on.zones) voices m.active s.stand.play

pub footprints : (c : Composition) (life : Life) (voices : List VoiceData) (cells : Cells) (m : Moment)
    → StandsFor c life voices cells m
    → All (λ (v : VoiceData). IsFootprint (length life.stage.zones.now) v.foot) voices
footprints c life voices cells m s = all_on_left (Plays c life.stage life.made.items)
    (λ v. IsFootprint (length life.stage.zones.now) v.foot)
    (λ v a p. subst (IsFootprint (length life.stage.zones.now)) p.on.foot p.of.footprint) voices m.active s.stand.play
