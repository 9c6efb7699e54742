-- A run of a voice is a cycle of the voice of the definitions.
use Rattle.std.proofs.Common.{◌≡◌, ℕ, ℤ, ◌-◌, length, map, if◌then◌else◌, sym, ◌∙◌, ap, subst}
use Rattle.std.specs.List.{range_with_len}
use Rattle.cs_signal.specs.Operands.{argument}
use Rattle.cs_ir.specs.Machine.{Machine}
use Rattle.cs_cells.specs.Cells.{Cells, cell}
use Rattle.cs_voice_meaning.specs.VoiceWorld.{VoiceState}
use Rattle.cs_voice_meaning.specs.Voices.{Sheet, begins, cycle, may_write, performed, left_by, seen, voice_of}
use Rattle.cs_voice.specs.VoiceData.{VoiceData, IsOn, piece_of, sheet_of, sounding, sounding_on}
use Rattle.cs_voice.specs.VoiceMeaning.{IsVoice, Performs, after, leaves}
use Rattle.cs_voice.specs.Jobs.{after_voice, performed_fits, taken}
use Rattle.cs_voice.proofs.Sheets.{run_same}

-- ---- any sheet that the voice plays from

-- a sheet with the parts of a voice, the first code of the sheet and its tables
unfoldable pub own_sheet : Sheet → VoiceData → Sheet
own_sheet s d = record {
  number = d.number;
  age = d.age;
  piece = record {
    head = d.head;
    spaces = d.spaces;
    tables = s.piece.tables;
    generators = s.piece.generators;
    fields = λ k. argument d.fields (k - 1);
  };
  areas = d.areas;
  zones = d.zones;
  foot = d.foot;
  init = s.init;
  perf = d.code.ops;
}

-- a sheet is its own one with a voice's parts
pub its_own : (s : Sheet) (d : VoiceData) → IsOn s d → s ≡ own_sheet s d
unfolding own_sheet
its_own s d on = λ t. record {
  number = on.number t;
  age = on.age t;
  piece = record {
    head = on.head t;
    spaces = on.spaces t;
    tables = s.piece.tables;
    generators = s.piece.generators;
    fields = λ k. on.fields k t;
  };
  areas = on.areas t;
  zones = on.zones t;
  foot = on.foot t;
  init = s.init;
  perf = on.perf t;
}

module _ (s : Sheet) (d : VoiceData) (on : IsOn s d) (h : IsVoice d) where
  -- the machine after a cycle is the same with both
  same_cycle : (x : ℕ → ℤ) → cycle (sounding_on (own_sheet s d) d) x ≡ cycle (sounding d) x
  unfolding own_sheet
  same_cycle x =
      sym (run_same d.areas (own_sheet s d).piece (piece_of d).generators 0 d.code.ops (begins (sounding d) x)
      h.playable.perf_acts) ∙ ap (λ ts. cycle (record (sounding d)
      { sheet = record (sheet_of d) { piece = record (piece_of d) { tables = ts } } }) x) on.tables

  performs_own : (c : Cells) → sounding_on (own_sheet s d) (after d c) ≡ performed (sounding_on (own_sheet s d) d) c
  unfolding own_sheet
  performs_own c =
      taken d h (performed (sounding d) c) (performed_fits d c h) (own_sheet s d)
      ∙ ap (voice_of (own_sheet s d)) (sym (same_cycle (seen (sheet_of d) (cell c))))

  leaves_own : (c : Cells) → leaves d c ≡ left_by (sounding_on (own_sheet s d) d) c
  unfolding own_sheet
  leaves_own c =
      ap (λ (m : Machine VoiceState). map (λ a. if may_write (sheet_of d) a then m.world.shared a else cell c a)
      (range_with_len 0 (length c))) (sym (same_cycle (seen (sheet_of d) (cell c))))

  pub performs : (c : Cells) → Performs s d c
  performs c = record {
    voice = subst (λ z. sounding_on z (after d c) ≡ performed (sounding_on z d) c) (sym (its_own s d on))
        (performs_own c);
    cells = subst (λ z. leaves d c ≡ left_by (sounding_on z d) c) (sym (its_own s d on)) (leaves_own c);
    sheet = record {
      number = on.number;
      age = on.age;
      head = on.head;
      spaces = on.spaces;
      tables = on.tables;
      fields = on.fields;
      areas = on.areas;
      zones = on.zones;
      foot = on.foot;
      perf = on.perf;
    };
    valid = after_voice d c h;
  }
