-- A voice that plays from some sheet also plays from its own.
use Rattle.std.proofs.Common.{◌≡◌, ℕ, ℤ, pos, List, [], Option, Some, None, refl, sym, ◌∙◌, ap, subst}
use Rattle.std.specs.Option.{option_map}
use Rattle.std.proofs.lemmas.List.{length-map}
use Rattle.cs_base.specs.declared.resource.Rate.{Rate}
use Rattle.cs_words.specs.{declared.catalogue.Opcode.Opcode, Generators.Generators}
use Rattle.cs_ir.specs.{Resources.Stock, declared.op.Code.Code, declared.register.Counts.Counts}
use Rattle.cs_cells.specs.{declared.footprint.Area.Area, declared.footprint.Footprint.Footprint}
use Rattle.cs_meaning.specs.Pieces.{Piece, Table, find_table}
use Rattle.cs_machine.specs.{Outputs.outs, Outputs.refilled, Registers.filled, Registers.values, Players.PlayerData}
use Rattle.cs_machine.specs.{Players.playing, States.IsPlayerOf, States.IsStateIn, declared.state.State.State}
use Rattle.cs_voice_meaning.specs.{Follows.Kinds, Voices.Sheet, Voices.IsPlayable}
use Rattle.cs_voice_meaning.specs.Placing.{IsPlaced, IsTablePlaced}
use Rattle.cs_voice.specs.{declared.stage.Stage.Stage, Memory.IsKept, Memory.MakeVoice, Memory.voice_in}
use Rattle.cs_voice.specs.VoiceData.{VoiceData, made, piece_of, sheet_of}
use Rattle.cs_voice.proofs.{Sheets.all_made, Sheets.find_made, Voices.own_sheet, Voices.its_own}

-- a table that is found after all have been made was there before
made_before : (P : Table → Type 0) (o : Option Table) (t : Table) → option_map made o ≡ Some t
    → ((u : Table) → o ≡ Some u → P (made u)) → P t
made_before P None t e h = absurd (cc)
made_before P (Some u) t e h = let same : made u ≡ t = cc in subst P same (h u refl)

module _ (areas : List Area) (g : Generators) (piece : Piece) where
  placed_made : (stock : Stock) → IsPlaced areas stock piece → IsPlaced areas stock (all_made g piece)
  placed_made stock p = record {
    laid = p.laid;
    frames = p.frames;
    cells = p.cells;
    spaces = p.spaces;
    tables = λ n t found live. made_before (λ u. u.frozen ≡ None → IsTablePlaced areas stock u)
        (find_table piece.tables n) t (sym (find_made piece.tables n) ∙ found)
        (λ u there live. let was =
        p.tables n u there live in record { among = was.among; some = was.some; power = was.power; size = was.size })
        live;
    live = λ n area at. let is = p.live n area at in record {
      table = made is.table;
      found = find_made piece.tables (pos n) ∙ ap (option_map made) is.found;
      live = is.live;
    };
  }

  player_made : (kind : Opcode × Rate) (p : PlayerData) → IsPlayerOf areas piece kind p
      → IsPlayerOf areas (all_made g piece) kind p
  player_made kind p h = record {
    state = h.state;
    table = λ takes. let t = h.table takes in record {
      table = made t.table;
      found = find_made piece.tables p.table ∙ ap (option_map made) t.found;
      present = refl;
      points = t.points;
      area = t.area;
      has = t.has;
      power = t.power;
      small = t.small;
    };
    none = h.none;
  }

  state_made : (kinds : Kinds) (counts : Counts) (s : State) → IsStateIn areas piece kinds counts s
      → IsStateIn areas (all_made g piece) kinds counts s
  state_made kinds counts s h = record {
    registers = h.registers;
    frames = h.frames;
    channels = h.channels;
    channel_frames = h.channel_frames;
    units = h.units;
    row = h.row;
    players = λ u p there. player_made (kinds u) p (h.players u p there);
  }

-- ---- the voice with its own sheet

-- a sheet that can be played, with a state in its piece
record Played (counts : Counts) (s : State) (sheet : Sheet) : Type 0 where
  playable : IsPlayable sheet
  state : IsStateIn sheet.areas sheet.piece playable.kinds counts s

module _ (number age until : ℕ) (stage : Stage) (foot : Footprint) (code : Code) (fields : List ℤ) (s : State)
    (m : MakeVoice number age until stage foot code fields s) where
  abbrev d : VoiceData
  d = voice_in number age until stage foot code fields s

  own : Played code.counts s (own_sheet m.sheet d)
  own = subst (Played code.counts s) (its_own m.sheet d m.parts) (record { playable = m.playable; state = m.state })

  all : Played code.counts s
      (record (own_sheet m.sheet d) { piece = all_made (piece_of d).generators (own_sheet m.sheet d).piece; init = [] })
  unfolding own_sheet
  all = let o = own in let p = o.playable in record {
    playable = record {
      stock = p.stock;
      kinds = p.kinds;
      placed = placed_made stage.layout.now (piece_of d).generators (own_sheet m.sheet d).piece p.stock p.placed;
      init_uses = tt;
      perf_uses = p.perf_uses;
      perf_writes = p.perf_writes;
      init_channels = refl;
      perf_channels = p.perf_channels;
      perf_acts = p.perf_acts;
    };
    state = state_made stage.layout.now (piece_of d).generators (own_sheet m.sheet d).piece p.kinds code.counts s
        o.state;
  }

  by_itself : Played code.counts s (sheet_of d)
  unfolding own_sheet
  by_itself = subst (λ ts. Played code.counts s (record (sheet_of d) { piece = record (piece_of d) { tables = ts } }))
      m.parts.tables all

  pub kept : filled s.regs (values s.regs) ≡ s.regs → refilled s.outs (outs s.outs) ≡ s.outs
      → IsKept number age until stage foot code fields s
  kept all_registers all_channels = let p = by_itself in record {
    voice = record {
      playable = p.playable;
      code = m.fine;
      counts = p.state.registers;
      frames = p.state.frames;
      units = length-map s.players.items (option_map playing) ∙ p.state.units;
      channels = p.state.channels;
      channel_frames = p.state.channel_frames;
      all_registers = all_registers;
      all_channels = all_channels;
    };
    spaces = m.spaces;
    zak = m.zak;
    state = p.state;
  }
