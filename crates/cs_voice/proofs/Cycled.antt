-- How a cycle changes the parts of a voice.
use Rattle.std.proofs.Common.{◌≡◌, ℕ, ℤ, pos, ◌-◌, List, [], length, map, Option, None, refl, sym, ◌∙◌, ap, subst}
use Rattle.std.proofs.Common.{arith}
use Rattle.std.specs.{List.AllByRecursion, List.range_with_len, Option.option_map}
use Rattle.std.proofs.lemmas.{List.length-map, List.ext_get_or, List.FromFn.length-map-range_with_len}
use Rattle.cs_signal.specs.Operands.{argument}
use Rattle.cs_ir.specs.{Machine.Machine, Machine.run, Waves.silence, declared.op.Code.Code, declared.op.Op.Op}
use Rattle.cs_cells.specs.{Access.Access, Access.Allows, Cells.Cells, Cells.cell, Meaning.Uses, Meaning.Writes}
use Rattle.cs_cells.specs.{declared.footprint.Area.Area, declared.footprint.Footprint.Footprint}
use Rattle.cs_machine.specs.{Outputs.ChannelFile, Outputs.outs, Outputs.refilled, Registers.RegisterFile}
use Rattle.cs_machine.specs.{Registers.filled, Registers.values, Rows.row_of, Access.AreSpaces, Access.spaces_of}
use Rattle.cs_machine.specs.{Players.PlayerData, Players.playing, States.CanDo, States.IsStateIn, States.machine_of}
use Rattle.cs_machine.specs.{States.unit_at, declared.state.State.State, declared.state.NoteSetting.NoteSetting}
use Rattle.cs_voice_meaning.specs.{Placing.HasArea, Placing.IsPlaced, VoiceWorld.VoiceState, VoiceWorld.voice_world}
use Rattle.cs_voice_meaning.specs.{Voices.begins, Voices.cycle, Voices.performed, Voices.voice_of, Follows.OpsNamed}
use Rattle.cs_voice_meaning.proofs.{FrameLaw.voice_frames, OnAllCells.performed_on_all, OnAllCells.left_on_all}
use Rattle.cs_typed.specs.TypedTree.{header_of_head}
use Rattle.cs_voice.specs.{declared.stage.Stage.Stage, Memory.IsKept, Memory.voice_in, inner.Rooms.listed_at}
use Rattle.cs_voice.specs.Cycles.{CanRun, Context, HasRun}
use Rattle.cs_voice.specs.VoiceData.{VoiceData, piece_of, sheet_of, sounding, taking, units_in}
use Rattle.cs_voice.specs.VoiceMeaning.{after, leaves, voice_job}
use Rattle.cs_voice.proofs.{Began.units_as, Bodies.all_areas, Bodies.can_all}

-- the units of a list of players
pub units_are : (ps : List (Option PlayerData)) → units_in (map (option_map playing) ps) ≡ unit_at ps
units_are ps = λ t u. units_as ps u t

listed_units : (ps : List (Option PlayerData)) (n : ℕ) → length ps ≡ n
    → map (unit_at ps) (range_with_len 0 n) ≡ map (option_map playing) ps
listed_units ps n long =
    ext_get_or None (map (unit_at ps) (range_with_len 0 n)) (map (option_map playing) ps)
    (length-map-range_with_len (unit_at ps) 0 n ∙ sym long ∙ sym (length-map ps (option_map playing)))
    (λ u low. listed_at (unit_at ps) n None u
    (let e : length (map (unit_at ps) (range_with_len 0 n)) ≡ n =
    length-map-range_with_len (unit_at ps) 0 n in omega (arith, low, e)) ∙ sym (ap (λ f. f u) (units_are ps)))

-- the values of registers fill another file of the same shape in the same way
filled_alike : (f g : RegisterFile) → f.counts ≡ g.counts → f.ksmps ≡ g.ksmps → filled g (values g) ≡ g
    → filled f (values g) ≡ g
filled_alike f g counts frames whole =
    ap (λ n. filled (record f { counts = n }) (values g)) counts
    ∙ ap (λ n. filled (record f { counts = g.counts; ksmps = n }) (values g)) frames ∙ whole

refilled_alike : (f g : ChannelFile) → length f.rows ≡ length g.rows → f.ksmps ≡ g.ksmps → refilled g (outs g) ≡ g
    → refilled f (outs g) ≡ g
refilled_alike f g long frames whole =
    ap (λ n. record g { rows = map (λ c. row_of f.ksmps (outs g c)) (range_with_len 0 n); ksmps = f.ksmps }) long
    ∙ ap (λ n. record g { rows = map (λ c. row_of n (outs g c)) (range_with_len 0 (length g.rows)); ksmps = n }) frames
    ∙ whole

module _ (number age until : ℕ) (stage : Stage) (foot : Footprint) (code : Code) (fields : List ℤ) where
  abbrev pub voice : State → VoiceData
  voice s = voice_in number age until stage foot code fields s

  abbrev Kept : State → Type 0
  Kept s = IsKept number age until stage foot code fields s

  -- the context in which the code of a voice runs
  abbrev pub context : (s : State) → Kept s → Context
  context s h = record {
    piece = piece_of (voice s);
    stock = h.voice.playable.stock;
    kinds =
        h.voice.playable.kinds;
    counts = code.counts;
  }

  -- a state whose channels are silent, for the same code
  pub cleared : (s : State) (h : Kept s) (o : ChannelFile) → length o.rows ≡ length s.outs.rows → o.ksmps ≡ s.outs.ksmps
      → IsStateIn stage.layout.now (piece_of (voice s)) h.voice.playable.kinds code.counts (record s { outs = o })
  cleared s h o long frames = record {
    registers = h.state.registers;
    frames = h.state.frames;
    channels = long ∙ h.state.channels;
    channel_frames = frames ∙ h.state.channel_frames;
    units = h.state.units;
    row = h.state.row;
    players = h.state.players;
  }

  -- the code of a voice can be run on a bank that has everything that the voice may touch
  pub can_run : (access : Access) (s : State) (h : Kept s) (at : NoteSetting) (t : State)
      → Allows access (Uses voice_job (voice s)) (Writes voice_job (voice s))
      → at.layout.now ≡ stage.layout.now → at.head.now ≡ stage.head.now → at.spaces ≡ stage.spaces
      → at.fields.now ≡ fields → IsStateIn stage.layout.now (piece_of (voice s)) h.voice.playable.kinds code.counts t
      → CanRun access at (context s h) code.ops t
  can_run access s h at t bank layout head zak given st =
      let p = h.voice.playable in
      let sh = sheet_of (voice s) in
      record {
        setting = record {
          layout = refl;
          head = ap header_of_head (sym head);
          spaces = sym zak;
          fields = λ k. ap (λ l. argument l (k - 1)) (sym given);
        };
        spaces = subst (λ l. AreSpaces l) (sym layout) h.spaces;
        zak = ap spaces_of layout ∙ h.zak ∙ sym zak;
        placed = subst (λ l. IsPlaced l p.stock (piece_of (voice s))) (sym layout) p.placed;
        state = subst (λ l. IsStateIn l (piece_of (voice s)) p.kinds code.counts t) (sym layout) st;
        fine = h.voice.code;
        named = subst (λ l. OpsNamed p.stock p.kinds (HasArea l) code.ops) (sym layout)
            (all_areas sh p.stock p.kinds code.ops p.perf_uses);
        channels = p.perf_channels;
        acts = p.perf_acts;
        can = subst (λ l. AllByRecursion (λ (op : Op). CanDo access l p.stock op.act) code.ops) (sym layout)
            (can_all sh access bank p.stock p.kinds code.ops p.perf_uses p.perf_writes);
      }

  -- a cycle was run
  module _ (s : State) (h : Kept s) (o : ChannelFile) (silent : outs o ≡ (λ n. silence)) (t : State) (areas : List Area)
      (same : areas ≡ stage.layout.now) (c d : Cells)
      (ran : HasRun areas (context s h) code.ops (record s { outs = o }) (cell c) t (cell d))
      (all_registers : filled t.regs (values t.regs) ≡ t.regs)
      (all_channels : refilled t.outs (outs t.outs) ≡ t.outs) where
    begin : begins (sounding (voice s)) (cell c) ≡ machine_of (record s { outs = o }) (cell c) 0 [] None
    begin = λ i. record {
      regs = values s.regs;
      next = 0;
      world = record {
        shared = cell c;
        units = units_are s.players.items i;
        delays = s.delays;
        outs = sym silent i;
        ended = s.ended;
        asks = [];
        cause = None;
      };
    }

    -- the machine after the cycle
    end : machine_of t (cell d) ran.next [] None ≡ cycle (sounding (voice s)) (cell c)
    end =
        ran.machine ∙ ap (λ l. run (voice_world l (piece_of (voice s))) 0 code.ops
        (machine_of (record s { outs = o }) (cell c) 0 [] None)) same
        ∙ ap (run (voice_world stage.layout.now (piece_of (voice s))) 0 code.ops) (sym begin)

    done : voice_of (sheet_of (voice s)) (machine_of t (cell d) ran.next [] None) ≡ performed (sounding (voice s)) c
    done = ap (voice_of (sheet_of (voice s))) end ∙ sym (performed_on_all (sounding (voice s)) c h.voice.playable)

    -- the voice is the one after the cycle
    pub job : voice t ≡ after (voice s) c
    job = sym (
        ap (taking (voice s)) (sym done) ∙ (λ i. record (voice t) {
          regs = filled_alike s.regs t.regs (h.state.registers ∙ sym ran.state.registers)
              (h.state.frames ∙ sym ran.state.frames) all_registers i;
          units = units i;
          outs = refilled_alike s.outs t.outs (h.state.channels ∙ sym ran.state.channels)
              (h.state.channel_frames ∙ sym ran.state.channel_frames) all_channels i;
        })
        )
      where
        units : map (unit_at t.players.items) (range_with_len 0 (length (voice s).units)) ≡ map (option_map playing)
            t.players.items
        units = listed_units t.players.items (length (voice s).units) (ran.state.units ∙ sym h.voice.units)

    -- the cells are those that the cycle leaves
    pub cells : length d ≡ length c → d ≡ leaves (voice s) c
    cells long =
        ext_get_or (pos 0) d (leaves (voice s) c) (long ∙ sym (voice_frames.long (sounding (voice s)) c))
        (λ a low. ap (λ (m : Machine VoiceState). m.world.shared a) end
        ∙ sym (left_on_all (sounding (voice s)) c a h.voice.playable (omega (arith, low, long))))

    pub still_kept : Kept t
    still_kept = record {
      voice = record {
        playable = h.voice.playable;
        code = h.voice.code;
        counts = ran.state.registers;
        frames = ran.state.frames;
        units = length-map t.players.items (option_map playing) ∙ ran.state.units;
        channels = ran.state.channels;
        channel_frames = ran.state.channel_frames;
        all_registers = all_registers;
        all_channels = all_channels;
      };
      spaces = h.spaces;
      zak = h.zak;
      state = subst (λ l. IsStateIn l (piece_of (voice s)) h.voice.playable.kinds code.counts t) same ran.state;
    }

  -- the voice after its code was run on cells, and the cells after it
  pub record HasCycled (s t : State) (c d : Cells) : Type 0 where
    pub job : voice t ≡ after (voice s) c
    pub cells : d ≡ leaves (voice s) c
    pub kept : Kept t

  -- a body runs: its channels are cleared, its code is run in a setting, and its registers and channels are
  -- read
  module _ (s : State) (h : Kept s) (u : State) (silent : outs u.outs ≡ (λ n. silence))
      (long : length u.outs.rows ≡ length s.outs.rows)
      (frames : u.outs.ksmps ≡ s.outs.ksmps) (same : u ≡ record s { outs = u.outs })
      (at : NoteSetting) (layout : at.layout.now ≡ stage.layout.now) (head : at.head.now ≡ stage.head.now)
      (zak : at.spaces ≡ stage.spaces) (given : at.fields.now ≡ fields) (access : Access)
      (bank : Allows access (Uses voice_job (voice s)) (Writes voice_job (voice s))) where
    pub able : CanRun access at (context s h) code.ops u
    able = subst (λ z. CanRun access at (context s h) code.ops z) (sym same)
        (can_run access s h at (record s { outs = u.outs }) bank layout head zak given (cleared s h u.outs long frames))

    pub cycled : (t : State) (c d : Cells) → ((x : Context) → CanRun access at x code.ops u
        → HasRun at.layout.now x code.ops u (cell c) t (cell d))
        → filled t.regs (values t.regs) ≡ t.regs → refilled t.outs (outs t.outs) ≡ t.outs → length d ≡ length c
        → HasCycled s t c d
    cycled t c d run all_registers all_channels long = record {
      job = job s h u.outs silent t at.layout.now layout c d ran all_registers all_channels;
      cells = cells s h u.outs silent t at.layout.now layout c d ran all_registers all_channels long;
      kept = still_kept s h u.outs silent t at.layout.now layout c d ran all_registers all_channels;
    }
      where
        ran : HasRun at.layout.now (context s h) code.ops (record s { outs = u.outs }) (cell c) t (cell d)
        ran = subst (λ z. HasRun at.layout.now (context s h) code.ops z (cell c) t (cell d)) same
            (run (context s h) able)
