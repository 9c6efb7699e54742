-- A voice as a job: its sheet, its beginning, the effect of a cycle, and the cells that it leaves.
use Rattle.std.specs.Prelude.{ℕ, ℤ, pos, ◌≡◌, ◌||◌, Bool, true, List, [], map, length, nat_lt, Option, Some, None}
use Rattle.std.specs.{Prelude.if◌then◌else◌, List.list_all, List.range_with_len, List.AllByRecursion}
use Rattle.cs_base.specs.declared.resource.Res.{Res}
use Rattle.cs_ir.specs.{Cycles.are_of_cycle, Resources.Stock, Resources.act_writes, Waves.Wave, Waves.silence}
use Rattle.cs_ir.specs.{declared.op.Act.Act, declared.op.Op.Op, declared.register.Reg.Reg}
use Rattle.cs_ir.specs.Machine.{Machine, new_machine, run}
use Rattle.cs_cells.specs.Cells.{Cells, cell, covers, in_area}
use Rattle.cs_cells.specs.{Meaning.Meaning, declared.footprint.Area.Area, declared.footprint.Footprint.Footprint}
use Rattle.cs_meaning.specs.Plain.{Piece}
use Rattle.cs_voice_meaning.specs.Placing.{area_of, HasArea, IsPlaced}
use Rattle.cs_voice_meaning.specs.VoiceWorld.{Playing, VoiceState, fresh_voice, voice_world}
use Rattle.cs_voice_meaning.specs.Follows.{Kinds, AreNamed, OpsNamed}
use Rattle.cs_ir.specs.declared.op.Act.TheVariants as act

-- The sheet that a voice plays. It has the number of its instrument, and its age, which is the number of
-- notes started before it; the piece and the areas in which it sounds; the zones of these areas, each of
-- which is claimed as one; its footprint over the zones; and the codes that begin it and perform it.
pub record Sheet : Type 0 where
  pub number : ℕ
  pub age : ℕ
  pub piece : Piece
  pub areas : List Area
  pub zones : List Area
  pub foot : Footprint
  pub init : List Op
  pub perf : List Op

-- A voice: its sheet, its registers and units, the samples of its delays, its output channels, and whether it
-- was turned off.
pub record Sounding : Type 0 where
  pub sheet : Sheet
  pub regs : Reg → Wave
  pub units : ℕ → Option Playing
  pub delays : ℕ
  pub outs : ℕ → Wave
  pub ended : Bool

-- the effect of the code that begins a voice, over cells
abbrev pub initialised : Sheet → (ℕ → ℤ) → Machine VoiceState
initialised s cells = run (voice_world s.areas s.piece) 0 s.init (new_machine (fresh_voice cells))

-- the voice in the final state of a machine
abbrev pub voice_of : Sheet → Machine VoiceState → Sounding
voice_of s m = record {
  sheet = s;
  regs = m.regs;
  units = m.world.units;
  delays = m.world.delays;
  outs = m.world.outs;
  ended = m.world.ended;
}

-- whether the voice may use a cell, or may write it
abbrev pub may_use : Sheet → ℕ → Bool
may_use s a = covers s.zones s.foot.uses a || covers s.zones s.foot.writes a

-- whether the voice may write a cell
abbrev pub may_write : Sheet → ℕ → Bool
may_write s a = covers s.zones s.foot.writes a

-- the cells as the voice sees them; a cell that it doesn't use is 0
abbrev pub seen : Sheet → (ℕ → ℤ) → ℕ → ℤ
seen s cells a = if may_use s a then cells a else pos 0

-- the voice as a machine that begins a cycle over cells, with its output cleared
abbrev pub begins : Sounding → (ℕ → ℤ) → Machine VoiceState
begins v cells = record {
  regs = v.regs;
  next = 0;
  world = record {
    shared = cells;
    units = v.units;
    delays = v.delays;
    outs = λ c. silence;
    ended = v.ended;
    asks = [];
    cause = None;
  };
}

-- the machine after a cycle over cells
abbrev pub cycle : Sounding → (ℕ → ℤ) → Machine VoiceState
cycle v cells = run (voice_world v.sheet.areas v.sheet.piece) 0 v.sheet.perf (begins v cells)

-- the voice after a cycle
abbrev pub performed : Sounding → Cells → Sounding
performed v c = voice_of v.sheet (cycle v (seen v.sheet (cell c)))

-- the cells after a cycle: the cells that the voice may write are as its code leaves them, and all others are
-- unchanged
abbrev pub left_by : Sounding → Cells → Cells
left_by v c = map (λ a. if may_write v.sheet a then (cycle v (seen v.sheet (cell c))).world.shared a else cell c a)
    (range_with_len 0 (length c))

-- a resource has an area, of which the voice may use each cell; or may write each cell
abbrev pub IsUsed : Sheet → Res → Type 0
IsUsed s g = (area : Area) × (area_of s.areas g ≡ Some area)
    × ((a : ℕ) → in_area (Some area) a ≡ true → may_use s a ≡ true)

-- the voice may write each cell of a resource's area
abbrev pub IsWritten : Sheet → Res → Type 0
IsWritten s g = (a : ℕ) → in_area (area_of s.areas g) a ≡ true → may_write s a ≡ true

-- all resources that ops may write satisfy N
abbrev pub OpsWritten : Stock → (Res → Type 0) → List Op → Type 0
OpsWritten stock N ops = AllByRecursion (λ op. AreNamed N (act_writes stock op.act)) ops

-- whether an op that outputs to a channel finds this channel
abbrev pub has_channel : ℕ → Act → Bool
has_channel channels (act.Out c) = nat_lt c channels
has_channel channels _ = true

-- whether all ops that output to a channel find this channel
abbrev pub have_channels : ℕ → List Op → Bool
have_channels channels ops = list_all (λ op. has_channel channels op.act) ops

-- The conditions under which a sheet can be played. Each resource that the codes touch has an area, which in
-- a cycle is in the footprint. Each unit has one kind, and each channel exists. A cycle allocates no memory
-- and refuses nothing.
pub record IsPlayable (s : Sheet) : Type 0 where
  pub stock : Stock
  pub kinds : Kinds
  pub placed : IsPlaced s.areas stock s.piece
  pub init_uses : OpsNamed stock kinds (HasArea s.areas) s.init
  pub perf_uses : OpsNamed stock kinds (IsUsed s) s.perf
  pub perf_writes : OpsWritten stock (IsWritten s) s.perf
  pub init_channels : have_channels s.piece.head.nchnls s.init ≡ true
  pub perf_channels : have_channels s.piece.head.nchnls s.perf ≡ true
  pub perf_acts : are_of_cycle s.perf ≡ true

-- a voice is sound if its sheet can be played
abbrev pub IsSound : Sounding → Type 0
IsSound v = IsPlayable v.sheet

-- the meaning of a voice as a job
abbrev pub voice_means : Meaning Sounding
voice_means = record {
  areas = λ v. v.sheet.zones;
  foot = λ v. v.sheet.foot;
  after = performed;
  leaves = left_by;
  valid = IsSound;
}
