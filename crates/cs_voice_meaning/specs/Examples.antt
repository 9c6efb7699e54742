-- Small codes that voices play, for worked examples: eight frames a second, four frames a control cycle, one
-- channel.
use Rattle.std.specs.Prelude.{ℕ, ℤ, pos, List, [], ◌∷◌, ◌++◌, map, replicate, None, true}
use Rattle.std.specs.List.{range_with_len}
use Rattle.cs_base.specs.declared.resource.Res.{Res}
use Rattle.cs_ir.specs.{Machine.Machine, declared.op.Act.Act, declared.op.Op.Op, declared.register.Reg.Reg}
use Rattle.cs_cells.specs.{Cells.Cells, declared.footprint.Area.Area}
use Rattle.cs_meaning.specs.{Examples.small_piece, Examples.whole, Plain.Piece}
use Rattle.cs_ugen.specs.Generators.{the_generators}
use Rattle.cs_voice_meaning.specs.VoiceWorld.{VoiceState}
use Rattle.cs_voice_meaning.specs.Voices.{Sheet, Sounding, initialised, voice_of, performed}
use Rattle.cs_ir.specs.declared.register.Kind.TheVariants as kind
use Rattle.cs_base.specs.declared.resource.Res.TheVariants as res
use Rattle.cs_words.specs.declared.catalogue.Opcode.TheVariants as op
use Rattle.cs_words.specs.declared.sign.BinOp.TheVariants as sign
use Rattle.cs_ir.specs.declared.op.Act.TheVariants as act
use Rattle.cs_ir.specs.declared.op.Reach.TheVariants as reach

-- a piece with two zak places of control values, with the units of cs_ugen
abbrev pub voices_piece : Piece
voices_piece = record (small_piece 2 0) { generators = the_generators (record { sr = 8; ksmps = 4 }) }

abbrev area : Res → ℕ → ℕ → Area
area g first length = record { res = g; first = first; length = length }

-- areas of gk1, of two zak places of control values, and of ga1
abbrev pub small_areas : List Area
small_areas = area (res.Gk 0) 0 1 ∷ area (res.ZakK 0) 1 1 ∷ area (res.ZakK 1) 2 1 ∷ area (res.Ga 0) 3 4 ∷ []

-- the cells of these areas, of which the first three have these values
abbrev pub cells_of : ℤ → ℤ → ℤ → Cells
cells_of gk first second = gk ∷ first ∷ second ∷ replicate 4 (pos 0)

-- registers, and an op with an act
abbrev i : ℕ → Reg
i n = record { kind = kind.LocalInit; offset = n }

abbrev k : ℕ → Reg
k n = record { kind = kind.LocalControl; offset = n }

abbrev a : ℕ → Reg
a n = record { kind = kind.LocalAudio; offset = n }

abbrev op_of : Act → Reg → List Reg → Op
op_of what into from = record { act = what; into = into; from = from }

-- an op that writes an integer to an i-rate register
abbrev literal : ℕ → ℕ → Op
literal value n = op_of (act.Const (whole value)) (i n) []

abbrev sounds : Reg → List Op
sounds q = op_of act.Copy (a 0) (q ∷ []) ∷ op_of (act.Out 0) (a 0) (a 0 ∷ []) ∷ []

-- a sheet with addresses that may be used and written, and two codes
abbrev sheet : List ℕ → List ℕ → List Op → List Op → Sheet
sheet uses writes init perf = record {
  number = 1;
  age = 0;
  piece = voices_piece;
  areas = small_areas;
  zones = small_areas;
  foot = record { uses = uses; writes = writes };
  init = init;
  perf = perf;
}

-- the machine after a sheet's code has begun, over cells that are all 0
abbrev pub start : Sheet → Machine VoiceState
start s = initialised s (λ address. pos 0)

-- the voice of a sheet after it has begun over cells that are all 0
abbrev pub begun : Sheet → Sounding
begun s = voice_of s (start s)

-- the sound of a voice in a cycle over cells
abbrev pub heard : Sounding → Cells → List ℤ
heard v c = map ((performed v c).outs 0) (range_with_len 0 4)

-- gk1 is increased by one
abbrev pub counting : Sheet
counting = sheet (0 ∷ []) (0 ∷ []) (literal 1 0 ∷ []) (op_of (act.Load (res.Gk 0)) (k 0) []
    ∷ op_of (act.Pair sign.Add) (k 1) (k 0 ∷ i 0 ∷ []) ∷ op_of (act.Save (res.Gk 0)) (k 1) (k 1 ∷ []) ∷ [])

-- a zak place is set to 70
abbrev pub writing : Sheet
writing = sheet (1 ∷ []) (1 ∷ []) (literal 70 0 ∷ literal 0 1 ∷ [])
    (op_of (act.Zak op.Zkw (reach.Span 0 0)) (k 0) (i 0 ∷ i 1 ∷ []) ∷ [])

-- a note plays the value of a zak place; its footprint has these addresses
abbrev pub reading : List ℕ → Sheet
reading uses = sheet uses [] (literal 0 0 ∷ [])
    (op_of (act.Zak op.Zkr (reach.Span 0 0)) (k 0) (i 0 ∷ []) ∷ sounds (k 0))

-- the note is turned off, and then 2 is output twice
abbrev pub ending : Sheet
ending = sheet [] [] (literal 2 0 ∷ [])
    (op_of act.Turnoff (i 0) [] ∷ sounds (i 0) ++ op_of (act.Out 0) (a 0) (a 0 ∷ []) ∷ [])

-- gk1 is set to 5, a note is scheduled, table 9 is looked up, and another note is scheduled
abbrev pub missing_table : Sheet
missing_table = sheet [] []
    (literal 5 0
    ∷ op_of (act.Save (res.Gk 0)) (i 0) (i 0 ∷ [])
    ∷ op_of act.Ask (i 0) (i 0 ∷ i 1 ∷ i 1 ∷ [])
    ∷ literal 9 2
    ∷ op_of (act.Start op.Oscili 0) (a 0) (i 2 ∷ [])
    ∷ op_of act.Ask (i 0) (i 0 ∷ i 1 ∷ i 1 ∷ []) ∷ []) []

-- two delays, whose times are given in raw seconds
abbrev pub two_delays : ℤ → ℤ → Sheet
two_delays first second = sheet [] []
    (op_of (act.Const first) (i 0) []
    ∷ op_of (act.Start op.Delay 0) (a 0) (i 0 ∷ [])
    ∷ op_of (act.Const second) (i 0) []
    ∷ op_of (act.Start op.Delay 1) (a 0) (i 0 ∷ []) ∷ []) []

-- table 9 is looked up, and a note is scheduled
abbrev pub seeking : Sheet
seeking = sheet [] []
    (literal 9 0 ∷ op_of act.Seek (i 0) (i 0 ∷ []) ∷ op_of act.Ask (i 0) (i 0 ∷ i 0 ∷ i 0 ∷ []) ∷ []) []

-- 7 is stored at place 2 of table 1, whose four points have a separate area
abbrev pub storing : Sheet
storing = record (sheet (0 ∷ []) (0 ∷ [])
    (literal 7 0 ∷ literal 2 1 ∷ literal 1 2 ∷ op_of act.Seek (i 0) (i 2 ∷ []) ∷ [])
    (op_of (act.Store (reach.Span 1 1)) (k 0) (i 0 ∷ i 1 ∷ i 2 ∷ []) ∷ [])) {
      piece = record voices_piece { tables = record { number = 1; size = 4; frozen = None; present = true } ∷ [] };
      areas = area (res.Table 1) 0 4 ∷ [];
      zones = area (res.Table 1) 0 4 ∷ [];
    }
