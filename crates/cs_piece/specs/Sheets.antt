-- The sheets from which a note of an instrument is played.
use Rattle.std.specs.Prelude.{ℕ, ◌≡◌, List, slice_get, Option, Some, None}
use Rattle.cs_base.specs.declared.resource.Rate.{Rate}
use Rattle.cs_words.specs.declared.catalogue.Opcode.{Opcode}
use Rattle.cs_cells.specs.Cells.{covers}
use Rattle.cs_ir.specs.{Resources.ops_use, Resources.ops_write, declared.op.Code.Code}
use Rattle.cs_code.specs.{Lowered.IsCodeOf, Names.UnitKind}
use Rattle.cs_rwset.specs.Footprints.{stock_of, places_holding}
use Rattle.cs_voice_meaning.specs.{Placing.HasArea, Placing.IsPlaced, Follows.Kinds, Follows.AreNamed, Voices.Sheet}
use Rattle.cs_ugen.specs.Generators.{pace_of, the_generators}
use Rattle.cs_base.specs.declared.resource.Rate.TheVariants as rate
use Rattle.cs_words.specs.declared.catalogue.Opcode.TheVariants as op
use Rattle.cs_typed.specs.TypedTree as typed

-- the opcode and rate of a unit; any opcode and rate if there is no unit
abbrev pub kind_of : Option UnitKind → Opcode × Rate
kind_of (Some unit) = (unit.opcode, unit.rate)
kind_of None = (op.Oscili, rate.Init)

-- the opcode and rate of each unit
abbrev pub kinds_of : List UnitKind → Kinds
kinds_of units u = kind_of (slice_get units u)

-- A sheet of an instrument's body: its codes are two of the body in the piece, each resource that they may
-- use has its area, and the footprint covers the cells of the resources of the second code.
pub record IsSheetOf (s : Sheet) (body : typed.Block) (init perf : Code) : Type 0 where
  pub code : IsCodeOf s.piece.spaces s.piece.head.nchnls body init perf
  pub init_ops : s.init ≡ init.ops
  pub perf_ops : s.perf ≡ perf.ops
  pub generators : s.piece.generators ≡ the_generators (pace_of s.piece.head)
  pub placed : IsPlaced s.areas (stock_of s.areas) s.piece
  pub init_areas : AreNamed (HasArea s.areas) (ops_use (stock_of s.areas) s.init)
  pub perf_areas : AreNamed (HasArea s.areas) (ops_use (stock_of s.areas) s.perf)
  pub uses : (a : ℕ) → covers s.zones s.foot.uses a
      ≡ covers s.areas (places_holding s.areas (ops_use (stock_of s.areas) s.perf)) a
  pub writes : (a : ℕ) → covers s.zones s.foot.writes a
      ≡ covers s.areas (places_holding s.areas (ops_write (stock_of s.areas) s.perf)) a
