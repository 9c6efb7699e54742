-- The compiled form of an orchestra.
use Rattle.std.specs.Prelude.{ℕ, true, ◌≡◌, List, length, map}
use Rattle.std.specs.{List.AllZip, List.flat_map, List.Sorted.IsPermutation, List.Sorted.IsStrictlyIncreasing}
use Rattle.cs_ir.specs.{Cycles.are_of_cycle, Validity.valid, declared.op.Code.Code}
use Rattle.cs_ir.specs.Instruments.{Numbered, numbers_of}
use Rattle.cs_base.specs.declared.spaces.Spaces.{Spaces}
use Rattle.cs_ir.specs.Resources.{Access, NameTheSame, Stock, ops_touch}
use Rattle.cs_meaning.specs.{Core.Block, Core.core, Uses.block_touched, When.beginning, When.cycle}
use Rattle.cs_code.specs.{Means.Means, Names.UnitKind, Names.block_units, Names.AllNamed}
use Rattle.cs_typed.specs.TypedTree as typed

-- Two codes can be run on the same registers and units, in a piece with this number of channels. Both are
-- valid and name only existing units and channels; the performance code starts no unit and schedules no note.
pub record CanBeRun (channels : ℕ) (units : List UnitKind) (init perf : Code) : Type 0 where
  pub init_valid : valid init ≡ true
  pub perf_valid : valid perf ≡ true
  pub counts : init.counts ≡ perf.counts
  pub count : init.counts.units ≡ length units
  pub init_names : AllNamed channels units init.ops
  pub perf_names : AllNamed channels units perf.ops
  pub perf_cycle : are_of_cycle perf.ops ≡ true

-- Two codes use and may write the same resources as statements do, in any order: the initialisation code as
-- the note begins, and the performance code in a cycle.
pub record TouchAlike (body : Block) (init perf : Code) : Type 0 where
  pub begins : (t : Access) (stock : Stock)
      → NameTheSame (ops_touch t stock init.ops) (block_touched t beginning stock body)
  pub cycles : (t : Access) (stock : Stock)
      → NameTheSame (ops_touch t stock perf.ops) (block_touched t cycle stock body)

-- The two codes of a block, in a piece with these zak spaces and this number of channels: they mean its
-- statements, can be run, and touch the same resources as the statements.
pub record IsCodeOf (spaces : Spaces) (channels : ℕ) (body : typed.Block) (init perf : Code) : Type 0 where
  pub means : Means (core spaces body) init.ops perf.ops
  pub runs : CanBeRun channels (block_units (core spaces body)) init perf
  pub touches : TouchAlike (core spaces body) init perf

-- the numbers of all instruments, in the order of the text
abbrev pub all_numbers : List typed.Instrument → List ℕ
all_numbers is = flat_map (λ (i : typed.Instrument). i.numbers) is

-- a body under each of these numbers
abbrev pub numbered_with : typed.Block → List ℕ → List (ℕ × typed.Block)
numbered_with body ns = map (λ n. (n, body)) ns

-- the body of each instrument number, in the order of the text
abbrev pub bodies : List typed.Instrument → List (ℕ × typed.Block)
bodies is = flat_map (λ (i : typed.Instrument). numbered_with i.body i.numbers) is

-- an instrument with this number, whose codes are codes of this body
abbrev pub IsNumberedCode : Spaces → ℕ → ℕ × typed.Block → Numbered → Type 0
IsNumberedCode spaces channels p i = (i.number ≡ p.0) × IsCodeOf spaces channels p.1 i.init i.perf

-- The instruments of an orchestra, in ascending order of numbers: for each number in the text one instrument,
-- with codes of its body.
pub record AreInstrumentsOf (o : typed.Orchestra) (l : List Numbered) : Type 0 where
  pub in_text : List Numbered
  pub each : AllZip (IsNumberedCode o.spaces o.head.nchnls) (bodies o.instrs) in_text
  pub same : IsPermutation in_text l
  pub ascending : IsStrictlyIncreasing (numbers_of l)
