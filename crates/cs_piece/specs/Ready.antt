-- What a performer of a piece relies on: its stage, and its instruments.
use Rattle.std.specs.Prelude.{ℕ, ℤ, ◌≡◌, ◌<◌, Bool, List, length, map, None}
use Rattle.std.specs.List.{All}
use Rattle.cs_machine.specs.{Access.AreSpaces, Access.spaces_of, States.header_of}
use Rattle.cs_cells.specs.Areas.{IsLaid, limit_passed, IsFootprint}
use Rattle.cs_cells.specs.{Cells.covers, declared.footprint.Area.Area, declared.footprint.Footprint.Footprint}
use Rattle.cs_code.specs.Means.{RegisterPlan}
use Rattle.cs_piece_meaning.specs.Moments.{Composition}
use Rattle.cs_ir.specs.Instruments.{Numbered}
use Rattle.cs_meaning.specs.{Core.Block, Uses.block_uses, Uses.block_writes}
use Rattle.cs_piece.specs.VoicesOfNotes.{Perform}
use Rattle.cs_rwset.specs.{Footprints.places_holding, Footprints.stock_of, Zones.AreZones}
use Rattle.cs_voice_meaning.specs.{Follows.AreNamed, Follows.Kinds, Voices.IsPlayable}
use Rattle.cs_voice_meaning.specs.Placing.{HasArea, IsPlaced}
use Rattle.cs_voice.specs.{Starts.piece_at, Starts.sheet_at, Tables.CanAllBePlayed, Tables.tables_of, Memory.table_of}
use Rattle.cs_voice.specs.{VoiceData.made, declared.stage.Stage.Stage}

-- A stage belongs to a composition: it has its header, zak spaces and tables, a layout with an area for
-- everything that notes share, whichever of the tables have been made, with at least one cell in each area,
-- and zones of its areas.
pub record IsStageOf (c : Composition) (stage : Stage) : Type 0 where
  pub head : header_of stage.head.now ≡ c.head
  pub spaces : stage.spaces ≡ c.spaces
  pub tables : map table_of stage.tables.now ≡ map made c.tables
  pub laid : IsLaid stage.layout.now
  pub within : limit_passed stage.layout.now ≡ None
  pub places : AreSpaces stage.layout.now
  pub zak : spaces_of stage.layout.now ≡ stage.spaces
  pub some : All (λ (a : Area). 0 < a.length) stage.layout.now
  pub zones : AreZones stage.layout.now stage.zones.now
  pub placed : (flags : List Bool) (fields : List ℤ) → length flags ≡ length stage.tables.now
      → IsPlaced stage.layout.now (stock_of stage.layout.now) (piece_at stage flags fields)
  pub can_be_played : (flags : List Bool) → length flags ≡ length stage.tables.now
      → CanAllBePlayed stage.layout.now (tables_of stage.tables.now flags)

-- An instrument of the stage, with its footprint, has these statements: its notes can begin, whichever tables
-- have been made, and do what the statements say, as they begin and in every cycle. The footprint is
-- everything that the statements may use and write in a cycle, and all of that has its area.
pub record IsInstrumentOf (stage : Stage) (i : Numbered) (foot : Footprint) (body : Block) : Type 0 where
  pub plan : RegisterPlan
  pub kinds : Kinds
  pub playable : (age : ℕ) (flags : List Bool) (fields : List ℤ) → length flags ≡ length stage.tables.now
      → IsPlayable (sheet_at i age foot stage flags fields)
  pub performs : (age : ℕ) (flags : List Bool) (fields : List ℤ) → length flags ≡ length stage.tables.now
      → Perform plan kinds (sheet_at i age foot stage flags fields) body
  pub footprint : IsFootprint (length stage.zones.now) foot
  pub uses : (a : ℕ) → covers stage.zones.now foot.uses a
      ≡ covers stage.layout.now (places_holding stage.layout.now (block_uses (stock_of stage.layout.now) body)) a
  pub writes : (a : ℕ) → covers stage.zones.now foot.writes a
      ≡ covers stage.layout.now (places_holding stage.layout.now (block_writes (stock_of stage.layout.now) body)) a
  pub there : AreNamed (HasArea stage.layout.now) (block_uses (stock_of stage.layout.now) body)
