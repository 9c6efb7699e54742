-- The earliest turn of a control cycle in which each note can run, and the lines that report it.
use Rattle.std.specs.Prelude.{ℕ, ◌+◌, Bool, not, ◌||◌, List, [], ◌∷◌, ◌++◌, codes, decimal, map, length, max, nat_lt}
use Rattle.std.specs.{Prelude.◌≡◌, Prelude.◌<◌, Prelude.if◌then◌else◌, Option.is_some}
use Rattle.std.specs.List.{All, filter, flat_map, list_any, range_with_len}
use Rattle.cs_base.specs.declared.resource.Res.{Res}
use Rattle.cs_cells.specs.{Areas.IsFootprint, Areas.IsLaid, Cells.covers, declared.footprint.Area.Area}
use Rattle.cs_cells.specs.declared.footprint.Footprint.{Footprint}
use Rattle.cs_piece_meaning.specs.{Course.begins, Course.moment_at, Moments.Active, Moments.Composition}
use Rattle.cs_ir.specs.Resources.{Stock}
use Rattle.cs_layout.specs.declared.areas.LiveTable.{LiveTable}
use Rattle.cs_meaning.specs.{Core.Block, Plain.Table, Uses.block_uses, Uses.block_writes}
use Rattle.cs_rwset.specs.{Footprints.is_among, Footprints.places_holding, Footprints.stock_of, Zones.AreZones}
use Rattle.cs_voice_meaning.specs.{Follows.AreNamed, Placing.HasArea}

-- the tables that may change: those that aren't frozen
abbrev pub live : List Table → List Table
live tables = filter (λ (t : Table). not (is_some t.frozen)) tables

-- what a piece has besides its variables and channels: its zak spaces, and the numbers of its live tables
abbrev pub stock_in : Composition → Stock
stock_in c = record { spaces = c.spaces; live = map (λ (t : Table). t.number) (live c.tables) }

-- the live tables in the form that a layout needs
abbrev pub live_tables : List Table → List LiveTable
live_tables tables = map (λ (t : Table). record { number = t.number; size = t.size }) (live tables)

-- What a note may use in a control cycle, and which of that it may write.
pub record Touched : Type 0 where
  pub uses : List Res
  pub writes : List Res

-- what the statements of a note may use and write in a control cycle
abbrev pub touched : Stock → Block → Touched
touched stock body = record { uses = block_uses stock body; writes = block_writes stock body }

-- some resource is in both lists
abbrev pub share : List Res → List Res → Bool
share rs ss = list_any (is_among ss) rs

-- one of two notes writes what the other uses; what is written is used too
abbrev pub conflict : Touched → Touched → Bool
conflict p t = share p.writes t.uses || share t.writes p.uses

-- The turn of a note after earlier notes, each given with its turn: 0 if it conflicts with none of them, and
-- otherwise one more than the highest turn of those with which it conflicts.
abbrev pub turn_behind : List (Touched × ℕ) → Touched → ℕ
turn_behind [] t = 0
turn_behind (p ∷ earlier) t = max (if conflict p.0 t then p.1 + 1 else 0) (turn_behind earlier t)

-- the turns of notes in their order, after earlier notes
abbrev pub turns_behind : List (Touched × ℕ) → List Touched → List ℕ
turns_behind earlier [] = []
turns_behind earlier (t ∷ later) =
    turn_behind earlier t ∷ turns_behind (earlier ++ (t, turn_behind earlier t) ∷ []) later

-- the turns of notes in their order
abbrev pub turns_of : List Touched → List ℕ
turns_of notes = turns_behind [] notes

-- the turns of the notes that play in a cycle
abbrev pub turns_in : Composition → List Active → List ℕ
turns_in c notes = turns_of (map (λ (a : Active). touched (stock_in c) a.body) notes)

-- THE LINES: a cycle's number and the turn of each of its notes, after one blank each

-- the line of a cycle
abbrev pub turn_line : ℕ → List ℕ → List ℕ
turn_line cycle turns = codes "cycle " ++ decimal cycle ++ codes " turns"
    ++ flat_map (λ turn. codes " " ++ decimal turn) turns ++ codes "\n"

-- each of the first 1,000 cycles has one
abbrev pub line_of : ℕ → List ℕ → List ℕ
line_of cycle turns = if nat_lt cycle 1000 then turn_line cycle turns else []

-- the notes of a cycle, after everything that begins with it has begun
abbrev pub notes_in : Composition → ℕ → List Active
notes_in c cycle = (begins c cycle (moment_at c cycle)).active

-- the lines of the first n cycles
abbrev pub turn_lines_before : Composition → ℕ → List ℕ
turn_lines_before c n = flat_map (λ cycle. line_of cycle (turns_in c (notes_in c cycle))) (range_with_len 0 n)

-- the lines of the complete performance
abbrev pub turn_lines_of : Composition → List ℕ
turn_lines_of c = turn_lines_before c c.cycles

-- Zones are zones of areas, and no area is empty.
pub record AreOver (areas zones : List Area) : Type 0 where
  pub are_zones : AreZones areas zones
  pub areas_laid : IsLaid areas
  pub some_areas : All (λ (a : Area). 0 < a.length) areas
  pub some_zones : All (λ (a : Area). 0 < a.length) zones

-- A footprint in terms of zones belongs to a note's statements: it covers the cells of the areas of
-- everything that they use, and of everything that they write; and all that they use has its area.
pub record IsFootOf (areas zones : List Area) (body : Block) (foot : Footprint) : Type 0 where
  pub uses : (a : ℕ) → covers zones foot.uses a
      ≡ covers areas (places_holding areas (block_uses (stock_of areas) body)) a
  pub writes : (a : ℕ) → covers zones foot.writes a
      ≡ covers areas (places_holding areas (block_writes (stock_of areas) body)) a
  pub there : AreNamed (HasArea areas) (block_uses (stock_of areas) body)
  pub places : IsFootprint (length zones) foot
