-- The cells of shared resources.
use Rattle.std.specs.Prelude.{ℕ, ℤ, pos, ◌≡◌, ◌<◌, ◌+◌, ◌-◌, ◌==◌, Bool, true, List, [], ◌∷◌, nat_lt, Option, Some}
use Rattle.std.specs.{Prelude.None, Prelude.if◌then◌else◌, List.list_any}
use Rattle.cs_base.specs.{Rates.same_res, Rates.res_rate, declared.resource.Rate.Rate, declared.resource.Res.Res}
use Rattle.cs_ir.specs.{Validity.has_value, Resources.Stock, Waves.Wave, Waves.silence}
use Rattle.cs_cells.specs.{Areas.IsLaid, Cells.in_area, declared.footprint.Area.Area}
use Rattle.cs_gen.specs.Points.{len_of}
use Rattle.cs_ugen.specs.Points.{is_len}
use Rattle.cs_meaning.specs.Plain.{Piece, Table, find_table}
use Rattle.cs_base.specs.declared.resource.Rate.TheVariants as rate
use Rattle.cs_base.specs.declared.resource.Res.TheVariants as res

-- the area of a resource, if it has one
abbrev pub area_of : List Area → Res → Option Area
area_of [] g = None
area_of (area ∷ areas) g = if same_res area.res g then Some area else area_of areas g

-- a resource has an area
abbrev pub HasArea : List Area → Res → Type 0
HasArea areas g = (area : Area) × (area_of areas g ≡ Some area)

-- the value of an area's cells over a cycle, by its rate: its one cell at each frame, or one cell per frame
-- and 0 beyond
abbrev pub wave_in : Rate → Area → (ℕ → ℤ) → Wave
wave_in rate.Init area cells = λ j. cells area.first
wave_in rate.Control area cells = λ j. cells area.first
wave_in rate.Audio area cells = λ j. if nat_lt j area.length then cells (area.first + j) else pos 0

-- the value of an optional area's cells over a cycle; 0 if there is no area
abbrev pub wave_of : Option Area → Rate → (ℕ → ℤ) → Wave
wave_of None r cells = silence
wave_of (Some area) r cells = wave_in r area cells

-- the cells after a signal was written into an area, one cell per frame
abbrev pub with_wave : Option Area → Wave → (ℕ → ℤ) → ℕ → ℤ
with_wave None w cells a = cells a
with_wave (Some area) w cells a = if in_area (Some area) a then w (a - area.first) else cells a

-- the number of cells of a resource other than a table: one per frame of a control cycle if it is a-rate,
-- otherwise one
abbrev pub cell_count : ℕ → Rate → ℕ
cell_count ksmps rate.Audio = ksmps
cell_count ksmps _ = 1

-- whether a table may have this number of points: a power of two, or one more
abbrev pub is_table_size : ℕ → Bool
is_table_size n = is_len (len_of n)

-- a live table is one of the layout's, and has one cell per point, as many as a table may have
pub record IsTablePlaced (areas : List Area) (stock : Stock) (t : Table) : Type 0 where
  pub among : list_any (λ n. t.number == n) stock.live ≡ true
  pub some : 0 < t.size
  pub power : is_table_size t.size ≡ true
  pub size : (area : Area) → area_of areas (res.Table t.number) ≡ Some area → area.length ≡ t.size

-- the table with a number is one that notes may write
pub record IsLiveTable (tables : List Table) (n : ℕ) : Type 0 where
  pub table : Table
  pub found : find_table tables (pos n) ≡ Some table
  pub live : table.frozen ≡ None

-- Areas hold the shared resources of a piece's notes: each has the number of cells of its resource, and the
-- zak places and live tables belong to the piece.
pub record IsPlaced (areas : List Area) (stock : Stock) (piece : Piece) : Type 0 where
  pub laid : IsLaid areas
  pub frames : 0 < piece.head.ksmps
  pub cells : (g : Res) (area : Area) → area_of areas g ≡ Some area → has_value g ≡ true
      → area.length ≡ cell_count piece.head.ksmps (res_rate g)
  pub spaces : stock.spaces ≡ piece.spaces
  pub tables : (number : ℤ) (t : Table) → find_table piece.tables number ≡ Some t → t.frozen ≡ None
      → IsTablePlaced areas stock t
  pub live : (n : ℕ) (area : Area) → area_of areas (res.Table n) ≡ Some area → IsLiveTable piece.tables n
