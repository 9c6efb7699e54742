-- The piece in which a note plays: its header, tables and zak spaces, the note's p-fields, and the
-- generators, which are the results of opcodes with a state.
use Rattle.std.specs.Prelude.{ℕ, ℤ, pos, Bool, true, false, not, ◌&&◌, ◌||◌, ◌*◌, ◌==◌, zero, suc, List, [], ◌∷◌, map}
use Rattle.std.specs.Prelude.{nat_lt, unsigned_abs, slice_index_or, int_lt, Option, Some, None, if◌then◌else◌}
use Rattle.std.specs.{Int.is_negative, List.range_with_len, Option.is_some}
use Rattle.cs_base.specs.{Numbers.whole_below, Numbers.sum_of, Numbers.quotient_of, declared.resource.Rate.Rate}
use Rattle.cs_base.specs.{declared.resource.Res.Res, declared.spaces.Spaces.Spaces, Heads.Header}
use Rattle.cs_words.specs.{Catalogue.takes_table, Generators.Generators, declared.catalogue.Opcode.Opcode}
use Rattle.cs_words.specs.{declared.catalogue.Space.Space, declared.word.HeadName.HeadName}
use Rattle.cs_gen.specs.{Places.place_of_index, Points.len_of, Tables.curve_of}
use Rattle.cs_ir.specs.Resources.{places_of, zak_place, reaches}
use Rattle.cs_ir.specs.{Waves.Wave, declared.op.Reach.Reach}
use Rattle.cs_base.specs.declared.resource.Rate.TheVariants as rate
use Rattle.cs_base.specs.declared.resource.Res.TheVariants as res
use Rattle.cs_words.specs.declared.catalogue.Opcode.TheVariants as op
use Rattle.cs_words.specs.declared.catalogue.Space.TheVariants as space
use Rattle.cs_words.specs.declared.word.HeadName.TheVariants as head

-- A table: its number, its size, its points if they are frozen, and whether it has been made yet.
pub record Table : Type 0 where
  pub number : ℕ
  pub size : ℕ
  pub frozen : Option (List ℤ)
  pub present : Bool

-- the piece in which a note plays
pub record Piece : Type 0 where
  pub head : Header
  pub spaces : Spaces
  pub tables : List Table
  pub generators : Generators
  pub fields : ℕ → ℤ

-- the value of a name of the header
abbrev pub head_value : Header → HeadName → ℤ
head_value h head.Sr = pos (h.sr * 65536)
head_value h head.Kr = quotient_of (pos (h.sr * 65536)) (pos (h.ksmps * 65536))
head_value h head.Ksmps = pos (h.ksmps * 65536)
head_value h head.Nchnls = pos (h.nchnls * 65536)
head_value h head.Dbfs = h.dbfs

-- A value rounded down to an integer, if the value isn't negative.
abbrev pub index : ℤ → Option ℕ
index z = if is_negative z then None else Some (unsigned_abs (whole_below z))

-- the sum of two signals, frame by frame
abbrev pub added : Wave → Wave → Wave
added w v = λ j. sum_of (w j) (v j)

-- ---- steps

-- the number of steps of an opcode in a cycle
abbrev pub steps_of : ℕ → Rate → ℕ
steps_of ksmps rate.Audio = ksmps
steps_of ksmps _ = 1

-- the step of an opcode at frame j
abbrev pub step_at : Rate → ℕ → ℕ
step_at rate.Audio j = j
step_at _ j = 0

-- ---- tables

-- The number of a table is the first settled value of an opcode, rounded down.
abbrev pub table_number : List ℤ → ℤ
table_number is = whole_below (slice_index_or is 0 (pos 0))

-- the table with a number, if there is one
abbrev pub find_table : List Table → ℤ → Option Table
find_table [] n = None
find_table (t ∷ ts) n = if not (is_negative n) && t.number == unsigned_abs n then Some t else find_table ts n

-- whether a table exists and has been made
abbrev pub is_there : Option Table → Bool
is_there None = false
is_there (Some t) = t.present

-- the points of a table, frozen or read from the shared resources
abbrev pub points_of : (Res → Wave) → Table → Option (List ℤ) → List ℤ
points_of shared t (Some points) = points
points_of shared t None = map (shared (res.Table t.number)) (range_with_len 0 t.size)

-- the points of a table as units read them, followed by the guard point
abbrev pub read_points : (Res → Wave) → Option Table → List ℤ
read_points shared None = []
read_points shared (Some t) = curve_of (points_of shared t t.frozen)

-- A live table can be changed by notes. A note that stores into a live table that hasn't been made yet is
-- refused as it begins.
abbrev pub is_live : Table → Bool
is_live t = not (is_some t.frozen)

-- The value at a place of a table after some steps: the value of the last step that stored there; if there is
-- none, the old value.
abbrev pub stored : (ℕ → ℕ) → Wave → ℕ → Wave → Wave
stored place sig zero w a = w a
stored place sig (suc n) w a = if place n == a then sig n else stored place sig n w a

-- the places at which indices store, step by step
abbrev pub places_of_indices : Table → Wave → ℕ → ℕ
places_of_indices t indices j = place_of_index (len_of t.size) (indices j)

-- whether an opcode may touch the table with a number, if it reads a table
abbrev pub may_touch : Opcode → Reach → ℤ → Bool
may_touch opcode reach n = not (takes_table opcode) || reaches reach (unsigned_abs n)

-- whether an opcode is `delay`, which stores samples
abbrev pub is_delay : Opcode → Bool
is_delay op.Delay = true
is_delay _ = false

-- ---- zak places

-- A value, rounded down, names a place if the space has it and the op may touch it.
abbrev pub has_place : Piece → Space → Reach → ℕ → Bool
has_place piece s reach n = nat_lt n (places_of piece.spaces s) && reaches reach n

-- the value found at a zak place, or another value if the place can't be touched
abbrev pub at_place : {A : Type 0} → Piece → Space → Reach → Option ℕ → A → (Res → A) → A
at_place piece s reach None other found = other
at_place piece s reach (Some n) other found = if has_place piece s reach n then found (zak_place s n) else other

-- whether a place is between two values, both rounded down and included
abbrev pub is_between : ℤ → ℤ → ℕ → Bool
is_between first last n = not (int_lt (pos n) (whole_below first)) && not (int_lt (whole_below last) (pos n))

-- whether a resource is a zak place between two values
abbrev pub is_cleared : Piece → Space → Reach → ℤ → ℤ → Res → Bool
is_cleared piece space.Control reach first last (res.ZakK n) =
    has_place piece space.Control reach n && is_between first last n
is_cleared piece space.Audio reach first last (res.ZakA n) =
    has_place piece space.Audio reach n && is_between first last n
is_cleared piece s reach first last _ = false
