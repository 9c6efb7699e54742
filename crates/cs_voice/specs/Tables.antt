-- The tables that a note finds as it begins, as the meaning has them.
use Rattle.std.specs.Prelude.{ℤ, ◌≡◌, true, Bool, List, [], ◌∷◌, length, Some, None}
use Rattle.cs_cells.specs.declared.footprint.Area.{Area}
use Rattle.cs_gen.specs.Points.{len_of}
use Rattle.cs_meaning.specs.Pieces.{Table, find_table}
use Rattle.cs_ugen.specs.Points.{is_len}
use Rattle.cs_voice_meaning.specs.Placing.{HasArea}
use Rattle.cs_voice.specs.{Memory.table_of, declared.stage.PieceTable.PieceTable}
use Rattle.cs_base.specs.declared.resource.Res.TheVariants as res

-- a table that has been made by now, or hasn't
abbrev pub table_at : PieceTable → Bool → Table
table_at t made = record (table_of t) { present = made }

-- tables; `made` says for each whether it has been made
abbrev pub tables_of : List PieceTable → List Bool → List Table
tables_of [] made = []
tables_of (t ∷ tables) [] = []
tables_of (t ∷ tables) (m ∷ made) = table_at t m ∷ tables_of tables made

-- A table can be played: its size is a power of two or one more, a frozen one has as many points, and a live
-- one has an area.
pub record CanBePlayed (areas : List Area) (t : Table) : Type 0 where
  pub power : is_len (len_of t.size) ≡ true
  pub points : (points : List ℤ) → t.frozen ≡ Some points → length points ≡ t.size
  pub area : t.frozen ≡ None → HasArea areas (res.Table t.number)

-- each table that is found by its number can be played
abbrev pub CanAllBePlayed : List Area → List Table → Type 0
CanAllBePlayed areas tables = (number : ℤ) (t : Table) → find_table tables number ≡ Some t → CanBePlayed areas t
