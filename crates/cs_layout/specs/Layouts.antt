-- The cells of a piece: its variables, channels, zak places and live tables, one after the other.
use Rattle.std.specs.Prelude.{ℕ, ℤ, ◌≡◌, ◌+◌, ◌==◌, Bool, true, nat_lt, List, [], ◌∷◌, ◌++◌, length, map, slice_get}
use Rattle.std.specs.{Prelude.Some, Prelude.None, List.list_any, List.range_with_len}
use Rattle.cs_base.specs.{declared.resource.Res.Res, declared.spaces.Spaces.Spaces}
use Rattle.cs_cells.specs.declared.footprint.Area.{Area}
use Rattle.cs_layout.specs.declared.areas.LiveTable.{LiveTable}
use Rattle.cs_meaning.specs.Pieces.{Table, find_table}
use Rattle.cs_typed.specs.TypedTree.{SharedNames}
use Rattle.cs_voice_meaning.specs.Placing.{IsLiveTable}
use Rattle.cs_base.specs.declared.resource.Res.TheVariants as res

-- a resource that notes share, and the number of its cells
pub record SharedCells : Type 0 where
  pub res : Res
  pub cells : ℕ

-- `count` resources of a kind, numbered from 0, each with `cells` cells
abbrev pub numbered : (ℕ → Res) → ℕ → ℕ → List SharedCells
numbered kind count cells = map (λ n. record { res = kind n; cells = cells }) (range_with_len 0 count)

-- the live tables, with a cell for each point
abbrev pub of_tables : List LiveTable → List SharedCells
of_tables live = map (λ t. record { res = res.Table t.number; cells = t.size }) live

-- Everything that a piece's notes share: i-rate, k-rate and a-rate variables, control and audio channels, zak
-- places of both spaces, live tables. An audio resource has a cell for each frame of a control cycle.
abbrev pub shared_by : ℕ → SharedNames → Spaces → List LiveTable → List SharedCells
shared_by ksmps names spaces live =
    numbered res.Gi (length names.variables.init) 1
    ++ (numbered res.Gk (length names.variables.control) 1
    ++ (numbered res.Ga (length names.variables.audio) ksmps
    ++ (numbered res.Control (length names.control) 1
    ++ (numbered res.Sound (length names.sound) ksmps
    ++ (numbered res.ZakK spaces.control 1
    ++ (numbered res.ZakA spaces.audio ksmps
    ++ of_tables live))))))

-- the areas of what is shared, one after the other, from address `first` on
abbrev pub laid_from : ℕ → List SharedCells → List Area
laid_from first [] = []
laid_from first (s ∷ rest) = record { res = s.res; first = first; length = s.cells } ∷ laid_from (first + s.cells) rest

-- the areas of a piece
abbrev pub areas_of : ℕ → SharedNames → Spaces → List LiveTable → List Area
areas_of ksmps names spaces live = laid_from 0 (shared_by ksmps names spaces live)

-- no two live tables have the same number
abbrev pub AreApart : List LiveTable → Type 0
AreApart live = (p q : ℕ) (t u : LiveTable) → slice_get live p ≡ Some t → slice_get live q ≡ Some u
    → t.number ≡ u.number → p ≡ q

-- whether notes share a resource
abbrev pub is_shared : SharedNames → Spaces → List LiveTable → Res → Bool
is_shared names spaces live (res.Gi n) = nat_lt n (length names.variables.init)
is_shared names spaces live (res.Gk n) = nat_lt n (length names.variables.control)
is_shared names spaces live (res.Ga n) = nat_lt n (length names.variables.audio)
is_shared names spaces live (res.Control n) = nat_lt n (length names.control)
is_shared names spaces live (res.Sound n) = nat_lt n (length names.sound)
is_shared names spaces live (res.ZakK n) = nat_lt n spaces.control
is_shared names spaces live (res.ZakA n) = nat_lt n spaces.audio
is_shared names spaces live (res.Table n) = list_any (λ t. t.number == n) live

-- the live tables contain this table, with its size
abbrev pub IsLive : List LiveTable → Table → Type 0
IsLive live t = (place : ℕ) × (slice_get live place ≡ Some (record { number = t.number; size = t.size }))

-- the live tables contain each of a piece's tables that isn't frozen
abbrev pub AreLive : List LiveTable → List Table → Type 0
AreLive live tables = (number : ℤ) (t : Table) → find_table tables number ≡ Some t → t.frozen ≡ None → IsLive live t

-- each of the live tables is a table of the piece that notes may write
abbrev pub AreOfPiece : List LiveTable → List Table → Type 0
AreOfPiece live tables = (n : ℕ) → list_any (λ t. t.number == n) live ≡ true → IsLiveTable tables n
