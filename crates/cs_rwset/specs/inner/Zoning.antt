-- Zones as they are built: their first areas, and the zones' areas and marks.
use Rattle.std.specs.Prelude.{ℕ, ◌≡◌, ◌+◌, ◌<◌, ◌≤◌, suc, Bool, true, false, List, [], ◌∷◌, drop, length}
use Rattle.std.specs.{Prelude.slice_index_or, Prelude.if◌then◌else◌, List.All}
use Rattle.cs_base.specs.Limits.{most_resources}
use Rattle.cs_cells.specs.{declared.footprint.Area.Area, declared.footprint.Footprint.Footprint}
use Rattle.cs_ir.specs.{Resources.ops_use, Resources.ops_write, declared.op.Code.Code}
use Rattle.cs_rwset.specs.{Footprints.stock_of, Zones.IsFootOver, declared.code.Marks.Marks, inner.Marks.marks_of}

-- an area and the one after it, joined into one
abbrev pub joined : Area → Area → Area
joined z a = record { res = z.res; first = z.first; length = z.length + a.length }

-- the zones that begin with an open zone; each further area begins a new zone, or is joined to the open one
abbrev pub zones_from : Area → List Area → List Bool → List Area
zones_from z [] begins = z ∷ []
zones_from z (a ∷ areas) [] = z ∷ []
zones_from z (a ∷ areas) (b ∷ begins) =
    if b then z ∷ zones_from a areas begins else zones_from (joined z a) areas begins

-- the zones of areas, given which areas begin one
abbrev pub zones_of : List Area → List Bool → List Area
zones_of [] begins = []
zones_of (a ∷ areas) begins = zones_from a areas (drop 1 begins)

-- the marks of the areas with which zones begin
abbrev pub heads : List Bool → List Bool → List Bool
heads [] begins = []
heads (m ∷ marks) [] = []
heads (m ∷ marks) (b ∷ begins) = if b then m ∷ heads marks begins else heads marks begins

-- marks don't change within a zone
abbrev pub AreKept : List Bool → List Bool → Type 0
AreKept begins marks = (p : ℕ) → suc p < length marks → slice_index_or begins (suc p) false ≡ false
    → slice_index_or marks p false ≡ slice_index_or marks (suc p) false

-- two neighbouring areas are touched in the same way
abbrev pub Stay : Marks → ℕ → ℕ → Type 0
Stay m p q = (slice_index_or m.uses.items p false ≡ slice_index_or m.uses.items q false)
    × (slice_index_or m.writes.items p false ≡ slice_index_or m.writes.items q false)

-- there are at most as many marks as a layout may have areas
abbrev pub AreFew : Marks → Type 0
AreFew m = (length m.uses.items ≤ most_resources) × (length m.writes.items ≤ most_resources)

-- For each of `areas` areas, `begins` states whether a zone begins with it. A zone begins with the first
-- area; any area that begins none is touched in the same way as the one before it.
pub record AreBegins (areas : ℕ) (outside : Marks) (each : List Marks) (begins : List Bool) : Type 0 where
  pub long : length begins ≡ areas
  pub first : 0 < areas → slice_index_or begins 0 false ≡ true
  pub outside_stays : (p : ℕ) → suc p < areas → slice_index_or begins (suc p) false ≡ false → Stay outside p (suc p)
  pub each_stays : (p : ℕ) → suc p < areas → slice_index_or begins (suc p) false ≡ false
      → All (λ (m : Marks). Stay m p (suc p)) each

-- the marks of a performance code
pub record AreMarksOf (areas : List Area) (perf : Code) (m : Marks) : Type 0 where
  pub uses : m.uses.items ≡ marks_of areas (ops_use (stock_of areas) perf.ops)
  pub writes : m.writes.items ≡ marks_of areas (ops_write (stock_of areas) perf.ops)

-- a mark for each area
abbrev pub AreMarks : List Area → Marks → Type 0
AreMarks areas m = (length m.uses.items ≡ length areas) × (length m.writes.items ≡ length areas)

-- the footprint over zones of any code that has these marks
abbrev pub IsFootOf : List Area → List Area → Marks → Footprint → Type 0
IsFootOf areas zones m foot = (perf : Code) → AreMarksOf areas perf m → IsFootOver areas zones perf foot
