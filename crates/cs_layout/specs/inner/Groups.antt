-- Everything that a piece's notes share, group by group.
use Rattle.std.specs.Prelude.{ℕ, List, [], ◌∷◌, length}
use Rattle.cs_base.specs.{declared.resource.Res.Res, declared.spaces.Spaces.Spaces}
use Rattle.cs_layout.specs.Layouts.{SharedCells, numbered}
use Rattle.cs_layout.specs.{declared.areas.Group.Group, declared.areas.GroupKind.GroupKind}
use Rattle.cs_typed.specs.TypedTree.{SharedNames}
use Rattle.cs_base.specs.declared.resource.Res.TheVariants as res
use Rattle.cs_layout.specs.declared.areas.GroupKind.TheVariants as kind

-- resource number n of a kind
abbrev pub res_of : GroupKind → ℕ → Res
res_of kind.Gi = res.Gi
res_of kind.Gk = res.Gk
res_of kind.Ga = res.Ga
res_of kind.Control = res.Control
res_of kind.Sound = res.Sound
res_of kind.ZakK = res.ZakK
res_of kind.ZakA = res.ZakA

-- the resources of a group
abbrev pub members : Group → List SharedCells
members g = numbered (res_of g.kind) g.count g.cells

-- a group of `count` resources of a kind, each with `cells` cells
abbrev pub many : GroupKind → ℕ → ℕ → Group
many k count cells = record { kind = k; count = count; cells = cells }

-- the groups of a piece, without its live tables
abbrev pub groups_of : ℕ → SharedNames → Spaces → List Group
groups_of ksmps names spaces =
    many kind.Gi (length names.variables.init) 1
    ∷ many kind.Gk (length names.variables.control) 1
    ∷ many kind.Ga (length names.variables.audio) ksmps
    ∷ many kind.Control (length names.control) 1
    ∷ many kind.Sound (length names.sound) ksmps
    ∷ many kind.ZakK spaces.control 1
    ∷ many kind.ZakA spaces.audio ksmps
    ∷ []
