-- A small layout, and the footprints of single ops in it.
use Rattle.std.specs.Prelude.{ℕ, List, [], ◌∷◌, map}
use Rattle.cs_base.specs.declared.resource.Res.TheVariants.{Gk, Control, ZakK, Table}
use Rattle.cs_cells.specs.declared.footprint.Area.{Area}
use Rattle.cs_ir.specs.{Resources.ops_use, Resources.ops_write, declared.op.Act.Act, declared.op.Op.Op}
use Rattle.cs_rwset.specs.Footprints.{stock_of, places_holding}
use Rattle.cs_ir.specs.declared.register.Kind.TheVariants as kind

-- the variable gk1, the first channel, three places of the zak space of control values, and tables 1 and 2
-- with four points each
abbrev pub seven_areas : List Area
seven_areas =
    record { res = Gk 0; first = 0; length = 1 }
    ∷ record { res = Control 0; first = 1; length = 1 }
    ∷ record { res = ZakK 0; first = 2; length = 1 }
    ∷ record { res = ZakK 1; first = 3; length = 1 }
    ∷ record { res = ZakK 2; first = 4; length = 1 }
    ∷ record { res = Table 1; first = 5; length = 4 }
    ∷ record { res = Table 2; first = 9; length = 4 }
    ∷ []

-- ops with these acts
abbrev ops_of : List Act → List Op
ops_of acts = map (λ a. record { act = a; into = record { kind = kind.LocalControl; offset = 0 }; from = [] }) acts

-- the places that ops with these acts may use
abbrev pub used : List Act → List ℕ
used acts = places_holding seven_areas (ops_use (stock_of seven_areas) (ops_of acts))

-- the places that ops with these acts may write
abbrev pub written : List Act → List ℕ
written acts = places_holding seven_areas (ops_write (stock_of seven_areas) (ops_of acts))
