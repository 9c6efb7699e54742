-- A small layout, worked out by hand.
use Rattle.std.specs.Prelude.{ℕ, List, [], ◌∷◌}
use Rattle.cs_base.specs.declared.resource.Res.TheVariants.{Gk, Control, Table}
use Rattle.cs_cells.specs.declared.footprint.Area.{Area}

-- the variable gk1, the first channel, and table 1 with four points
abbrev pub three_areas : List Area
three_areas =
    record { res = Gk 1; first = 0; length = 1 }
    ∷ record { res = Control 0; first = 1; length = 1 }
    ∷ record { res = Table 1; first = 2; length = 4 }
    ∷ []

-- one table of n points
abbrev pub one_area : ℕ → List Area
one_area n = record { res = Table 1; first = 0; length = n } ∷ []
