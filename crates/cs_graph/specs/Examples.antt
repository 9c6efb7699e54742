-- A small cycle, worked out by hand.
use Rattle.std.specs.Prelude.{List, [], ◌∷◌}
use Rattle.cs_cells.specs.declared.footprint.Footprint.{Footprint}
use Rattle.cs_graph.specs.Graph.{Dependencies}

-- the footprint of a note that reads one resource
abbrev pub reader : Footprint
reader = record { uses = 7 ∷ []; writes = [] }

-- the footprint of a note that changes this resource
abbrev pub writer : Footprint
writer = record { uses = 7 ∷ []; writes = 7 ∷ [] }

-- one note sets a variable, two read it, and one sets it again
abbrev pub small_cycle : List Footprint
small_cycle = writer ∷ reader ∷ reader ∷ writer ∷ []

-- the readers wait for the first note, and the last note waits for the readers
abbrev pub small_graph : Dependencies
small_graph = record {
  edges = (0, 1) ∷ (0, 2) ∷ (1, 3) ∷ (2, 3) ∷ [];
  levels = 0 ∷ 1 ∷ 1 ∷ 2 ∷ [];
}
