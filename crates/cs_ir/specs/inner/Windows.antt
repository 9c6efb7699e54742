-- Windows as they are stored: a number for each kind of register.
use Rattle.std.specs.Prelude.{ℕ, List, [], ◌∷◌, slice_index_or}
use Rattle.cs_ir.specs.Flat.{Begins}

-- the view in contracts of the numbers by kind, and of the first unit
abbrev pub seen : List ℕ → ℕ → Begins
seen begins unit = record {
  locals = record {
    init = slice_index_or begins 0 0;
    control = slice_index_or begins 1 0;
    audio = slice_index_or begins 5 0;
  };
  kept = slice_index_or begins 2 0;
  unit = unit;
}

-- the number of the first register of each kind, by the number of the kind
abbrev pub numbers : Begins → List ℕ
numbers w = w.locals.init ∷ w.locals.control ∷ w.kept ∷ 0 ∷ 0 ∷ w.locals.audio ∷ 0 ∷ []
