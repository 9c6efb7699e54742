-- Jobs that add the least number above 0 to the first cell.
use Rattle.std.specs.Prelude.{◌≡◌, pos, slice_set, true}
use Rattle.cs_base.specs.Numbers.{sum_of}
use Rattle.cs_cells.specs.{Cells.Cells, Cells.cell, Cells.covers, Meaning.Meaning}
use Rattle.cs_crew_trial.specs.declared.adding.Adding.{Adding}

-- the cells with that added to the first
abbrev pub added : Cells → Cells
added c = slice_set c 0 (sum_of (cell c 0) (pos 1))

abbrev pub adding : Meaning Adding
adding = record {
  areas = λ j. j.layout.now;
  foot = λ j. j.foot;
  after = λ j _. j;
  leaves = λ _ c. added c;
  valid = λ j. (covers j.layout.now j.foot.uses 0 ≡ true) × (covers j.layout.now j.foot.writes 0 ≡ true);
}
