-- Jobs whose run changes nothing that a contract sees.
use Rattle.std.specs.Prelude.{◌≡◌, List, length, refl}
use Rattle.cs_cells.specs.{Areas.IsFootprint, declared.footprint.Area.Area, Meaning.Frames, Meaning.Meaning}
use Rattle.cs_crew_trial.specs.declared.marked.Marked.{Marked}

-- a marked job as a job
abbrev pub marking : Meaning Marked
marking = record {
  areas = λ j. j.layout.now;
  foot = λ j. j.foot;
  after = λ j _. j;
  leaves = λ _ c. c;
  valid = λ _. Unit {0};
}

pub marking_frames : Frames marking
marking_frames = record {
  job = λ j c d s same. refl;
  cells = λ j c d s same. same;
  others = λ j c a s out. refl;
  long = λ j c. refl;
  valid_after = λ j c s. s;
  foot_after = λ j c. refl;
  areas_after = λ j c. refl;
}

-- the job has this layout, and its footprint is within it
abbrev pub IsOver : {J : Type 0} → Meaning J → List Area → J → Type 0
IsOver M areas j = (M.areas j ≡ areas) × IsFootprint (length areas) (M.foot j)
