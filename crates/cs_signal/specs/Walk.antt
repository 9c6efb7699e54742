-- The invariant of a loop over the frames of a cycle.
use Rattle.std.specs.Prelude.{ℕ, ◌≡◌, ◌-◌, List, ◌++◌, length, take, ℤ}
use Rattle.cs_signal.specs.Steps.{run}

-- the first j of n frames are done and the unit is s; the frames written to `out` and the remaining steps
-- together make up the complete run
pub record HasRun {S : Type 0} (step : S → List ℤ → S × ℤ) (at : ℕ → List ℤ) (first : S) (n j : ℕ) (s : S)
    (out : List ℤ) : Type 0 where
  pub long : length out ≡ n
  pub rest : run step at first 0 n ≡ ((run step at s j (n - j)).0, take j out ++ (run step at s j (n - j)).1)
