-- The waiting notes as they are stored: for each cycle the notes that begin in it.
use Rattle.std.specs.Prelude.{ℕ, ◌≡◌, ◌≤◌, ◌==◌, List, [], ◌∷◌, ◌++◌, if◌then◌else◌}
use Rattle.std.specs.{BTreeMap.BTreeMap, BTreeMap.IsOrdered, BTreeMap.get, List.All, Option.unwrap_or, Ordering.nat_cmp}
use Rattle.cs_base.specs.Limits.{most_asks}
use Rattle.cs_sched.specs.declared.due.Due.{Due}

-- the notes of all cycles, one cycle after another
abbrev pub all_dues : List (ℕ × List Due) → List Due
all_dues [] = []
all_dues ((cycle, dues) ∷ later) = dues ++ all_dues later

-- the notes that are stored for a cycle
abbrev pub at_cycle : BTreeMap ℕ (List Due) → ℕ → List Due
at_cycle m c = unwrap_or (get nat_cmp m c) []

-- a map has these notes for one cycle now, and for each other cycle the same as before
abbrev pub Puts : BTreeMap ℕ (List Due) → BTreeMap ℕ (List Due) → ℕ → List Due → Type 0
Puts old new k ds = (c : ℕ) → at_cycle new c ≡ (if c == k then ds else at_cycle old c)

-- each cycle occurs once, with only notes that begin in it; no more notes were added than allowed
pub record AreByCycle (m : BTreeMap ℕ (List Due)) (kept : ℕ) : Type 0 where
  pub ordered : IsOrdered nat_cmp m
  pub own : (c : ℕ) → All (λ d. d.cycle ≡ c) (at_cycle m c)
  pub few : kept ≤ most_asks
