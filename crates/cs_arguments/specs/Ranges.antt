-- How many workers and notes the arguments can ask for.
use Rattle.std.specs.Prelude.{ℕ, ◌≤◌}

-- the highest number of workers that share the notes of a cycle
abbrev pub most_workers : ℕ
most_workers = 32

-- the highest number of notes of the demo
abbrev pub most_demo_notes : ℕ
most_demo_notes = 10000

-- a number from 1 to `most`
abbrev pub IsFromOneTo : ℕ → ℕ → Type 0
IsFromOneTo most n = (1 ≤ n) × (n ≤ most)
