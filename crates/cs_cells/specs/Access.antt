-- How a bank's cells may be accessed.
use Rattle.std.specs.Prelude.{ℕ, ◌<◌}

-- Which cells may be read, which may be set, and how many cells there are.
pub record Access : Type 1 where
  pub can_get : ℕ → Type 0
  pub can_set : ℕ → Type 0
  pub count : ℕ

-- There are n cells, and each may be read and set.
abbrev pub full_access : ℕ → Access
full_access n = record { can_get = λ a. a < n; can_set = λ a. a < n; count = n }

-- Every used cell exists and may be read, and every written cell may be set.
pub record Allows (access : Access) (uses writes : ℕ → Type 0) : Type 0 where
  pub get : (a : ℕ) → uses a → access.can_get a
  pub set : (a : ℕ) → writes a → access.can_set a
  pub there : (a : ℕ) → uses a → a < access.count

-- The first n cells exist, and may be read and set.
abbrev pub AllowsBelow : Access → ℕ → Type 0
AllowsBelow access n = Allows access (λ a. a < n) (λ a. a < n)
