-- The number of notes that the statements of an instrument can schedule, and the pieces in which this number
-- is small.
use Rattle.std.specs.Prelude.{ℕ, ℤ, ◌≡◌, ◌≤◌, ◌+◌, length, Some}
use Rattle.cs_base.specs.Limits.{most_events, most_statements}
use Rattle.cs_meaning.specs.Core.{Stmt, Block, Arms, ask, choose, no_stmt, andthen, otherwise, arm}
use Rattle.cs_piece_meaning.specs.Moments.{Composition}

-- the number of statements that schedule a note, including those in all arms of an `if`
abbrev mutual
  pub asks_in_stmt : Stmt → ℕ
  asks_in_stmt (ask es) = 1
  asks_in_stmt (choose r arms) = asks_in_arms arms
  asks_in_stmt _ = 0

  pub asks_in : Block → ℕ
  asks_in no_stmt = 0
  asks_in (andthen s b) = asks_in_stmt s + asks_in b

  pub asks_in_arms : Arms → ℕ
  asks_in_arms (otherwise b) = asks_in b
  asks_in_arms (arm c b rest) = asks_in b + asks_in_arms rest

-- There are at most as many events as a score may have statements, and an instrument schedules at most as
-- many notes as it may have statements.
pub record IsBounded (c : Composition) : Type 0 where
  pub events : length c.events ≤ most_events
  pub instruments : (z : ℤ) (body : Block) → c.instrument z ≡ Some body → asks_in body ≤ most_statements
