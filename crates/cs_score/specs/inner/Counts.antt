-- The counts over the statements so far, and the statements that are stored.
use Rattle.std.specs.Prelude.{◌≡◌, ℕ, ◌≤◌, ◌==◌, length, count_by, List, [], None, Ok}
use Rattle.std.specs.List.{list_any}
use Rattle.cs_base.specs.{Limits.most_events, Lines.Excerpt}
use Rattle.cs_score.specs.{declared.kept.TableNumbers.TableNumbers, declared.kept.EventCount.EventCount}
use Rattle.cs_score.specs.{declared.statement.ScoreStmt.ScoreStmt, Statements.score_of}
use Rattle.cs_score.specs.declared.kept.KeptStatements.{KeptStatements}
use Rattle.cs_score.specs.Limits.{at_statement, counts, different, first_at, numbers_of, passes_events, passes_tables}
use Rattle.cs_base.specs.declared.limit.Limit.TheVariants as limit

-- the numbers seen so far: each number of a list, once
pub record IsSeen (seen numbers : List ℕ) : Type 0 where
  pub each : (m : ℕ) → list_any (λ n. n == m) seen ≡ list_any (λ n. n == m) numbers
  pub count : length seen ≡ different numbers

-- the table numbers of these statements, until they exceed their limit
pub record HasNumbers (all : List ScoreStmt) (tables : TableNumbers) : Type 0 where
  pub hit : tables.hit ≡ at_statement limit.Tables (first_at passes_tables [] all)
  pub seen : tables.hit ≡ None → IsSeen tables.seen.items (numbers_of all)

-- the number of these statements, until it exceeds its limit
pub record HasCount (all : List ScoreStmt) (events : EventCount) : Type 0 where
  pub hit : events.hit ≡ at_statement limit.Events (first_at passes_events [] all)
  pub count : events.hit ≡ None → events.count ≡ count_by counts all
  pub few : events.hit ≡ None → events.count ≤ most_events

-- the stored statements: all of these, until they exceed a limit
pub record Holds (all : List ScoreStmt) (kept : KeptStatements) : Type 0 where
  pub tables : HasNumbers all kept.tables
  pub events : HasCount all kept.events
  pub all_kept : kept.tables.hit ≡ None → kept.events.hit ≡ None → kept.statements ≡ all

-- the complete text was read: its statements, and the stored ones
pub record IsWhole (text : Excerpt) (kept : KeptStatements) : Type 0 where
  pub all : List ScoreStmt
  pub read : score_of text ≡ Ok all
  pub holds : Holds all kept
