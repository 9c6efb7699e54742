-- The limits on table numbers and on statements, and the first limit that a score exceeds.
use Rattle.std.specs.Prelude.{◌≡◌, ℕ, ◌+◌, ◌==◌, Bool, true, false, nat_lt, count_by, List, [], ◌∷◌, ◌++◌, Option, Some}
use Rattle.std.specs.Prelude.{None, Result, Ok, Err, if◌then◌else◌}
use Rattle.std.specs.{List.list_any, Option.option_or}
use Rattle.cs_base.specs.Limits.{most_events, most_tables}
use Rattle.cs_base.specs.{declared.fault.ScoreFault.ScoreFault, declared.limit.Limit.Limit}
use Rattle.cs_base.specs.{declared.limit.LimitHit.LimitHit, declared.refusal.Refusal.Refusal}
use Rattle.cs_score.specs.{declared.statement.ScoreWhat.ScoreWhat, declared.statement.ScoreStmt.ScoreStmt}
use Rattle.cs_score.specs.declared.statement.ScoreWhat.TheVariants.{Table, Tempo, Section}
use Rattle.cs_base.specs.declared.limit.Limit.TheVariants as limit
use Rattle.cs_base.specs.declared.refusal.Refusal.TheVariants as refusal

-- the first item of a list for which a test passes; the test sees all items before it as well
unfoldable pub first_at : {A : Type 0} → (List A → A → Bool) → List A → List A → Option A
first_at passes before [] = None
first_at passes before (x ∷ later) =
    if passes (before ++ x ∷ []) x then Some x else first_at passes (before ++ x ∷ []) later

-- the number of a table statement, as a list
abbrev pub own_number : ScoreWhat → List ℕ
own_number (Table number at size gen args) = number ∷ []
own_number _ = []

-- the table numbers of a list of statements
unfoldable pub numbers_of : List ScoreStmt → List ℕ
numbers_of [] = []
numbers_of (s ∷ later) = own_number s.what ++ numbers_of later

-- the number of different numbers in a list; each is counted at its last place
unfoldable pub different : List ℕ → ℕ
different [] = 0
different (n ∷ later) =
    if list_any (λ m. m == n) later then different later else different later + 1

-- whether a statement counts towards the limit on `i` and `f` statements: notes, stops, tables and `f 0` do
abbrev pub is_counted : ScoreWhat → Bool
is_counted (Tempo points) = false
is_counted Section = false
is_counted _ = true

-- whether a statement with its line counts towards the limit
abbrev pub counts : ScoreStmt → Bool
counts s = is_counted s.what

-- whether the statements up to this one have more different table numbers than are allowed
abbrev pub passes_tables : List ScoreStmt → ScoreStmt → Bool
passes_tables upto s = nat_lt most_tables (different (numbers_of upto))

-- whether the statements up to this one have more `i` and `f` statements than are allowed
abbrev pub passes_events : List ScoreStmt → ScoreStmt → Bool
passes_events upto s = nat_lt most_events (count_by counts upto)

-- the limit hit at the line of a statement
abbrev pub at_statement : Limit → Option ScoreStmt → Option LimitHit
at_statement which None = None
at_statement which (Some s) = Some (record { limit = which; line = s.line })

-- the first limit that the statements exceed: the limit on table numbers, otherwise the limit on statements
abbrev pub limit_of_score : List ScoreStmt → Option LimitHit
limit_of_score score =
    option_or (at_statement limit.Tables (first_at passes_tables [] score))
    (at_statement limit.Events (first_at passes_events [] score))

-- the text has no fault, and this is the first limit that its statements exceed
abbrev pub Passes : LimitHit → Result (List ScoreStmt) ScoreFault → Type 0
Passes hit (Ok statements) = limit_of_score statements ≡ Some hit
Passes hit (Err fault) = ⊥

-- why a score is refused: its first fault, otherwise the first limit that its statements exceed
abbrev pub IsRefusedFor : Refusal → Result (List ScoreStmt) ScoreFault → Type 0
IsRefusedFor (refusal.Score fault) meant = meant ≡ Err fault
IsRefusedFor (refusal.Limit hit) meant = Passes hit meant
IsRefusedFor (refusal.Orc fault) meant = ⊥
IsRefusedFor (refusal.Csd fault) meant = ⊥
