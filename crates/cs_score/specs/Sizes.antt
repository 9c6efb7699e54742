-- Tables with the same number have the same size.
use Rattle.std.specs.Prelude.{◌≡◌, List, [], ◌∷◌, All}
use Rattle.cs_score.specs.{declared.statement.ScoreWhat.ScoreWhat, declared.statement.ScoreStmt.ScoreStmt}
use Rattle.cs_score.specs.declared.statement.ScoreWhat.TheVariants.{Table}

-- if two statements are tables with the same number, they have the same size
abbrev pub IsOneSize : ScoreWhat → ScoreWhat → Type 0
IsOneSize (Table m at size gen args) (Table n at' size' gen' args') = m ≡ n → size ≡ size'
IsOneSize _ _ = Unit {0}

-- any two of these statements satisfy this
abbrev pub HaveOneSize : List ScoreStmt → Type 0
HaveOneSize [] = Unit {0}
HaveOneSize (s ∷ later) = All (λ (u : ScoreStmt). IsOneSize s.what u.what) later × HaveOneSize later
