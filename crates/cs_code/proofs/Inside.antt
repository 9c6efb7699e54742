-- The conditions of the simulation on registers and statements: kept values have separate registers, only
-- opcodes with a result assign one, and the conditions of an `if` that is performed once are kept.
use Rattle.std.proofs.Common.{◌≡◌, ◌∙◌, ℕ, zero, suc, ◌+◌, true, List, [], ◌∷◌, Option, Some, sym, ap, subst, arith}
use Rattle.std.proofs.Common.{add-zero}
use Rattle.cs_words.specs.declared.catalogue.Opcode.{Opcode}
use Rattle.cs_ir.specs.Machine.{gives}
use Rattle.cs_meaning.specs.Core.{Stmt, Block, Arms, unit, zak, choose, no_stmt, andthen, otherwise, arm}
use Rattle.cs_meaning.specs.{Notes.Path, Notes.next, When.When, When.beginning, When.cycle}
use Rattle.cs_typed.specs.{WellRated.node_rate, declared.tree.Var.Var as Variable}
use Rattle.cs_code.specs.{declared.frame.Progress.Progress, inner.Kept.parts, inner.Kept.inward}
use Rattle.cs_base.specs.declared.resource.Rate.TheVariants as rate
use Rattle.cs_meaning.specs.Notes as meaning

-- Kept values with different paths have different registers.
abbrev pub AreApart : (Path → Option ℕ) → Type 0
AreApart placed = (p q : Path) (n : ℕ) → placed p ≡ Some n → placed q ≡ Some n → p ≡ q

-- The registers of the values kept at a path, or in the parts from a path on, are given by numbers.
abbrev pub Lays : (Path → Option ℕ) → Path → (Path → Option ℕ) → Type 0
Lays placed p n = (q : Path) → placed (inward q p) ≡ n q

abbrev pub behind : ℕ → Path → Path
behind zero p = p
behind (suc k) p = behind k (next p)

abbrev pub LaysOn : (Path → Option ℕ) → Path → (Path → Option ℕ) → Type 0
LaysOn placed p n = (k : ℕ) (q : Path) → placed (inward q (behind k p)) ≡ n (k ∷ q)

pub behind_is : (k n : ℕ) (p : Path) → behind k (n ∷ p) ≡ (k + n) ∷ p
behind_is zero n p = ap (λ j. j ∷ p) (none n)
  where
    none : (n : ℕ) → n ≡ 0 + n
    none n = omega arith
behind_is (suc k) n p = behind_is k (suc n) p ∙ ap (λ j. j ∷ p) (further k n)
  where
    further : (k n : ℕ) → k + suc n ≡ suc k + n
    further k n = omega arith

-- the parts inside a path
pub lays_on : (placed : Path → Option ℕ) (p : Path) (n : Path → Option ℕ) → Lays placed p n → LaysOn placed (0 ∷ p) n
lays_on placed p n h k q =
    subst (λ r. placed (inward q r) ≡ n (k ∷ q)) (sym (behind_is k 0 p ∙ ap (λ j. j ∷ p) (add-zero k))) (h (k ∷ q))

-- the place of the tree with a path and the number of a unit
abbrev pub stands_at : Path → Progress → meaning.StatementPlace
stands_at path p = record { path = path; unit = p.unit }

-- if kept values are read, they have their registers
abbrev pub Reads : When → Type 0 → Type 0
Reads beginning A = Unit {0}
Reads cycle A = A

pub reads_on : (when : When) (placed : Path → Option ℕ) (p : Path) (n : Path → Option ℕ)
    → Reads when (Lays placed p n) → Reads when (LaysOn placed (0 ∷ p) n)
reads_on beginning placed p n h = tt
reads_on cycle placed p n h = lays_on placed p n h

pub reads_first : (when : When) (placed : Path → Option ℕ) (p : Path) (n m : Path → Option ℕ)
    → Reads when (LaysOn placed p (parts n m)) → Reads when (Lays placed p n)
reads_first beginning placed p n m h = tt
reads_first cycle placed p n m h = λ q. h 0 q

pub reads_rest : (when : When) (placed : Path → Option ℕ) (p : Path) (n m : Path → Option ℕ)
    → Reads when (LaysOn placed p (parts n m)) → Reads when (LaysOn placed (next p) m)
reads_rest beginning placed p n m h = tt
reads_rest cycle placed p n m h = λ k q. h (suc k) q

-- a result variable exists only if the opcode has a result
abbrev pub Takes : Opcode → List Variable → Type 0
Takes opcode [] = Unit {0}
Takes opcode (v ∷ vs) = gives opcode ≡ true

-- all conditions are kept
abbrev pub AllStill : Arms → Type 0
AllStill (otherwise b) = Unit {0}
AllStill (arm c b rest) = (node_rate c ≡ rate.Init) × AllStill rest

abbrev mutual
  pub SuitsStmt : Stmt → Type 0
  SuitsStmt (unit r vs opcode reach xs is) = Takes opcode vs
  SuitsStmt (zak r vs opcode reach xs) = Takes opcode vs
  SuitsStmt (choose r arms) = (r ≡ rate.Init → AllStill arms) × SuitsArms arms
  SuitsStmt a = Unit {0}

  pub SuitsBlock : Block → Type 0
  SuitsBlock no_stmt = Unit {0}
  SuitsBlock (andthen s b) = SuitsStmt s × SuitsBlock b

  pub SuitsArms : Arms → Type 0
  SuitsArms (otherwise b) = SuitsBlock b
  SuitsArms (arm c b rest) = SuitsBlock b × SuitsArms rest
