-- A measure of the work that is left when a definition is processed at a call of it: the body of a definition
-- weighs less than the definitions before any later point.
use Rattle.std.proofs.Common.{◌≡◌, ◌+◌, ◌<◌, ℕ, zero, suc, List, [], ◌∷◌, length, slice_get, take, get_or, Some, ap}
use Rattle.std.proofs.Common.{arith}
use Rattle.std.proofs.lemmas.Option.{none-some, same_Some}
use Rattle.cs_grammar.specs.declared.tree.Arm.{Arm as Arm', out-Arm}
use Rattle.cs_grammar.specs.{declared.tree.OrcStmt.OrcStmt, Tree.Definition}
use Rattle.cs_grammar.specs.Tree.{Statement, set, call, choose, Block, no_stmt, andthen, Arms, otherwise, arm}
use Rattle.cs_grammar.specs.Tree as tree

abbrev mutual
  pub weight : Statement → ℕ
  weight (set line x e) = 4
  weight (call line xs c args) = 4
  weight (choose line list) = 2 + weight_of_arms list

  pub weight_of : Block → ℕ
  weight_of no_stmt = 1
  weight_of (andthen x rest) = 1 + weight x + weight_of rest

  pub weight_of_arms : Arms → ℕ
  weight_of_arms (otherwise b) = 1 + weight_of b
  weight_of_arms (arm c b rest) = 2 + weight_of b + weight_of_arms rest

-- the weight of definitions
abbrev pub weight_of_all : List Definition → ℕ
weight_of_all [] = 0
weight_of_all (d ∷ ds) = 1 + weight_of d.body + weight_of_all ds

-- the weight of the definitions before an index
abbrev pub weight_before : List Definition → ℕ → ℕ
weight_before ds k = weight_of_all (take k ds)

-- a definition weighs less than the definitions before a later index
pub lighter : (ds : List Definition) (k n : ℕ) (d : Definition) → k < n → slice_get ds k ≡ Some d
    → weight_before ds k + weight_of d.body < weight_before ds n
lighter [] k n d lt e = absurd (none-some d e)
lighter (c ∷ ds) k zero d lt e = absurd (omega (arith, lt))
lighter (c ∷ ds) zero (suc n) d lt e =
    let same : weight_of c.body ≡ weight_of d.body = ap (λ x. weight_of x.body) (same_Some c d e) in
    omega (arith, same)
lighter (c ∷ ds) (suc k) (suc n) d lt e =
    let rest = lighter ds k n d (omega (arith, lt)) e in omega (arith, rest)

-- a statement weighs less than the block that contains it
pub stmt_lighter : (list : List OrcStmt) (i : ℕ) (x : OrcStmt) → i < length list → x ≡ get_or list i x
    → weight (tree.statement x) < weight_of (tree.block list)
stmt_lighter [] i x lt e = absurd (omega (arith, lt))
stmt_lighter (y ∷ list) zero x lt e =
    let same : weight (tree.statement x) ≡ weight (tree.statement y) = ap (λ z. weight (tree.statement z)) e in
    omega (arith, same)
stmt_lighter (y ∷ list) (suc i) x lt e =
    let rest = stmt_lighter list i x (omega (arith, lt)) e in omega (arith, rest)

-- the weight of the bodies of arms
abbrev pub weight_of_bodies : List Arm' → ℕ
weight_of_bodies [] = 1
weight_of_bodies (a ∷ rest) = 2 + weight_of (tree.block (out-Arm a).body.items) + weight_of_bodies rest

pub arm_lighter : (list : List Arm') (i : ℕ) (a : Arm') → i < length list → a ≡ get_or list i a
    → 1 + weight_of (tree.block (out-Arm a).body.items) < weight_of_bodies list
arm_lighter [] i a lt e = absurd (omega (arith, lt))
arm_lighter (b ∷ list) zero a lt e =
    let same : weight_of (tree.block (out-Arm a).body.items) ≡ weight_of (tree.block (out-Arm b).body.items) =
    ap (λ z. weight_of (tree.block (out-Arm z).body.items)) e in
    omega (arith, same)
arm_lighter (b ∷ list) (suc i) a lt e =
    let rest = arm_lighter list i a (omega (arith, lt)) e in omega (arith, rest)

-- the arms of an `if`, and the statements after `else`
pub arms_weigh : (els : Block) (list : List Arm')
    → weight_of_arms (tree.arms els list) ≡ weight_of_bodies list + weight_of els
arms_weigh els [] = omega arith
arms_weigh els (a ∷ rest) = let more = arms_weigh els rest in omega (arith, more)
