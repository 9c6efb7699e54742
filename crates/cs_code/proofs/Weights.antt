-- The weight of statements, a number that decreases from each part of the tree to the parts in it.
use Rattle.std.proofs.Common.{◌≡◌, ◌<◌, ◌≤◌, ◌+◌, ◌*◌, ◌∷◌, [], ℕ, zero, suc, List, length, get_or, arith, refl, ap}
use Rattle.cs_base.specs.declared.resource.Rate.{Rate}
use Rattle.cs_typed.specs.TypedTree as typed
use Rattle.cs_typed.specs.declared.tree.TypedArm.{TypedArm, out-TypedArm}
use Rattle.cs_typed.specs.declared.tree.TypedStmt.{TypedStmt}

abbrev mutual
  pub stmt_weight : typed.Statement → ℕ
  stmt_weight (typed.choose line r list) = suc (arms_weight list)
  stmt_weight a = 0

  pub block_weight : typed.Block → ℕ
  block_weight typed.no_stmt = 0
  block_weight (typed.andthen s rest) = stmt_weight s + block_weight rest

  pub arms_weight : typed.Arms → ℕ
  arms_weight (typed.otherwise b) = block_weight b
  arms_weight (typed.arm c b rest) = suc (block_weight b) + arms_weight rest

-- the weight of a statement of the code's tree, in which invoked routines count for nothing
abbrev pub one_weight : TypedStmt → ℕ
one_weight s = block_weight (typed.statement [] s)

abbrev pub all_weight : List TypedStmt → ℕ
all_weight ss = block_weight (typed.block [] ss)

abbrev pub body_weight : TypedArm → ℕ
body_weight a = all_weight (out-TypedArm a).body.items

abbrev pub list_weight : List TypedArm → ℕ
list_weight arms = arms_weight (typed.arms [] typed.no_stmt arms)

both_weigh : (a b : typed.Block) → block_weight (typed.then_block a b) ≡ block_weight a + block_weight b
both_weigh typed.no_stmt b = omega arith
both_weigh (typed.andthen s rest) b =
    let more = both_weigh rest b in
    let all : stmt_weight s + block_weight (typed.then_block rest b)
    ≡ (stmt_weight s + block_weight rest) + block_weight b = omega (arith, more) in
    all

pub one_in_all : (ss : List TypedStmt) (i : ℕ) (x : TypedStmt) → i < length ss → x ≡ get_or ss i x
    → one_weight x ≤ all_weight ss
one_in_all [] i x low e = absurd (omega (arith, low))
one_in_all (s ∷ ss) zero x low e =
    let all : all_weight (s ∷ ss) ≡ one_weight s + all_weight ss =
    both_weigh (typed.statement [] s) (typed.block [] ss) in
    let same : one_weight x ≡ one_weight s = ap one_weight e in
    omega (arith, all, same)
one_in_all (s ∷ ss) (suc i) x low e =
    let all : all_weight (s ∷ ss) ≡ one_weight s + all_weight ss =
    both_weigh (typed.statement [] s) (typed.block [] ss) in
    let more : one_weight x ≤ all_weight ss = one_in_all ss i x (omega (arith, low)) e in
    omega (arith, all, more)

pub body_in_list : (arms : List TypedArm) (i : ℕ) (a : TypedArm) → i < length arms → a ≡ get_or arms i a
    → body_weight a < list_weight arms
body_in_list [] i a low e = absurd (omega (arith, low))
body_in_list (x ∷ arms) zero a low e =
    let all : list_weight (x ∷ arms) ≡ suc (body_weight x) + list_weight arms = refl in
    let same : body_weight a ≡ body_weight x = ap body_weight e in
    omega (arith, all, same)
body_in_list (x ∷ arms) (suc i) a low e =
    let all : list_weight (x ∷ arms) ≡ suc (body_weight x) + list_weight arms = refl in
    let more : body_weight a < list_weight arms = body_in_list arms i a (omega (arith, low)) e in
    omega (arith, all, more)

-- an `if` weighs more than its arms and the statements after `else` together
arms_and_else : (els : typed.Block) (arms : List TypedArm)
    → arms_weight (typed.arms [] els arms) ≡ list_weight arms + block_weight els
arms_and_else els [] = omega arith
arms_and_else els (a ∷ arms) =
    let wider : arms_weight (typed.arms [] els (a ∷ arms))
    ≡ suc (body_weight a) + arms_weight (typed.arms [] els arms) = refl in
    let all : list_weight (a ∷ arms) ≡ suc (body_weight a) + list_weight arms = refl in
    let more : arms_weight (typed.arms [] els arms) ≡ list_weight arms + block_weight els = arms_and_else els arms in
    omega (arith, wider, all, more)

pub choice_less : (t line : ℕ) (r : Rate) (s : TypedStmt) (els : List TypedStmt) (arms : List TypedArm)
    → 4 * one_weight s + 2 ≡ t
    → typed.statement [] s ≡ typed.alone (typed.choose line r (typed.arms [] (typed.block [] els) arms))
    → (4 * list_weight arms + 1 < t) × (4 * all_weight els + 3 < t)
choice_less t line r s els arms start e =
    let more : arms_weight (typed.arms [] (typed.block [] els) arms) ≡ list_weight arms + all_weight els =
    arms_and_else (typed.block [] els) arms in
    let same : one_weight s ≡ suc (arms_weight (typed.arms [] (typed.block [] els) arms)) + 0 = ap block_weight e in
    (omega (arith, start, same, more), omega (arith, start, same, more))
