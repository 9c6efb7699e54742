-- Routines in a list: a routine keeps its index and its body.
use Rattle.std.proofs.Common.{◌≡◌, ◌∙◌, ◌+◌, ◌<◌, ◌++◌, ℕ, zero, suc, List, [], ◌∷◌, length, Vec, Global, refl, sym, ap}
use Rattle.std.proofs.Common.{arith}
use Rattle.cs_typed.specs.declared.tree.TypedStmt.{TypedStmt}
use Rattle.cs_typing.specs.{inner.Routines.Routine, Known.Shared, inner.Listed.IsTyped}
use Rattle.cs_typing.specs.declared.routines.TypedDefinition.{TypedDefinition}
use Rattle.cs_typed.proofs.Moved.{then_again}
use Rattle.cs_typing.proofs.Joined.{then_nothing}
use Rattle.cs_typed.specs.TypedTree as typed

-- the statements of two lists
pub block_both : (rs : List typed.Block) (xs ys : List TypedStmt)
    → typed.block rs (xs ++ ys) ≡ typed.then_block (typed.block rs xs) (typed.block rs ys)
block_both rs [] ys = refl
block_both rs (x ∷ xs) ys =
    ap (λ r. typed.then_block (typed.statement rs x) r) (block_both rs xs ys)
    ∙ sym (then_again (typed.statement rs x) (typed.block rs xs) (typed.block rs ys))

pub one_more : (rs : List typed.Block) (xs : List TypedStmt) (y : TypedStmt)
    → typed.block rs (xs ++ y ∷ []) ≡ typed.then_block (typed.block rs xs) (typed.statement rs y)
one_more rs xs y =
    block_both rs xs (y ∷ []) ∙ ap (λ b. typed.then_block (typed.block rs xs) b) (then_nothing (typed.statement rs y))

-- ---- the list of routines

abbrev Bodies : Type 0
Bodies = List (Vec TypedStmt Global)

more_both : (rs : List typed.Block) (list : Bodies) (r : Vec TypedStmt Global) → typed.more_routines rs (list ++ r ∷ [])
    ≡ typed.more_routines rs list ++ typed.block (typed.more_routines rs list) r.items ∷ []
more_both rs [] r = refl
more_both rs (x ∷ list) r = more_both (rs ++ typed.block rs x.items ∷ []) list r

-- one more routine
pub routines_more : (list : Bodies) (r : Vec TypedStmt Global)
    → typed.routines (list ++ r ∷ []) ≡ typed.routines list ++ typed.block (typed.routines list) r.items ∷ []
routines_more list r = more_both [] list r

pub length_both : {A : Type 0} (xs ys : List A) → length (xs ++ ys) ≡ length xs + length ys
length_both [] ys = omega arith
length_both (x ∷ xs) ys = let rest = length_both xs ys in omega (arith, rest)

more_length : (rs : List typed.Block) (list : Bodies) → length (typed.more_routines rs list) ≡ length rs + length list
more_length rs [] = omega arith
more_length rs (x ∷ list) =
    let rest = more_length (rs ++ typed.block rs x.items ∷ []) list in
    let one = length_both rs (typed.block rs x.items ∷ []) in omega (arith, rest, one)

-- there are as many routines as bodies
pub routines_length : (list : Bodies) → length (typed.routines list) ≡ length list
routines_length list = let all = more_length [] list in omega (arith, all)

-- a routine of a list with more routines after it
pub at_front : (rs more : List typed.Block) (k : ℕ) → k < length rs
    → typed.routine_at (rs ++ more) k ≡ typed.routine_at rs k
at_front [] more k h = absurd (omega (arith, h))
at_front (r ∷ rs) more zero h = refl
at_front (r ∷ rs) more (suc k) h = at_front rs more k (omega (arith, h))

-- the last routine
pub at_end : (rs : List typed.Block) (b : typed.Block) → typed.routine_at (rs ++ b ∷ []) (length rs) ≡ b
at_end [] b = refl
at_end (r ∷ rs) b = at_end rs b

-- a typed definition remains valid if there are more routines
pub typed_on : (channels : ℕ) (g : Shared) (r : Routine) (it : TypedDefinition) (blocks more : List typed.Block)
    → IsTyped channels g r it blocks → IsTyped channels g r it (blocks ++ more)
typed_on channels g r it blocks more h = record {
  fault = h.fault;
  shared = h.shared;
  within = let all = length_both blocks more in let here = h.within in omega (arith, all, here);
  block = h.block ∙ sym (at_front blocks more it.routine h.within);
  locals = h.locals;
  slots = h.slots;
}
