-- Typed arms, followed by others.
use Rattle.std.proofs.Common.{◌≡◌, ◌++◌, List, [], ◌∷◌, refl, ap}
use Rattle.cs_typed.specs.declared.tree.TypedArm.{TypedArm, out-TypedArm}
use Rattle.cs_typed.specs.TypedTree.{Arms, arm, otherwise, Block, no_stmt, andthen, expression, block, arms, then_block}

-- the mirror of a list of arms, with these routines, followed by others
abbrev pub with_arms : List Block → List TypedArm → Arms → Arms
with_arms rs [] rest = rest
with_arms rs (a ∷ more) rest =
    arm (expression (out-TypedArm a).cond) (block rs (out-TypedArm a).body.items) (with_arms rs more rest)

pub one_more_arm : (rs : List Block) (done : List TypedArm) (a : TypedArm) (rest : Arms)
    → with_arms rs (done ++ a ∷ []) rest ≡ with_arms rs done (with_arms rs (a ∷ []) rest)
one_more_arm rs [] a rest = refl
one_more_arm rs (x ∷ done) a rest =
    ap (λ r. arm (expression (out-TypedArm x).cond) (block rs (out-TypedArm x).body.items) r)
    (one_more_arm rs done a rest)

pub arms_with : (rs : List Block) (done : List TypedArm) (els : Block)
    → with_arms rs done (otherwise els) ≡ arms rs els done
arms_with rs [] els = refl
arms_with rs (x ∷ done) els =
    ap (λ r. arm (expression (out-TypedArm x).cond) (block rs (out-TypedArm x).body.items) r) (arms_with rs done els)

pub then_nothing : (b : Block) → then_block b no_stmt ≡ b
then_nothing no_stmt = refl
then_nothing (andthen s rest) = ap (λ r. andthen s r) (then_nothing rest)
