-- The arms of an `if` of which one is performed, one after another, and the jumps past the remaining ones.
use Rattle.std.specs.Prelude.{ℕ, ◌≡◌, ◌+◌, ◌++◌, List, [], ◌∷◌, length}
use Rattle.cs_ir.specs.{Codes.aim, declared.op.Op.Op, declared.register.Reg.Reg}
use Rattle.cs_ir.specs.Drafts.{Draft, IsAt, drafted, library_of}
use Rattle.cs_meaning.specs.Core.{Block}
use Rattle.cs_code.specs.{declared.frame.Progress.Progress, declared.frame.Pass.Pass, inner.Spots.op_of}
use Rattle.cs_code.specs.inner.Kept.{past, past_parts, past_block}
use Rattle.cs_typed.specs.{TypedTree.Expression, declared.tree.TypedArm.TypedArm, declared.tree.TypedArm.out-TypedArm}
use Rattle.cs_code.specs.inner.Code.{pass_block_code, cond_code, cond_reg, arm_code}
use Rattle.cs_code.specs.inner.Emitted.{Scope, block_in, each_arm_code}
use Rattle.cs_ir.specs.declared.op.Act.TheVariants as act
use Rattle.cs_typed.specs.TypedTree as typed

-- An arm: the code of its condition, the register that holds the condition, the code of its body.
pub record Branch : Type 0 where
  pub cond : List Op
  pub q : Reg
  pub body : List Op

-- the place after an arm, and after arms
abbrev pub past_branch : ℕ → Branch → ℕ
past_branch place b = place + length b.cond + 1 + length b.body + 1

-- the place after arms
abbrev pub after : ℕ → List Branch → ℕ
after place [] = place
after place (b ∷ bs) = after (past_branch place b) bs

-- arms, followed by the statements after `else`
abbrev pub chain : ℕ → List Branch → List Op → List Op
chain place [] els = els
chain place (b ∷ bs) els = arm_code place b.cond b.q b.body (chain (past_branch place b) bs els)

-- an arm whose jump goes to the place `end`
abbrev pub joined : ℕ → Branch → ℕ → List Op
joined place b end =
    b.cond ++ (op_of (act.Unless (past_branch place b)) b.q (b.q ∷ [])
    ∷ (b.body ++ (op_of (act.Jump end) b.q [] ∷ [])))

-- arms whose jumps to the end have target 0
abbrev pub opened : ℕ → List Branch → List Op
opened place [] = []
opened place (b ∷ bs) = joined place b 0 ++ opened (past_branch place b) bs

-- the place of the jump of an arm
abbrev pub jump_at : ℕ → Branch → ℕ
jump_at place b = place + length b.cond + 1 + length b.body

-- the places of the jumps of arms
abbrev pub jumps : ℕ → List Branch → List ℕ
jumps place [] = []
jumps place (b ∷ bs) = jump_at place b ∷ jumps (past_branch place b) bs

-- ops in which the target of the jumps at some places is set to an end
abbrev pub aim_all : List ℕ → ℕ → List Op → List Op
aim_all [] end ops = ops
aim_all (n ∷ ns) end ops = aim_all ns end (aim n end ops)

-- The target of the jumps at some places is the end of the draft; everything else is unchanged.
pub record AllAimed (old new : Draft) (places : List ℕ) : Type 0 where
  pub ops : drafted new ≡ aim_all places (length (drafted old)) (drafted old)
  pub routines : library_of new ≡ library_of old
  pub marks : (mark place : ℕ) → IsAt old mark place → IsAt new mark place

-- the condition of an arm of the tree
abbrev pub condition_of : TypedArm → Expression
condition_of a = typed.expression (out-TypedArm a).cond

-- the body of an arm of the tree
abbrev pub body_of : Scope → TypedArm → Block
body_of o a = block_in o (out-TypedArm a).body.items

-- the progress after an arm
abbrev pub past_arm : Scope → Progress → TypedArm → Progress
past_arm o p a = past_block (past_parts (past p.part (condition_of a)) p) (body_of o a)

-- the progress after arms
abbrev pub past_list : Scope → Progress → List TypedArm → Progress
past_list o p [] = p
past_list o p (a ∷ rest) = past_list o (past_arm o p a) rest

-- the codes of an arm at a place
abbrev pub branch_of : Pass → Scope → ℕ → Progress → TypedArm → Branch
branch_of way o place p a = let c = condition_of a in record {
  cond = cond_code way p.part c;
  q = cond_reg way p.part c;
  body = pass_block_code way (place + length (cond_code way p.part c) + 1) (past_parts (past p.part c) p)
      (body_of o a);
}

-- the codes of arms one after another
abbrev pub branches : Pass → Scope → ℕ → Progress → List TypedArm → List Branch
branches way o place p [] = []
branches way o place p (a ∷ rest) = let b = branch_of way o place p a in
    b ∷ branches way o (past_branch place b) (past_arm o p a) rest

-- the code of arms that are all initialised
abbrev pub each_code : Scope → ℕ → Progress → List TypedArm → List Op
each_code o place p [] = []
each_code o place p (a ∷ rest) = let one = each_arm_code place p (condition_of a) (body_of o a) in
    one ++ each_code o (place + length one) (past_arm o p a) rest
