use Rattle.std.proofs.Common.{◌≡◌, ◌+◌, ◌*◌, ◌++◌, ℕ, List, drop, length}
use Rattle.std.specs.List.{AllZip}
use Rattle.cs_ir.specs.Drafts.{IsAt, drafted, library_of}
use Rattle.cs_code.specs.inner.Branches.{branches, each_code, jumps, opened, past_list}
use Rattle.cs_code.specs.{inner.Code.pass_block_code, inner.Kept.past_block, inner.Served.Serve}
use Rattle.cs_code.specs.inner.Emitted.{block_in, scope_of}
use Rattle.cs_code.proofs.Growing.{Leads}
use Rattle.cs_code.proofs.Weights.{all_weight, body_weight, list_weight, one_weight}
use Rattle.cs_typed.specs.TypedTree as typed
use Rattle.cs_code.proofs.stmt.+stmt.Given as goal

-- the code so far, and the code that the rest will add
abbrev pub invariant-block-loop-s : goal.invariant-block-loop-s
invariant-block-loop-s l =
    (rs : List typed.Block) → Serve l.context.pass l.context.spaces rs (library_of l.initial.ops) l.extents
    → let o = scope_of l.context.spaces rs in
    (library_of l.ops ≡ library_of l.initial.ops) × Leads l.initial.ops l.ops
    (pass_block_code l.context.pass (length (drafted l.ops)) l.next (block_in o (drop l.s-index l.stmts)))
    (pass_block_code l.context.pass (length (drafted l.initial.ops)) l.fn.p (block_in o l.stmts))
    × (past_block l.next (block_in o (drop l.s-index l.stmts)) ≡ past_block l.fn.p (block_in o l.stmts))

abbrev pub invariant-arms_of-loop-a : goal.invariant-arms_of-loop-a
invariant-arms_of-loop-a l =
    (rs : List typed.Block) → Serve l.context.pass l.context.spaces rs (library_of l.initial.ops) l.extents
    → let o = scope_of l.context.spaces rs in
    let made = branches l.context.pass o (length (drafted l.initial.ops)) l.fn.p l.arms in
    let rest = branches l.context.pass o (length (drafted l.ops)) l.next (drop l.a-index l.arms) in
    (library_of l.ops ≡ library_of l.initial.ops)
    × Leads l.initial.ops l.ops (opened (length (drafted l.ops)) rest) (opened (length (drafted l.initial.ops)) made)
    × ((places : List ℕ) → AllZip (IsAt l.initial.ops) l.initial.ends.items places
    → (now : List ℕ) × AllZip (IsAt l.ops) l.ends.items now
    × (now ++ jumps (length (drafted l.ops)) rest ≡ places ++ jumps (length (drafted l.initial.ops)) made))
    × (past_list o l.next (drop l.a-index l.arms) ≡ past_list o l.fn.p l.arms)

abbrev pub invariant-each_arm-loop-a : goal.invariant-each_arm-loop-a
invariant-each_arm-loop-a l =
    (rs : List typed.Block) → Serve l.context.pass l.context.spaces rs (library_of l.initial.ops) l.extents
    → let o = scope_of l.context.spaces rs in
    (library_of l.ops ≡ library_of l.initial.ops)
    × Leads l.initial.ops l.ops (each_code o (length (drafted l.ops)) l.next (drop l.a-index l.arms))
    (each_code o (length (drafted l.initial.ops)) l.fn.p l.arms)
    × (past_list o l.next (drop l.a-index l.arms) ≡ past_list o l.fn.p l.arms)

-- the weight of the remaining statements
abbrev pub decreases-block : goal.decreases-block
decreases-block l = 4 * all_weight l.stmts.now + 3

abbrev pub decreases-stmt : goal.decreases-stmt
decreases-stmt l = 4 * one_weight l.s.now + 2

abbrev pub decreases-arms_of : goal.decreases-arms_of
decreases-arms_of l = 4 * list_weight l.arms.now + 1

abbrev pub decreases-each_arm : goal.decreases-each_arm
decreases-each_arm l = 4 * list_weight l.arms.now + 1

abbrev pub decreases-arm : goal.decreases-arm
decreases-arm l = 4 * body_weight l.arm.now + 4

abbrev pub decreases-one_arm : goal.decreases-one_arm
decreases-one_arm l = 4 * body_weight l.arm.now + 4
