-- Arms one after another, whose jumps get their target once the end is known.
use Rattle.std.proofs.Common.{◌≡◌, ◌∙◌, ◌+◌, ◌++◌, ℕ, true, false, List, [], ◌∷◌, length, arith, refl, sym, ap, subst}
use Rattle.std.specs.List.{AllZip}
use Rattle.std.proofs.lemmas.List.{append_assoc, length-append}
use Rattle.cs_base.specs.declared.resource.Rate.{Rate}
use Rattle.cs_ir.proofs.Drafting.{grew_on}
use Rattle.cs_ir.specs.{Codes.aim, Codes.aimed, declared.op.Op.Op, declared.register.Reg.Reg}
use Rattle.cs_ir.specs.Drafts.{Aimed, Draft, Grew, IsAt, drafted}
use Rattle.cs_meaning.specs.Core.{choose}
use Rattle.cs_typed.specs.{declared.tree.TypedArm.TypedArm, declared.tree.TypedStmt.TypedStmt}
use Rattle.cs_code.specs.{declared.frame.Pass.Pass, inner.Branches.past_list, inner.Spots.op_of}
use Rattle.cs_code.specs.declared.frame.Progress.{Progress}
use Rattle.cs_code.specs.inner.Branches.{AllAimed, Branch, past_branch, after, aim_all, body_of, branch_of, branches}
use Rattle.cs_code.specs.inner.Branches.{chain, condition_of, each_code, joined, jump_at, jumps, opened, past_arm}
use Rattle.cs_code.specs.inner.Code.{all_code, arm_code, chosen_code, init_block_code, keep_code, pass_block_code}
use Rattle.cs_code.specs.inner.Emitted.{Scope, arms_in, block_in, core_in, each_arm_code, takes_all}
use Rattle.cs_code.specs.inner.Kept.{past, past_parts, past_block, past_arms}
use Rattle.cs_code.proofs.Chains.{all_taken, alone_code, one_taken, taken_pass}
use Rattle.cs_code.proofs.{Growing.grew_long, Lists.zip_one, Lists.zip_still}
use Rattle.cs_ir.specs.declared.op.Act.TheVariants as act
use Rattle.cs_typed.specs.TypedTree as typed

-- ---- setting the target of one jump

pub aim_seam : (xs : List Op) (op : Op) (ys : List Op) (to : ℕ)
    → aim (length xs) to (xs ++ op ∷ ys) ≡ xs ++ op_of (aimed to op.act) op.into op.from ∷ ys
aim_seam [] op ys to = refl
aim_seam (x ∷ xs) op ys to = ap (λ l. x ∷ l) (aim_seam xs op ys to)

-- ---- an arm among other ops

-- the ops before its jump, the jump, and the ops after it
flat : (pre cond body : List Op) (test jump : Op) (rest : List Op)
    → pre ++ ((cond ++ (test ∷ (body ++ (jump ∷ [])))) ++ rest) ≡ (pre ++ (cond ++ (test ∷ body))) ++ (jump ∷ rest)
flat pre cond body test jump rest =
    ap (λ l. pre ++ l) (append_assoc cond (test ∷ (body ++ (jump ∷ []))) rest
    ∙ ap (λ l. cond ++ (test ∷ l)) (append_assoc body (jump ∷ []) rest)
    ∙ sym (append_assoc cond (test ∷ body) (jump ∷ rest)))
    ∙ sym (append_assoc pre (cond ++ (test ∷ body)) (jump ∷ rest))

joined_long : (place end : ℕ) (b : Branch) → place + length (joined place b end) ≡ past_branch place b
joined_long place end b =
    let jump : Op = op_of (act.Jump end) b.q [] in
    let test : Op = op_of (act.Unless (past_branch place b)) b.q (b.q ∷ []) in
    omega (arith, length-append b.cond (test ∷ (b.body ++ (jump ∷ []))), length-append b.body (jump ∷ []))

-- the end of an arm and of the arms after it
arm_end : (place : ℕ) (cond : List Op) (q : Reg) (body rest : List Op)
    → place + length (arm_code place cond q body rest) ≡ place + length cond + 1 + length body + 1 + length rest
arm_end place cond q body rest =
    let jump : Op = op_of (act.Jump (place + length cond + 1 + length body + 1 + length rest)) q [] in
    let unless : Op = op_of (act.Unless (place + length cond + 1 + length body + 1)) q (q ∷ []) in
    omega (arith, length-append cond (unless ∷ (body ++ (jump ∷ rest))), length-append body (jump ∷ rest))

chain_end : (place : ℕ) (bs : List Branch) (els : List Op)
    → place + length (chain place bs els) ≡ after place bs + length els
chain_end place [] els = refl
chain_end place (b ∷ bs) els =
    arm_end place b.cond b.q b.body (chain (past_branch place b) bs els) ∙ chain_end (past_branch place b) bs els

opened_long : (place : ℕ) (bs : List Branch) → place + length (opened place bs) ≡ after place bs
opened_long place [] = omega arith
opened_long place (b ∷ bs) =
    let long = length-append (joined place b 0) (opened (past_branch place b) bs) in
    let first = joined_long place 0 b in
    let rest = opened_long (past_branch place b) bs in
    omega arith

-- the first arm, followed by the remaining ones
chain_first : (place end : ℕ) (b : Branch) (bs : List Branch) (els : List Op) → end ≡ after place (b ∷ bs) + length els
    → joined place b end ++ chain (past_branch place b) bs els ≡ chain place (b ∷ bs) els
chain_first place end b bs els e =
    let rest : List Op = chain (past_branch place b) bs els in
    let jump : ℕ → Op = λ to. op_of (act.Jump to) b.q [] in
    let unless : Op = op_of (act.Unless (past_branch place b)) b.q (b.q ∷ []) in
    append_assoc b.cond (unless ∷ (b.body ++ (jump end ∷ []))) rest
    ∙ ap (λ xs. b.cond ++ (unless ∷ xs)) (append_assoc b.body (jump end ∷ []) rest)
    ∙ ap (λ to. b.cond ++ (unless ∷ (b.body ++ (jump to ∷ rest)))) (e ∙ sym (chain_end (past_branch place b) bs els))

-- ---- setting the targets of all jumps

-- setting the target of an arm's jump, with any ops before and after the arm
aimed_one : (place end : ℕ) (pre : List Op) (b : Branch) (rest : List Op) → length pre ≡ place
    → aim (jump_at place b) end (pre ++ (joined place b 0 ++ rest)) ≡ pre ++ (joined place b end ++ rest)
aimed_one place end pre b rest at =
    let test : Op = op_of (act.Unless (past_branch place b)) b.q (b.q ∷ []) in
    let jump : ℕ → Op = λ to. op_of (act.Jump to) b.q [] in
    let head : List Op = pre ++ (b.cond ++ (test ∷ b.body)) in
    let here : jump_at place b ≡ length head =
    omega (arith, at, length-append pre (b.cond ++ (test ∷ b.body)), length-append b.cond (test ∷ b.body)) in
    ap (λ l. aim (jump_at place b) end l) (flat pre b.cond b.body test (jump 0) rest)
    ∙ ap (λ n. aim n end (head ++ (jump 0 ∷ rest))) here ∙ aim_seam head (jump 0) rest end
    ∙ sym (flat pre b.cond b.body test (jump end) rest)

pub closed : (end place : ℕ) (pre : List Op) (bs : List Branch) (els : List Op) → length pre ≡ place
    → end ≡ after place bs + length els
    → aim_all (jumps place bs) end (pre ++ (opened place bs ++ els)) ≡ pre ++ chain place bs els
closed end place pre [] els at is = refl
closed end place pre (b ∷ bs) els at is =
    let next : ℕ = past_branch place b in
    let rest : List Op = opened next bs ++ els in
    let first : List Op = joined place b end in
    let long : length (pre ++ first) ≡ next = omega (arith, at, length-append pre first, joined_long place end b) in
    ap (λ l. aim_all (jumps next bs) end (aim (jump_at place b) end (pre ++ l)))
    (append_assoc (joined place b 0) (opened next bs) els)
    ∙ ap (aim_all (jumps next bs) end) (aimed_one place end pre b rest at ∙ sym (append_assoc pre first rest))
    ∙ closed end next (pre ++ first) bs els long is ∙ append_assoc pre first (chain next bs els)
    ∙ ap (λ l. pre ++ l) (chain_first place end b bs els is)

-- ---- the arms of the tree

chosen_list : (way : Pass) (o : Scope) (place : ℕ) (p : Progress) (list : List TypedArm) (els : typed.Block)
    → chain place (branches way o place p list)
    (pass_block_code way (after place (branches way o place p list)) (past_list o p list) (core_in o els))
    ≡ chosen_code way place p (arms_in o els list)
chosen_list way o place p [] els = refl
chosen_list way o place p (a ∷ rest) els =
    let b : Branch = branch_of way o place p a in
    ap (arm_code place b.cond b.q b.body) (chosen_list way o (past_branch place b) (past_arm o p a) rest els)

pub past_chosen : (o : Scope) (p : Progress) (list : List TypedArm) (els : typed.Block)
    → past_block (past_list o p list) (core_in o els) ≡ past_arms p (arms_in o els list)
past_chosen o p [] els = refl
past_chosen o p (a ∷ rest) els = past_chosen o (past_arm o p a) rest els

-- an arm is emitted: its condition, a test, its body, and a jump; then the target of the test is set to the
-- place after the jump
arm_ops : (old first tested filled jumped new cond body : List Op) (q : Reg) (test past : ℕ) → first ≡ old ++ cond
    → test ≡ length first → tested ≡ first ++ (op_of (act.Unless 0) q (q ∷ []) ∷ []) → filled ≡ tested ++ body
    → jumped ≡ filled ++ (op_of (act.Jump 0) q [] ∷ []) → past ≡ length jumped → new ≡ aim test past jumped
    → new ≡ old ++ joined (length old) (record { cond = cond; q = q; body = body }) 0
arm_ops old first tested filled jumped new cond body q test past a b c d e g h =
    let none : Op = op_of (act.Unless 0) q (q ∷ []) in
    let jump : Op = op_of (act.Jump 0) q [] in
    let b0 : Branch = record { cond = cond; q = q; body = body } in
    let all : jumped ≡ (old ++ cond) ++ (none ∷ (body ++ (jump ∷ []))) =
    e ∙ ap (λ l. l ++ (jump ∷ []))
    (d ∙ ap (λ l. l ++ body) (c ∙ ap (λ l. l ++ (none ∷ [])) a) ∙ append_assoc (old ++ cond) (none ∷ []) body)
    ∙ append_assoc (old ++ cond) (none ∷ body) (jump ∷ []) in
    let long : past ≡ past_branch (length old) b0 =
    omega (
      arith,
      g,
      ap length all,
      length-append (old ++ cond) (none ∷ (body ++ (jump ∷ []))),
      length-append old cond,
      length-append body (jump ∷ []),
    ) in
    h ∙ ap (λ n. aim n past jumped) (b ∙ ap length a) ∙ ap (aim (length (old ++ cond)) past) all
    ∙ aim_seam (old ++ cond) none (body ++ (jump ∷ [])) past
    ∙ ap (λ n. (old ++ cond) ++ (op_of (act.Unless n) q (q ∷ []) ∷ (body ++ (jump ∷ [])))) long
    ∙ append_assoc old cond (op_of (act.Unless (past_branch (length old) b0)) q (q ∷ []) ∷ (body ++ (jump ∷ [])))

module _ (old first tested filled jumped new : Draft) (cond body : List Op) (q : Reg) (test : ℕ)
    (begun : Grew old first cond) (tests : Grew first tested (op_of (act.Unless 0) q (q ∷ []) ∷ []))
    (marked : IsAt tested test (length (drafted first))) (fills : Grew tested filled body)
    (jumps_on : Grew filled jumped (op_of (act.Jump 0) q [] ∷ []))
    (aims : (place : ℕ) → IsAt jumped test place → Aimed jumped new place) where
  aimed_test : Aimed jumped new (length (drafted first))
  aimed_test =
      aims (length (drafted first))
      (jumps_on.marks test (length (drafted first)) (fills.marks test (length (drafted first)) marked))

  pub arm_made : Grew old new (joined (length (drafted old)) (record { cond = cond; q = q; body = body }) 0)
  arm_made = record {
    ops = arm_ops (drafted old) (drafted first) (drafted tested) (drafted filled) (drafted jumped) (drafted new) cond
        body q (length (drafted first)) (length (drafted jumped)) begun.ops refl tests.ops fills.ops jumps_on.ops refl
        aimed_test.ops;
    routines = aimed_test.routines ∙ jumps_on.routines ∙ fills.routines ∙ tests.routines ∙ begun.routines;
    marks = λ mark place h. aimed_test.marks mark place (jumps_on.marks mark place (fills.marks mark place
        (tests.marks mark place (begun.marks mark place h))));
  }

  -- the place of its jump's mark
  pub arm_marked : (end : ℕ) → IsAt jumped end (length (drafted filled)) → (ends places : List ℕ)
      → AllZip (IsAt old) ends places → AllZip (IsAt new) (ends ++ end ∷ [])
      (places ++ jump_at (length (drafted old)) (record { cond = cond; q = q; body = body }) ∷ [])
  arm_marked end there ends places h =
      let place : ℕ = jump_at (length (drafted old)) (record { cond = cond; q = q; body = body }) in
      let here : length (drafted filled) ≡ place =
      omega (arith, grew_long old first cond begun, grew_long first tested _ tests, grew_long tested filled body fills)
      in
      zip_one (IsAt new) ends places end place (zip_still (IsAt old) (IsAt new) arm_made.marks ends places h)
      (subst (IsAt new end) here (aimed_test.marks end (length (drafted filled)) there))

-- its body begins after the op of its test
pub body_begins : (old first tested : Draft) (cond : List Op) (test : Op) → Grew old first cond
    → Grew first tested (test ∷ []) → length (drafted tested) ≡ length (drafted old) + length cond + 1
body_begins old first tested cond test begun tests =
    omega (arith, grew_long old first cond begun, grew_long first tested (test ∷ []) tests)

-- the length of an arm, and the length of an arm that is initialised regardless of its condition
pub arm_long : (way : Pass) (o : Scope) (place : ℕ) (p : Progress) (a : TypedArm)
    → place + length (joined place (branch_of way o place p a) 0) ≡ past_branch place (branch_of way o place p a)
arm_long way o place p a = joined_long place 0 (branch_of way o place p a)

-- one more arm in the loop that emits them, from the end of the ops so far
pub opened_more : (way : Pass) (o : Scope) (place next : ℕ) (p q : Progress) (arms : List TypedArm) (a : TypedArm)
    (rest : List TypedArm) → arms ≡ a ∷ rest → q ≡ past_arm o p a
    → next ≡ place + length (joined place (branch_of way o place p a) 0) → opened place (branches way o place p arms)
    ≡ joined place (branch_of way o place p a) 0 ++ opened next (branches way o next q rest)
opened_more way o place next p q arms a rest split on at =
    let one : List Op = joined place (branch_of way o place p a) 0 in
    ap (λ xs. opened place (branches way o place p xs)) split
    ∙ sym (ap (λ k. one ++ opened (past_branch place (branch_of way o place p a))
    (branches way o (past_branch place (branch_of way o place p a)) k rest)) on)
    ∙ sym (ap (λ n. one ++ opened n (branches way o n q rest)) (at ∙ arm_long way o place p a))

pub jumps_more : (way : Pass) (o : Scope) (place next : ℕ) (p q : Progress) (arms : List TypedArm) (a : TypedArm)
    (rest : List TypedArm) → arms ≡ a ∷ rest → q ≡ past_arm o p a
    → next ≡ place + length (joined place (branch_of way o place p a) 0) → jumps place (branches way o place p arms)
    ≡ jump_at place (branch_of way o place p a) ∷ jumps next (branches way o next q rest)
jumps_more way o place next p q arms a rest split on at =
    let one : ℕ = jump_at place (branch_of way o place p a) in
    ap (λ xs. jumps place (branches way o place p xs)) split
    ∙ sym (ap (λ k. one ∷ jumps (past_branch place (branch_of way o place p a))
    (branches way o (past_branch place (branch_of way o place p a)) k rest)) on)
    ∙ sym (ap (λ n. one ∷ jumps n (branches way o n q rest)) (at ∙ arm_long way o place p a))

pub each_more : (o : Scope) (place next : ℕ) (p q : Progress) (arms : List TypedArm) (a : TypedArm)
    (rest : List TypedArm) → arms ≡ a ∷ rest → q ≡ past_arm o p a
    → next ≡ place + length (each_arm_code place p (condition_of a) (body_of o a))
    → each_code o place p arms ≡ each_arm_code place p (condition_of a) (body_of o a) ++ each_code o next q rest
each_more o place next p q arms a rest split on at =
    let one : List Op = each_arm_code place p (condition_of a) (body_of o a) in
    ap (each_code o place p) split ∙ sym (ap (λ k. one ++ each_code o (place + length one) k rest) on)
    ∙ sym (ap (λ n. one ++ each_code o n q rest) at)

-- arms that are all initialised, followed by the statements after `else`
each_all : (o : Scope) (place : ℕ) (p : Progress) (list : List TypedArm) (els : typed.Block)
    → all_code place p (arms_in o els list) ≡ each_code o place p list
    ++ init_block_code (place + length (each_code o place p list)) (past_list o p list) (core_in o els)
each_all o place p [] els = ap (λ n. init_block_code n p (core_in o els)) (let e : place ≡ place + 0 = omega arith in e)
each_all o place p (a ∷ rest) els =
    let cond : List Op = keep_code p.part (condition_of a) in
    let q : Progress = past_parts (past p.part (condition_of a)) p in
    let body : List Op = init_block_code (place + length cond) q (body_of o a) in
    let one : List Op = cond ++ body in
    let next : Progress = past_arm o p a in
    let more : List Op = each_code o (place + length one) next rest in
    let long : place + length cond + length body ≡ place + length one = omega (arith, length-append cond body) in
    let end : place + length one + length more ≡ place + length (one ++ more) = omega (arith, length-append one more) in
    sym (append_assoc cond body (all_code (place + length cond + length body) next (arms_in o els rest)))
    ∙ ap (λ n. one ++ all_code n next (arms_in o els rest)) long
    ∙ ap (λ l. one ++ l) (each_all o (place + length one) next rest els) ∙ sym (append_assoc one more
    (init_block_code (place + length one + length more) (past_list o next rest) (core_in o els)))
    ∙ ap (λ n. (one ++ more) ++ init_block_code n (past_list o next rest) (core_in o els)) end

-- all arms are emitted, then the statements after `else`, and then the targets of the jumps are set
chosen_ops : (way : Pass) (o : Scope) (old mid last new : List Op) (p q : Progress) (list : List TypedArm)
    (els : typed.Block) → mid ≡ old ++ opened (length old) (branches way o (length old) p list)
    → q ≡ past_list o p list → last ≡ mid ++ pass_block_code way (length mid) q (core_in o els)
    → new ≡ aim_all (jumps (length old) (branches way o (length old) p list)) (length last) last
    → new ≡ old ++ chosen_code way (length old) p (arms_in o els list)
chosen_ops way o old mid last new p q list els made on done closing =
    let bs : List Branch = branches way o (length old) p list in
    let begins : ℕ = after (length old) bs in
    let rest : List Op = pass_block_code way begins (past_list o p list) (core_in o els) in
    let there : length mid ≡ begins =
    omega (arith, ap length made, length-append old (opened (length old) bs), opened_long (length old) bs) in
    let all : last ≡ old ++ (opened (length old) bs ++ rest) =
    done ∙ ap (λ n. mid ++ pass_block_code way n q (core_in o els)) there
    ∙ ap (λ k. mid ++ pass_block_code way begins k (core_in o els)) on ∙ ap (λ l. l ++ rest) made
    ∙ append_assoc old (opened (length old) bs) rest in
    let end : length last ≡ begins + length rest =
    omega (
      arith,
      ap length all,
      length-append old (opened (length old) bs ++ rest),
      length-append (opened (length old) bs) rest,
      opened_long (length old) bs,
    ) in
    closing ∙ ap (aim_all (jumps (length old) bs) (length last)) all
    ∙ closed (length last) (length old) old bs rest refl end
    ∙ ap (λ l. old ++ l) (chosen_list way o (length old) p list els)

chosen_made : (way : Pass) (o : Scope) (old mid last new : Draft) (ends : List ℕ) (p q : Progress)
    (list : List TypedArm) (els : typed.Block)
    → Grew old mid (opened (length (drafted old)) (branches way o (length (drafted old)) p list))
    → AllZip (IsAt mid) ends (jumps (length (drafted old)) (branches way o (length (drafted old)) p list))
    → q ≡ past_list o p list → Grew mid last (pass_block_code way (length (drafted mid)) q (core_in o els))
    → ((places : List ℕ) → AllZip (IsAt last) ends places → AllAimed last new places)
    → Grew old new (chosen_code way (length (drafted old)) p (arms_in o els list))
chosen_made way o old mid last new ends p q list els made marked on done closing =
    let places : List ℕ = jumps (length (drafted old)) (branches way o (length (drafted old)) p list) in
    let aims : AllAimed last new places =
    closing places (zip_still (IsAt mid) (IsAt last) done.marks ends places marked) in record {
      ops = chosen_ops way o (drafted old) (drafted mid) (drafted last) (drafted new) p q list els made.ops on done.ops
          aims.ops;
      routines = aims.routines ∙ done.routines ∙ made.routines;
      marks = λ mark place h. aims.marks mark place (done.marks mark place (made.marks mark place h));
    }

-- an `if` of the tree: the code of all its arms, the code in which one of them is performed, and the progress
-- after it
module _ (o : Scope) (line : ℕ) (r : Rate) (s : typed.Block) (arms list : List TypedArm) (stmts els : List TypedStmt)
    (seen : s ≡ typed.alone (typed.choose line r (typed.arms o.routines (typed.block o.routines els) list)))
    (are : arms ≡ list) (rest_are : stmts ≡ els) (p q : Progress) (on : q ≡ past_list o p arms) where
  here : s ≡ typed.alone (typed.choose line r (typed.arms o.routines (typed.block o.routines stmts) arms))
  here = seen
      ∙ sym (ap (λ xs. typed.alone (typed.choose line r (typed.arms o.routines (typed.block o.routines xs) list)))
      rest_are)
      ∙ sym (ap (λ xs. typed.alone (typed.choose line r (typed.arms o.routines (typed.block o.routines stmts) xs))) are)

  pub all_choice : (way : Pass) → takes_all way r ≡ true → (old mid new : Draft)
      → Grew old mid (each_code o (length (drafted old)) p arms)
      → Grew mid new (pass_block_code way (length (drafted mid)) q (block_in o stmts))
      → Grew old new (pass_block_code way (length (drafted old)) p (core_in o s))
  all_choice way taken old mid new made done =
      let place : ℕ = length (drafted old) in
      let each : List Op = each_code o place p arms in
      let last : typed.Block = typed.block o.routines stmts in
      let is : each ++ pass_block_code way (length (drafted mid)) q (core_in o last)
      ≡ pass_block_code way place p (core_in o s) =
      ap (λ n. each ++ pass_block_code way n q (core_in o last)) (grew_long old mid each made)
      ∙ ap (λ w. each ++ pass_block_code w (place + length each) q (core_in o last)) (taken_pass way r taken)
      ∙ ap (λ k. each ++ init_block_code (place + length each) k (core_in o last)) on
      ∙ sym (each_all o place p arms last) ∙ sym (all_taken way place p r (arms_in o last arms) taken)
      ∙ sym (alone_code way place p (choose r (arms_in o last arms)))
      ∙ sym (ap (λ x. pass_block_code way place p (core_in o x)) here) in
      subst (Grew old new) is (grew_on old mid new each _ made done)

  pub one_choice : (way : Pass) → takes_all way r ≡ false → (old mid last new : Draft) (none ends now : List ℕ)
      → none ≡ [] → now ≡ ends
      → Grew old mid (opened (length (drafted old)) (branches way o (length (drafted old)) p arms))
      → ((places : List ℕ) → AllZip (IsAt old) none places → AllZip (IsAt mid) ends
      (places ++ jumps (length (drafted old)) (branches way o (length (drafted old)) p arms)))
      → Grew mid last (pass_block_code way (length (drafted mid)) q (block_in o stmts))
      → ((places : List ℕ) → AllZip (IsAt last) now places → AllAimed last new places)
      → Grew old new (pass_block_code way (length (drafted old)) p (core_in o s))
  one_choice way taken old mid last new none ends now empty same made marked done closing =
      let place : ℕ = length (drafted old) in
      let then : typed.Block = typed.block o.routines stmts in
      let is : chosen_code way place p (arms_in o then arms) ≡ pass_block_code way place p (core_in o s) =
      sym (one_taken way place p r (arms_in o then arms) taken)
      ∙ sym (alone_code way place p (choose r (arms_in o then arms)))
      ∙ sym (ap (λ x. pass_block_code way place p (core_in o x)) here) in
      subst (Grew old new) is (chosen_made way o old mid last new now p q arms then made
      (subst (λ l. AllZip (IsAt mid) l (jumps place (branches way o place p arms))) (sym same)
      (marked [] (subst (λ l. AllZip (IsAt old) l []) (sym empty) tt))) on done closing)

  pub past_choice : past_block q (block_in o stmts) ≡ past_block p (core_in o s)
  past_choice =
      ap (λ k. past_block k (block_in o stmts)) on ∙ past_chosen o p arms (typed.block o.routines stmts)
      ∙ sym (ap (λ x. past_block p (core_in o x)) here)
