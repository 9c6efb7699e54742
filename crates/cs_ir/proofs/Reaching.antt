-- The register limits of steps, from the limits of their ops and of the routines that they invoke.
use Rattle.std.proofs.Common.{◌≡◌, ◌∙◌, ◌+◌, ◌++◌, ◌<◌, ℕ, zero, suc, List, [], ◌∷◌, length, map, max, get_or}
use Rattle.std.proofs.Common.{if◌then◌else◌, slice_get, take, Some, ◌≤◌, arith, refl, sym, ap}
use Rattle.std.proofs.lemmas.List.{take_more}
use Rattle.cs_base.proofs.Tests.{by_test}
use Rattle.cs_ir.proofs.{Libraries.each_routine, Libraries.routine_at, Libraries.routine_none, RegisterKinds.kind_is}
use Rattle.cs_ir.specs.Flat.{Begins, begin_of, flat, flat_from, flat_step, moved_op, moved_reg, ops_at, place_of, size}
use Rattle.cs_ir.specs.{Flat.window_of, Limits.op_limit, Limits.ops_limit, Routines.AreRoutines, Routines.library_in}
use Rattle.cs_ir.specs.{declared.op.Op.Op, declared.register.Kind.Kind, declared.register.Reg.Reg}
use Rattle.cs_ir.specs.{declared.routine.Routine.Routine, declared.step.Call.Call, declared.step.Step.Step}
use Rattle.cs_ir.specs.Registers.{at_kind, most, reg_limit, regs_limit, same_kind}
use Rattle.cs_ir.specs.inner.Reaching.{behind, call_limit, step_limit, steps_limit}
use Rattle.cs_ir.specs.declared.step.Step.TheVariants as step

-- ---- the greatest number of a list

max_none : (n : ℕ) → max n 0 ≡ n
max_none n = omega arith

module _ {X : Type 0} (f : X → ℕ) where
  most_both : (xs ys : List X) → most f (xs ++ ys) ≡ max (most f xs) (most f ys)
  most_both [] ys = omega arith
  most_both (x ∷ xs) ys = let rest = most_both xs ys in omega (arith, rest)

  -- one more element of a loop
  pub most_next : (xs : List X) (i : ℕ) (d : X) → i < length xs
      → max (most f (take i xs)) (f (get_or xs i d)) ≡ most f (take (i + 1) xs)
  most_next xs i d low =
      let both = most_both (take i xs) (get_or xs i d ∷ []) in
      let more = ap (most f) (take_more xs i d low) in omega (arith, both, more)

behind_max : (begin a b : ℕ) → behind begin (max a b) ≡ max (behind begin a) (behind begin b)
behind_max begin zero b =
    let first : max 0 b ≡ b = omega arith in
    let then_is : behind begin b ≡ max 0 (behind begin b) = omega arith in ap (behind begin) first ∙ then_is
behind_max begin (suc a) zero =
    let first : max (suc a) 0 ≡ suc a = omega arith in
    let then_is : begin + suc a ≡ max (begin + suc a) 0 = omega arith in ap (behind begin) first ∙ then_is
behind_max begin (suc a) (suc b) =
    let first : max (suc a) (suc b) ≡ suc (max a b) = omega arith in
    let then_is : begin + suc (max a b) ≡ max (begin + suc a) (begin + suc b) = omega arith in
    ap (behind begin) first ∙ then_is

most_behind : {X Y : Type 0} (begin : ℕ) (f : X → ℕ) (g : Y → ℕ) (h : Y → X)
    → ((y : Y) → f (h y) ≡ behind begin (g y)) → (ys : List Y) → most f (map h ys) ≡ behind begin (most g ys)
most_behind begin f g h each [] = refl
most_behind begin f g h each (y ∷ ys) =
    let one = each y in
    let rest = most_behind begin f g h each ys in
    (λ i. max (one i) (rest i)) ∙ sym (behind_max begin (g y) (most g ys))

behind_one : (begin n : ℕ) → begin + n + 1 ≡ behind begin (n + 1)
behind_one begin n =
    let e : n + 1 ≡ suc n = omega arith in
    let f : begin + n + 1 ≡ begin + suc n = omega arith in
    f ∙ ap (behind begin) (sym e)

-- ---- registers in a window

moved_reg_limit : (w : Begins) (k : Kind) (q : Reg)
    → reg_limit k (moved_reg w q) ≡ behind (begin_of w k) (reg_limit k q)
moved_reg_limit w k q = by_test (same_kind q.kind k)
    (λ yes. let there : q.kind ≡ k = kind_is q.kind k yes in
    ap (λ b. if b then begin_of w q.kind + q.offset + 1 else 0) yes ∙ ap (λ j. begin_of w j + q.offset + 1) there
    ∙ behind_one (begin_of w k) q.offset ∙ ap (λ b. behind (begin_of w k) (if b then q.offset + 1 else 0)) (sym yes))
    (λ no. ap (λ b. if b then begin_of w q.kind + q.offset + 1 else 0) no
    ∙ ap (λ b. behind (begin_of w k) (if b then q.offset + 1 else 0)) (sym no))

moved_op_limit : (w : Begins) (k : Kind) (p : ℕ) (op : Op)
    → op_limit k (moved_op w p op) ≡ behind (begin_of w k) (op_limit k op)
moved_op_limit w k p op =
    let one = moved_reg_limit w k op.into in
    let rest = most_behind (begin_of w k) (reg_limit k) (reg_limit k) (moved_reg w) (moved_reg_limit w k) op.from in
    (λ i. max (one i) (rest i)) ∙ sym (behind_max (begin_of w k) (reg_limit k op.into) (regs_limit k op.from))

-- ---- steps

one_step : (rs : List (List Op)) (k : Kind) (f : ℕ → ℕ) (p : ℕ) (s : Step)
    → ops_limit k (flat_step rs f p s) ≡ step_limit rs k s
one_step rs k f p (step.Do op) = max_none (op_limit k op)
one_step rs k f p (step.Invoke c) =
    most_behind (begin_of (window_of c) k) (op_limit k) (op_limit k) (moved_op (window_of c) p)
    (moved_op_limit (window_of c) k p) (ops_at rs c.routine)

steps_from : (rs : List (List Op)) (k : Kind) (f : ℕ → ℕ) (p : ℕ) (ss : List Step)
    → ops_limit k (flat_from rs f p ss) ≡ steps_limit rs k ss
steps_from rs k f p [] = refl
steps_from rs k f p (s ∷ ss) =
    let one = one_step rs k f p s in
    let rest = steps_from rs k f (p + size rs s) ss in
    most_both (op_limit k) (flat_step rs f p s) (flat_from rs f (p + size rs s) ss) ∙ (λ i. max (one i) (rest i))

pub steps_end : (rs : List (List Op)) (k : Kind) (ss : List Step) → ops_limit k (flat rs ss) ≡ steps_limit rs k ss
steps_end rs k ss = steps_from rs k (λ to. place_of rs to ss) 0 ss

-- ---- a call, from the stored limits of its routine

pub call_there : (list : List Routine) (k : Kind) (c : Call) (r : Routine) → AreRoutines list
    → slice_get list c.routine ≡ Some r
    → behind (begin_of (window_of c) k) (at_kind r.limits k) ≡ call_limit (library_in list) k c
call_there list k c r are is =
    ap (behind (begin_of (window_of c) k))
    ((each_routine list c.routine r are is).limits k ∙ ap (ops_limit k) (sym (routine_at list c.routine r is)))

pub call_missing : (list : List Routine) (k : Kind) (c : Call) → length list ≤ c.routine
    → call_limit (library_in list) k c ≡ 0
call_missing list k c far =
    ap (λ ops. behind (begin_of (window_of c) k) (ops_limit k ops)) (routine_none list c.routine far)

-- one more limit of a loop
pub more_limit : (old sum here all before new : ℕ) → new ≡ max before here → before ≡ max old sum
    → max sum here ≡ all → new ≡ max old all
more_limit old sum here all before new is was more = omega (arith, is, was, more)
