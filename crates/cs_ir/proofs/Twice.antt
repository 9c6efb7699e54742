-- Ops of a routine that another routine invokes: moved by the call, and then moved with the invoking routine.
use Rattle.std.proofs.Common.{◌≡◌, ◌∙◌, ◌+◌, ◌++◌, ℕ, List, [], ◌∷◌, map, arith, refl, sym, ap}
use Rattle.std.proofs.lemmas.List.{append-nil}
use Rattle.cs_ir.specs.Flat.{Begins, begin_of, further, moved_act, moved_op, moved_ops, moved_reg, no_window}
use Rattle.cs_ir.specs.{declared.op.Act.Act, declared.op.Op.Op, declared.register.Kind.Kind, declared.register.Reg.Reg}
use Rattle.cs_ir.specs.declared.op.Act.TheVariants as act
use Rattle.cs_ir.specs.declared.register.Kind.TheVariants as kind

begin_further : (w v : Begins) (k : Kind) (n : ℕ) → begin_of w k + (begin_of v k + n) ≡ begin_of (further w v) k + n
begin_further w v kind.LocalInit n = omega arith
begin_further w v a n = omega arith

reg_twice : (w v : Begins) (q : Reg) → moved_reg w (moved_reg v q) ≡ moved_reg (further w v) q
reg_twice w v q = λ i. record { kind = q.kind; offset = begin_further w v q.kind q.offset i }

regs_twice : (w v : Begins) (qs : List Reg)
    → map (moved_reg w) (map (moved_reg v) qs) ≡ map (moved_reg (further w v)) qs
regs_twice w v [] = refl
regs_twice w v (q ∷ qs) =
    let one = reg_twice w v q in let rest = regs_twice w v qs in λ i. one i ∷ rest i

act_twice : (w v : Begins) (p q : ℕ) (a : Act) → moved_act w p (moved_act v q a) ≡ moved_act (further w v) (p + q) a
act_twice w v p q (act.Start o u) =
    let e : w.unit + (v.unit + u) ≡ w.unit + v.unit + u = omega arith in ap (act.Start o) e
act_twice w v p q (act.Unit o u r) =
    let e : w.unit + (v.unit + u) ≡ w.unit + v.unit + u = omega arith in ap (λ n. act.Unit o n r) e
act_twice w v p q (act.Jump to) = let e : p + (q + to) ≡ p + q + to = omega arith in ap act.Jump e
act_twice w v p q (act.Unless to) = let e : p + (q + to) ≡ p + q + to = omega arith in ap act.Unless e
act_twice w v p q a = refl

pub op_twice : (w v : Begins) (p q : ℕ) (op : Op) → moved_op w p (moved_op v q op) ≡ moved_op (further w v) (p + q) op
op_twice w v p q op =
    let does = act_twice w v p q op.act in
    let writes = reg_twice w v op.into in
    let reads = regs_twice w v op.from in
    λ i. record { act = does i; into = writes i; from = reads i }

pub ops_twice : (w v : Begins) (p q : ℕ) (ops : List Op)
    → moved_ops w p (moved_ops v q ops) ≡ moved_ops (further w v) (p + q) ops
ops_twice w v p q [] = refl
ops_twice w v p q (op ∷ ops) =
    let one = op_twice w v p q op in let rest = ops_twice w v p q ops in λ i. one i ∷ rest i

-- in the window of a complete code, ops are unchanged
whole_reg : (q : Reg) → moved_reg no_window q ≡ q
whole_reg q = λ i. record { kind = q.kind; offset = none q.kind i }
  where
    none : (k : Kind) → begin_of no_window k + q.offset ≡ q.offset
    none kind.LocalInit = omega arith
    none a = omega arith

whole_regs : (qs : List Reg) → map (moved_reg no_window) qs ≡ qs
whole_regs [] = refl
whole_regs (q ∷ qs) = let one = whole_reg q in let rest = whole_regs qs in λ i. one i ∷ rest i

whole_act : (a : Act) → moved_act no_window 0 a ≡ a
whole_act (act.Start o u) = let e : 0 + u ≡ u = omega arith in ap (act.Start o) e
whole_act (act.Unit o u r) = let e : 0 + u ≡ u = omega arith in ap (λ n. act.Unit o n r) e
whole_act (act.Jump to) = let e : 0 + to ≡ to = omega arith in ap act.Jump e
whole_act (act.Unless to) = let e : 0 + to ≡ to = omega arith in ap act.Unless e
whole_act a = refl

pub whole_ops : (ops : List Op) → moved_ops no_window 0 ops ≡ ops
whole_ops [] = refl
whole_ops (op ∷ ops) =
    let does = whole_act op.act in
    let writes = whole_reg op.into in
    let reads = whole_regs op.from in
    let rest = whole_ops ops in
    λ i. record { act = does i; into = writes i; from = reads i } ∷ rest i

-- the ops of a routine that only calls another one, for a call of this routine
pub call_twice : (w v : Begins) (p : ℕ) (ops : List Op)
    → moved_ops (further w v) p ops ≡ moved_ops w p (moved_ops v 0 ops ++ [])
call_twice w v p ops =
    let here : p ≡ p + 0 = omega arith in
    ap (λ n. moved_ops (further w v) n ops) here ∙ sym (ops_twice w v p 0 ops)
    ∙ ap (moved_ops w p) (sym (append-nil (moved_ops v 0 ops)))
