-- The core statements of calls, by the shapes of opcodes.
use Rattle.std.proofs.Common.{◌≡◌, ◌++◌, ◌∷◌, ◌∙◌, ℕ, Bool, true, false, true≢false, List, [], Option, Some, None, refl}
use Rattle.std.proofs.Common.{sym, ap, subst, length, IfOk, OnOk, Ok, Err, Result}
use Rattle.cs_base.specs.{declared.resource.Rate.Rate, declared.spaces.Spaces.Spaces}
use Rattle.cs_ir.specs.{Drafts.Draft, Drafts.Grew, Drafts.drafted, declared.register.Reg.Reg}
use Rattle.cs_meaning.specs.{Core.Stmt, Core.core_call, Core.set, Core.choose, When.cycle}
use Rattle.cs_typed.specs.TypedTree.{Expression, Argument, value, text}
use Rattle.cs_typed.specs.declared.tree.Var.{Var as Variable}
use Rattle.cs_words.specs.{Catalogue.row_of, declared.catalogue.Opcode.Opcode, declared.catalogue.Shape.Shape}
use Rattle.cs_code.specs.{declared.args.Call.Call, declared.frame.Progress.Progress, declared.frame.Pass.Pass}
use Rattle.cs_code.specs.{declared.simple.Sending.Sending, inner.Kept.past_stmt, inner.Served.Lowered}
use Rattle.cs_code.specs.inner.Spots.{spots}
use Rattle.cs_code.specs.inner.Code.{operands_code, pass_block_code, pass_code, perf_code}
use Rattle.cs_code.specs.inner.Emitted.{Assigned, alone_in, arguments_of, assigned, called, set_of, effect, when_of}
use Rattle.cs_code.specs.inner.Emitted.{sent_as, sent_ops}
use Rattle.cs_code.proofs.Chains.{alone_code}
use Rattle.cs_base.specs.declared.resource.Rate.TheVariants as rate
use Rattle.cs_words.specs.declared.catalogue.Shape.TheVariants as shape
use Rattle.cs_code.specs.declared.frame.Pass.TheVariants as pass
use Rattle.cs_code.specs.declared.simple.Sending.TheVariants as sending

-- the core statement of a call is an assignment, if it is one, or an effect otherwise
abbrev pub either_of : Option Assigned → Stmt → Stmt
either_of (Some a) s = set_of a
either_of None s = s

pub by_assigned : (o : Spaces) (r : Rate) (vs : List Variable) (op : Opcode) (sh : Shape) (args : List Argument)
    → core_call o r vs op sh args ≡ either_of (assigned sh r vs args) (effect o r vs op sh args)
by_assigned o r (v ∷ vs) op shape.Init (value e ∷ args) = refl
by_assigned o r (v ∷ vs) op shape.ChannelGet (text c ∷ args) = refl
by_assigned o r vs op shape.ChannelPut (value e ∷ text c ∷ args) = refl
by_assigned o r vs op shape.ChannelMix (value e ∷ text c ∷ args) = refl
by_assigned o r vs op shape.ChannelClear (text c ∷ args) = refl
by_assigned o r vs op sh args = refl

pub call_assigned : (o : Spaces) (r : Rate) (vs : List Variable) (op : Opcode) (sh : Shape) (args : List Argument)
    (a : Assigned) → assigned sh r vs args ≡ Some a → core_call o r vs op sh args ≡ set_of a
call_assigned o r vs op sh args a h = by_assigned o r vs op sh args ∙ ap (λ x. either_of x (effect o r vs op sh args)) h

pub call_effect : (o : Spaces) (r : Rate) (vs : List Variable) (op : Opcode) (sh : Shape) (args : List Argument)
    → assigned sh r vs args ≡ None → core_call o r vs op sh args ≡ effect o r vs op sh args
call_effect o r vs op sh args h = by_assigned o r vs op sh args ∙ ap (λ x. either_of x (effect o r vs op sh args)) h

-- The code of a statement that is no `if` is the same at each place.
abbrev pub is_choice : Stmt → Bool
is_choice (choose r arms) = true
is_choice _ = false

effect_simple : (o : Spaces) (r : Rate) (vs : List Variable) (op : Opcode) (sh : Shape) (args : List Argument)
    → is_choice (effect o r vs op sh args) ≡ false
effect_simple o r vs op shape.Init args = refl
effect_simple o r vs op a args = refl

either_simple : (a : Option Assigned) (s : Stmt) → is_choice s ≡ false → is_choice (either_of a s) ≡ false
either_simple (Some a) s h = refl
either_simple None s h = h

pub call_simple : (o : Spaces) (r : Rate) (vs : List Variable) (op : Opcode) (sh : Shape) (args : List Argument)
    → is_choice (core_call o r vs op sh args) ≡ false
call_simple o r vs op sh args =
    ap is_choice (by_assigned o r vs op sh args)
    ∙ either_simple (assigned sh r vs args) (effect o r vs op sh args) (effect_simple o r vs op sh args)

anywhere : (way : Pass) (place : ℕ) (p : Progress) (s : Stmt) → is_choice s ≡ false
    → pass_code way 0 p s ≡ pass_code way place p s
anywhere way place p (choose r arms) h = absurd (true≢false h)
anywhere way place p _ h = refl

pub set_anywhere : (way : Pass) (place : ℕ) (p : Progress) (r : Rate) (v : Variable) (e : Expression)
    → pass_code way place p (set r v e) ≡ pass_code way 0 p (set r v e)
set_anywhere way place p r v e = refl

pub call_anywhere : (way : Pass) (place : ℕ) (p : Progress) (o : Spaces) (r : Rate) (vs : List Variable)
    (op : Opcode) (sh : Shape)
    (args : List Argument) → pass_code way place p (core_call o r vs op sh args) ≡ pass_code way 0 p
    (core_call o r vs op sh args)
call_anywhere way place p o r vs op sh args =
    sym (anywhere way place p (core_call o r vs op sh args) (call_simple o r vs op sh args))

-- a call as a single statement
pub call_alone : (way : Pass) (place : ℕ) (p : Progress) (o : Spaces) (k : Call)
    → pass_code way 0 p (core_call o k.rate k.results.now k.opcode (row_of k.opcode).shape (arguments_of k))
    ≡ pass_block_code way place p (alone_in o (called k))
call_alone way place p o k =
    let sh = (row_of k.opcode).shape in
    sym (call_anywhere way place p o k.rate k.results.now k.opcode sh (arguments_of k))
    ∙ sym (alone_code way place p (core_call o k.rate k.results.now k.opcode sh (arguments_of k)))

-- the code of a call, from the two clauses about its core statement
pub call_lowered : {E : Type 0} (way : Pass) (old new : Draft) (p : Progress) (o : Spaces) (k : Call) (s : Stmt)
    (r : Result Progress E) → core_call o k.rate k.results.now k.opcode (row_of k.opcode).shape (arguments_of k) ≡ s
    → OnOk r (Grew old new (pass_code way 0 p s)) → IfOk r (λ q. q ≡ past_stmt p s)
    → IfOk r (λ q. Lowered way old new p q (alone_in o (called k)))
call_lowered way old new p o k s (Ok q) is grew past_it = record {
  ops = subst (Grew old new) (ap (pass_code way 0 p) (sym is) ∙ call_alone way (length (drafted old)) p o k) grew;
  next = past_it ∙ ap (past_stmt p) (sym is);
}
call_lowered way old new p o k s (Err e) is grew past_it = tt

-- the code of an assignment and of a call doesn't depend on its place
pub ruleset at_each_place = (set_anywhere, call_anywhere)

-- values that are output in a cycle
sent_in_cycle : (place : ℕ) (p : Progress) (how : Sending) (r : Rate) (es : List Expression)
    → perf_code place p (sent_as how r es) ≡ operands_code cycle p.part es 0 ++ sent_ops how (spots cycle p.part es 0)
sent_in_cycle place p sending.InTurn r es = refl
sent_in_cycle place p sending.ByNumber r es = refl

pub sent_pass : (way : Pass) (p : Progress) (how : Sending) (es : List Expression) (qs regs : List Reg)
    → way ≡ pass.Performance → regs ≡ spots (when_of way) p.part es 0 → qs ≡ regs
    → operands_code (when_of way) p.part es 0 ++ sent_ops how qs ≡ pass_code way 0 p (sent_as how rate.Audio es)
sent_pass pass.Initialisation p how es qs regs h spots_are is = absurd (cc)
sent_pass pass.Performance p how es qs regs h spots_are is =
    ap (λ ys. operands_code cycle p.part es 0 ++ sent_ops how ys) (is ∙ spots_are)
    ∙ sym (sent_in_cycle 0 p how rate.Audio es)
