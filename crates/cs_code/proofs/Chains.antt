-- Statements one after another, and arms that are all initialised.
use Rattle.std.proofs.Common.{◌≡◌, ◌∙◌, ◌+◌, ◌++◌, ◌⊎◌, inl, inr, ℕ, true, false, true≢false, List, [], length, arith}
use Rattle.std.proofs.Common.{refl, sym, ap}
use Rattle.std.proofs.lemmas.List.{append_assoc, append-nil, length-append}
use Rattle.cs_base.specs.declared.resource.Rate.{Rate}
use Rattle.cs_ir.specs.{Waves.if_init, declared.op.Op.Op}
use Rattle.cs_meaning.specs.Core.{Stmt, Block, Arms, no_stmt, andthen, choose, core_stmt}
use Rattle.cs_typed.specs.TypedTree.{Expression}
use Rattle.cs_code.specs.{declared.frame.Pass.Pass, declared.frame.Progress.Progress}
use Rattle.cs_code.specs.inner.Code.{all_code, chosen_code, cond_code, operand_code, pass_block_code, pass_code}
use Rattle.cs_code.specs.inner.Emitted.{Scope, core_in, takes_all, when_of}
use Rattle.cs_code.specs.inner.Kept.{past_block, past_stmt}
use Rattle.cs_base.specs.declared.resource.Rate.TheVariants as rate
use Rattle.cs_typed.specs.TypedTree as typed
use Rattle.cs_code.specs.declared.frame.Pass.TheVariants as pass

-- no more statements
pub block_none : (way : Pass) (place : ℕ) (p : Progress) → pass_block_code way place p no_stmt ≡ []
block_none way place p = refl

-- a single statement
pub alone_code : (way : Pass) (place : ℕ) (p : Progress) (s : Stmt)
    → pass_block_code way place p (andthen s no_stmt) ≡ pass_code way place p s
alone_code way place p s = append-nil (pass_code way place p s)

-- the statements of two blocks
abbrev both_blocks : Block → Block → Block
both_blocks no_stmt b = b
both_blocks (andthen s rest) b = andthen s (both_blocks rest b)

core_both : (o : Scope) (a b : typed.Block) → core_in o (typed.then_block a b) ≡ both_blocks (core_in o a) (core_in o b)
core_both o typed.no_stmt b = refl
core_both o (typed.andthen s rest) b =
    ap (andthen (core_stmt o.spaces s)) (core_both o rest b)

both_code : (way : Pass) (place : ℕ) (p : Progress) (a b : Block)
    → pass_block_code way place p (both_blocks a b) ≡ pass_block_code way place p a
    ++ pass_block_code way (place + length (pass_block_code way place p a)) (past_block p a) b
both_code way place p no_stmt b = ap (λ n. pass_block_code way n p b) (let z : place ≡ place + 0 = omega arith in z)
both_code way place p (andthen s rest) b =
    let own : List Op = pass_code way place p s in
    let next : ℕ = place + length own in
    let more : List Op = pass_block_code way next (past_stmt p s) rest in
    let done : Progress = past_block (past_stmt p s) rest in
    let long : next + length more ≡ place + length (own ++ more) = omega (arith, length-append own more) in
    ap (λ l. own ++ l) (both_code way next (past_stmt p s) rest b)
    ∙ sym (append_assoc own more (pass_block_code way (next + length more) done b))
    ∙ ap (λ n. (own ++ more) ++ pass_block_code way n done b) long

both_past : (p : Progress) (a b : Block) → past_block p (both_blocks a b) ≡ past_block (past_block p a) b
both_past p no_stmt b = refl
both_past p (andthen s rest) b = both_past (past_stmt p s) rest b

-- one more statement in the loop that emits them, from the end of the ops so far
pub block_more : (way : Pass) (o : Scope) (place next : ℕ) (p q : Progress) (all a b : typed.Block)
    → all ≡ typed.then_block a b → q ≡ past_block p (core_in o a)
    → next ≡ place + length (pass_block_code way place p (core_in o a)) → pass_block_code way place p (core_in o all)
    ≡ pass_block_code way place p (core_in o a) ++ pass_block_code way next q (core_in o b)
block_more way o place next p q all a b split on at =
    let own : List Op = pass_block_code way place p (core_in o a) in
    ap (λ x. pass_block_code way place p (core_in o x)) split ∙ ap (pass_block_code way place p) (core_both o a b)
    ∙ both_code way place p (core_in o a) (core_in o b)
    ∙ sym (ap (λ k. own ++ pass_block_code way (place + length own) k (core_in o b)) on)
    ∙ sym (ap (λ n. own ++ pass_block_code way n q (core_in o b)) at)

pub past_more : (o : Scope) (p q : Progress) (all a b : typed.Block) → all ≡ typed.then_block a b
    → q ≡ past_block p (core_in o a) → past_block p (core_in o all) ≡ past_block q (core_in o b)
past_more o p q all a b split on =
    ap (λ x. past_block p (core_in o x)) split ∙ ap (past_block p) (core_both o a b)
    ∙ both_past p (core_in o a) (core_in o b) ∙ sym (ap (λ k. past_block k (core_in o b)) on)

-- an `if`, if all its arms are initialised and if they aren't
pub all_taken : (way : Pass) (place : ℕ) (p : Progress) (r : Rate) (arms : Arms) → takes_all way r ≡ true
    → pass_code way place p (choose r arms) ≡ all_code place p arms
all_taken pass.Initialisation place p rate.Init arms h = absurd (true≢false (sym h))
all_taken pass.Initialisation place p rate.Control arms h = refl
all_taken pass.Initialisation place p rate.Audio arms h = refl
all_taken pass.Performance place p r arms h = absurd (true≢false (sym h))

pub one_taken : (way : Pass) (place : ℕ) (p : Progress) (r : Rate) (arms : Arms) → takes_all way r ≡ false
    → pass_code way place p (choose r arms) ≡ chosen_code way place p arms
one_taken pass.Initialisation place p rate.Init arms h = refl
one_taken pass.Initialisation place p rate.Control arms h = absurd (true≢false h)
one_taken pass.Initialisation place p rate.Audio arms h = absurd (true≢false h)
one_taken pass.Performance place p r arms h = refl

-- all arms are initialised only in the initialisation pass
pub taken_pass : (way : Pass) (r : Rate) → takes_all way r ≡ true → way ≡ pass.Initialisation
taken_pass pass.Initialisation r h = refl
taken_pass pass.Performance r h = absurd (true≢false (sym h))

-- a condition in the performance pass
pub tested : (way : Pass) (at : ℕ) (e : Expression) → way ≡ pass.Performance
    → operand_code (when_of way) at e 0 ≡ cond_code way at e
tested pass.Performance at e h = refl
tested pass.Initialisation at e h = absurd (cc)

-- the code of a statement that is performed once
pub code_once : (way w : Pass) (p : Progress) (s : Stmt) (r : Rate) (a b : List Op) → way ≡ w → r ≡ rate.Init
    → pass_code w 0 p s ≡ if_init r a b → a ≡ pass_code way 0 p s
code_once way w p s r a b in_pass once is =
    sym (ap (λ q. if_init q a b) once) ∙ sym is ∙ sym (ap (λ v. pass_code v 0 p s) in_pass)

-- the code of a statement that is performed in each cycle
pub each_is : {A : Type 0} (r : Rate) (once each : A) → (r ≡ rate.Control) ⊎ (r ≡ rate.Audio)
    → if_init r once each ≡ each
each_is r once each (inl h) = ap (λ q. if_init q once each) h
each_is r once each (inr h) = ap (λ q. if_init q once each) h

pub code_each : (way w : Pass) (p : Progress) (s : Stmt) (r : Rate) (a b : List Op) → way ≡ w
    → (r ≡ rate.Control) ⊎ (r ≡ rate.Audio) → pass_code w 0 p s ≡ if_init r a b → b ≡ pass_code way 0 p s
code_each way w p s r a b in_pass moves is =
    sym (each_is r a b moves) ∙ sym is ∙ sym (ap (λ v. pass_code v 0 p s) in_pass)
