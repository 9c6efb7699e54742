-- Nodes of expressions.
use Rattle.std.proofs.Common.{◌≡◌, ◌∙◌, ◌+◌, ◌++◌, ◌∷◌, ℕ, List, [], Some, None, IfOk, Result}
use Rattle.std.proofs.Common.{◌⊎◌, inl, inr, refl, ap, subst, sym}
use Rattle.std.proofs.lemmas.Option.{none-some}
use Rattle.cs_base.specs.declared.resource.Rate.{Rate}
use Rattle.cs_ir.proofs.Drafting.{grew_on}
use Rattle.cs_ir.specs.{Drafts.Draft, Drafts.Grew, Waves.if_init, declared.op.Act.Act, declared.op.Op.Op}
use Rattle.cs_ir.specs.declared.register.Reg.{Reg}
use Rattle.cs_meaning.specs.When.{When, cycle}
use Rattle.cs_code.specs.inner.Kept.{past}
use Rattle.cs_typed.specs.TypedTree.{Expression, expression, of_part, number, neg, pair, pick, apply}
use Rattle.cs_typed.specs.{WellRated.node_rate, declared.tree.TypedExpr.TypedExpr, declared.tree.TypedPart.TypedPart}
use Rattle.cs_typed.specs.declared.tree.TypedPart.TheVariants.{Number}
use Rattle.cs_words.specs.declared.sign.BinOp.{BinOp}
use Rattle.cs_code.specs.inner.Code.{own, code, operand_code, unless_there, copied, keep_code, kept_code}
use Rattle.cs_code.specs.inner.Spots.{op_of, direct, kept_or, spot, temp, reg_or}
use Rattle.cs_base.specs.declared.resource.Rate.TheVariants as rate
use Rattle.cs_ir.specs.declared.op.Act.TheVariants as act

pub rate_of_part : (r : Rate) (w : TypedPart) → node_rate (of_part r w) ≡ r
rate_of_part r (Number v) = refl
rate_of_part r a = refl

-- a value that is in a register already, and a value that isn't
pub there_code : (when : When) (at : ℕ) (e : Expression) (d : ℕ) (q : Reg) → direct when at e ≡ Some q
    → operand_code when at e d ≡ []
there_code when at e d q h = ap (λ o. unless_there o (own when at e (temp (node_rate e) d) d)) h

pub there_spot : (when : When) (at : ℕ) (e : Expression) (d : ℕ) (q : Reg) → direct when at e ≡ Some q
    → spot when at e d ≡ q
there_spot when at e d q h = ap (λ o. reg_or o (temp (node_rate e) d)) h

pub there_copied : (when : When) (at : ℕ) (e : Expression) (x : Reg) (d : ℕ) (q : Reg)
    → direct when at e ≡ Some q → code when at e x d ≡ op_of act.Copy x (q ∷ []) ∷ []
there_copied when at e x d q h = ap (λ o. copied o x (own when at e x d)) h

pub made_code : (when : When) (at : ℕ) (e : Expression) (d : ℕ) → direct when at e ≡ None → operand_code when at e d
    ≡ own when at e (temp (node_rate e) d) d
made_code when at e d h = ap (λ o. unless_there o (own when at e (temp (node_rate e) d) d)) h

pub made_spot : (when : When) (at : ℕ) (e : Expression) (d : ℕ) → direct when at e ≡ None
    → spot when at e d ≡ temp (node_rate e) d
made_spot when at e d h = ap (λ o. reg_or o (temp (node_rate e) d)) h

pub made_copied : (when : When) (at : ℕ) (e : Expression) (x : Reg) (d : ℕ) → direct when at e ≡ None
    → code when at e x d ≡ own when at e x d
made_copied when at e x d h = ap (λ o. copied o x (own when at e x d)) h

inner_past : (when : When) (r : Rate) (at parts : ℕ) (q : Reg) → kept_or when r at None ≡ Some q
    → if_init r (at + 1) parts ≡ if_init r (at + 1) at
inner_past cycle rate.Init at parts q h = refl
inner_past a e at parts q h = absurd (none-some q h)

pub there_past : (when : When) (at : ℕ) (e : Expression) (q : Reg) → direct when at e ≡ Some q
    → past at e ≡ if_init (node_rate e) (at + 1) at
there_past when at (neg r a) q h = inner_past when r at (past at a) q h
there_past when at (pair r o a b) q h = inner_past when r at (past (past at a) b) q h
there_past when at (pick r c a b) q h = inner_past when r at (past (past (past at c) a) b) q h
there_past when at (apply r g a) q h = inner_past when r at (past at a) q h
there_past when at a q h = refl

-- the code of the kept parts of an expression that changes, and the number after them
abbrev pub parts_code : ℕ → Expression → List Op
parts_code at (neg r a) = keep_code at a
parts_code at (pair r b y z) = keep_code at y ++ keep_code (past at y) z
parts_code at (pick r c y z) = keep_code at c ++ (keep_code (past at c) y ++ keep_code (past (past at c) y) z)
parts_code at (apply r g a) = keep_code at a
parts_code at _ = []

abbrev pub parts_past : ℕ → Expression → ℕ
parts_past at (neg r a) = past at a
parts_past at (pair r o a b) = past (past at a) b
parts_past at (pick r c a b) = past (past (past at c) a) b
parts_past at (apply r f a) = past at a
parts_past at _ = at

-- an expression is kept completely or by its parts
pub keep_splits : (at : ℕ) (e : Expression) → keep_code at e ≡ if_init (node_rate e) (kept_code at e) (parts_code at e)
keep_splits at (number r n) = refl
keep_splits at a = refl

pub past_splits : (at : ℕ) (e : Expression) → past at e ≡ if_init (node_rate e) (at + 1) (parts_past at e)
past_splits at (number r n) = refl
past_splits at a = refl

-- only the parts of an expression that changes are kept
goes_on : {A : Type 0} (q r : Rate) (x y : A) → q ≡ r → (r ≡ rate.Control) ⊎ (r ≡ rate.Audio) → if_init q x y ≡ y
goes_on q r x y e (inl h) = ap (λ k. if_init k x y) (e ∙ h)
goes_on q r x y e (inr h) = ap (λ k. if_init k x y) (e ∙ h)

pub keeps_parts : (at : ℕ) (e : TypedExpr) → (e.rate ≡ rate.Control) ⊎ (e.rate ≡ rate.Audio)
    → (keep_code at (expression e) ≡ parts_code at (expression e))
    × (past at (expression e) ≡ parts_past at (expression e))
keeps_parts at e moves =
    let k : Expression = expression e in
    let is : node_rate k ≡ e.rate = rate_of_part e.rate e.what in (
      keep_splits at k ∙ goes_on (node_rate k) e.rate (kept_code at k) (parts_code at k) is moves,
      past_splits at k ∙ goes_on (node_rate k) e.rate (at + 1) (parts_past at k) is moves,
    )

-- an expression that doesn't change is kept completely
pub kept_whole : (at : ℕ) (e : TypedExpr) → e.rate ≡ rate.Init
    → (keep_code at (expression e) ≡ kept_code at (expression e)) × (past at (expression e) ≡ at + 1)
kept_whole at e once =
    let k : Expression = expression e in
    let is : node_rate k ≡ rate.Init = rate_of_part e.rate e.what ∙ once in (
      keep_splits at k ∙ ap (λ q. if_init q (kept_code at k) (parts_code at k)) is,
      past_splits at k ∙ ap (λ q. if_init q (at + 1) (parts_past at k)) is,
    )

-- the number after a value, from the number after its parts
pub made_past : {E : Type 0} (r : Result ℕ E) (at n : ℕ) (e k : Expression) → e ≡ k → n ≡ parts_past at k
    → IfOk r (λ m. m ≡ if_init (node_rate k) (at + 1) n) → IfOk r (λ m. m ≡ past at e)
made_past r at n e k is parts h =
    subst (λ x. IfOk r (λ m. m ≡ x))
    (ap (if_init (node_rate k) (at + 1)) parts ∙ sym (past_splits at k) ∙ sym (ap (past at) is)) h

-- One operand and the op on it; two operands one after another; and three.
pub made_one : (when : When) (at d : ℕ) (o : Act) (e k y : Expression) (x p : Reg) (from : List Reg)
    (old first new : Draft)
    → e ≡ k → own when at k x d ≡ operand_code when at y d ++ (op_of o x (spot when at y d ∷ []) ∷ [])
    → p ≡ spot when at y d → from ≡ p ∷ []
    → Grew old first (operand_code when at y d) → Grew first new (op_of o x from ∷ [])
    → Grew old new (own when at e x d)
made_one when at d o e k y x p from old first new is code_is p_is one made op =
    let regs : from ≡ spot when at y d ∷ [] = one ∙ ap (λ q. q ∷ []) p_is in
    subst (Grew old new) (ap (λ qs. operand_code when at y d ++ (op_of o x qs ∷ [])) regs
    ∙ sym code_is ∙ sym (ap (λ z. own when at z x d) is)) (grew_on old first new _ _ made op)

pub made_pair : (when : When) (at next d one : ℕ) (r : Rate) (b : BinOp) (e y z : Expression) (x p q : Reg)
    (from : List Reg) (old first second new : Draft) → e ≡ pair r b y z → next ≡ past at y → one ≡ d + 1
    → p ≡ spot when at y d → q ≡ spot when next z one → from ≡ p ∷ q ∷ []
    → Grew old first (operand_code when at y d) → Grew first second (operand_code when next z one)
    → Grew second new (op_of (act.Pair b) x from ∷ []) → Grew old new (own when at e x d)
made_pair when at next d one r b e y z x p q from old first second new is past_it on p_is q_is both a c op =
    let second_at : q ≡ spot when (past at y) z (d + 1) = q_is ∙ (λ i. spot when (past_it i) z (on i)) in
    let regs : from ≡ spot when at y d ∷ spot when (past at y) z (d + 1) ∷ [] =
    both ∙ (λ i. p_is i ∷ second_at i ∷ []) in
    subst (Grew old new)
    ((λ i. operand_code when at y d ++ (operand_code when (past_it i) z (on i) ++ (op_of (act.Pair b) x (regs i) ∷ [])))
    ∙ sym (ap (λ k. own when at k x d) is)) (grew_on old first new _ _ a (grew_on first second new _ _ c op))

pub made_pick : (when : When) (at next last d one two : ℕ) (r : Rate) (e v y z : Expression) (x o p q : Reg)
    (from : List Reg) (old first second third new : Draft)
    → e ≡ pick r v y z → next ≡ past at v → last ≡ past next y → one ≡ d + 1 → two ≡ one + 1
    → o ≡ spot when at v d → p ≡ spot when next y one → q ≡ spot when last z two → from ≡ o ∷ p ∷ q ∷ []
    → Grew old first (operand_code when at v d) → Grew first second (operand_code when next y one)
    → Grew second third (operand_code when last z two) → Grew third new (op_of act.Pick x from ∷ [])
    → Grew old new (own when at e x d)
made_pick when at next last d one two r e v y z x o p q from old first second third new is past_v past_y on on_more
    o_is p_is q_is all a b c op =
    let last_is : last ≡ past (past at v) y = past_y ∙ ap (λ n. past n y) past_v in
    let two_is : two ≡ d + 1 + 1 = on_more ∙ ap (λ n. n + 1) on in
    let second_at : p ≡ spot when (past at v) y (d + 1) = p_is ∙ (λ i. spot when (past_v i) y (on i)) in
    let third_at : q ≡ spot when (past (past at v) y) z (d + 1 + 1) =
    q_is ∙ (λ i. spot when (last_is i) z (two_is i)) in
    let regs : from ≡ spot when at v d ∷ spot when (past at v) y (d + 1) ∷ spot when (past (past at v) y) z (d + 1 + 1)
    ∷ [] =
    all ∙ (λ i. o_is i ∷ second_at i ∷ third_at i ∷ []) in
    subst (Grew old new) ((λ i. operand_code when at v d ++ (operand_code when (past_v i) y (on i)
    ++ (operand_code when (last_is i) z (two_is i) ++ (op_of act.Pick x (regs i) ∷ []))))
    ∙ sym (ap (λ k. own when at k x d) is))
    (grew_on old first new _ _ a (grew_on first second new _ _ b (grew_on second third new _ _ c op)))

-- a value that is in a register already, and a value that is computed
pub ruleset nodes = (there_code, there_spot, there_past, made_code, made_spot)

pub ruleset copies = (there_copied, made_copied, there_past)

-- the kept parts of an expression that changes or doesn't
pub ruleset splits = (rate_of_part, keep_splits, past_splits)
