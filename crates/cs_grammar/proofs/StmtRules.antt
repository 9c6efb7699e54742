-- The rules of statements, in the form in which the parser uses them.
use Rattle.std.proofs.Common.{◌≡◌, ◌∙◌, ◌≤◌, ◌<◌, ◌++◌, ℕ, true, false, List, [], ◌∷◌, length, map, Result, Ok, Err}
use Rattle.std.proofs.Common.{refl, arith, sym, ap, subst}
use Rattle.cs_base.specs.{declared.fault.Or.Or, declared.fault.OrcFault.OrcFault}
use Rattle.cs_grammar.specs.{declared.tree.OrcStmt.OrcStmt, declared.tree.Arg.Arg, declared.tree.Callee.Callee}
use Rattle.cs_grammar.specs.{inner.Rows.targets, declared.tree.Arm.Arm, declared.tree.Arm.out-Arm}
use Rattle.cs_grammar.specs.Lines.{line_form, operation, target}
use Rattle.cs_grammar.specs.Grammar.{ReadsArgs, ReadsArms, ReadsBlock, ReadsExpr, ReadsMore, ReadsStmt, arm_more}
use Rattle.cs_grammar.specs.Grammar.{assign, block_end, block_more, block_stop, ends_block, more_else, more_elseif}
use Rattle.cs_grammar.specs.Grammar.{more_endif, more_stop, stmt_assign, stmt_bare, stmt_results}
use Rattle.cs_grammar.specs.Reading.{Left, Reading, Scope, both, ended, left, mapped, next_is, skip, three}
use Rattle.cs_grammar.specs.Tree.{Argument, Arms, Block, Expression, Statement, andthen, argument, arm, arms, block}
use Rattle.cs_grammar.specs.Tree.{call, expression, no_stmt, otherwise, statement}
use Rattle.cs_grammar.specs.inner.Answers.{Gives, IsArm, IsClosed, IsCondition, line_past, past}
use Rattle.cs_grammar.specs.Symbols.{Symbol, after, next}
use Rattle.std.specs.Global.{Vec}
use Rattle.cs_grammar.proofs.Gives.{closing_keeps, through_is, ended_is, valued, left_valued}
use Rattle.cs_grammar.proofs.{OneRow.reads_targets, OneStmt.stmt_less, OneStmt.stmt_is, OneStmt.same_block, Sizes.size}
use Rattle.cs_base.specs.declared.fault.Or.TheVariants as or
use Rattle.cs_grammar.specs.declared.expr.Level.TheVariants as at
use Rattle.cs_grammar.specs.declared.stmt.LineForm.TheVariants as form
use Rattle.cs_grammar.specs.declared.symbol.Expected.TheVariants as expected

-- ---- the results of calls, as the grammar sees them

-- the mirror of arguments
abbrev pub args_in : Vec Arg → List Argument
args_in v = map argument v.items

-- the mirror of statements
abbrev pub stmts_in : Vec OrcStmt → Block
stmts_in v = block v.items

-- the mirror of an arm
abbrev pub arm_in : Arm → Expression × Block
arm_in a = (expression (out-Arm a).cond, block (out-Arm a).body.items)

-- the mirror of the statements after `else`
abbrev pub else_in : Vec OrcStmt → Arms
else_in v = otherwise (block v.items)

-- the mirror of arms with the statements after `else`
abbrev pub chain_in : (Vec Arm × Vec OrcStmt) → Arms
chain_in p = arms (block p.1.items) p.0.items

-- ---- lines

module _ (s : Scope) (ts : List Symbol) where
  pub assign_is : (n : Reading (List ℕ)) (e : Reading Expression) → line_form s ts ≡ form.Assignment → target s ts ≡ n
      → ReadsExpr s at.Expr (skip (left n)) e
      → ReadsStmt s ts (ended s (both (assign (next ts).line (next (after ts)).kind) n e))
  assign_is n e f t h =
      subst (λ o. ReadsStmt s ts (ended s (both (assign (next ts).line (next (after ts)).kind) o e))) t
      (stmt_assign f (subst (λ o. ReadsExpr s at.Expr (skip (left o)) e) (sym t) h))

  abbrev ResultsRead : Reading (List Argument) → Reading (List (List ℕ)) → Reading Callee → Type 0
  ResultsRead args n p = ReadsArgs s (left p) args → ReadsStmt s ts (ended s (three (call (next ts).line) n p args))

  pub results_is : (n : Reading (List (List ℕ))) (p : Reading Callee) (args : Reading (List Argument))
      → line_form s ts ≡ form.Results → targets s ts ≡ n
      → operation s (left n) ≡ p → ReadsArgs s (left p) args
      → ReadsStmt s ts (ended s (three (call (next ts).line) n p args))
  results_is n p args f t o h =
      let start : ResultsRead args (targets s ts) (operation s (left (targets s ts))) =
      stmt_results f (reads_targets s ts) in
      let middle : ResultsRead args n (operation s (left n)) =
      subst (λ x. ResultsRead args x (operation s (left x))) t start in
      subst (λ x. ResultsRead args n x) o middle h

  abbrev BareRead : Reading (List Argument) → Reading Callee → Type 0
  BareRead args p = ReadsArgs s (left p) args → ReadsStmt s ts (ended s (both (call (next ts).line []) p args))

  pub bare_is : (p : Reading Callee) (args : Reading (List Argument)) → line_form s ts ≡ form.Bare
      → operation s (Ok ts) ≡ p → ReadsArgs s (left p) args
      → ReadsStmt s ts (ended s (both (call (next ts).line []) p args))
  bare_is p args f o h =
      let start : BareRead args (operation s (Ok ts)) = stmt_bare f in
      subst (λ x. BareRead args x) o start h

  pub line_is : (x : Statement) (mid : List Symbol) (st : Left) → ReadsStmt s ts (ended s (Ok (x, mid)))
      → line_past s (next mid).kind mid ≡ st
      → ReadsStmt s ts (valued x st)
  line_is x mid st h e = subst (ReadsStmt s ts) (ended_is s x mid st e) h

  -- a statement uses at least one symbol
  pub stmt_shorter : (x : Statement) (rest : List Symbol) → ReadsStmt s ts (Ok (x, rest)) → length rest < length ts
  stmt_shorter x rest h =
      let is : size (Ok rest) ≤ length ts = subst (λ o. size (left o) ≤ length ts) (stmt_is h) (stmt_less s ts) in
      omega (arith, is)

-- ---- blocks

-- statements, followed by a block
abbrev pub with_all : List OrcStmt → Block → Block
with_all [] b = b
with_all (x ∷ xs) b = andthen (statement x) (with_all xs b)

with_all_more : (xs : List OrcStmt) (x : OrcStmt) (b : Block)
    → with_all (xs ++ x ∷ []) b ≡ with_all xs (andthen (statement x) b)
with_all_more [] x b = refl
with_all_more (y ∷ xs) x b = ap (andthen (statement y)) (with_all_more xs x b)

with_all_none : (xs : List OrcStmt) → with_all xs no_stmt ≡ block xs
with_all_none [] = refl
with_all_none (x ∷ xs) = ap (andthen (statement x)) (with_all_none xs)

-- every reading of the remaining statements, with the statements so far in front, is a reading of the entire
-- block
abbrev pub BlockSoFar : Scope → List Symbol → List OrcStmt → List Symbol → Type 0
BlockSoFar s old xs now =
    (out : Reading Block) → ReadsBlock s (Ok now) out → ReadsBlock s (Ok old) (mapped (with_all xs) out)

pub block_begun : (s : Scope) (old : List Symbol) → BlockSoFar s old [] old
block_begun s old (Ok (b, ts)) h = h
block_begun s old (Err f) h = h

grown : (xs : List OrcStmt) (x : OrcStmt) (mid : List Symbol) (out : Reading Block)
    → mapped (with_all xs) (both andthen (Ok (statement x, mid)) out) ≡ mapped
    (with_all (xs ++ x ∷ [])) out
grown xs x mid (Ok (b, ts)) = ap (λ y. Ok (y, ts)) (sym (with_all_more xs x b))
grown xs x mid (Err f) = refl

pub block_grown : (s : Scope) (old mid now : List Symbol) (xs : List OrcStmt) (x : OrcStmt) → BlockSoFar s old xs mid
    → ends_block s (next mid).kind ≡ false
    → ReadsStmt s mid (Ok (statement x, now)) → BlockSoFar s old (xs ++ x ∷ []) now
block_grown s old mid now xs x h e k out g =
    subst (ReadsBlock s (Ok old)) (grown xs x now out) (h (both andthen (Ok (statement x, now)) out) (block_more e k g))

pub block_fails : (s : Scope) (old mid : List Symbol) (xs : List OrcStmt) (f : OrcFault) → BlockSoFar s old xs mid
    → ends_block s (next mid).kind ≡ false
    → ReadsStmt s mid (Err f) → ReadsBlock s (Ok old) (Err f)
block_fails s old mid xs f h e k = h (Err f) (block_more e k block_stop)

pub block_done : (s : Scope) (old now : List Symbol) (xs : List OrcStmt) → BlockSoFar s old xs now
    → ends_block s (next now).kind ≡ true
    → ReadsBlock s (Ok old) (Ok (block xs, now))
block_done s old now xs h e =
    subst (λ b. ReadsBlock s (Ok old) (Ok (b, now))) (with_all_none xs) (h (Ok (no_stmt, now)) (block_end e))

-- ---- arms

-- arms, followed by a chain
abbrev pub cond_of : Arm → Expression
cond_of a = expression (out-Arm a).cond

-- the mirror of an arm's statements
abbrev pub body_of : Arm → Block
body_of a = block (out-Arm a).body.items

-- the mirror of arms, followed by a chain
abbrev pub chained : List Arm → Arms → Arms
chained [] r = r
chained (a ∷ xs) r = arm (cond_of a) (body_of a) (chained xs r)

chained_more : (xs : List Arm) (a : Arm) (r : Arms)
    → chained (xs ++ a ∷ []) r ≡ chained xs (arm (cond_of a) (body_of a) r)
chained_more [] a r = refl
chained_more (y ∷ xs) a r = ap (arm (cond_of y) (body_of y)) (chained_more xs a r)

chained_last : (xs : List Arm) (b : Block) → chained xs (otherwise b) ≡ arms b xs
chained_last [] b = refl
chained_last (y ∷ xs) b = ap (arm (cond_of y) (body_of y)) (chained_last xs b)

-- every reading of the remaining arms, with the arms so far in front, is a reading of the entire chain
abbrev pub ArmsSoFar : Scope → List Symbol → List Arm → List Symbol → Type 0
ArmsSoFar s old xs now =
    (out : Reading Arms) → ReadsArms s (Ok now) out → ReadsArms s (Ok old) (mapped (chained xs) out)

three_is : (c : Expression) (b : Block) (m n : List Symbol) (out : Reading Arms)
    → three arm (Ok (c, m)) (Ok (b, n)) out ≡ mapped (arm c b) out
three_is c b m n (Ok (r, ts)) = refl
three_is c b m n (Err f) = refl

-- an arm that was read, and the rest of the `if`
arm_read : (s : Scope) (ts now : List Symbol) (c : Expression) (b : Block) (out : Reading Arms)
    → IsArm s ts (Ok ((c, b), now)) → ReadsMore s (Ok now) out
    → ReadsArms s (Ok ts) (mapped (arm c b) out)
arm_read s ts now c b out (Err f, y, h, k, e) g = cc
arm_read s ts now c b out (Ok (c2, m), Err f, h, k, e) g = cc
arm_read s ts now c b out (Ok (c2, m), Ok (b2, n), h, k, e) g =
    let same_c : c2 ≡ c = ap (λ o. cond_in o) (sym e) in
    let same_b : b2 ≡ b = ap (λ o. body_in o) (sym e) in
    let same_n : n ≡ now = ap (λ o. rest_in o) (sym e) in
    subst (λ x. ReadsArms s (Ok ts) (mapped (arm x b) out)) same_c
    (subst (λ y. ReadsArms s (Ok ts) (mapped (arm c2 y) out)) same_b
    (subst (ReadsArms s (Ok ts)) (three_is c2 b2 m n out)
    (arm_more h k (subst (λ x. ReadsMore s (Ok x) out) (sym same_n) g))))
  where
    cond_in : Reading (Expression × Block) → Expression
    cond_in (Ok (p, r)) = p.0
    cond_in (Err f) = c

    body_in : Reading (Expression × Block) → Block
    body_in (Ok (p, r)) = p.1
    body_in (Err f) = b

    rest_in : Reading (Expression × Block) → List Symbol
    rest_in (Ok (p, r)) = r
    rest_in (Err f) = now

arm_unread : (s : Scope) (ts : List Symbol) (f : OrcFault) → IsArm s ts (Err f) → ReadsArms s (Ok ts) (Err f)
arm_unread s ts f (Err g, y, h, k, e) =
    let same : g ≡ f = cc in
    let z : y ≡ Err g = same_block k block_stop in
    subst (λ x. ReadsArms s (Ok ts) (Err x)) same
    (arm_more h k (subst (λ w. ReadsMore s (left w) (Err g)) (sym z) more_stop))
arm_unread s ts f (Ok (c2, m), Err g, h, k, e) =
    let same : g ≡ f = cc in
    subst (λ x. ReadsArms s (Ok ts) (Err x)) same (arm_more h k more_stop)
arm_unread s ts f (Ok (c2, m), Ok (b2, n), h, k, e) = cc

chain_grown : (xs : List Arm) (a : Arm) (out : Reading Arms)
    → mapped (chained xs) (mapped (arm (cond_of a) (body_of a)) out) ≡ mapped
    (chained (xs ++ a ∷ [])) out
chain_grown xs a (Ok (r, ts)) = ap (λ y. Ok (y, ts)) (sym (chained_more xs a r))
chain_grown xs a (Err f) = refl

pub arms_begun : (s : Scope) (old : List Symbol) → ArmsSoFar s old [] old
arms_begun s old (Ok (r, ts)) h = h
arms_begun s old (Err f) h = h

pub arms_fail : (s : Scope) (old mid : List Symbol) (xs : List Arm) (f : OrcFault) → ArmsSoFar s old xs mid
    → IsArm s mid (Err f)
    → ReadsArms s (Ok old) (Err f)
arms_fail s old mid xs f h k = h (Err f) (arm_unread s mid f k)

module _ (s : Scope) (old mid now : List Symbol) (xs : List Arm) (a : Arm) (h : ArmsSoFar s old xs mid)
    (k : IsArm s mid (Ok ((cond_of a, body_of a), now))) where
  with_more : (out : Reading Arms) → ReadsMore s (Ok now) out
      → ReadsArms s (Ok old) (mapped (chained (xs ++ a ∷ [])) out)
  with_more out g =
      subst (ReadsArms s (Ok old)) (chain_grown xs a out) (h (mapped (arm (cond_of a) (body_of a)) out)
      (arm_read s mid now (cond_of a) (body_of a) out k g))

  pub arms_grown : next_is expected.Elseif now ≡ true → ArmsSoFar s old (xs ++ a ∷ []) (after now)
  arms_grown e out g = with_more out (more_elseif e g)

  pub arms_unended : (f : OrcFault) → ReadsMore s (Ok now) (Err f) → ReadsArms s (Ok old) (Err f)
  arms_unended f g = with_more (Err f) g

  pub arms_done : (b : Block) (last : List Symbol) → ReadsMore s (Ok now) (Ok (otherwise b, last))
      → ReadsArms s (Ok old) (Ok (arms b (xs ++ a ∷ []), last))
  arms_done b last g = subst (λ r. ReadsArms s (Ok old) (Ok (r, last))) (chained_last (xs ++ a ∷ []) b)
      (with_more (Ok (otherwise b, last)) g)

-- ---- the parts of an arm

pub condition_is : {s : Scope} {ts : List Symbol} (o : Reading Expression) → IsClosed s expected.Then ts o
    → IsCondition s ts (ended s o)
condition_is {s} o (c, k, e) = (c, k, ap (ended s) e)

pub condition_line : {s : Scope} {ts : List Symbol} (x : Expression) (us : List Symbol) (st : Left)
    → IsClosed s expected.Then ts (Ok (x, us))
    → line_past s (next us).kind us ≡ st → IsCondition s ts (valued x st)
condition_line {s} {ts} x us st h p = subst (IsCondition s ts) (ended_is s x us st p) (condition_is (Ok (x, us)) h)

paired : (x y : Expression) (ws us : List Symbol) (b : Reading Block) → x ≡ y
    → both {C = Expression × Block} (λ c z. (c, z)) (Ok (x, ws)) b ≡ both {C = Expression × Block} (λ c z. (c, z))
    (Ok (y, us)) b
paired x y ws us (Ok (z, vs)) e = ap (λ c. Ok ((c, z), vs)) e
paired x y ws us (Err f) e = refl

module _ {s : Scope} {ts : List Symbol} where
  pub arm_unmet : (f : OrcFault) → IsCondition s ts (Err f) → IsArm s ts (Err f)
  arm_unmet f (Err g, k, e) =
      let same : g ≡ f = cc in
      subst (λ x. IsArm s ts (Err x)) same (Err g, Err g, k, block_stop, refl)
  arm_unmet f (Ok (y, us), k, e) = (Ok (y, us), Err f, k, subst (λ x. ReadsBlock s (left x) (Err f)) e block_stop, refl)

  pub arm_is : (x : Expression) (ws : List Symbol) (b : Reading Block) → IsCondition s ts (Ok (x, ws))
      → ReadsBlock s (Ok ws) b
      → IsArm s ts (both (λ c z. (c, z)) (Ok (x, ws)) b)
  arm_is x ws b (Err g, k, e) j = cc
  arm_is x ws b (Ok (y, us), k, e) j = (
    Ok (y, us),
    b,
    k,
    subst (λ st. ReadsBlock s st b) (ap left e) j,
    paired x y ws us b
        (closing_keeps s s expected.Then x y ws us e),
  )

-- ---- after the arms

else_line : (s : Scope) (ts : List Symbol) (st : Left) → line_past s (next (after ts)).kind (after ts) ≡ st
    → left (ended s (Ok (no_stmt, after ts))) ≡ st
else_line s ts st g = ap left (ended_is s no_stmt (after ts) st g) ∙ left_valued no_stmt st

module _ {s : Scope} {ts : List Symbol} (i : next_is expected.Elseif ts ≡ false) where
  pub endif_is : (st : Left) → next_is expected.Else ts ≡ false → past s expected.Endif ts ≡ st
      → ReadsMore s (Ok ts) (valued (otherwise no_stmt) st)
  endif_is st e p = subst (ReadsMore s (Ok ts)) (through_is s expected.Endif (otherwise no_stmt) ts st p)
      (more_endif i e)

  pub else_no_line : (f : OrcFault) → next_is expected.Else ts ≡ true
      → line_past s (next (after ts)).kind (after ts) ≡ Err f → ReadsMore s (Ok ts) (Err f)
  else_no_line f e g = more_else i e (subst (λ st. ReadsBlock s st (Err f)) (sym (else_line s ts (Err f) g)) block_stop)

  pub else_no_block : (us : List Symbol) (f : OrcFault) → next_is expected.Else ts ≡ true
      → line_past s (next (after ts)).kind (after ts) ≡ Ok us
      → ReadsBlock s (Ok us) (Err f) → ReadsMore s (Ok ts) (Err f)
  else_no_block us f e g k = more_else i e (subst (λ st. ReadsBlock s st (Err f)) (sym (else_line s ts (Ok us) g)) k)

  pub else_is : (us vs : List Symbol) (b : Block) (st : Left) → next_is expected.Else ts ≡ true
      → line_past s (next (after ts)).kind (after ts) ≡ Ok us
      → ReadsBlock s (Ok us) (Ok (b, vs)) → past s expected.Endif vs ≡ st
      → ReadsMore s (Ok ts) (valued (otherwise b) st)
  else_is us vs b st e g k p =
      subst (ReadsMore s (Ok ts)) (through_is s expected.Endif (otherwise b) vs st p) (more_else i e
      (subst (λ x. ReadsBlock s x (Ok (b, vs))) (sym (else_line s ts (Ok us) g)) k))

-- ---- a reading that satisfies a weaker property

pub weaker : {T A : Type 0} (see : T → A) (r : Result T (Or OrcFault)) (rest : List Symbol) (P Q : Reading A → Type 0)
    → ((o : Reading A) → P o → Q o)
    → Gives see r rest P → Gives see r rest Q
weaker see (Ok x) rest P Q k h = k (Ok (see x, rest)) h
weaker see (Err (or.Fault f)) rest P Q k h = k (Err f) h
weaker see (Err or.OutOfMemory) rest P Q k h = tt
