-- The code of statements with other local variables, at a later place of a text, is the same code, moved.
use Rattle.std.proofs.Common.{◌≡◌, ◌∙◌, ◌+◌, ◌++◌, ℕ, Bool, true, false, List, [], ◌∷◌, length, map, Option, Some, None}
use Rattle.std.proofs.Common.{if◌then◌else◌, refl, sym, ap, ap₂, subst, arith}
use Rattle.std.proofs.lemmas.List.{map-append, length-map}
use Rattle.std.specs.Option.{option_map}
use Rattle.cs_base.specs.{Rates.at_rate, Rates.same_rate, declared.resource.Rate.Rate, declared.spaces.Spaces.Spaces}
use Rattle.cs_base.specs.declared.per_rate.PerRate.{PerRate}
use Rattle.cs_words.specs.declared.catalogue.Opcode.{Opcode}
use Rattle.cs_ir.specs.Flat.{Begins, begin_of, moved_act, moved_op, moved_ops, moved_reg}
use Rattle.cs_ir.specs.{Registers.local, Registers.temporary, Waves.if_init, declared.op.Act.Act, declared.op.Op.Op}
use Rattle.cs_ir.specs.{declared.op.Reach.Reach, declared.register.Reg.Reg}
use Rattle.cs_meaning.specs.Core.{Stmt, Block, Arms, set, unit, zak, store, out, out_at, ask, turnoff, nothing, choose}
use Rattle.cs_meaning.specs.Core.{no_stmt, andthen, otherwise, arm, core}
use Rattle.cs_meaning.specs.{Notes.reg, When.When, When.beginning, When.cycle}
use Rattle.cs_typed.specs.TypedTree.{Expression, number, var, field, head, neg, pair, pick, apply, moved_variable}
use Rattle.cs_typed.specs.{TypedTree.moved_expression, WellRated.node_rate, declared.tree.Var.Var as Variable}
use Rattle.cs_typed.specs.declared.tree.Var.TheVariants.{Local, Global}
use Rattle.cs_code.specs.{declared.frame.Pass.Pass, declared.frame.Progress.Progress, inner.Served.further_on}
use Rattle.cs_code.specs.inner.Code.{unless_there, copied, own, code, operand_code, operands_code, kept_code, keep_code}
use Rattle.cs_code.specs.inner.Code.{keep_all_code, set_code, target, given_code, on_code, run_code, start_code}
use Rattle.cs_code.specs.inner.Code.{unit_code, seek_code, store_code, out_ops, out_at_ops, arm_code, cond_code}
use Rattle.cs_code.specs.inner.Code.{cond_reg, choice_code, pass_code, pass_block_code, chosen_code, all_code}
use Rattle.cs_code.specs.inner.Kept.{start, past, past_parts, past_stmt, past_block}
use Rattle.cs_code.specs.inner.Spots.{op_of, direct, kept_or, kept_reg, local_of, reg_or, temp, spot, spots}
use Rattle.cs_code.proofs.{Inside.Reads, MovedTree.stmt_further, MovedTree.block_further}
use Rattle.cs_code.proofs.MovedTree.{moved_stmt, moved_stmts, moved_arms, past_grown, core_moved, stmts_past, Further}
use Rattle.cs_base.specs.declared.resource.Rate.TheVariants as rate
use Rattle.cs_ir.specs.declared.op.Act.TheVariants as act
use Rattle.cs_typed.specs.TypedTree as typed
use Rattle.cs_code.specs.declared.frame.Pass.TheVariants as pass

rate_stays : (l : PerRate ℕ) (e : Expression) → node_rate (moved_expression l e) ≡ node_rate e
rate_stays l (number r n) = refl
rate_stays l a = refl

-- ops, and the ops that they become when moved
record Moves (k : Op → Op) (old new : List Op) : Type 0 where
  pub same : new ≡ map k old

nothing_moves : {k : Op → Op} → Moves k [] []
nothing_moves = record { same = refl }

join : {k : Op → Op} {a b a' b' : List Op} → Moves k a a' → Moves k b b' → Moves k (a ++ b) (a' ++ b')
join {k} {a} {b} h i = record { same = ap₂ ◌++◌ h.same i.same ∙ sym (map-append k a b) }

more : {k : Op → Op} {x x' : Op} {a a' : List Op} → x' ≡ k x → Moves k a a' → Moves k (x ∷ a) (x' ∷ a')
more h i = record { same = ap₂ ◌∷◌ h i.same }

one : {k : Op → Op} {x x' : Op} → x' ≡ k x → Moves k (x ∷ []) (x' ∷ [])
one h = more h nothing_moves

-- operands one after another, followed by an op
after_one : {k : Op → Op} {a a' : List Op} {x x' : Op} → Moves k a a' → x' ≡ k x
    → Moves k (a ++ (x ∷ [])) (a' ++ (x' ∷ []))
after_one h e = join h (one e)

after_two : {k : Op → Op} {a b a' b' : List Op} {x x' : Op} → Moves k a a' → Moves k b b' → x' ≡ k x
    → Moves k (a ++ (b ++ (x ∷ []))) (a' ++ (b' ++ (x' ∷ [])))
after_two h i e = join h (after_one i e)

after_three : {k : Op → Op} {a b c a' b' c' : List Op} {x x' : Op} → Moves k a a' → Moves k b b' → Moves k c c'
    → x' ≡ k x → Moves k (a ++ (b ++ (c ++ (x ∷ [])))) (a' ++ (b' ++ (c' ++ (x' ∷ []))))
after_three h i j e = join h (after_two i j e)

either : {k : Op → Op} {a b a' b' : List Op} (t t' : Bool) → t' ≡ t → Moves k a a' → Moves k b b'
    → Moves k (if t then a else b) (if t' then a' else b')
either {k} {a} {b} {a'} {b'} t t' e h i =
    subst (λ u. Moves k (if t then a else b) (if u then a' else b')) (sym e) (by t)
  where
    by : (t : Bool) → Moves k (if t then a else b) (if t then a' else b')
    by true = h
    by false = i

by_rate : {k : Op → Op} {a b a' b' : List Op} (r : Rate) → Moves k a a' → Moves k b b'
    → Moves k (if_init r a b) (if_init r a' b')
by_rate rate.Init h i = h
by_rate a h i = i

unless_is : {k : Op → Op} {a a' : List Op} (m : Reg → Reg) (o o' : Option Reg) → o' ≡ option_map m o → Moves k a a'
    → Moves k (unless_there o a) (unless_there o' a')
unless_is {k} {a} {a'} m o o' e h = subst (λ x. Moves k (unless_there o a) (unless_there x a')) (sym e) (by o)
  where
    by : (o : Option Reg) → Moves k (unless_there o a) (unless_there (option_map m o) a')
    by (Some q) = nothing_moves
    by None = h

module _ (w : Begins) (origin : ℕ) where
  abbrev l : PerRate ℕ
  l = w.locals

  abbrev E : Expression → Expression
  E e = moved_expression l e

  abbrev m : Reg → Reg
  m q = moved_reg w q

  abbrev Same : List Op → List Op → Type 0
  Same a b = Moves (moved_op w origin) a b

  -- ---- registers

  begin_local : (r : Rate) → begin_of w (local r) ≡ at_rate l r
  begin_local rate.Init = refl
  begin_local a = refl

  begin_temporary : (r : Rate) → begin_of w (temporary r) ≡ 0
  begin_temporary rate.Init = refl
  begin_temporary a = refl

  local_moved : (r : Rate) (n : ℕ) → reg r (at_rate l r + n) ≡ m (reg r n)
  local_moved r n = λ i. record { kind = local r; offset = sym (begin_local r) i + n }

  temp_moved : (r : Rate) (d : ℕ) → temp r d ≡ m (temp r d)
  temp_moved r d = λ i. record { kind = temporary r; offset = none i }
    where
      none : d ≡ begin_of w (temporary r) + d
      none = let e = begin_temporary r in omega (arith, e)

  temp_is : (e : Expression) (d : ℕ) → temp (node_rate (E e)) d ≡ m (temp (node_rate e) d)
  temp_is e d = ap (λ r. temp r d) (rate_stays l e) ∙ temp_moved (node_rate e) d

  -- ---- the registers that hold values

  local_is : (e : Expression) → local_of (E e) ≡ option_map m (local_of e)
  local_is (var r (Local q n)) = ap Some (local_moved q n)
  local_is a = refl

  -- the number of the next kept value, if kept values are read
  abbrev Counts : When → ℕ → ℕ → Type 0
  Counts when at at' = Reads when (at' ≡ w.kept + at)

  counts_on : (when : When) (e : Expression) (at at' : ℕ) → Counts when at at'
      → Counts when (past at e) (past at' (E e))
  counts_on beginning e at at' h = tt
  counts_on cycle e at at' h = past_grown l e w.kept at at' h

  kept_or_is : (when : When) (r : Rate) (at at' : ℕ) → Counts when at at' → (here : Option Reg)
      → kept_or when r at' (option_map m here) ≡ option_map m (kept_or when r at here)
  kept_or_is cycle rate.Init at at' h here = ap (λ n. Some (kept_reg n)) h
  kept_or_is a e at at' h here = refl

  direct_is : (when : When) (e : Expression) (at at' : ℕ) → Counts when at at'
      → direct when at' (E e) ≡ option_map m (direct when at e)
  direct_is when e at at' h =
      ap (λ r. kept_or when r at' (local_of (E e))) (rate_stays l e) ∙ ap (kept_or when (node_rate e) at') (local_is e)
      ∙ kept_or_is when (node_rate e) at at' h (local_of e)

  reg_or_is : (o : Option Reg) (x : Reg) → reg_or (option_map m o) (m x) ≡ m (reg_or o x)
  reg_or_is (Some q) x = refl
  reg_or_is None x = refl

  spot_is : (when : When) (e : Expression) (at at' : ℕ) → Counts when at at' → (d : ℕ)
      → spot when at' (E e) d ≡ m (spot when at e d)
  spot_is when e at at' h d =
      ap₂ reg_or (direct_is when e at at' h) (temp_is e d) ∙ reg_or_is (direct when at e) (temp (node_rate e) d)

  spots_are : (when : When) (es : List Expression) (at at' : ℕ) → Counts when at at' → (d : ℕ)
      → spots when at' (map E es) d ≡ map m (spots when at es d)
  spots_are when [] at at' h d = refl
  spots_are when (e ∷ es) at at' h d =
      ap₂ ◌∷◌ (spot_is when e at at' h d)
      (spots_are when es (past at e) (past at' (E e)) (counts_on when e at at' h) (d + 1))

  -- ---- expressions

  -- the code of a value, or nothing if it is in a register already
  part_is : (when : When) (e : Expression) (at at' : ℕ) → Counts when at at' → (d : ℕ)
      → Same (own when at e (temp (node_rate e) d) d) (own when at' (E e) (temp (node_rate (E e)) d) d)
      → Same (operand_code when at e d) (operand_code when at' (E e) d)
  part_is when e at at' h d is = unless_is m (direct when at e) (direct when at' (E e)) (direct_is when e at at' h) is

  own_is : (when : When) (e : Expression) (at at' : ℕ) → Counts when at at' → (x x' : Reg) → x' ≡ m x → (d : ℕ)
      → Same (own when at e x d) (own when at' (E e) x' d)
  own_is when (number r n) at at' h x x' i d = one (ap (λ y. op_of (act.Const n) y []) i)
  own_is when (var r (Local q n)) at at' h x x' i d =
      one (ap₂ (λ y z. op_of act.Copy y (z ∷ [])) i (local_moved q n))
  own_is when (var r (Global g)) at at' h x x' i d = one (ap (λ y. op_of (act.Load g) y []) i)
  own_is when (field r k) at at' h x x' i d = one (ap (λ y. op_of (act.Field k) y []) i)
  own_is when (head r k) at at' h x x' i d = one (ap (λ y. op_of (act.Head k) y []) i)
  own_is when (neg r a) at at' h x x' i d =
      after_one (part_is when a at at' h d (own_is when a at at' h _ _ (temp_is a d) d))
      (ap₂ (λ y z. op_of act.Neg y (z ∷ [])) i (spot_is when a at at' h d))
  own_is when (pair r b y z) at at' h x x' i d =
      let p = past at y in let p' = past at' (E y) in let on = counts_on when y at at' h in
      after_two (part_is when y at at' h d (own_is when y at at' h _ _ (temp_is y d) d))
      (part_is when z p p' on (d + 1) (own_is when z p p' on _ _ (temp_is z (d + 1)) (d + 1)))
      (ap₂ (λ u qs. op_of (act.Pair b) u qs) i
      (ap₂ (λ u v. u ∷ v ∷ []) (spot_is when y at at' h d) (spot_is when z p p' on (d + 1))))
  own_is when (pick r c y z) at at' h x x' i d =
      let p = past at c in let p' = past at' (E c) in let on = counts_on when c at at' h in
      let q = past p y in let q' = past p' (E y) in let far = counts_on when y p p' on in
      after_three (part_is when c at at' h d (own_is when c at at' h _ _ (temp_is c d) d))
      (part_is when y p p' on (d + 1) (own_is when y p p' on _ _ (temp_is y (d + 1)) (d + 1)))
      (part_is when z q q' far (d + 1 + 1) (own_is when z q q' far _ _ (temp_is z (d + 1 + 1)) (d + 1 + 1)))
      (ap₂ (λ u qs. op_of act.Pick u qs) i (ap₂ (λ u vs. u ∷ vs) (spot_is when c at at' h d)
      (ap₂ (λ u v. u ∷ v ∷ []) (spot_is when y p p' on (d + 1)) (spot_is when z q q' far (d + 1 + 1)))))
  own_is when (apply r g a) at at' h x x' i d =
      after_one (part_is when a at at' h d (own_is when a at at' h _ _ (temp_is a d) d))
      (ap₂ (λ y z. op_of (act.Call g) y (z ∷ [])) i (spot_is when a at at' h d))

  operand_is : (when : When) (e : Expression) (at at' : ℕ) → Counts when at at' → (d : ℕ)
      → Same (operand_code when at e d) (operand_code when at' (E e) d)
  operand_is when e at at' h d = part_is when e at at' h d (own_is when e at at' h _ _ (temp_is e d) d)

  operands_are : (when : When) (es : List Expression) (at at' : ℕ) → Counts when at at' → (d : ℕ)
      → Same (operands_code when at es d) (operands_code when at' (map E es) d)
  operands_are when [] at at' h d = nothing_moves
  operands_are when (e ∷ es) at at' h d =
      join (operand_is when e at at' h d)
      (operands_are when es (past at e) (past at' (E e)) (counts_on when e at at' h) (d + 1))

  code_is : (when : When) (e : Expression) (at at' : ℕ) → Counts when at at' → (x x' : Reg) → x' ≡ m x → (d : ℕ)
      → Same (code when at e x d) (code when at' (E e) x' d)
  code_is when e at at' h x x' i d =
      subst (λ o. Same (code when at e x d) (copied o x' (own when at' (E e) x' d))) (sym (direct_is when e at at' h))
      (by (direct when at e))
    where
      by : (o : Option Reg)
          → Same (copied o x (own when at e x d)) (copied (option_map m o) x' (own when at' (E e) x' d))
      by (Some q) = one (ap (λ y. op_of act.Copy y (m q ∷ [])) i)
      by None = own_is when e at at' h x x' i d

  -- ---- kept values

  kept_is : (e : Expression) (at at' : ℕ) → at' ≡ w.kept + at → Same (kept_code at e) (kept_code at' (E e))
  kept_is e at at' h = code_is beginning e 0 0 tt (kept_reg at) (kept_reg at') (ap kept_reg h) 0

  keep_is : (e : Expression) (at at' : ℕ) → at' ≡ w.kept + at → Same (keep_code at e) (keep_code at' (E e))
  keep_is (neg r a) at at' h = by_rate r (kept_is (neg r a) at at' h) (keep_is a at at' h)
  keep_is (pair r b y z) at at' h =
      by_rate r (kept_is (pair r b y z) at at' h)
      (join (keep_is y at at' h) (keep_is z (past at y) (past at' (E y)) (past_grown l y w.kept at at' h)))
  keep_is (pick r c y z) at at' h =
      let p = past at c in let p' = past at' (E c) in let on = past_grown l c w.kept at at' h in
      by_rate r (kept_is (pick r c y z) at at' h) (join (keep_is c at at' h)
      (join (keep_is y p p' on) (keep_is z (past p y) (past p' (E y)) (past_grown l y w.kept p p' on))))
  keep_is (apply r g a) at at' h = by_rate r (kept_is (apply r g a) at at' h) (keep_is a at at' h)
  keep_is w at at' h = by_rate (node_rate w) (kept_is w at at' h) nothing_moves

  keep_all_is : (es : List Expression) (at at' : ℕ) → at' ≡ w.kept + at
      → Same (keep_all_code at es) (keep_all_code at' (map E es))
  keep_all_is [] at at' h = nothing_moves
  keep_all_is (e ∷ es) at at' h =
      join (keep_is e at at' h) (keep_all_is es (past at e) (past at' (E e)) (past_grown l e w.kept at at' h))

  -- ---- parts of statements

  set_is : (when : When) (v : Variable) (e : Expression) (at at' : ℕ) → Counts when at at'
      → Same (set_code when at v e) (set_code when at' (moved_variable l v) (E e))
  set_is when (Local q n) e at at' h =
      either (same_rate (node_rate e) q) (same_rate (node_rate (E e)) q) (ap (λ r. same_rate r q) (rate_stays l e))
      (code_is when e at at' h (reg q n) (reg q (at_rate l q + n)) (local_moved q n) 0)
      (join (operand_is when e at at' h 0)
      (one (ap₂ (λ y z. op_of act.Copy y (z ∷ [])) (local_moved q n) (spot_is when e at at' h 0))))
  set_is when (Global g) e at at' h =
      join (operand_is when e at at' h 0) (one (ap (λ y. op_of (act.Save g) y (y ∷ [])) (spot_is when e at at' h 0)))

  target_is : (r : Rate) (vs : List Variable) → target r (map (moved_variable l) vs) ≡ m (target r vs)
  target_is r (Local q n ∷ vs) = by (same_rate q r)
    where
      by : (b : Bool) → (if b then reg q (at_rate l q + n) else temp r 0) ≡ m (if b then reg q n else temp r 0)
      by true = local_moved q n
      by false = temp_moved r 0
  target_is r a = temp_moved r 0

  given_is : (r : Rate) (vs : List Variable) → Same (given_code r vs) (given_code r (map (moved_variable l) vs))
  given_is r [] = nothing_moves
  given_is r (Local q n ∷ vs) =
      either (same_rate q r) (same_rate q r) refl nothing_moves
      (one (ap₂ (λ y z. op_of act.Copy y (z ∷ [])) (local_moved q n) (temp_moved r 0)))
  given_is r (Global g ∷ vs) = one (ap (λ y. op_of (act.Save g) y (y ∷ [])) (temp_moved r 0))

  -- an op on values, whose act is moved
  on_is : (when : When) (a a' : Act) (into into' : Reg) (es : List Expression) (at at' : ℕ) → Counts when at at'
      → a' ≡ moved_act w origin a → into' ≡ m into
      → Same (on_code when at a into es) (on_code when at' a' into' (map E es))
  on_is when a a' into into' es at at' h i j =
      join (operands_are when es at at' h 0) (one (λ n. op_of (i n) (j n) (spots_are when es at at' h 0 n)))

  run_is : (when : When) (a a' : Act) (r : Rate) (vs : List Variable) (xs : List Expression) (at at' : ℕ)
      → Counts when at at' → a' ≡ moved_act w origin a
      → Same (run_code when at a r vs xs) (run_code when at' a' r (map (moved_variable l) vs) (map E xs))
  run_is when a a' r vs xs at at' h i =
      join (operands_are when xs at at' h 0)
      (more (λ n. op_of (i n) (target_is r vs n) (spots_are when xs at at' h 0 n)) (given_is r vs))

  start_is : (r : Rate) (opcode : Opcode) (u u' : ℕ) (is : List Expression) → u' ≡ w.unit + u
      → Same (start_code r opcode u is) (start_code r opcode u' (map E is))
  start_is r opcode u u' is h =
      on_is beginning (act.Start opcode u) (act.Start opcode u') (temp r 0) (temp r 0) is 0 0 tt
      (ap (act.Start opcode) h) (temp_moved r 0)

  unit_is : (when : When) (r : Rate) (vs : List Variable) (opcode : Opcode) (u u' : ℕ) (reach : Reach)
      (xs : List Expression) (at at' : ℕ) → Counts when at at' → u' ≡ w.unit + u
      → Same (unit_code when at r vs opcode u reach xs)
      (unit_code when at' r (map (moved_variable l) vs) opcode u' reach (map E xs))
  unit_is when r vs opcode u u' reach xs at at' h i =
      run_is when (act.Unit opcode u reach) (act.Unit opcode u' reach) r vs xs at at' h
      (ap (λ n. act.Unit opcode n reach) i)

  seek_is : (is : List Expression) → Same (seek_code is) (seek_code (map E is))
  seek_is is = on_is beginning act.Seek act.Seek (temp rate.Init 0) (temp rate.Init 0) is 0 0 tt refl refl

  store_is : (when : When) (r : Rate) (reach : Reach) (es : List Expression) (at at' : ℕ) → Counts when at at'
      → Same (store_code when at r reach es) (store_code when at' r reach (map E es))
  store_is when r reach es at at' h =
      on_is when (act.Store reach) (act.Store reach) (temp r 0) (temp r 0) es at at' h refl (temp_moved r 0)

  out_are : (c : ℕ) (qs : List Reg) → Same (out_ops c qs) (out_ops c (map m qs))
  out_are c [] = nothing_moves
  out_are c (q ∷ qs) = more refl (out_are (c + 1) qs)

  out_at_are : (qs : List Reg) → Same (out_at_ops qs) (out_at_ops (map m qs))
  out_at_are (p ∷ (q ∷ qs)) = more refl (out_at_are qs)
  out_at_are a = nothing_moves

  sent_are : (es : List Expression) (at at' : ℕ) → at' ≡ w.kept + at → (send : List Reg → List Op)
      → ((qs : List Reg) → Same (send qs) (send (map m qs)))
      → Same (operands_code cycle at es 0 ++ send (spots cycle at es 0))
      (operands_code cycle at' (map E es) 0 ++ send (spots cycle at' (map E es) 0))
  sent_are es at at' h send does =
      join (operands_are cycle es at at' h 0)
      (subst (λ qs. Same (send (spots cycle at es 0)) (send qs)) (sym (spots_are cycle es at at' h 0))
      (does (spots cycle at es 0)))

  -- ---- statements

  -- a place of the text and of the code, and the place that it becomes when moved
  record Both (p p' : Progress) (at at' : ℕ) : Type 0 where
    pub text : Further (record { part = w.kept; unit = w.unit }) p p'
    pub place : at' ≡ origin + at

  as_long : {a a' : List Op} → Same a a' → length a' ≡ length a
  as_long {a} h = ap length h.same ∙ length-map a (moved_op w origin)

  both_on : (p p' q q' : Progress) (at at' : ℕ) {a a' : List Op} → Same a a'
      → Further (record { part = w.kept; unit = w.unit }) q q' → Both p p' at at'
      → Both q q' (at + length a) (at' + length a')
  both_on p p' q q' at at' same text b =
      record { text = text; place = (let e = as_long same in let f = b.place in omega (arith, e, f)) }

  both_jump : (p p' : Progress) (at at' : ℕ) → Both p p' at at' → Both p p' (at + 1) (at' + 1)
  both_jump p p' at at' b = record { text = b.text; place = (let f = b.place in omega (arith, f)) }

  cond_is : (way : Pass) (c : Expression) (at at' : ℕ) → at' ≡ w.kept + at
      → Same (cond_code way at c) (cond_code way at' (E c))
  cond_is pass.Initialisation c at at' h = keep_is c at at' h
  cond_is pass.Performance c at at' h = operand_is cycle c at at' h 0

  cond_at : (way : Pass) (c : Expression) (at at' : ℕ) → at' ≡ w.kept + at
      → cond_reg way at' (E c) ≡ m (cond_reg way at c)
  cond_at pass.Initialisation c at at' h = ap kept_reg h
  cond_at pass.Performance c at at' h = spot_is cycle c at at' h 0

  arm_is : {c c' x x' y y' : List Op} (at at' : ℕ) (q q' : Reg) → at' ≡ origin + at → q' ≡ m q
      → Same c c' → Same x x' → Same y y' → Same (arm_code at c q x y) (arm_code at' c' q' x' y')
  arm_is {c} {c'} {x} {x'} {y} {y'} at at' q q' s e cond body rest =
      let a = as_long cond in let b = as_long body in let d = as_long rest in
      let test : at' + length c' + 1 + length x' + 1 ≡ origin + (at + length c + 1 + length x + 1) =
      omega (arith, s, a, b) in
      let over : at' + length c' + 1 + length x' + 1 + length y'
      ≡ origin + (at + length c + 1 + length x + 1 + length y) = omega (arith, s, a, b, d) in
      join cond (more (ap₂ (λ to z. op_of (act.Unless to) z (z ∷ [])) test e)
      (join body (more (ap₂ (λ to z. op_of (act.Jump to) z []) over e) rest)))

  choice_is : {a b a' b' : List Op} (way : Pass) (r : Rate) → Same a a' → Same b b'
      → Same (choice_code way r a b) (choice_code way r a' b')
  choice_is pass.Initialisation r h i = by_rate r h i
  choice_is pass.Performance r h i = h

  mutual
    stmt_is : (way : Pass) (at at' : ℕ) (p p' : Progress) (s : Stmt) → Both p p' at at'
        → Same (pass_code way at p s) (pass_code way at' p' (moved_stmt l s))
    stmt_is way at at' p p' (choose r arms) b =
        choice_is way r (chosen_is way at at' p p' arms b) (all_are at at' p p' arms b)
    stmt_is pass.Initialisation at at' p p' (set r v e) b =
        by_rate r (set_is beginning v e 0 0 tt) (keep_is e p.part p'.part b.text.part)
    stmt_is pass.Initialisation at at' p p' (unit r vs opcode reach xs is) b =
        let starts = start_is r opcode p.unit p'.unit is b.text.unit in
        by_rate r (join starts (unit_is beginning r vs opcode p.unit p'.unit reach xs 0 0 tt b.text.unit))
        (join (keep_all_is xs p.part p'.part b.text.part) starts)
    stmt_is pass.Initialisation at at' p p' (zak r vs opcode reach xs) b =
        by_rate r (run_is beginning (act.Zak opcode reach) (act.Zak opcode reach) r vs xs 0 0 tt refl)
        (keep_all_is xs p.part p'.part b.text.part)
    stmt_is pass.Initialisation at at' p p' (store r reach es is) b =
        by_rate r (join (seek_is is) (store_is beginning r reach es 0 0 tt))
        (join (keep_all_is es p.part p'.part b.text.part) (seek_is is))
    stmt_is pass.Initialisation at at' p p' (out r es) b = keep_all_is es p.part p'.part b.text.part
    stmt_is pass.Initialisation at at' p p' (out_at r es) b = keep_all_is es p.part p'.part b.text.part
    stmt_is pass.Initialisation at at' p p' (ask es) b =
        on_is beginning act.Ask act.Ask (temp rate.Init 0) (temp rate.Init 0) es 0 0 tt refl refl
    stmt_is pass.Initialisation at at' p p' (turnoff r) b = nothing_moves
    stmt_is pass.Initialisation at at' p p' nothing b = nothing_moves
    stmt_is pass.Performance at at' p p' (set r v e) b =
        by_rate r nothing_moves (set_is cycle v e p.part p'.part b.text.part)
    stmt_is pass.Performance at at' p p' (unit r vs opcode reach xs is) b =
        by_rate r nothing_moves
        (unit_is cycle r vs opcode p.unit p'.unit reach xs p.part p'.part b.text.part b.text.unit)
    stmt_is pass.Performance at at' p p' (zak r vs opcode reach xs) b =
        by_rate r nothing_moves
        (run_is cycle (act.Zak opcode reach) (act.Zak opcode reach) r vs xs p.part p'.part b.text.part refl)
    stmt_is pass.Performance at at' p p' (store r reach es is) b =
        by_rate r nothing_moves (store_is cycle r reach es p.part p'.part b.text.part)
    stmt_is pass.Performance at at' p p' (out r es) b =
        sent_are es p.part p'.part b.text.part (out_ops 0) (out_are 0)
    stmt_is pass.Performance at at' p p' (out_at r es) b =
        sent_are es p.part p'.part b.text.part out_at_ops out_at_are
    stmt_is pass.Performance at at' p p' (ask es) b = nothing_moves
    stmt_is pass.Performance at at' p p' (turnoff r) b = one refl
    stmt_is pass.Performance at at' p p' nothing b = nothing_moves

    block_is : (way : Pass) (at at' : ℕ) (p p' : Progress) (y : Block) → Both p p' at at'
        → Same (pass_block_code way at p y) (pass_block_code way at' p' (moved_stmts l y))
    block_is way at at' p p' no_stmt b = nothing_moves
    block_is way at at' p p' (andthen s rest) b =
        let own = stmt_is way at at' p p' s b in
        let q = past_stmt p s in let q' = past_stmt p' (moved_stmt l s) in
        join own
        (block_is way (at + length (pass_code way at p s)) (at' + length (pass_code way at' p' (moved_stmt l s))) q q'
        rest (both_on p p' q q' at at' own (stmt_further l _ p p' s b.text) b))

    chosen_is : (way : Pass) (at at' : ℕ) (p p' : Progress) (arms : Arms) → Both p p' at at'
        → Same (chosen_code way at p arms) (chosen_code way at' p' (moved_arms l arms))
    chosen_is way at at' p p' (otherwise y) b = block_is way at at' p p' y b
    chosen_is way at at' p p' (arm c y rest) b =
        let q = past_parts (past p.part c) p in
        let q' = past_parts (past p'.part (E c)) p' in
        let cond = cond_is way c p.part p'.part b.text.part in
        let long = length (cond_code way p.part c) in
        let long' = length (cond_code way p'.part (E c)) in
        let b₁ = both_jump q q' (at + long) (at' + long') (both_on p p' q q' at at' cond
        (record { part = past_grown l c w.kept p.part p'.part b.text.part; unit = b.text.unit }) b) in
        let body = block_is way (at + long + 1) (at' + long' + 1) q q' y b₁ in
        let z = past_block q y in
        let z' = past_block q' (moved_stmts l y) in
        let on = length (pass_block_code way (at + long + 1) q y) in
        let on' = length (pass_block_code way (at' + long' + 1) q' (moved_stmts l y)) in
        let b₂ = both_jump z z' (at + long + 1 + on) (at' + long' + 1 + on')
        (both_on q q' z z' (at + long + 1) (at' + long' + 1) body (block_further l _ q q' y b₁.text) b₁) in
        arm_is at at' (cond_reg way p.part c) (cond_reg way p'.part (E c)) b.place
        (cond_at way c p.part p'.part b.text.part) cond body
        (chosen_is way (at + long + 1 + on + 1) (at' + long' + 1 + on' + 1) z z' rest b₂)

    all_are : (at at' : ℕ) (p p' : Progress) (arms : Arms) → Both p p' at at'
        → Same (all_code at p arms) (all_code at' p' (moved_arms l arms))
    all_are at at' p p' (otherwise y) b = block_is pass.Initialisation at at' p p' y b
    all_are at at' p p' (arm c y rest) b =
        let q = past_parts (past p.part c) p in
        let q' = past_parts (past p'.part (E c)) p' in
        let cond = keep_is c p.part p'.part b.text.part in
        let long = length (keep_code p.part c) in
        let long' = length (keep_code p'.part (E c)) in
        let b₁ = both_on p p' q q' at at' cond
        (record { part = past_grown l c w.kept p.part p'.part b.text.part; unit = b.text.unit }) b in
        let body = block_is pass.Initialisation (at + long) (at' + long') q q' y b₁ in
        let z = past_block q y in
        let z' = past_block q' (moved_stmts l y) in
        let on = length (pass_block_code pass.Initialisation (at + long) q y) in
        let on' = length (pass_block_code pass.Initialisation (at' + long') q' (moved_stmts l y)) in
        let b₂ = both_on q q' z z' (at + long) (at' + long') body (block_further l _ q q' y b₁.text) b₁ in
        join cond (join body (all_are (at + long + on) (at' + long' + on') z z' rest b₂))

-- The code of a routine's statements at the place of a call, with the call's local variables, is the
-- routine's own code, moved.
pub routine_moved : (way : Pass) (spaces : Spaces) (base : PerRate ℕ) (place : ℕ) (p : Progress) (x : typed.Block)
    → pass_block_code way place p (core spaces (typed.moved_block base x))
    ≡ moved_ops (record { locals = base; kept = p.part; unit = p.unit }) place
    (pass_block_code way 0 start (core spaces x))
routine_moved way spaces base place p x =
    let w : Begins = record { locals = base; kept = p.part; unit = p.unit } in
    let begins : place ≡ place + 0 = omega arith in
    let part : p.part ≡ p.part + 0 = omega arith in
    let unit : p.unit ≡ p.unit + 0 = omega arith in
    ap (pass_block_code way place p) (core_moved base spaces x) ∙ (block_is w place way 0 place start p (core spaces x)
    (record { text = record { part = part; unit = unit }; place = begins })).same

-- the progress after the routine at the place of a call
pub routine_past : (spaces : Spaces) (base : PerRate ℕ) (p : Progress) (x : typed.Block)
    → past_block p (core spaces (typed.moved_block base x)) ≡ further_on p (past_block start (core spaces x))
routine_past spaces base p x = ap (past_block p) (core_moved base spaces x) ∙ stmts_past base p (core spaces x)
