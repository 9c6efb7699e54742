-- The ops of a note touch exactly the resources that its statements touch, as it begins and in a cycle. This
-- holds both for used and for written resources.
use Rattle.std.proofs.Common.{◌≡◌, ℕ, ◌+◌, Bool, true, false, List, [], ◌∷◌, ◌++◌, length, Option, Some, None}
use Rattle.std.proofs.Common.{if◌then◌else◌, refl, sym, ◌∙◌, ap, ap₂, subst, append-nil}
use Rattle.std.specs.List.{flat_map}
use Rattle.std.proofs.lemmas.Grind.{flat_map-append}
use Rattle.cs_base.specs.{Rates.same_rate, declared.resource.Rate.Rate, declared.resource.Res.Res}
use Rattle.cs_ir.specs.Resources.{Access, Stock, may_use, may_write, act_touches, ops_touch, read_only, tables_within}
use Rattle.cs_ir.specs.Resources.{unit_uses, zak_touches}
use Rattle.cs_ir.specs.{Waves.if_init, declared.op.Act.Act, declared.op.Op.Op, declared.register.Reg.Reg}
use Rattle.cs_meaning.specs.Core.{Stmt, Block, Arms, set, unit, zak, store, out, out_at, ask, choose, no_stmt, andthen}
use Rattle.cs_meaning.specs.{Core.otherwise, Core.arm, Notes.reg, When.When, When.beginning, When.cycle}
use Rattle.cs_code.specs.{declared.frame.Pass.Pass, inner.Code.all_code, inner.Emitted.when_of}
use Rattle.cs_code.specs.declared.frame.Progress.{Progress}
use Rattle.cs_code.specs.inner.Kept.{past, past_parts, past_stmt, past_block}
use Rattle.cs_meaning.specs.Uses.{arms_touched, block_touched, stmt_touched, expr_reads, expr_used, exprs_read}
use Rattle.cs_meaning.specs.Uses.{exprs_used, var_uses, vars_use}
use Rattle.cs_typed.specs.TypedTree.{Expression, number, var, field, head, neg, pair, pick, apply}
use Rattle.cs_typed.specs.{WellRated.node_rate, declared.tree.Var.Var as Variable}
use Rattle.cs_typed.specs.declared.tree.Var.TheVariants.{Local, Global}
use Rattle.cs_code.specs.inner.Spots.{op_of, kept_reg, temp, kept_or, direct, spot, spots}
use Rattle.cs_code.specs.inner.Code.{unless_there, own, code, copied, operand_code, operands_code, kept_code, keep_code}
use Rattle.cs_code.specs.inner.Code.{keep_all_code, set_code, target, given_code, on_code, run_code, start_code}
use Rattle.cs_code.specs.inner.Code.{unit_code, zak_code, seek_code, store_code, out_ops, out_at_ops, arm_code}
use Rattle.cs_code.specs.inner.Code.{cond_code, cond_reg, choice_code, pass_code, pass_block_code, chosen_code}
use Rattle.cs_base.specs.declared.resource.Rate.TheVariants as rate
use Rattle.cs_ir.specs.declared.op.Act.TheVariants as act
use Rattle.cs_code.specs.declared.frame.Pass.TheVariants as pass

nothing_read : (r : Rate) → if_init {A = List Res} r [] [] ≡ []
nothing_read rate.Init = refl
nothing_read a = refl

-- the resources that an expression reads: all of them as the note begins, or only in the parts that a cycle
-- computes
abbrev reads : When → Expression → List Res
reads beginning = expr_reads
reads cycle = expr_used cycle

-- the resources that its own code reads, if it isn't in a register yet
abbrev own_reads : When → Expression → List Res
own_reads w (var r v) = var_uses v
own_reads w (neg r a) = reads w a
own_reads w (pair r o a b) = reads w a ++ reads w b
own_reads w (pick r c a b) = reads w c ++ (reads w a ++ reads w b)
own_reads w (apply r g a) = reads w a
own_reads w a = []

module _ (t : Access) (stock : Stock) where
  abbrev touch : List Op → List Res
  touch ops = ops_touch t stock ops

  -- two codes one after another, and the resources that each touches
  two : (a b : List Op) (x y : List Res) → touch a ≡ x → touch b ≡ y → touch (a ++ b) ≡ x ++ y
  two a b x y h k = flat_map-append (λ o. act_touches t stock o.act) a b ∙ ap₂ ◌++◌ h k

  no_reads : (s : Access) → read_only s [] ≡ []
  no_reads may_use = refl
  no_reads may_write = refl

  two_reads : (s : Access) (x y : List Res) → read_only s x ++ read_only s y ≡ read_only s (x ++ y)
  two_reads may_use x y = refl
  two_reads may_write x y = refl

  -- ---- the resources that expressions read

  -- a value that is in a register already isn't read again, so no code made from it touches anything
  by_rate : (r : Rate) (at : ℕ) (make : Option Reg → List Op) (here : Option Reg) (u : List Res)
      → ((q : Reg) → touch (make (Some q)) ≡ []) → touch (make here) ≡ read_only t u
      → touch (make (kept_or cycle r at here)) ≡ read_only t (if_init r [] u)
  by_rate rate.Init at make here u none h = none (kept_reg at) ∙ sym (no_reads t)
  by_rate a at make here u none h = h

  by_there : (w : When) (e : Expression) (at : ℕ) (make : Option Reg → List Op)
      → ((q : Reg) → touch (make (Some q)) ≡ []) → touch (make None) ≡ read_only t (own_reads w e)
      → touch (make (direct w at e)) ≡ read_only t (reads w e)
  by_there beginning (var r (Local q n)) at make none h = none (reg q n) ∙ sym (no_reads t)
  by_there cycle (number r n) at make none h = by_rate r at make None [] none h ∙ ap (read_only t) (nothing_read r)
  by_there cycle (var r (Local q n)) at make none h =
      by_rate r at make (Some (reg q n)) [] none (none (reg q n) ∙ sym (no_reads t))
  by_there cycle (var r (Global g)) at make none h = by_rate r at make None (g ∷ []) none h
  by_there cycle (field r k) at make none h = by_rate r at make None [] none h ∙ ap (read_only t) (nothing_read r)
  by_there cycle (head r k) at make none h = by_rate r at make None [] none h ∙ ap (read_only t) (nothing_read r)
  by_there beginning a at make none h = h
  by_there cycle w at make none h = by_rate (node_rate w) at make None (own_reads cycle w) none h

  operand_by : (w : When) (e : Expression) (at d : ℕ)
      → ((x : Reg) → touch (own w at e x d) ≡ read_only t (own_reads w e))
      → touch (operand_code w at e d) ≡ read_only t (reads w e)
  operand_by w e at d h =
      by_there w e at (λ q. unless_there q (own w at e (temp (node_rate e) d) d)) (λ q. refl) (h (temp (node_rate e) d))

  code_by : (w : When) (e : Expression) (at : ℕ) (x : Reg) → touch (own w at e x 0) ≡ read_only t (own_reads w e)
      → touch (code w at e x 0) ≡ read_only t (reads w e)
  code_by w e at x h = by_there w e at (λ q. copied q x (own w at e x 0)) (λ q. refl) h

  -- the op of a node touches nothing by itself
  last : (a : List Op) (op : Op) (u : List Res) → act_touches t stock op.act ≡ [] → touch a ≡ u
      → touch (a ++ (op ∷ [])) ≡ u
  last a op u none h = two a (op ∷ []) u [] h (ap (λ l. l ++ []) none) ∙ append-nil u

  own_touch : (w : When) (e : Expression) (at : ℕ) (x : Reg) (d : ℕ)
      → touch (own w at e x d) ≡ read_only t (own_reads w e)
  own_touch w (var r (Global g)) at x d = append-nil (read_only t (g ∷ []))
  own_touch w (neg r a) at x d =
      last (operand_code w at a d) (op_of act.Neg x (spot w at a d ∷ [])) (read_only t (reads w a)) refl
      (operand_by w a at d (λ q. own_touch w a at q d))
  own_touch w (pair r o a b) at x d =
      let op : Op = op_of (act.Pair o) x (spots w at (a ∷ b ∷ []) d) in
      let second : List Op = operand_code w (past at a) b (d + 1) in
      two (operand_code w at a d) (second ++ (op ∷ [])) (read_only t (reads w a)) (read_only t (reads w b))
      (operand_by w a at d (λ q. own_touch w a at q d)) (last second op (read_only t (reads w b)) refl
      (operand_by w b (past at a) (d + 1) (λ q. own_touch w b (past at a) q (d + 1))))
      ∙ two_reads t (reads w a) (reads w b)
  own_touch w (pick r c a b) at x d =
      let op : Op = op_of act.Pick x (spots w at (c ∷ a ∷ b ∷ []) d) in
      let next : ℕ = past (past at c) a in
      let second : List Op = operand_code w (past at c) a (d + 1) in
      let third : List Op = operand_code w next b (d + 1 + 1) in
      two (operand_code w at c d) (second ++ (third ++ (op ∷ []))) (read_only t (reads w c))
      (read_only t (reads w a) ++ read_only t (reads w b)) (operand_by w c at d (λ q. own_touch w c at q d))
      (two second (third ++ (op ∷ [])) (read_only t (reads w a)) (read_only t (reads w b))
      (operand_by w a (past at c) (d + 1) (λ q. own_touch w a (past at c) q (d + 1)))
      (last third op (read_only t (reads w b)) refl
      (operand_by w b next (d + 1 + 1) (λ q. own_touch w b next q (d + 1 + 1)))))
      ∙ ap (λ l. read_only t (reads w c) ++ l) (two_reads t (reads w a) (reads w b))
      ∙ two_reads t (reads w c) (reads w a ++ reads w b)
  own_touch w (apply r g a) at x d =
      last (operand_code w at a d) (op_of (act.Call g) x (spot w at a d ∷ [])) (read_only t (reads w a)) refl
      (operand_by w a at d (λ q. own_touch w a at q d))
  own_touch w a at x d = sym (no_reads t)

  operand_touch : (w : When) (at : ℕ) (e : Expression) (d : ℕ) → touch (operand_code w at e d) ≡ read_only t (reads w e)
  operand_touch w at e d = operand_by w e at d (λ q. own_touch w e at q d)

  code_touch : (w : When) (at : ℕ) (e : Expression) (x : Reg) → touch (code w at e x 0) ≡ read_only t (reads w e)
  code_touch w at e x = code_by w e at x (own_touch w e at x 0)

  operands_touch : (w : When) (at : ℕ) (es : List Expression) (d : ℕ)
      → touch (operands_code w at es d) ≡ read_only t (flat_map (reads w) es)
  operands_touch w at [] d = sym (no_reads t)
  operands_touch w at (e ∷ es) d =
      two (operand_code w at e d) (operands_code w (past at e) es (d + 1)) (read_only t (reads w e))
      (read_only t (flat_map (reads w) es)) (operand_touch w at e d) (operands_touch w (past at e) es (d + 1))
      ∙ two_reads t (reads w e) (flat_map (reads w) es)

  -- ---- the kept parts of expressions

  either : (r : Rate) (once each : List Op) (u v : List Res) → touch once ≡ u → touch each ≡ v
      → touch (if_init r once each) ≡ if_init r u v
  either rate.Init once each u v h k = h
  either a once each u v h k = k

  -- an expression that is kept completely, or by its parts
  keeps : (at : ℕ) (e : Expression) (r : Rate) (parts : List Op) (v : List Res) → touch parts ≡ read_only t v
      → touch (if_init r (kept_code at e) parts) ≡ read_only t (if_init r (expr_reads e) v)
  keeps at e rate.Init parts v k = code_touch beginning 0 e (kept_reg at)
  keeps at e a parts v k = k

  keep_touch : (at : ℕ) (e : Expression) → touch (keep_code at e) ≡ read_only t (expr_used beginning e)
  keep_touch at (var r v) = keeps at (var r v) r [] [] (sym (no_reads t))
  keep_touch at (neg r a) = keeps at (neg r a) r (keep_code at a) (expr_used beginning a) (keep_touch at a)
  keep_touch at (pair r o a b) =
      let kept : Expression → List Res = expr_used beginning in
      keeps at (pair r o a b) r (keep_code at a ++ keep_code (past at a) b) (kept a ++ kept b)
      (two (keep_code at a) (keep_code (past at a) b) (read_only t (kept a)) (read_only t (kept b))
      (keep_touch at a) (keep_touch (past at a) b) ∙ two_reads t (kept a) (kept b))
  keep_touch at (pick r c a b) =
      let kept : Expression → List Res = expr_used beginning in
      let first : List Op = keep_code at c in
      let second : List Op = keep_code (past at c) a in
      let third : List Op = keep_code (past (past at c) a) b in
      keeps at (pick r c a b) r (first ++ (second ++ third)) (kept c ++ (kept a ++ kept b))
      (two first (second ++ third) (read_only t (kept c)) (read_only t (kept a) ++ read_only t (kept b))
      (keep_touch at c) (two second third (read_only t (kept a)) (read_only t (kept b)) (keep_touch (past at c) a)
      (keep_touch (past (past at c) a) b)) ∙ ap (λ l. read_only t (kept c) ++ l) (two_reads t (kept a) (kept b))
      ∙ two_reads t (kept c) (kept a ++ kept b))
  keep_touch at (apply r g a) = keeps at (apply r g a) r (keep_code at a) (expr_used beginning a) (keep_touch at a)
  keep_touch at w = keeps at w (node_rate w) [] [] (sym (no_reads t)) ∙ ap (read_only t) (nothing_read (node_rate w))

  keep_all_touch : (at : ℕ) (es : List Expression) → touch (keep_all_code at es) ≡ read_only t (exprs_used beginning es)
  keep_all_touch at [] = sym (no_reads t)
  keep_all_touch at (e ∷ es) =
      two (keep_code at e) (keep_all_code (past at e) es) (read_only t (expr_used beginning e))
      (read_only t (exprs_used beginning es)) (keep_touch at e) (keep_all_touch (past at e) es)
      ∙ two_reads t (expr_used beginning e) (exprs_used beginning es)

  -- ---- parts of statements

  set_touch : (w : When) (at : ℕ) (v : Variable) (e : Expression)
      → touch (set_code w at v e) ≡ read_only t (reads w e) ++ var_uses v
  set_touch w at (Local q n) e = by_same (same_rate (node_rate e) q)
    where
      copy : List Op
      copy = operand_code w at e 0 ++ (op_of act.Copy (reg q n) (spot w at e 0 ∷ []) ∷ [])

      by_same : (b : Bool) → touch (if b then code w at e (reg q n) 0 else copy) ≡ read_only t (reads w e) ++ []
      by_same true = code_touch w at e (reg q n) ∙ sym (append-nil (read_only t (reads w e)))
      by_same false =
          two (operand_code w at e 0) (op_of act.Copy (reg q n) (spot w at e 0 ∷ []) ∷ [])
          (read_only t (reads w e)) [] (operand_touch w at e 0) refl
  set_touch w at (Global g) e =
      two (operand_code w at e 0) (op_of (act.Save g) (spot w at e 0) (spot w at e 0 ∷ []) ∷ [])
      (read_only t (reads w e)) (g ∷ []) (operand_touch w at e 0) refl

  given_touch : (r : Rate) (vs : List Variable) → touch (given_code r vs) ≡ vars_use vs
  given_touch r (Local q n ∷ vs) = by_same (same_rate q r)
    where
      by_same : (b : Bool) → touch (if b then [] else op_of act.Copy (reg q n) (temp r 0 ∷ []) ∷ []) ≡ []
      by_same true = refl
      by_same false = refl
  given_touch r a = refl

  -- an op on values, and the remaining code for its result
  on_touch : (w : When) (at : ℕ) (a : Act) (into : Reg) (es : List Expression)
      → touch (on_code w at a into es) ≡ read_only t (flat_map (reads w) es) ++ act_touches t stock a
  on_touch w at a into es =
      two (operands_code w at es 0) (op_of a into (spots w at es 0) ∷ []) (read_only t (flat_map (reads w) es))
      (act_touches t stock a) (operands_touch w at es 0) (append-nil (act_touches t stock a))

  -- an op that touches nothing by itself
  alone : (a : Act) (into : Reg) (es : List Expression) → act_touches t stock a ≡ []
      → touch (on_code beginning 0 a into es) ≡ read_only t (exprs_read es)
  alone a into es none =
      last (operands_code beginning 0 es 0) (op_of a into (spots beginning 0 es 0)) (read_only t (exprs_read es)) none
      (operands_touch beginning 0 es 0)

  run_touch : (w : When) (at : ℕ) (a : Act) (r : Rate) (vs : List Variable) (xs : List Expression)
      → touch (run_code w at a r vs xs) ≡ read_only t (flat_map (reads w) xs) ++ (act_touches t stock a ++ vars_use vs)
  run_touch w at a r vs xs =
      two (operands_code w at xs 0) (op_of a (target r vs) (spots w at xs 0) ∷ given_code r vs)
      (read_only t (flat_map (reads w) xs)) (act_touches t stock a ++ vars_use vs) (operands_touch w at xs 0)
      (ap (λ l. act_touches t stock a ++ l) (given_touch r vs))

  out_touch : (c : ℕ) (qs : List Reg) → touch (out_ops c qs) ≡ []
  out_touch c [] = refl
  out_touch c (q ∷ qs) = out_touch (c + 1) qs

  out_at_touch : (qs : List Reg) → touch (out_at_ops qs) ≡ []
  out_at_touch (p ∷ (q ∷ qs)) = out_at_touch qs
  out_at_touch a = refl

  -- values, and ops on them that touch nothing
  sent : (at : ℕ) (es : List Expression) (ops : List Op) → touch ops ≡ []
      → touch (operands_code cycle at es 0 ++ ops) ≡ read_only t (exprs_used cycle es)
  sent at es ops none =
      two (operands_code cycle at es 0) ops (read_only t (exprs_used cycle es)) [] (operands_touch cycle at es 0) none
      ∙ append-nil (read_only t (exprs_used cycle es))

  arm_touch : (place : ℕ) (before : List Op) (q : Reg) (body rest : List Op) (u v w : List Res) → touch before ≡ u
      → touch body ≡ v → touch rest ≡ w → touch (arm_code place before q body rest) ≡ u ++ (v ++ w)
  arm_touch place before q body rest u v w h k l =
      let jump : Op = op_of (act.Jump (place + length before + 1 + length body + 1 + length rest)) q [] in
      let test : Op = op_of (act.Unless (place + length before + 1 + length body + 1)) q (q ∷ []) in
      two before (test ∷ (body ++ (jump ∷ rest))) u (v ++ w) h (two body (jump ∷ rest) v w k l)

  -- ---- statements, in each pass

  cond_touch : (way : Pass) (at : ℕ) (c : Expression)
      → touch (cond_code way at c) ≡ read_only t (expr_used (when_of way) c)
  cond_touch pass.Initialisation at c = keep_touch at c
  cond_touch pass.Performance at c = operand_touch cycle at c 0

  choice_touch : (way : Pass) (r : Rate) (one all : List Op) (u : List Res) → touch one ≡ u
      → (way ≡ pass.Initialisation → touch all ≡ u) → touch (choice_code way r one all) ≡ u
  choice_touch pass.Initialisation rate.Init one all u h k = h
  choice_touch pass.Initialisation rate.Control one all u h k = k refl
  choice_touch pass.Initialisation rate.Audio one all u h k = k refl
  choice_touch pass.Performance r one all u h k = h

  mutual
    stmt_touch : (way : Pass) (place : ℕ) (p : Progress) (s : Stmt)
        → touch (pass_code way place p s) ≡ stmt_touched t (when_of way) stock s
    stmt_touch way place p (choose r arms) =
        choice_touch way r (chosen_code way place p arms) (all_code place p arms)
        (arms_touched t (when_of way) stock arms) (chosen_touch way place p arms)
        (λ is. subst (λ w. touch (all_code place p arms) ≡ arms_touched t (when_of w) stock arms) (sym is)
        (all_touch place p arms))
    stmt_touch pass.Initialisation place p (set r v e) =
        either r (set_code beginning 0 v e) (keep_code p.part e) (read_only t (expr_reads e) ++ var_uses v)
        (read_only t (expr_used beginning e)) (set_touch beginning 0 v e) (keep_touch p.part e)
    stmt_touch pass.Initialisation place p (unit r vs opcode reach xs is) =
        let started : List Op = start_code r opcode p.unit is in
        let once : List Op = unit_code beginning 0 r vs opcode p.unit reach xs in
        let kept : List Op = keep_all_code p.part xs in
        let settled : List Res = read_only t (exprs_read is) in
        let moving : List Res = read_only t (exprs_used beginning xs) in
        let touched : List Res = read_only t (unit_uses stock opcode reach) ++ vars_use vs in
        let runs : List Res = read_only t (exprs_read xs) ++ touched in
        let starts = alone (act.Start opcode p.unit) (temp r 0) is refl in
        either r (started ++ once) (kept ++ started) (settled ++ runs) (moving ++ settled)
        (two started once settled runs starts (run_touch beginning 0 (act.Unit opcode p.unit reach) r vs xs))
        (two kept started moving settled (keep_all_touch p.part xs) starts)
    stmt_touch pass.Initialisation place p (zak r vs opcode reach xs) =
        either r (zak_code beginning 0 r vs opcode reach xs) (keep_all_code p.part xs)
        (read_only t (exprs_read xs) ++ (zak_touches t stock opcode reach ++ vars_use vs))
        (read_only t (exprs_used beginning xs)) (run_touch beginning 0 (act.Zak opcode reach) r vs xs)
        (keep_all_touch p.part xs)
    stmt_touch pass.Initialisation place p (store r reach es is) =
        let sought : List Op = seek_code is in
        let once : List Op = store_code beginning 0 r reach es in
        let kept : List Op = keep_all_code p.part es in
        let settled : List Res = read_only t (exprs_read is) in
        let moving : List Res = read_only t (exprs_used beginning es) in
        let stores : List Res = read_only t (exprs_read es) ++ tables_within stock reach in
        let seeks = alone act.Seek (temp rate.Init 0) is refl in
        either r (sought ++ once) (kept ++ sought) (settled ++ stores) (moving ++ settled)
        (two sought once settled stores seeks (on_touch beginning 0 (act.Store reach) (temp r 0) es))
        (two kept sought moving settled (keep_all_touch p.part es) seeks)
    stmt_touch pass.Initialisation place p (out r es) = keep_all_touch p.part es
    stmt_touch pass.Initialisation place p (out_at r es) = keep_all_touch p.part es
    stmt_touch pass.Initialisation place p (ask es) = alone act.Ask (temp rate.Init 0) es refl
    stmt_touch pass.Performance place p (set r v e) =
        either r [] (set_code cycle p.part v e) [] (read_only t (expr_used cycle e) ++ var_uses v) refl
        (set_touch cycle p.part v e)
    stmt_touch pass.Performance place p (unit r vs opcode reach xs is) =
        either r [] (unit_code cycle p.part r vs opcode p.unit reach xs) []
        (read_only t (exprs_used cycle xs) ++ (read_only t (unit_uses stock opcode reach) ++ vars_use vs)) refl
        (run_touch cycle p.part (act.Unit opcode p.unit reach) r vs xs)
    stmt_touch pass.Performance place p (zak r vs opcode reach xs) =
        either r [] (zak_code cycle p.part r vs opcode reach xs) []
        (read_only t (exprs_used cycle xs) ++ (zak_touches t stock opcode reach ++ vars_use vs)) refl
        (run_touch cycle p.part (act.Zak opcode reach) r vs xs)
    stmt_touch pass.Performance place p (store r reach es is) =
        either r [] (store_code cycle p.part r reach es) []
        (read_only t (exprs_used cycle es) ++ tables_within stock reach) refl
        (on_touch cycle p.part (act.Store reach) (temp r 0) es)
    stmt_touch pass.Performance place p (out r es) =
        sent p.part es (out_ops 0 (spots cycle p.part es 0)) (out_touch 0 (spots cycle p.part es 0))
    stmt_touch pass.Performance place p (out_at r es) =
        sent p.part es (out_at_ops (spots cycle p.part es 0)) (out_at_touch (spots cycle p.part es 0))
    stmt_touch pass.Initialisation place p _ = refl
    stmt_touch pass.Performance place p _ = refl

    -- the ops of a note's beginning and of a control cycle touch the same resources as its statements
    pub block_touch : (way : Pass) (place : ℕ) (p : Progress) (b : Block)
        → touch (pass_block_code way place p b) ≡ block_touched t (when_of way) stock b
    block_touch way place p no_stmt = refl
    block_touch way place p (andthen s b) =
        let next : ℕ = place + length (pass_code way place p s) in
        two (pass_code way place p s) (pass_block_code way next (past_stmt p s) b)
        (stmt_touched t (when_of way) stock s) (block_touched t (when_of way) stock b) (stmt_touch way place p s)
        (block_touch way next (past_stmt p s) b)

    chosen_touch : (way : Pass) (place : ℕ) (p : Progress) (arms : Arms)
        → touch (chosen_code way place p arms) ≡ arms_touched t (when_of way) stock arms
    chosen_touch way place p (otherwise b) = block_touch way place p b
    chosen_touch way place p (arm c b rest) =
        let before : List Op = cond_code way p.part c in
        let q : Progress = past_parts (past p.part c) p in
        let body : List Op = pass_block_code way (place + length before + 1) q b in
        let next : ℕ = place + length before + 1 + length body + 1 in
        arm_touch place before (cond_reg way p.part c) body (chosen_code way next (past_block q b) rest)
        (read_only t (expr_used (when_of way) c)) (block_touched t (when_of way) stock b)
        (arms_touched t (when_of way) stock rest)
        (cond_touch way p.part c) (block_touch way (place + length before + 1) q b)
        (chosen_touch way next (past_block q b) rest)

    all_touch : (place : ℕ) (p : Progress) (arms : Arms)
        → touch (all_code place p arms) ≡ arms_touched t beginning stock arms
    all_touch place p (otherwise b) = block_touch pass.Initialisation place p b
    all_touch place p (arm c b rest) =
        let before : List Op = keep_code p.part c in
        let q : Progress = past_parts (past p.part c) p in
        let body : List Op = pass_block_code pass.Initialisation (place + length before) q b in
        let next : ℕ = place + length before + length body in
        let others : List Op = all_code next (past_block q b) rest in
        two before (body ++ others) (read_only t (expr_used beginning c))
        (block_touched t beginning stock b ++ arms_touched t beginning stock rest) (keep_touch p.part c)
        (two body others (block_touched t beginning stock b) (arms_touched t beginning stock rest)
        (block_touch pass.Initialisation (place + length before) q b) (all_touch next (past_block q b) rest))
