-- Statements with other local variables have the same core statements, and as many kept values and units at
-- every place.
use Rattle.std.proofs.Common.{◌≡◌, ◌∙◌, ◌+◌, ℕ, Bool, true, false, List, [], ◌∷◌, map, arith, Option, Some, None}
use Rattle.std.proofs.Common.{if◌then◌else◌, refl, sym, ap, ap₂}
use Rattle.std.specs.Option.{option_map}
use Rattle.cs_base.specs.{declared.per_rate.PerRate.PerRate, declared.resource.Rate.Rate, declared.spaces.Spaces.Spaces}
use Rattle.cs_words.specs.Catalogue.{Row, row_of, letter_at, is_settled, takes_table}
use Rattle.cs_words.specs.declared.catalogue.Opcode.{Opcode}
use Rattle.cs_words.specs.{declared.catalogue.Shape.Shape, declared.catalogue.Space.Space}
use Rattle.cs_ir.specs.{Resources.places_of, Waves.if_init}
use Rattle.cs_meaning.specs.Core.{Stmt, Block, Arms, set, unit, zak, store, out, out_at, ask, turnoff, nothing, choose}
use Rattle.cs_meaning.specs.Core.{no_stmt, andthen, otherwise, arm, values_of, settled, moving, table_reach}
use Rattle.cs_meaning.specs.Core.{place_reach, span_reach, unit_reach, zak_reach, core, core_stmt, core_arms, core_call}
use Rattle.cs_meaning.specs.Core.{unit_call, store_call, zak_call}
use Rattle.cs_typed.specs.{WellRated.node_rate, declared.tree.Var.Var as Variable}
use Rattle.cs_typed.specs.TypedTree.{Expression, number, neg, pair, pick, apply, Argument, value, text, moved_variable}
use Rattle.cs_typed.specs.TypedTree.{moved_expression, moved_argument}
use Rattle.cs_code.specs.{declared.frame.Progress.Progress, inner.Served.further_on}
use Rattle.cs_code.specs.inner.Emitted.{Assigned, assigned, effect}
use Rattle.cs_code.specs.inner.Kept.{start, past, past_all, past_parts, past_stmt, past_block, past_arms}
use Rattle.cs_code.proofs.Calls.{either_of, by_assigned}
use Rattle.cs_base.specs.declared.resource.Rate.TheVariants as rate
use Rattle.cs_words.specs.declared.catalogue.Shape.TheVariants as shape
use Rattle.cs_words.specs.declared.catalogue.Space.TheVariants as space
use Rattle.cs_ir.specs.declared.op.Reach.TheVariants as reach
use Rattle.cs_typed.specs.TypedTree as typed

-- core statements with other local variables: a statement, a block, and arms
abbrev mutual
  pub moved_stmt : PerRate ℕ → Stmt → Stmt
  moved_stmt l (set r v e) = set r (moved_variable l v) (moved_expression l e)
  moved_stmt l (unit r vs opcode reach xs is) =
      unit r (map (moved_variable l) vs) opcode reach (map (moved_expression l) xs) (map (moved_expression l) is)
  moved_stmt l (zak r vs opcode reach xs) =
      zak r (map (moved_variable l) vs) opcode reach (map (moved_expression l) xs)
  moved_stmt l (store r reach es is) = store r reach (map (moved_expression l) es) (map (moved_expression l) is)
  moved_stmt l (out r es) = out r (map (moved_expression l) es)
  moved_stmt l (out_at r es) = out_at r (map (moved_expression l) es)
  moved_stmt l (ask es) = ask (map (moved_expression l) es)
  moved_stmt l (turnoff r) = turnoff r
  moved_stmt l nothing = nothing
  moved_stmt l (choose r arms) = choose r (moved_arms l arms)

  pub moved_stmts : PerRate ℕ → Block → Block
  moved_stmts l no_stmt = no_stmt
  moved_stmts l (andthen s b) = andthen (moved_stmt l s) (moved_stmts l b)

  pub moved_arms : PerRate ℕ → Arms → Arms
  moved_arms l (otherwise b) = otherwise (moved_stmts l b)
  moved_arms l (arm c b rest) = arm (moved_expression l c) (moved_stmts l b) (moved_arms l rest)

-- ---- kept values of expressions

if_grown : (r : Rate) (n x y x' y' : ℕ) → x' ≡ n + x → y' ≡ n + y → if_init r x' y' ≡ n + if_init r x y
if_grown rate.Init n x y x' y' h i = h
if_grown a n x y x' y' h i = i

one_more : (n at k : ℕ) → k ≡ n + at → k + 1 ≡ n + (at + 1)
one_more n at k h = omega (arith, h)

none_more : (n : ℕ) → n ≡ n + 0
none_more n = omega arith

unit_more : (n u k : ℕ) → k ≡ n + u → k + 1 ≡ n + (u + 1)
unit_more n u k h = omega (arith, h)

-- a progress y that is as far after n as x is after the start
pub record Further (n x y : Progress) : Type 0 where
  pub part : y.part ≡ n.part + x.part
  pub unit : y.unit ≡ n.unit + x.unit

from_start : (p : Progress) → Further p start p
from_start p = record { part = none_more p.part; unit = none_more p.unit }

advanced_is : (n x y : Progress) → Further n x y → y ≡ further_on n x
advanced_is n x y h = λ i. record { part = h.part i; unit = h.unit i }

module _ (l : PerRate ℕ) where
  abbrev E : Expression → Expression
  E e = moved_expression l e

  pub past_grown : (e : Expression) (n at k : ℕ) → k ≡ n + at → past k (E e) ≡ n + past at e
  past_grown (neg r a) n at k h =
      if_grown r n (at + 1) (past at a) (k + 1) (past k (E a)) (one_more n at k h) (past_grown a n at k h)
  past_grown (pair r o a b) n at k h =
      if_grown r n (at + 1) (past (past at a) b) (k + 1) (past (past k (E a)) (E b)) (one_more n at k h)
      (past_grown b n (past at a) (past k (E a)) (past_grown a n at k h))
  past_grown (pick r c a b) n at k h =
      let p = past at c in let q = past k (E c) in
      if_grown r n (at + 1) (past (past p a) b) (k + 1) (past (past q (E a)) (E b)) (one_more n at k h)
      (past_grown b n (past p a) (past q (E a)) (past_grown a n p q (past_grown c n at k h)))
  past_grown (apply r g a) n at k h =
      if_grown r n (at + 1) (past at a) (k + 1) (past k (E a)) (one_more n at k h) (past_grown a n at k h)
  past_grown w n at k h = if_grown (node_rate w) n (at + 1) at (k + 1) k (one_more n at k h) h

  pub all_grown : (es : List Expression) (n at k : ℕ) → k ≡ n + at → past_all k (map E es) ≡ n + past_all at es
  all_grown [] n at k h = h
  all_grown (e ∷ es) n at k h = all_grown es n (past at e) (past k (E e)) (past_grown e n at k h)

  -- ---- the progress of statements

  parts_further : {n x y : Progress} (r : Rate) (p q : ℕ) → q ≡ n.part + p → Further n x y
      → Further n (past_parts (if_init r x.part p) x) (past_parts (if_init r y.part q) y)
  parts_further {n} {x} {y} r p q e h =
      record { part = if_grown r n.part x.part p y.part q h.part e; unit = h.unit }

  mutual
    pub stmt_further : (n x y : Progress) (s : Stmt) → Further n x y
        → Further n (past_stmt x s) (past_stmt y (moved_stmt l s))
    stmt_further n x y (set r v e) h =
        parts_further r (past x.part e) (past y.part (E e)) (past_grown e n.part x.part y.part h.part) h
    stmt_further n x y (unit r vs opcode reach xs is) h = record {
      part = if_grown r n.part x.part (past_all x.part xs) y.part (past_all y.part (map E xs)) h.part
          (all_grown xs n.part x.part y.part h.part);
      unit = unit_more n.unit x.unit y.unit h.unit;
    }
    stmt_further n x y (zak r vs opcode reach xs) h =
        parts_further r (past_all x.part xs) (past_all y.part (map E xs)) (all_grown xs n.part x.part y.part h.part) h
    stmt_further n x y (store r reach es is) h =
        parts_further r (past_all x.part es) (past_all y.part (map E es)) (all_grown es n.part x.part y.part h.part) h
    stmt_further n x y (out r es) h =
        record { part = all_grown es n.part x.part y.part h.part; unit = h.unit }
    stmt_further n x y (out_at r es) h =
        record { part = all_grown es n.part x.part y.part h.part; unit = h.unit }
    stmt_further n x y (choose r arms) h = arms_further n x y arms h
    stmt_further n x y a h = h

    pub block_further : (n x y : Progress) (b : Block) → Further n x y
        → Further n (past_block x b) (past_block y (moved_stmts l b))
    block_further n x y no_stmt h = h
    block_further n x y (andthen s b) h =
        block_further n (past_stmt x s) (past_stmt y (moved_stmt l s)) b (stmt_further n x y s h)

    arms_further : (n x y : Progress) (arms : Arms) → Further n x y
        → Further n (past_arms x arms) (past_arms y (moved_arms l arms))
    arms_further n x y (otherwise b) h = block_further n x y b h
    arms_further n x y (arm c b rest) h =
        let p = past_parts (past x.part c) x in let q = past_parts (past y.part (E c)) y in
        arms_further n (past_block p b) (past_block q (moved_stmts l b)) rest (block_further n p q b
        (record { part = past_grown c n.part x.part y.part h.part; unit = h.unit }))

  pub stmts_past : (p : Progress) (b : Block) → past_block p (moved_stmts l b) ≡ further_on p (past_block start b)
  stmts_past p b =
      advanced_is p (past_block start b) (past_block p (moved_stmts l b)) (block_further p start p b (from_start p))

-- ---- the core statement of a call with other local variables

module _ (l : PerRate ℕ) where
  abbrev F : Expression → Expression
  F e = moved_expression l e

  abbrev A : Argument → Argument
  A a = moved_argument l a

  if_moved : (b : Bool) (xs ys : List Expression) → (if b then map F xs else map F ys) ≡ map F (if b then xs else ys)
  if_moved true xs ys = refl
  if_moved false xs ys = refl

  values_moved : (args : List Argument) → values_of (map A args) ≡ map F (values_of args)
  values_moved [] = refl
  values_moved (value e ∷ args) = ap (λ es. F e ∷ es) (values_moved args)
  values_moved (text c ∷ args) = values_moved args

  settled_moved : (row : Row) (n : ℕ) (args : List Argument) → settled row n (map A args) ≡ map F (settled row n args)
  settled_moved row n [] = refl
  settled_moved row n (value e ∷ args) =
      ap (λ es. if is_settled (letter_at row n) then F e ∷ es else es) (settled_moved row (n + 1) args)
      ∙ if_moved (is_settled (letter_at row n)) (e ∷ settled row (n + 1) args) (settled row (n + 1) args)
  settled_moved row n (text c ∷ args) = settled_moved row (n + 1) args

  moving_moved : (row : Row) (n : ℕ) (args : List Argument) → moving row n (map A args) ≡ map F (moving row n args)
  moving_moved row n [] = refl
  moving_moved row n (value e ∷ args) =
      ap (λ es. if is_settled (letter_at row n) then es else F e ∷ es) (moving_moved row (n + 1) args)
      ∙ if_moved (is_settled (letter_at row n)) (moving row (n + 1) args) (e ∷ moving row (n + 1) args)
  moving_moved row n (text c ∷ args) = moving_moved row (n + 1) args

  -- the reach is unchanged
  table_stays : (es : List Expression) → table_reach (map F es) ≡ table_reach es
  table_stays (number r v ∷ es) = refl
  table_stays es = refl

  place_stays : (places : ℕ) (e : Expression) → place_reach places (F e) ≡ place_reach places e
  place_stays places (number r v) = refl
  place_stays places a = refl

  span_stays : (places : ℕ) (e x : Expression) → span_reach places (F e) (F x) ≡ span_reach places e x
  span_stays places (number r v) (number q w) = refl
  span_stays places e x = refl

  unit_stays : (opcode : Opcode) (es : List Expression) → unit_reach opcode (map F es) ≡ unit_reach opcode es
  unit_stays opcode es = ap (λ x. if takes_table opcode then x else reach.Nothing) (table_stays es)

  get_stays : (o : Spaces) (s : Space) (es : List Expression)
      → zak_reach o (shape.ZakGet s) (map F es) ≡ zak_reach o (shape.ZakGet s) es
  get_stays o s [] = refl
  get_stays o s (x ∷ xs) = place_stays (places_of o s) x

  put_stays : (o : Spaces) (s : Space) (es : List Expression)
      → zak_reach o (shape.ZakPut s) (map F es) ≡ zak_reach o (shape.ZakPut s) es
  put_stays o s (v ∷ x ∷ xs) = place_stays (places_of o s) x
  put_stays o s a = refl

  mix_stays : (o : Spaces) (es : List Expression) → zak_reach o shape.ZakMix (map F es) ≡ zak_reach o shape.ZakMix es
  mix_stays o (v ∷ x ∷ xs) = place_stays (places_of o space.Audio) x
  mix_stays o a = refl

  clear_stays : (o : Spaces) (s : Space) (es : List Expression)
      → zak_reach o (shape.ZakClear s) (map F es) ≡ zak_reach o (shape.ZakClear s) es
  clear_stays o s (x ∷ y ∷ xs) = span_stays (places_of o s) x y
  clear_stays o s a = refl

  zak_moved : (o : Spaces) (r : Rate) (vs : List Variable) (opcode : Opcode) (sh : Shape) (args : List Argument)
      → ((es : List Expression) → zak_reach o sh (map F es) ≡ zak_reach o sh es)
      → zak_call o r (map (moved_variable l) vs) opcode sh (map A args) ≡ moved_stmt l (zak_call o r vs opcode sh args)
  zak_moved o r vs opcode sh args h =
      ap (λ xs. zak r (map (moved_variable l) vs) opcode (zak_reach o sh xs) xs) (moving_moved (row_of opcode) 0 args)
      ∙ ap (λ x. zak r (map (moved_variable l) vs) opcode x (map F (moving (row_of opcode) 0 args)))
      (h (moving (row_of opcode) 0 args))

  unit_moved : (r : Rate) (vs : List Variable) (opcode : Opcode) (args : List Argument)
      → unit_call r (map (moved_variable l) vs) opcode (map A args) ≡ moved_stmt l (unit_call r vs opcode args)
  unit_moved r vs opcode args =
      let is = settled (row_of opcode) 0 args in
      ap₂ (λ ys xs. unit r (map (moved_variable l) vs) opcode (unit_reach opcode ys) xs ys)
      (settled_moved (row_of opcode) 0 args) (moving_moved (row_of opcode) 0 args)
      ∙ ap (λ x. unit r (map (moved_variable l) vs) opcode x (map F (moving (row_of opcode) 0 args)) (map F is))
      (unit_stays opcode is)

  store_moved : (r : Rate) (opcode : Opcode) (args : List Argument)
      → store_call r opcode (map A args) ≡ moved_stmt l (store_call r opcode args)
  store_moved r opcode args =
      let is = settled (row_of opcode) 0 args in
      ap₂ (λ ys xs. store r (table_reach ys) xs ys) (settled_moved (row_of opcode) 0 args) (values_moved args)
      ∙ ap (λ x. store r x (map F (values_of args)) (map F is)) (table_stays is)

  effect_moved : (o : Spaces) (r : Rate) (vs : List Variable) (op : Opcode) (sh : Shape) (args : List Argument)
      → effect o r (map (moved_variable l) vs) op sh (map A args) ≡ moved_stmt l (effect o r vs op sh args)
  effect_moved o r vs op shape.Unit args = unit_moved r vs op args
  effect_moved o r vs op shape.Store args = store_moved r op args
  effect_moved o r vs op shape.Out args = ap (out r) (values_moved args)
  effect_moved o r vs op shape.OutAt args = ap (out_at r) (values_moved args)
  effect_moved o r vs op (shape.ZakGet s) args = zak_moved o r vs op (shape.ZakGet s) args (get_stays o s)
  effect_moved o r vs op (shape.ZakPut s) args = zak_moved o r vs op (shape.ZakPut s) args (put_stays o s)
  effect_moved o r vs op shape.ZakMix args = zak_moved o r vs op shape.ZakMix args (mix_stays o)
  effect_moved o r vs op (shape.ZakClear s) args = zak_moved o r vs op (shape.ZakClear s) args (clear_stays o s)
  effect_moved o r vs op shape.Ask args = ap ask (values_moved args)
  effect_moved o r vs op a args = refl

  -- a call whose core statement is an assignment
  abbrev moved_assigned : Assigned → Assigned
  moved_assigned a = record { done = a.done; to = moved_variable l a.to; value = F a.value }

  assigned_moved : (sh : Shape) (r : Rate) (vs : List Variable) (args : List Argument)
      → assigned sh r (map (moved_variable l) vs) (map A args) ≡ option_map moved_assigned (assigned sh r vs args)
  assigned_moved shape.Init r (v ∷ vs) (value e ∷ args) = refl
  assigned_moved shape.ChannelGet r (v ∷ vs) (text c ∷ args) = refl
  assigned_moved shape.ChannelPut r vs (value e ∷ text c ∷ args) = refl
  assigned_moved shape.ChannelMix r vs (value e ∷ text c ∷ args) = refl
  assigned_moved shape.ChannelClear r vs (text c ∷ args) = refl
  assigned_moved sh r vs args = refl

  either_moved : (a : Option Assigned) (s : Stmt)
      → either_of (option_map moved_assigned a) (moved_stmt l s) ≡ moved_stmt l (either_of a s)
  either_moved (Some a) s = refl
  either_moved None s = refl

  pub call_moved : (o : Spaces) (r : Rate) (vs : List Variable) (op : Opcode) (sh : Shape) (args : List Argument)
      → core_call o r (map (moved_variable l) vs) op sh (map A args) ≡ moved_stmt l (core_call o r vs op sh args)
  call_moved o r vs op sh args =
      by_assigned o r (map (moved_variable l) vs) op sh (map A args)
      ∙ ap₂ either_of (assigned_moved sh r vs args) (effect_moved o r vs op sh args)
      ∙ either_moved (assigned sh r vs args) (effect o r vs op sh args)
      ∙ ap (moved_stmt l) (sym (by_assigned o r vs op sh args))

-- ---- statements

mutual
  stmt_moved : (l : PerRate ℕ) (o : Spaces) (x : typed.Statement)
      → core_stmt o (typed.moved l x) ≡ moved_stmt l (core_stmt o x)
  stmt_moved l o (typed.set line r v e) = refl
  stmt_moved l o (typed.call line r vs op args) = call_moved l o r vs op (row_of op).shape args
  stmt_moved l o (typed.choose line r list) = ap (choose r) (arms_moved l o list)

  pub core_moved : (l : PerRate ℕ) (o : Spaces) (b : typed.Block)
      → core o (typed.moved_block l b) ≡ moved_stmts l (core o b)
  core_moved l o typed.no_stmt = refl
  core_moved l o (typed.andthen x rest) = ap₂ andthen (stmt_moved l o x) (core_moved l o rest)

  arms_moved : (l : PerRate ℕ) (o : Spaces) (list : typed.Arms)
      → core_arms o (typed.moved_arms l list) ≡ moved_arms l (core_arms o list)
  arms_moved l o (typed.otherwise b) = ap otherwise (core_moved l o b)
  arms_moved l o (typed.arm c b rest) =
      ap₂ (arm (moved_expression l c)) (core_moved l o b) (arms_moved l o rest)
