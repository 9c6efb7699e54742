-- The shared resources that a note may read or write, as it begins and in a control cycle, in the order of
-- the text.
use Rattle.std.specs.{Prelude.List, Prelude.[], Prelude.◌∷◌, Prelude.◌++◌, List.flat_map}
use Rattle.cs_base.specs.{declared.resource.Rate.Rate, declared.resource.Res.Res}
use Rattle.cs_typed.specs.TypedTree.{Expression, number, var, field, head, neg, pair, pick, apply}
use Rattle.cs_typed.specs.declared.tree.Var.{Var as Variable}
use Rattle.cs_typed.specs.declared.tree.Var.TheVariants.{Local, Global}
use Rattle.cs_ir.specs.Resources.{Stock, Access, may_use, may_write, read_only, tables_within, unit_uses, zak_touches}
use Rattle.cs_ir.specs.Waves.{if_init}
use Rattle.cs_meaning.specs.Core.{Stmt, Block, Arms, set, unit, zak, store, out, out_at, ask, turnoff, nothing, choose}
use Rattle.cs_meaning.specs.Core.{no_stmt, andthen, otherwise, arm}
use Rattle.cs_base.specs.declared.resource.Rate.TheVariants as rate
pub use Rattle.cs_meaning.specs.When.{When, beginning, cycle}

-- The resources of an action at a rate. As the note begins: `once` if it is performed once, otherwise `kept`,
-- for its kept parts. In a cycle: `each`, if it is performed in each cycle.
abbrev pub done_at : When → Rate → List Res → List Res → List Res → List Res
done_at beginning r once kept each = if_init r once kept
done_at cycle r once kept each = if_init r [] each

-- the resource of a global variable, as a list
abbrev pub var_uses : Variable → List Res
var_uses (Local r n) = []
var_uses (Global g) = g ∷ []

-- the resource of an optional result variable, as a list
abbrev pub vars_use : List Variable → List Res
vars_use [] = []
vars_use (v ∷ vs) = var_uses v

-- all variables of an expression
abbrev pub expr_reads : Expression → List Res
expr_reads (number r n) = []
expr_reads (var r v) = var_uses v
expr_reads (field r k) = []
expr_reads (head r h) = []
expr_reads (neg r a) = expr_reads a
expr_reads (pair r o a b) = expr_reads a ++ expr_reads b
expr_reads (pick r c a b) = expr_reads c ++ (expr_reads a ++ expr_reads b)
expr_reads (apply r f a) = expr_reads a

-- all variables of these expressions
abbrev pub exprs_read : List Expression → List Res
exprs_read es = flat_map expr_reads es

-- The variables that an expression reads. As the note begins, its outermost i-rate parts are evaluated; in a
-- cycle, all other parts.
abbrev pub expr_used : When → Expression → List Res
expr_used w (number r n) = []
expr_used w (var r v) = done_at w r (var_uses v) [] (var_uses v)
expr_used w (field r k) = []
expr_used w (head r h) = []
expr_used w (neg r a) = done_at w r (expr_reads a) (expr_used w a) (expr_used w a)
expr_used w (pair r o a b) =
    let parts = expr_used w a ++ expr_used w b in done_at w r (expr_reads a ++ expr_reads b) parts parts
expr_used w (pick r c a b) =
    let parts = expr_used w c ++ (expr_used w a ++ expr_used w b) in
    done_at w r (expr_reads c ++ (expr_reads a ++ expr_reads b)) parts parts
expr_used w (apply r f a) = done_at w r (expr_reads a) (expr_used w a) (expr_used w a)

-- the variables that these expressions read, as the note begins or in a cycle
abbrev pub exprs_used : When → List Expression → List Res
exprs_used w es = flat_map (expr_used w) es

-- The resources that statements may touch, in any branch. A written resource also counts as used.
abbrev mutual
  pub stmt_touched : Access → When → Stock → Stmt → List Res
  stmt_touched t w stock (set r v e) =
      let moving = read_only t (expr_used w e) in
      done_at w r (read_only t (expr_reads e) ++ var_uses v) moving (moving ++ var_uses v)
  stmt_touched t w stock (unit r vs opcode reach xs is) =
      let settled = read_only t (exprs_read is) in
      let moving = read_only t (exprs_used w xs) in
      let touched = read_only t (unit_uses stock opcode reach) ++ vars_use vs in
      done_at w r (settled ++ (read_only t (exprs_read xs) ++ touched)) (moving ++ settled) (moving ++ touched)
  stmt_touched t w stock (zak r vs opcode reach xs) =
      let moving = read_only t (exprs_used w xs) in
      let touched = zak_touches t stock opcode reach ++ vars_use vs in
      done_at w r (read_only t (exprs_read xs) ++ touched) moving (moving ++ touched)
  stmt_touched t w stock (store r reach es is) =
      let settled = read_only t (exprs_read is) in
      let moving = read_only t (exprs_used w es) in
      let touched = tables_within stock reach in
      done_at w r (settled ++ (read_only t (exprs_read es) ++ touched)) (moving ++ settled) (moving ++ touched)
  stmt_touched t w stock (out r es) = read_only t (exprs_used w es)
  stmt_touched t w stock (out_at r es) = read_only t (exprs_used w es)
  stmt_touched t w stock (ask es) = done_at w rate.Init (read_only t (exprs_read es)) [] []
  stmt_touched t w stock (turnoff r) = []
  stmt_touched t w stock nothing = []
  stmt_touched t w stock (choose r arms) = arms_touched t w stock arms

  pub block_touched : Access → When → Stock → Block → List Res
  block_touched t w stock no_stmt = []
  block_touched t w stock (andthen s b) = stmt_touched t w stock s ++ block_touched t w stock b

  pub arms_touched : Access → When → Stock → Arms → List Res
  arms_touched t w stock (otherwise b) = block_touched t w stock b
  arms_touched t w stock (arm c b rest) =
      read_only t (expr_used w c) ++ (block_touched t w stock b ++ arms_touched t w stock rest)

-- the resources that a note may read or write in a control cycle
abbrev pub block_uses : Stock → Block → List Res
block_uses = block_touched may_use cycle

-- the resources that a note may write in a control cycle
abbrev pub block_writes : Stock → Block → List Res
block_writes = block_touched may_write cycle

-- the resources that a note may read or write as it begins
abbrev pub block_begins : Stock → Block → List Res
block_begins = block_touched may_use beginning

-- the resources that a note may write as it begins
abbrev pub block_begin_writes : Stock → Block → List Res
block_begin_writes = block_touched may_write beginning
