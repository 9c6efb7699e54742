-- The code of expressions and statements.
use Rattle.std.specs.Prelude.{ℕ, ◌+◌, ◌++◌, List, [], ◌∷◌, length, Option, Some, None, if◌then◌else◌}
use Rattle.cs_base.specs.{Rates.same_rate, declared.resource.Rate.Rate}
use Rattle.cs_words.specs.declared.catalogue.Opcode.{Opcode}
use Rattle.cs_ir.specs.{Waves.if_init, declared.op.Act.Act, declared.op.Op.Op, declared.op.Reach.Reach}
use Rattle.cs_ir.specs.declared.register.Reg.{Reg}
use Rattle.cs_meaning.specs.Core.{Stmt, Block, Arms, set, unit, zak, store, out, out_at, ask, turnoff, choose, no_stmt}
use Rattle.cs_meaning.specs.{Core.andthen, Core.otherwise, Core.arm, Notes.reg, When.When, When.beginning, When.cycle}
use Rattle.cs_code.specs.{declared.frame.Pass.Pass, declared.frame.Progress.Progress}
use Rattle.cs_code.specs.inner.Kept.{past, past_parts, past_stmt, past_block}
use Rattle.cs_typed.specs.TypedTree.{Expression, number, var, field, head, neg, pair, pick, apply}
use Rattle.cs_typed.specs.{WellRated.node_rate, declared.tree.Var.Var as Variable}
use Rattle.cs_typed.specs.declared.tree.Var.TheVariants.{Local, Global}
use Rattle.cs_code.specs.inner.Spots.{op_of, kept_reg, temp, direct, spot, spots}
use Rattle.cs_base.specs.declared.resource.Rate.TheVariants as rate
use Rattle.cs_ir.specs.declared.op.Act.TheVariants as act
use Rattle.cs_code.specs.declared.frame.Pass.TheVariants as pass

-- the code of a value, or nothing if it is in a register already
abbrev pub unless_there : Option Reg → List Op → List Op
unless_there (Some q) code = []
unless_there None code = code

-- a copy of a value that is in a register already, otherwise the value's code
abbrev pub copied : Option Reg → Reg → List Op → List Op
copied (Some q) x code = op_of act.Copy x (q ∷ []) ∷ []
copied None x code = code

-- the code that puts a variable's value into a register
abbrev pub look_code : Variable → Reg → List Op
look_code (Local q n) x = op_of act.Copy x (reg q n ∷ []) ∷ []
look_code (Global g) x = op_of (act.Load g) x [] ∷ []

-- The code that computes an expression into a register. Its operands come first, each in the register that
-- already holds it or in the temporary of its rate from d on, followed by its own op. The target register may
-- be temporary d itself, since it is written last.
abbrev pub own : When → ℕ → Expression → Reg → ℕ → List Op
own when at (number r n) x d = op_of (act.Const n) x [] ∷ []
own when at (var r v) x d = look_code v x
own when at (field r k) x d = op_of (act.Field k) x [] ∷ []
own when at (head r h) x d = op_of (act.Head h) x [] ∷ []
own when at (neg r a) x d =
    unless_there (direct when at a) (own when at a (temp (node_rate a) d) d)
    ++ (op_of act.Neg x (spot when at a d ∷ []) ∷ [])
own when at (pair r b y z) x d =
    unless_there (direct when at y) (own when at y (temp (node_rate y) d) d)
    ++ (unless_there (direct when (past at y) z) (own when (past at y) z (temp (node_rate z) (d + 1)) (d + 1))
    ++ (op_of (act.Pair b) x (spot when at y d ∷ spot when (past at y) z (d + 1) ∷ []) ∷ []))
own when at (pick r c y z) x d =
    unless_there (direct when at c) (own when at c (temp (node_rate c) d) d)
    ++ (unless_there (direct when (past at c) y) (own when (past at c) y (temp (node_rate y) (d + 1)) (d + 1))
    ++ (unless_there (direct when (past (past at c) y) z)
    (own when (past (past at c) y) z (temp (node_rate z) (d + 1 + 1)) (d + 1 + 1))
    ++ (op_of act.Pick x (spot when at c d ∷ spot when (past at c) y (d + 1)
    ∷ spot when (past (past at c) y) z (d + 1 + 1) ∷ []) ∷ [])))
own when at (apply r g a) x d =
    unless_there (direct when at a) (own when at a (temp (node_rate a) d) d)
    ++ (op_of (act.Call g) x (spot when at a d ∷ []) ∷ [])

-- the code that puts an expression into a given register, a copy if a register holds it already
abbrev pub code : When → ℕ → Expression → Reg → ℕ → List Op
code when at e x d = copied (direct when at e) x (own when at e x d)

-- the code that puts an expression into some register
abbrev pub operand_code : When → ℕ → Expression → ℕ → List Op
operand_code when at e d =
    unless_there (direct when at e) (own when at e (temp (node_rate e) d) d)

-- the code that puts expressions into registers
abbrev pub operands_code : When → ℕ → List Expression → ℕ → List Op
operands_code when at [] d = []
operands_code when at (e ∷ es) d = operand_code when at e d ++ operands_code when (past at e) es (d + 1)

-- the code of the outermost parts that don't change, each into its register
abbrev pub kept_code : ℕ → Expression → List Op
kept_code at e = code beginning 0 e (kept_reg at) 0

-- the code of the kept parts of an expression
abbrev pub keep_code : ℕ → Expression → List Op
keep_code at (number r n) = if_init r (kept_code at (number r n)) []
keep_code at (var r v) = if_init r (kept_code at (var r v)) []
keep_code at (field r k) = if_init r (kept_code at (field r k)) []
keep_code at (head r h) = if_init r (kept_code at (head r h)) []
keep_code at (neg r a) = if_init r (kept_code at (neg r a)) (keep_code at a)
keep_code at (pair r b y z) =
    if_init r (kept_code at (pair r b y z)) (keep_code at y ++ keep_code (past at y) z)
keep_code at (pick r c y z) =
    if_init r (kept_code at (pick r c y z))
    (keep_code at c ++ (keep_code (past at c) y ++ keep_code (past (past at c) y) z))
keep_code at (apply r g a) = if_init r (kept_code at (apply r g a)) (keep_code at a)

-- the code of the kept parts of expressions
abbrev pub keep_all_code : ℕ → List Expression → List Op
keep_all_code at [] = []
keep_all_code at (e ∷ es) = keep_code at e ++ keep_all_code (past at e) es

-- An assignment. A local variable of the same rate is written directly by the value's last op; any other
-- variable by a copy or a store.
abbrev pub set_code : When → ℕ → Variable → Expression → List Op
set_code when at (Local q n) e =
    if same_rate (node_rate e) q then code when at e (reg q n) 0
    else operand_code when at e 0 ++ (op_of act.Copy (reg q n) (spot when at e 0 ∷ []) ∷ [])
set_code when at (Global g) e =
    operand_code when at e 0 ++ (op_of (act.Save g) (spot when at e 0) (spot when at e 0 ∷ []) ∷ [])

-- the register of a unit's result
abbrev pub target : Rate → List Variable → Reg
target r (Local q n ∷ vs) = if same_rate q r then reg q n else temp r 0
target r _ = temp r 0

-- the remaining code after a unit's result is computed
abbrev pub given_code : Rate → List Variable → List Op
given_code r [] = []
given_code r (Local q n ∷ vs) = if same_rate q r then [] else op_of act.Copy (reg q n) (temp r 0 ∷ []) ∷ []
given_code r (Global g ∷ vs) = op_of (act.Save g) (temp r 0) (temp r 0 ∷ []) ∷ []

-- an op on values, after their code
abbrev pub on_code : When → ℕ → Act → Reg → List Expression → List Op
on_code when at a into es = operands_code when at es 0 ++ (op_of a into (spots when at es 0) ∷ [])

-- an op on values, after their code and before the remaining code for its result
abbrev pub run_code : When → ℕ → Act → Rate → List Variable → List Expression → List Op
run_code when at a r vs xs =
    operands_code when at xs 0 ++ (op_of a (target r vs) (spots when at xs 0) ∷ given_code r vs)

-- the start of a unit, and its run
abbrev pub start_code : Rate → Opcode → ℕ → List Expression → List Op
start_code r opcode u is = on_code beginning 0 (act.Start opcode u) (temp r 0) is

-- the run of a unit
abbrev pub unit_code : When → ℕ → Rate → List Variable → Opcode → ℕ → Reach → List Expression → List Op
unit_code when at r vs opcode u reach xs = run_code when at (act.Unit opcode u reach) r vs xs

-- zak places are read or written
abbrev pub zak_code : When → ℕ → Rate → List Variable → Opcode → Reach → List Expression → List Op
zak_code when at r vs opcode reach xs = run_code when at (act.Zak opcode reach) r vs xs

-- a store looks up its table, and stores
abbrev pub seek_code : List Expression → List Op
seek_code is = on_code beginning 0 act.Seek (temp rate.Init 0) is

-- a store of a value
abbrev pub store_code : When → ℕ → Rate → Reach → List Expression → List Op
store_code when at r reach es = on_code when at (act.Store reach) (temp r 0) es

-- a note is scheduled
abbrev pub ask_code : List Expression → List Op
ask_code es = on_code beginning 0 act.Ask (temp rate.Init 0) es

-- values are output to the channels from `c` on
abbrev pub out_ops : ℕ → List Reg → List Op
out_ops c [] = []
out_ops c (q ∷ qs) = op_of (act.Out c) q (q ∷ []) ∷ out_ops (c + 1) qs

-- values are output in pairs of a channel's number and a value
abbrev pub out_at_ops : List Reg → List Op
out_at_ops (p ∷ q ∷ qs) = op_of act.OutAt q (p ∷ q ∷ []) ∷ out_at_ops qs
out_at_ops _ = []

-- An arm at a place: its condition, a jump past its body that is taken if the condition doesn't hold, its
-- body, a jump past the remaining arms, and the remaining arms.
abbrev pub arm_code : ℕ → List Op → Reg → List Op → List Op → List Op
arm_code place cond q body rest =
    cond ++ (op_of (act.Unless (place + length cond + 1 + length body + 1)) q (q ∷ [])
    ∷ (body ++ (op_of (act.Jump (place + length cond + 1 + length body + 1 + length rest)) q [] ∷ rest)))

-- The code of a statement that is no `if`, as the note begins and in a cycle. It doesn't depend on its place.
abbrev pub simple_code : Pass → Progress → Stmt → List Op
simple_code pass.Initialisation p (set r v e) = if_init r (set_code beginning 0 v e) (keep_code p.part e)
simple_code pass.Initialisation p (unit r vs opcode reach xs is) =
    if_init r (start_code r opcode p.unit is ++ unit_code beginning 0 r vs opcode p.unit reach xs)
    (keep_all_code p.part xs ++ start_code r opcode p.unit is)
simple_code pass.Initialisation p (zak r vs opcode reach xs) =
    if_init r (zak_code beginning 0 r vs opcode reach xs) (keep_all_code p.part xs)
simple_code pass.Initialisation p (store r reach es is) =
    if_init r (seek_code is ++ store_code beginning 0 r reach es) (keep_all_code p.part es ++ seek_code is)
simple_code pass.Initialisation p (out r es) = keep_all_code p.part es
simple_code pass.Initialisation p (out_at r es) = keep_all_code p.part es
simple_code pass.Initialisation p (ask es) = ask_code es
simple_code pass.Performance p (set r v e) = if_init r [] (set_code cycle p.part v e)
simple_code pass.Performance p (unit r vs opcode reach xs is) =
    if_init r [] (unit_code cycle p.part r vs opcode p.unit reach xs)
simple_code pass.Performance p (zak r vs opcode reach xs) =
    if_init r [] (zak_code cycle p.part r vs opcode reach xs)
simple_code pass.Performance p (store r reach es is) = if_init r [] (store_code cycle p.part r reach es)
simple_code pass.Performance p (out r es) = operands_code cycle p.part es 0 ++ out_ops 0 (spots cycle p.part es 0)
simple_code pass.Performance p (out_at r es) =
    operands_code cycle p.part es 0 ++ out_at_ops (spots cycle p.part es 0)
simple_code pass.Performance p (turnoff r) = op_of act.Turnoff (temp rate.Init 0) [] ∷ []
simple_code way p _ = []

-- the code of the condition of an arm
abbrev pub cond_code : Pass → ℕ → Expression → List Op
cond_code pass.Initialisation at c = keep_code at c
cond_code pass.Performance at c = operand_code cycle at c 0

-- the register that holds the condition of an arm
abbrev pub cond_reg : Pass → ℕ → Expression → Reg
cond_reg pass.Initialisation at c = kept_reg at
cond_reg pass.Performance at c = spot cycle at c 0

-- the code of an `if`, chosen from the code in which one arm is performed and the code of all arms: as a note
-- begins, all arms are initialised if the `if` isn't i-rate
abbrev pub choice_code : Pass → Rate → List Op → List Op → List Op
choice_code pass.Initialisation r one all = if_init r one all
choice_code pass.Performance r one all = one

-- the code of statements that begins at a place, as the note begins and in a cycle; and the code of arms
abbrev mutual
  pub pass_code : Pass → ℕ → Progress → Stmt → List Op
  pass_code way place p (choose r arms) =
      choice_code way r (chosen_code way place p arms) (all_code place p arms)
  pass_code way place p s = simple_code way p s

  pub pass_block_code : Pass → ℕ → Progress → Block → List Op
  pass_block_code way place p no_stmt = []
  pass_block_code way place p (andthen s b) =
      pass_code way place p s
      ++ pass_block_code way (place + length (pass_code way place p s)) (past_stmt p s) b

  pub chosen_code : Pass → ℕ → Progress → Arms → List Op
  chosen_code way place p (otherwise b) = pass_block_code way place p b
  chosen_code way place p (arm c b rest) =
      let cond = cond_code way p.part c in let q = past_parts (past p.part c) p in
      let body = pass_block_code way (place + length cond + 1) q b in
      arm_code place cond (cond_reg way p.part c) body
      (chosen_code way (place + length cond + 1 + length body + 1) (past_block q b) rest)

  pub all_code : ℕ → Progress → Arms → List Op
  all_code place p (otherwise b) = pass_block_code pass.Initialisation place p b
  all_code place p (arm c b rest) =
      let cond = keep_code p.part c in let q = past_parts (past p.part c) p in
      let body = pass_block_code pass.Initialisation (place + length cond) q b in
      cond ++ (body ++ all_code (place + length cond + length body) (past_block q b) rest)

-- the code of each pass
abbrev pub init_code : ℕ → Progress → Stmt → List Op
init_code place p s = pass_code pass.Initialisation place p s

-- the code of a block, as the note begins
abbrev pub init_block_code : ℕ → Progress → Block → List Op
init_block_code place p b = pass_block_code pass.Initialisation place p b

-- the code of arms of which one is performed, as the note begins
abbrev pub first_code : ℕ → Progress → Arms → List Op
first_code place p arms = chosen_code pass.Initialisation place p arms

-- the code of a statement in a cycle
abbrev pub perf_code : ℕ → Progress → Stmt → List Op
perf_code place p s = pass_code pass.Performance place p s

-- the code of a block in a cycle
abbrev pub perf_block_code : ℕ → Progress → Block → List Op
perf_block_code place p b = pass_block_code pass.Performance place p b

-- the code of arms in a cycle
abbrev pub perf_arms_code : ℕ → Progress → Arms → List Op
perf_arms_code place p arms = chosen_code pass.Performance place p arms
