-- The inputs of the functions that generate code, in the terms of the definitions.
use Rattle.std.specs.Prelude.{◌≡◌, ℕ, Bool, false, not, zero, suc, ◌+◌, ◌-◌, ◌&&◌, ◌++◌, List, [], ◌∷◌, length, min}
use Rattle.std.specs.Prelude.{nat_lt, nat_le, Option, Some, None, map, if◌then◌else◌, pos}
use Rattle.std.specs.{Borrow.Bor, Option.option_map}
use Rattle.cs_base.specs.{Rates.is_init, declared.resource.Rate.Rate, declared.spaces.Spaces.Spaces}
use Rattle.cs_base.specs.declared.per_rate.PerRate.{PerRate}
use Rattle.cs_ir.specs.{Resources.places_of, declared.op.Op.Op, declared.op.Reach.Reach, declared.register.Reg.Reg}
use Rattle.cs_meaning.specs.Core.{plus, whole_part, values_of, unit_call, store_call, zak_call, Stmt, Block, Arms, set}
use Rattle.cs_meaning.specs.Core.{out, out_at, ask, turnoff, nothing, core, core_arms}
use Rattle.cs_meaning.specs.When.{When, beginning, cycle}
use Rattle.cs_code.specs.{inner.Kept.past, inner.Kept.past_parts, declared.args.Call.Call}
use Rattle.cs_code.specs.{declared.call.Putting.Putting, declared.frame.Pass.Pass, declared.frame.Progress.Progress}
use Rattle.cs_code.specs.{declared.reach.KnownArgument.KnownArgument, declared.simple.Assignment.Assignment}
use Rattle.cs_code.specs.{declared.simple.Sending.Sending, declared.value.Value.Value}
use Rattle.cs_typed.specs.TypedTree.{Expression, number, var}
use Rattle.cs_typed.specs.{declared.tree.TypedArm.TypedArm, declared.tree.TypedExpr.TypedExpr}
use Rattle.cs_typed.specs.{declared.tree.TypedStmt.TypedStmt, declared.tree.Var.Var as Variable}
use Rattle.cs_words.specs.{declared.catalogue.Opcode.Opcode, declared.catalogue.Shape.Shape}
use Rattle.cs_code.specs.inner.Code.{keep_code, pass_block_code, out_ops, out_at_ops}
use Rattle.cs_base.specs.declared.resource.Rate.TheVariants as rate
use Rattle.cs_ir.specs.declared.op.Reach.TheVariants as reach
use Rattle.cs_typed.specs.TypedTree as typed
use Rattle.cs_words.specs.declared.catalogue.Shape.TheVariants as shape
use Rattle.cs_code.specs.declared.call.Putting.TheVariants as putting
use Rattle.cs_code.specs.declared.frame.Pass.TheVariants as pass
use Rattle.cs_code.specs.declared.reach.KnownArgument.TheVariants as known
use Rattle.cs_code.specs.declared.simple.Sending.TheVariants as sending
use Rattle.cs_code.specs.declared.value.Value.TheVariants as value

-- the expressions that references point to
abbrev pub expressions_of : List (Bor TypedExpr) → List Expression
expressions_of es = map (λ e. typed.expression e.now) es

-- the expression of a value
abbrev pub value_of : Value → Expression
value_of (value.Of e) = typed.expression e.now
value_of (value.Read r v) = var r v
value_of (value.Mixed v e) = plus rate.Audio v (typed.expression e.now)
value_of value.Zero = number rate.Init (pos 0)

-- an assignment: its rate, the variable, and the value
pub record Assigned : Type 0 where
  pub done : Rate
  pub to : Variable
  pub value : Expression

-- an assignment of the code, as the definitions write it
abbrev pub assignment_of : Assignment → Assigned
assignment_of a = record { done = a.done; to = a.to; value = value_of a.value }

-- the core statement of an assignment
abbrev pub set_of : Assigned → Stmt
set_of a = set a.done a.to a.value

-- the arguments of a call
abbrev pub arguments_of : Call → List typed.Argument
arguments_of k = map typed.argument k.args.now

-- an argument as a list, empty if it isn't taken
abbrev pub taken : Bool → typed.Argument → List Expression
taken b (typed.value e) = if b then e ∷ [] else []
taken b (typed.text v) = []

-- the surroundings of statements: the zak spaces of the piece, and the routines that they may invoke
pub record Scope : Type 0 where
  pub spaces : Spaces
  pub routines : List typed.Block

-- the surroundings with these zak spaces and routines
abbrev pub scope_of : Spaces → List typed.Block → Scope
scope_of spaces routines = record { spaces = spaces; routines = routines }

-- a block of the typed tree as core statements
abbrev pub core_in : Scope → typed.Block → Block
core_in o b = core o.spaces b

-- a single statement as core statements
abbrev pub alone_in : Spaces → typed.Statement → Block
alone_in spaces x = core spaces (typed.alone x)

-- statements as core statements
abbrev pub block_in : Scope → List TypedStmt → Block
block_in o stmts = core_in o (typed.block o.routines stmts)

-- one statement as core statements
abbrev pub statement_in : Scope → TypedStmt → Block
statement_in o s = core_in o (typed.statement o.routines s)

-- the statements of the routine with a number, its local variables numbered from a base on
abbrev pub invoked_in : Scope → ℕ → PerRate ℕ → Block
invoked_in o k base = core_in o (typed.moved_block base (typed.routine_at o.routines k))

-- arms, with the statements after `else`
abbrev pub arms_in : Scope → typed.Block → List TypedArm → Arms
arms_in o els arms = core_arms o.spaces (typed.arms o.routines els arms)

-- the time at which the code of a pass runs
abbrev pub when_of : Pass → When
when_of pass.Initialisation = beginning
when_of pass.Performance = cycle

-- an arm that is initialised regardless of its condition
abbrev pub each_arm_code : ℕ → Progress → Expression → Block → List Op
each_arm_code place p c b =
    keep_code p.part c
    ++ pass_block_code pass.Initialisation (place + length (keep_code p.part c)) (past_parts (past p.part c) p) b

-- the known facts about an expression in a list, counted from 0: for a literal its value rounded down
abbrev pub known_of : Expression → KnownArgument
known_of (number r v) = known.Literal (whole_part v)
known_of _ = known.Other

-- the known facts about the expression at an index
abbrev pub known_at : List Expression → ℕ → KnownArgument
known_at [] k = known.Missing
known_at (e ∷ es) zero = known_of e
known_at (e ∷ es) (suc k) = known_at es k

-- the resources that may be touched, by the known facts
abbrev pub table_known : KnownArgument → Reach
table_known (known.Literal n) = reach.Span n n
table_known _ = reach.Any

-- the zak places that may be touched, by the known facts about an index
abbrev pub place_known : ℕ → KnownArgument → Reach
place_known places (known.Literal n) = if nat_lt n places then reach.Span n n else reach.Nothing
place_known places known.Other = reach.Any
place_known places known.Missing = reach.Nothing

-- the zak places that may be touched, by the known facts about two bounds
abbrev pub span_known : ℕ → KnownArgument → KnownArgument → Reach
span_known places k known.Missing = reach.Nothing
span_known places (known.Literal n) (known.Literal m) =
    if nat_lt n places && nat_le n m then reach.Span n (min m (places - 1)) else reach.Nothing
span_known places _ _ = reach.Any

-- the zak places that an opcode may touch, by its shape and the known facts about two values
abbrev pub zak_known : Spaces → Shape → KnownArgument → KnownArgument → Reach
zak_known spaces (shape.ZakGet s) x y = place_known (places_of spaces s) x
zak_known spaces (shape.ZakPut s) x y = place_known (places_of spaces s) y
zak_known spaces shape.ZakMix x y = place_known spaces.audio y
zak_known spaces (shape.ZakClear s) x y = span_known (places_of spaces s) x y
zak_known spaces _ x y = reach.Nothing

-- a call as a statement of the tree
abbrev pub called : Call → typed.Statement
called k = typed.call 0 k.rate k.results.now k.opcode (arguments_of k)

-- whether all arms of an `if` are initialised, while none is chosen yet
abbrev pub takes_all : Pass → Rate → Bool
takes_all pass.Initialisation r = not (is_init r)
takes_all pass.Performance r = false

-- the assignment that is the core statement of a call with this shape, if it is one
abbrev pub assigned : Shape → Rate → List Variable → List typed.Argument → Option Assigned
assigned shape.Init r (v ∷ vs) (typed.value e ∷ args) = Some (record { done = rate.Init; to = v; value = e })
assigned shape.ChannelGet r (v ∷ vs) (typed.text c ∷ args) = Some (record { done = r; to = v; value = var r c })
assigned shape.ChannelPut r vs (typed.value e ∷ typed.text c ∷ args) = Some (record { done = r; to = c; value = e })
assigned shape.ChannelMix r vs (typed.value e ∷ typed.text c ∷ args) =
    Some (record { done = r; to = c; value = plus rate.Audio c e })
assigned shape.ChannelClear r vs (typed.text c ∷ args) =
    Some (record { done = r; to = c; value = number rate.Init (pos 0) })
assigned _ r vs args = None

-- the result of a search is the assignment that is a call's core statement, or None if that isn't an
-- assignment
abbrev pub IsAssignmentOf : Option Assignment → Shape → Call → Type 0
IsAssignmentOf found sh k =
    option_map assignment_of found ≡ assigned sh k.rate k.results.now (arguments_of k)

-- the shape of a call that assigns a value to a channel
abbrev pub put_shape : Putting → Shape
put_shape putting.Value = shape.ChannelPut
put_shape putting.Sum = shape.ChannelMix

-- the core statement of a call with this shape, if that isn't an assignment
abbrev pub effect : Spaces → Rate → List Variable → Opcode → Shape → List typed.Argument → Stmt
effect o r vs opcode shape.Unit args = unit_call r vs opcode args
effect o r vs opcode shape.Store args = store_call r opcode args
effect o r vs opcode (shape.ZakGet s) args = zak_call o r vs opcode (shape.ZakGet s) args
effect o r vs opcode (shape.ZakPut s) args = zak_call o r vs opcode (shape.ZakPut s) args
effect o r vs opcode shape.ZakMix args = zak_call o r vs opcode shape.ZakMix args
effect o r vs opcode (shape.ZakClear s) args = zak_call o r vs opcode (shape.ZakClear s) args
effect o r vs opcode shape.Out args = out r (values_of args)
effect o r vs opcode shape.OutAt args = out_at r (values_of args)
effect o r vs opcode shape.Turnoff args = turnoff r
effect o r vs opcode shape.Ask args = ask (values_of args)
effect o r vs opcode _ args = nothing

-- the core statement of a call, if that isn't an assignment
abbrev pub effect_of : Spaces → Call → Shape → Stmt
effect_of o k sh = effect o k.rate k.results.now k.opcode sh (arguments_of k)

-- Values are output to the channels, either in channel order or each to the channel number given with it.
abbrev pub sent_as : Sending → Rate → List Expression → Stmt
sent_as sending.InTurn r es = out r es
sent_as sending.ByNumber r es = out_at r es

-- the ops that output registers
abbrev pub sent_ops : Sending → List Reg → List Op
sent_ops sending.InTurn qs = out_ops 0 qs
sent_ops sending.ByNumber qs = out_at_ops qs
