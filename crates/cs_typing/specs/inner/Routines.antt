-- The typing of statements as written, with each definition typed once: a call of a user-defined opcode
-- becomes its routine, whose local variables are numbered after those that the caller has so far.
use Rattle.std.specs.Prelude.{ℕ, suc, Bool, List, [], ◌∷◌, Option, Some, None, if◌then◌else◌}
use Rattle.std.specs.{Option.is_some, Option.option_or, Option.unwrap_or, Str.bytes_eq}
use Rattle.cs_base.specs.{Rates.at_rate, declared.fault.OrcFault.OrcFault, declared.resource.Rate.Rate}
use Rattle.cs_base.specs.declared.per_rate.PerRate.{PerRate}
use Rattle.cs_words.specs.Names.{name_rate, is_global}
use Rattle.cs_grammar.specs.{declared.tree.Callee.Callee, Tree.otherwise, Tree.arm, Tree.Definition}
use Rattle.cs_grammar.specs.Tree.{var, Argument, value, Statement, set, call, choose, Block, no_stmt, andthen, Arms}
use Rattle.cs_typed.specs.TypedTree.{no_counts, counts_with, moved_variable, moved_block}
use Rattle.cs_typed.specs.{declared.setting.Setting.Setting, declared.tree.Var.Var}
use Rattle.cs_udo.specs.{Expanded.before, Expanded.whole_body, Names.slots}
use Rattle.cs_typing.specs.Calls.{call_fault_by, call_shared, call_by}
use Rattle.cs_typing.specs.{Expressions.expression_by, Settings.at}
use Rattle.cs_udo.specs.ByName.{with_item, with_items}
use Rattle.cs_typing.specs.Known.{Shared, in_table, place_in, global}
use Rattle.cs_typing.specs.Statements.{set_fault_by, condition_fault_by, choice_rate}
use Rattle.cs_base.specs.declared.resource.Rate.TheVariants as rate
use Rattle.cs_grammar.specs.declared.tree.Callee.TheVariants as callee
use Rattle.cs_typed.specs.TypedTree as typed
use Rattle.cs_typed.specs.declared.tree.Var.TheVariants as variant

-- ---- the variables of a body

-- The local variables of a body: the number of each that has been assigned so far, and the count of numbers
-- used at each rate, including the bodies that it calls.
pub record Locals : Type 0 where
  pub number : List ℕ → Option ℕ
  pub counts : PerRate ℕ

-- no local variables
abbrev pub no_locals : Locals
no_locals = record { number = λ x. None; counts = no_counts }

-- whether a local variable has been assigned
abbrev pub has_local : Locals → List ℕ → Bool
has_local l x = is_some (l.number x)

-- the number of a local variable; a new one has the next number of its rate
abbrev pub number_in : Locals → List ℕ → ℕ
number_in l x = unwrap_or (l.number x) (at_rate l.counts (name_rate x))

-- counts with one more variable of a rate
abbrev pub counted : Rate → PerRate ℕ → PerRate ℕ
counted rate.Init c = record { init = suc c.init; control = c.control; audio = c.audio }
counted rate.Control c = record { init = c.init; control = suc c.control; audio = c.audio }
counted rate.Audio c = record { init = c.init; control = c.control; audio = suc c.audio }

-- the local variables with a new one
abbrev pub with_local : Locals → List ℕ → Locals
with_local l x = record {
  number = λ y. if bytes_eq x y then Some (at_rate l.counts (name_rate x)) else l.number y;
  counts = counted (name_rate x) l.counts;
}

-- the local variables after one was assigned
abbrev pub given_in : Locals → List ℕ → Locals
given_in l x = if is_global x then l else (if has_local l x then l else with_local l x)

-- the local variables after several were assigned
abbrev pub all_given_in : Locals → List (List ℕ) → Locals
all_given_in l [] = l
all_given_in l (x ∷ xs) = all_given_in (given_in l x) xs

-- the local variables after the numbers for a called body were reserved
abbrev pub past_call : Locals → PerRate ℕ → Locals
past_call l c = record { number = l.number; counts = counts_with l.counts c }

-- the names known at a point of a body: the shared names, and its local variables
pub record KnownInBody : Type 0 where
  pub shared : Shared
  pub locals : Locals

-- known names with these parts
abbrev pub known_in : Shared → Locals → KnownInBody
known_in g l = record { shared = g; locals = l }

-- whether a variable may be read
abbrev pub knows_in : KnownInBody → List ℕ → Bool
knows_in k x = if is_global x then in_table k.shared.globals x else has_local k.locals x

-- the variable of a name; a new name has the next number
abbrev pub variable_in : KnownInBody → List ℕ → Var
variable_in k x =
    if is_global x then variant.Global (global (name_rate x) (place_in k.shared.globals x))
    else variant.Local (name_rate x) (number_in k.locals x)

-- ---- routines

-- A user-defined opcode as its callers see it: the names of its inputs and of its results in its body; its
-- local variables after its inputs are assigned, and at its end; and, as functions of the shared names before
-- a call: the shared names after it, the first rule that its body breaks, and its typed body, in which
-- variables are numbered from 0.
pub record Routine : Type 0 where
  pub inputs : List (List ℕ)
  pub results : List (List ℕ)
  pub first : Locals
  pub last : Locals
  pub shared : Shared → Shared
  pub fault : Setting → Shared → Option OrcFault
  pub block : Shared → typed.Block

-- the user-defined opcodes that may be called in some context, by name
abbrev pub Routines : Type 0
Routines = List ℕ → Option Routine

-- no routines
abbrev pub no_routines : Routines
no_routines name = None

-- the routine of the called opcode if it is user-defined; an opcode of the catalogue has none
abbrev pub routine_called : Routines → Callee → Option Routine
routine_called rs (callee.Opcode o) = None
routine_called rs (callee.Name name) = rs name

-- the first rule that the assignments of arguments to inputs break
abbrev pub inputs_fault : Setting → KnownInBody → ℕ → List (List ℕ) → List Argument → Option OrcFault
inputs_fault s k line (x ∷ xs) (value e ∷ args) =
    option_or (at line (set_fault_by s (knows_in k) x e)) (inputs_fault s k line xs args)
inputs_fault s k line xs args = None

-- The values of the caller's arguments are assigned to the inputs, which are numbered after the caller's
-- variables.
abbrev pub inputs_set : KnownInBody → Routine → ℕ → List (List ℕ) → List Argument → typed.Block
inputs_set k r line (x ∷ xs) (value e ∷ args) =
    typed.andthen (typed.set line (name_rate x)
    (moved_variable k.locals.counts (variable_in (known_in k.shared r.first) x))
    (expression_by (variable_in k) e)) (inputs_set k r line xs args)
inputs_set k r line xs args = typed.no_stmt

-- the first rule that the assignments of results to variables of the caller break
abbrev pub results_fault : Setting → Shared → Routine → ℕ → List (List ℕ) → List (List ℕ) → Option OrcFault
results_fault s g r line (x ∷ xs) (y ∷ ys) =
    option_or (at line (set_fault_by s (knows_in (known_in g r.last)) x (var y))) (results_fault s g r line xs ys)
results_fault s g r line xs ys = None

-- The results are assigned to variables of the caller, one after another; the routine's variables are
-- numbered from the base numbers.
abbrev pub results_set : KnownInBody → PerRate ℕ → Routine → ℕ → List (List ℕ) → List (List ℕ) → typed.Block
results_set k base r line (x ∷ xs) (y ∷ ys) =
    typed.andthen (typed.set line (name_rate x) (variable_in k x)
    (typed.var (name_rate y) (moved_variable base (variable_in (known_in k.shared r.last) y))))
    (results_set (known_in k.shared (given_in k.locals x)) base r line xs ys)
results_set k base r line xs ys = typed.no_stmt

-- ---- the variables that statements assign and the channels that they use

-- the local variables after a call
abbrev pub locals_after_call : Locals → List (List ℕ) → Option Routine → Locals
locals_after_call l xs None = all_given_in l xs
locals_after_call l xs (Some r) = all_given_in (past_call l r.last.counts) xs

abbrev mutual
  pub locals_after : Routines → Locals → Statement → Locals
  locals_after rs l (set line x e) = given_in l x
  locals_after rs l (call line xs c args) = locals_after_call l xs (routine_called rs c)
  locals_after rs l (choose line list) = locals_after_arms rs l list

  pub locals_after_block : Routines → Locals → Block → Locals
  locals_after_block rs l no_stmt = l
  locals_after_block rs l (andthen x rest) = locals_after_block rs (locals_after rs l x) rest

  pub locals_after_arms : Routines → Locals → Arms → Locals
  locals_after_arms rs l (otherwise b) = locals_after_block rs l b
  locals_after_arms rs l (arm c b rest) = locals_after_arms rs (locals_after_block rs l b) rest

-- the shared names after a call
abbrev pub shared_after_call : Shared → Callee → List (List ℕ) → List Argument → Option Routine → Shared
shared_after_call g c xs args None = call_shared g c xs args
shared_after_call g c xs args (Some r) = r.shared g

abbrev mutual
  pub shared_after : Routines → Shared → Statement → Shared
  shared_after rs g (set line x e) = g
  shared_after rs g (call line xs c args) = shared_after_call g c xs args (routine_called rs c)
  shared_after rs g (choose line list) = shared_after_arms rs g list

  pub shared_after_block : Routines → Shared → Block → Shared
  shared_after_block rs g no_stmt = g
  shared_after_block rs g (andthen x rest) = shared_after_block rs (shared_after rs g x) rest

  pub shared_after_arms : Routines → Shared → Arms → Shared
  shared_after_arms rs g (otherwise b) = shared_after_block rs g b
  shared_after_arms rs g (arm c b rest) = shared_after_arms rs (shared_after_block rs g b) rest

-- the names known after a statement
abbrev pub known_after : Routines → KnownInBody → Statement → KnownInBody
known_after rs k x = known_in (shared_after rs k.shared x) (locals_after rs k.locals x)

-- the names known after statements
abbrev pub known_after_block : Routines → KnownInBody → Block → KnownInBody
known_after_block rs k b = known_in (shared_after_block rs k.shared b) (locals_after_block rs k.locals b)

-- the names known after the arms of an `if`
abbrev pub known_after_arms : Routines → KnownInBody → Arms → KnownInBody
known_after_arms rs k list = known_in (shared_after_arms rs k.shared list) (locals_after_arms rs k.locals list)

-- ---- the first rule that statements break, in the order of the text

-- the first rule that a call breaks; for a user-defined opcode: its inputs, its body, its results
abbrev pub call_fault_in : Setting → KnownInBody → ℕ → List (List ℕ) → Callee → List Argument → Option Routine
    → Option OrcFault
call_fault_in s k line xs c args None = at line (call_fault_by s k.shared (knows_in k) c xs args)
call_fault_in s k line xs c args (Some r) =
    option_or (inputs_fault s k line r.inputs args)
    (option_or (r.fault s k.shared) (results_fault s (r.shared k.shared) r line xs r.results))

abbrev mutual
  pub fault_in : Setting → Routines → KnownInBody → Statement → Option OrcFault
  fault_in s rs k (set line x e) = at line (set_fault_by s (knows_in k) x e)
  fault_in s rs k (call line xs c args) = call_fault_in s k line xs c args (routine_called rs c)
  fault_in s rs k (choose line list) = arms_fault_in s rs k line list

  pub block_fault_in : Setting → Routines → KnownInBody → Block → Option OrcFault
  block_fault_in s rs k no_stmt = None
  block_fault_in s rs k (andthen x rest) = option_or (fault_in s rs k x) (block_fault_in s rs (known_after rs k x) rest)

  pub arms_fault_in : Setting → Routines → KnownInBody → ℕ → Arms → Option OrcFault
  arms_fault_in s rs k line (otherwise b) = block_fault_in s rs k b
  arms_fault_in s rs k line (arm c b rest) =
      option_or (at line (condition_fault_by s (knows_in k) c))
      (option_or (block_fault_in s rs k b) (arms_fault_in s rs (known_after_block rs k b) line rest))

-- ---- the typed form of statements

-- the typed form of a call; for a user-defined opcode: assignments to its inputs, its body, and assignments
-- of its results
abbrev pub call_in : KnownInBody → ℕ → List (List ℕ) → Callee → List Argument → Option Routine → typed.Block
call_in k line xs c args None = typed.alone (call_by line k.shared (variable_in k) c xs args)
call_in k line xs c args (Some r) =
    let base = k.locals.counts in
    typed.then_block (inputs_set k r line r.inputs args)
    (typed.then_block (moved_block base (r.block k.shared))
    (results_set (known_in (r.shared k.shared) (past_call k.locals r.last.counts)) base r line xs r.results))

abbrev mutual
  pub typed_in : Routines → KnownInBody → Statement → typed.Block
  typed_in rs k (set line x e) =
      typed.alone (typed.set line (name_rate x) (variable_in k x) (expression_by (variable_in k) e))
  typed_in rs k (call line xs c args) = call_in k line xs c args (routine_called rs c)
  typed_in rs k (choose line list) = typed.alone (typed.choose line (choice_rate list) (typed_arms_in rs k list))

  pub typed_block_in : Routines → KnownInBody → Block → typed.Block
  typed_block_in rs k no_stmt = typed.no_stmt
  typed_block_in rs k (andthen x rest) =
      typed.then_block (typed_in rs k x) (typed_block_in rs (known_after rs k x) rest)

  pub typed_arms_in : Routines → KnownInBody → Arms → typed.Arms
  typed_arms_in rs k (otherwise b) = typed.otherwise (typed_block_in rs k b)
  typed_arms_in rs k (arm c b rest) =
      typed.arm (expression_by (variable_in k) c) (typed_block_in rs k b)
      (typed_arms_in rs (known_after_block rs k b) rest)

-- ---- the routines of definitions

-- the routine of a definition, in which these opcodes may be called
abbrev pub routine_of : Routines → Definition → Routine
routine_of rs d =
    let first = all_given_in no_locals d.names in
    record {
      inputs = d.names;
      results = slots 0 d.outs;
      first = first;
      last = locals_after_block rs first (whole_body d);
      shared = λ g. shared_after_block rs g (whole_body d);
      fault = λ s g. block_fault_in s rs (known_in g first) (whole_body d);
      block = λ g. typed_block_in rs (known_in g first) (whole_body d);
    }

-- the routines after one more definition; earlier definitions keep theirs
abbrev pub with_routine : Routines → Definition → Routines
with_routine rs d = with_item routine_of rs d

-- the routines after more definitions: each may call those before it
abbrev pub with_routines : Routines → List Definition → Routines
with_routines rs ds = with_items routine_of rs ds

-- the routines of the definitions before a line
abbrev pub routines_before : ℕ → List Definition → Routines
routines_before line ds = with_routines no_routines (before line ds)
