-- Statements: the first rule that they break, the names known after them, and their typed form.
use Rattle.std.specs.Prelude.{ℕ, Bool, true, not, List, ◌&&◌, ◌||◌, Option, Some, None, if◌then◌else◌}
use Rattle.std.specs.Option.{option_or}
use Rattle.cs_base.specs.{Rates.is_init, Rates.within, declared.fault.OrcKind.OrcKind, declared.resource.Rate.Rate}
use Rattle.cs_base.specs.declared.fault.OrcFault.{OrcFault}
use Rattle.cs_words.specs.Names.{name_rate}
use Rattle.cs_grammar.specs.Tree.{Expression, Statement, set, call, choose, Block, no_stmt, andthen, Arms, otherwise}
use Rattle.cs_grammar.specs.Tree.{arm}
use Rattle.cs_typed.specs.{Calls.rate_of_choice, declared.setting.Setting.Setting}
use Rattle.cs_typing.specs.{Calls.call_fault, Calls.call_known, Calls.typed_call, Settings.at}
use Rattle.cs_typing.specs.Expressions.{is_value, is_condition, rate_of, reads_by, typed_expression}
use Rattle.cs_typing.specs.Known.{KnownHere, knows, given, variable}
use Rattle.cs_base.specs.declared.fault.OrcKind.TheVariants as orc
use Rattle.cs_typed.specs.TypedTree as typed

-- a value that a variable may be assigned
abbrev pub may_set : Setting → List ℕ → Expression → Bool
may_set s name e = is_value e && within (rate_of e) (name_rate name) && (s.inside || is_init (name_rate name))

-- the first rule that an assignment breaks, depending on which names are known
abbrev pub set_fault_by : Setting → (List ℕ → Bool) → List ℕ → Expression → Option OrcKind
set_fault_by s is_known name e =
    if not (reads_by is_known e) then Some orc.Undefined
    else (if not (may_set s name e) then Some orc.RateMismatch else None)

-- the first rule that an assignment breaks at this point of the text
abbrev pub set_fault : Setting → KnownHere → List ℕ → Expression → Option OrcKind
set_fault s n name e = set_fault_by s (knows n) name e

-- the first rule that the condition of an `if` breaks, depending on which names are known
abbrev pub condition_fault_by : Setting → (List ℕ → Bool) → Expression → Option OrcKind
condition_fault_by s is_known e =
    if not (reads_by is_known e) then Some orc.Undefined
    else (if not (is_condition e && (s.inside || is_init (rate_of e))) then Some orc.RateMismatch else None)

-- the first rule that the condition of an `if` breaks at this point of the text
abbrev pub condition_fault : Setting → KnownHere → Expression → Option OrcKind
condition_fault s n e = condition_fault_by s (knows n) e

-- the names known after statements; an `if` assigns every variable that any of its arms assigns
abbrev mutual
  pub known : KnownHere → Statement → KnownHere
  known n (set line name e) = given n name
  known n (call line results callee args) = call_known n callee results args
  known n (choose line list) = known_arms n list

  pub known_block : KnownHere → Block → KnownHere
  known_block n no_stmt = n
  known_block n (andthen x rest) = known_block (known n x) rest

  pub known_arms : KnownHere → Arms → KnownHere
  known_arms n (otherwise b) = known_block n b
  known_arms n (arm c b rest) = known_arms (known_block n b) rest

-- The first rule that statements break, in the order of the text. The condition of an arm is checked in its
-- place, after the bodies of the earlier arms, and its fault has the line of the `if`.
abbrev mutual
  pub fault : Setting → KnownHere → Statement → Option OrcFault
  fault s n (set line name e) = at line (set_fault s n name e)
  fault s n (call line results callee args) = at line (call_fault s n callee results args)
  fault s n (choose line list) = arms_fault s n line list

  pub block_fault : Setting → KnownHere → Block → Option OrcFault
  block_fault s n no_stmt = None
  block_fault s n (andthen x rest) = option_or (fault s n x) (block_fault s (known n x) rest)

  pub arms_fault : Setting → KnownHere → ℕ → Arms → Option OrcFault
  arms_fault s n line (otherwise b) = block_fault s n b
  arms_fault s n line (arm c b rest) =
      option_or (at line (condition_fault s n c))
      (option_or (block_fault s n b) (arms_fault s (known_block n b) line rest))

-- all conditions are known when the note begins
abbrev pub all_init : Arms → Bool
all_init (otherwise b) = true
all_init (arm c b rest) = is_init (rate_of c) && all_init rest

-- the rate of an `if`
abbrev pub choice_rate : Arms → Rate
choice_rate list = rate_of_choice (all_init list)

-- the typed form of statements
abbrev mutual
  pub typed_statement : KnownHere → Statement → typed.Statement
  typed_statement n (set line name e) = typed.set line (name_rate name) (variable n name) (typed_expression n e)
  typed_statement n (call line results callee args) = typed_call line n callee results args
  typed_statement n (choose line list) = typed.choose line (choice_rate list) (typed_arms n list)

  pub typed_block : KnownHere → Block → typed.Block
  typed_block n no_stmt = typed.no_stmt
  typed_block n (andthen x rest) = typed.andthen (typed_statement n x) (typed_block (known n x) rest)

  pub typed_arms : KnownHere → Arms → typed.Arms
  typed_arms n (otherwise b) = typed.otherwise (typed_block n b)
  typed_arms n (arm c b rest) = typed.arm (typed_expression n c) (typed_block n b) (typed_arms (known_block n b) rest)
