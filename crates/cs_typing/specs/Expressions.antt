-- Expressions: their rates, which of them are values and which are conditions, and their typed form.
use Rattle.std.specs.Prelude.{ℕ, Bool, true, false, not, List, ◌&&◌, if◌then◌else◌}
use Rattle.cs_base.specs.{Rates.is_control, Rates.is_audio, Rates.faster, declared.resource.Rate.Rate}
use Rattle.cs_words.specs.{Names.name_rate, Signs.is_arithmetic, Signs.is_logic, declared.word.Func.Func}
use Rattle.cs_grammar.specs.Tree.{Expression, number, var, field, head, neg, pair, pick, apply}
use Rattle.cs_typing.specs.Known.{KnownHere, knows, variable}
use Rattle.cs_typed.specs.declared.tree.Var.{Var}
use Rattle.cs_base.specs.declared.resource.Rate.TheVariants as rate
use Rattle.cs_words.specs.declared.word.Func.TheVariants as func
use Rattle.cs_typed.specs.TypedTree as typed

-- the rate of a function's value: `i` of a variable is known when the note begins
abbrev pub applied_rate : Func → Rate → Rate
applied_rate func.I r = rate.Init
applied_rate _ r = r

-- The rate of an expression: the rate of its fastest part. The name of a variable determines its rate.
abbrev pub rate_of : Expression → Rate
rate_of (number v) = rate.Init
rate_of (var name) = name_rate name
rate_of (field k) = rate.Init
rate_of (head h) = rate.Init
rate_of (neg a) = rate_of a
rate_of (pair o a b) = faster (rate_of a) (rate_of b)
rate_of (pick c a b) = faster (rate_of c) (faster (rate_of a) (rate_of b))
rate_of (apply f a) = applied_rate f (rate_of a)

-- the name of a k-rate variable
abbrev pub is_control_name : Expression → Bool
is_control_name (var name) = is_control (name_rate name)
is_control_name _ = false

-- An expression that is a value, and one that is a condition, with values and conditions as operands wherever
-- they are required. Operands of conditions and of `cpspch` are not a-rate, and `i` takes the name of a
-- k-rate variable.
abbrev mutual
  pub is_value : Expression → Bool
  is_value (number v) = true
  is_value (var name) = true
  is_value (field k) = true
  is_value (head h) = true
  is_value (neg a) = is_value a
  is_value (pair o a b) = is_arithmetic o && is_value a && is_value b
  is_value (pick c a b) = is_condition c && is_value a && is_value b
  is_value (apply func.I a) = is_control_name a
  is_value (apply func.Cpspch a) = is_value a && not (is_audio (rate_of a))
  is_value (apply f a) = is_value a

  pub is_condition : Expression → Bool
  is_condition (pair o a b) =
      if is_logic o then is_condition a && is_condition b
      else not (is_arithmetic o) && (is_value a && is_value b && not (is_audio (faster (rate_of a) (rate_of b))))
  is_condition _ = false

-- every variable that is read is known
abbrev pub reads_by : (List ℕ → Bool) → Expression → Bool
reads_by is_known (number v) = true
reads_by is_known (var name) = is_known name
reads_by is_known (field k) = true
reads_by is_known (head h) = true
reads_by is_known (neg a) = reads_by is_known a
reads_by is_known (pair o a b) = reads_by is_known a && reads_by is_known b
reads_by is_known (pick c a b) = reads_by is_known c && reads_by is_known a && reads_by is_known b
reads_by is_known (apply f a) = reads_by is_known a

-- every variable that is read is known at this point
abbrev pub reads_known : KnownHere → Expression → Bool
reads_known n e = reads_by (knows n) e

-- the variable of each name
abbrev pub Variables : Type 0
Variables = List ℕ → Var

-- an expression with variables instead of names, and with the rate of each part
abbrev pub expression_by : Variables → Expression → typed.Expression
expression_by v (number z) = typed.number rate.Init z
expression_by v (var name) = typed.var (name_rate name) (v name)
expression_by v (field k) = typed.field rate.Init k
expression_by v (head h) = typed.head rate.Init h
expression_by v (neg a) = typed.neg (rate_of (neg a)) (expression_by v a)
expression_by v (pair o a b) = typed.pair (rate_of (pair o a b)) o (expression_by v a) (expression_by v b)
expression_by v (pick c a b) =
    typed.pick (rate_of (pick c a b)) (expression_by v c) (expression_by v a) (expression_by v b)
expression_by v (apply f a) = typed.apply (rate_of (apply f a)) f (expression_by v a)

-- the typed form of an expression at this point of the text
abbrev pub typed_expression : KnownHere → Expression → typed.Expression
typed_expression n e = expression_by (variable n) e
