-- The assignments around the body of a routine, stated with numbers of variables: values of `xout` to the
-- slots of the results, each slot being the next variable of its rate; arguments to inputs; and results to
-- variables of the caller.
use Rattle.std.specs.Prelude.{ℕ, ◌+◌, not, List, [], ◌∷◌, ◌&&◌, ◌||◌, Option, Some, None, if◌then◌else◌}
use Rattle.std.specs.Option.{option_or}
use Rattle.cs_base.specs.Rates.{at_rate, is_init, within}
use Rattle.cs_base.specs.{declared.fault.OrcFault.OrcFault, declared.fault.OrcKind.OrcKind, declared.resource.Rate.Rate}
use Rattle.cs_base.specs.declared.per_rate.PerRate.{PerRate}
use Rattle.cs_words.specs.Names.{name_rate}
use Rattle.cs_grammar.specs.Tree.{Argument, value}
use Rattle.cs_typed.specs.declared.setting.Setting.{Setting}
use Rattle.cs_udo.specs.Names.{slot}
use Rattle.cs_typing.specs.{Expressions.expression_by, Settings.at, Statements.set_fault_by, inner.Routines.variable_in}
use Rattle.cs_typing.specs.inner.Routines.{Locals, counted, given_in, KnownInBody, known_in, knows_in, number_in}
use Rattle.cs_base.specs.declared.fault.OrcKind.TheVariants as orc
use Rattle.cs_typed.specs.TypedTree as typed
use Rattle.cs_typed.specs.declared.tree.Var.TheVariants as variant

-- ---- the values of `xout`

-- the local variables with one more of a rate, which has no name
abbrev pub one_counted : Locals → Rate → Locals
one_counted l r = record { number = l.number; counts = counted r l.counts }

-- the first rule that the assignments of values to slots of these rates break
abbrev pub slots_fault : Setting → KnownInBody → ℕ → List Rate → List Argument → Option OrcFault
slots_fault s k line (r ∷ rs) (value e ∷ args) =
    option_or (at line (set_fault_by s (knows_in k) (slot 0 r) e))
    (slots_fault s (known_in k.shared (one_counted k.locals r)) line rs args)
slots_fault s k line rs args = None

-- each slot is assigned its value
abbrev pub slots_set : KnownInBody → ℕ → List Rate → List Argument → typed.Block
slots_set k line (r ∷ rs) (value e ∷ args) =
    typed.andthen (typed.set line r (variant.Local r (at_rate k.locals.counts r)) (expression_by (variable_in k) e))
    (slots_set (known_in k.shared (one_counted k.locals r)) line rs args)
slots_set k line rs args = typed.no_stmt

-- the local variables after the slots
abbrev pub slots_past : Locals → List Rate → List Argument → Locals
slots_past l (r ∷ rs) (value e ∷ args) = slots_past (one_counted l r) rs args
slots_past l rs args = l

-- the numbers of the slots
abbrev pub slot_numbers : PerRate ℕ → List Rate → List Argument → List ℕ
slot_numbers c (r ∷ rs) (value e ∷ args) = at_rate c r ∷ slot_numbers (counted r c) rs args
slot_numbers c rs args = []

-- ---- inputs

-- The values of the caller's arguments are assigned to the inputs, which are local variables of the routine.
abbrev pub given_set : KnownInBody → Locals → ℕ → List (List ℕ) → List Argument → typed.Block
given_set k first line (x ∷ xs) (value e ∷ args) =
    typed.andthen (typed.set line (name_rate x)
    (variant.Local (name_rate x) (at_rate k.locals.counts (name_rate x) + number_in first x))
    (expression_by (variable_in k) e)) (given_set k first line xs args)
given_set k first line xs args = typed.no_stmt

-- ---- results

-- the rule that the assignment of a result of rate r to variable x breaks
abbrev pub taken_kind : Setting → List ℕ → Rate → Option OrcKind
taken_kind s x r =
    if not (within r (name_rate x) && (s.inside || is_init (name_rate x))) then Some orc.RateMismatch else None

-- the first rule that the assignments of results to variables break
abbrev pub taken_fault : Setting → ℕ → List (List ℕ) → List Rate → Option OrcFault
taken_fault s line (x ∷ xs) (r ∷ rs) = option_or (at line (taken_kind s x r)) (taken_fault s line xs rs)
taken_fault s line xs rs = None

-- Results with these rates and numbers are assigned to variables of the caller, one after another.
abbrev pub taken_set : KnownInBody → PerRate ℕ → ℕ → List (List ℕ) → List Rate → List ℕ → typed.Block
taken_set k base line (x ∷ xs) (r ∷ rs) (n ∷ ns) =
    typed.andthen (typed.set line (name_rate x) (variable_in k x)
    (typed.var r (variant.Local r (at_rate base r + n))))
    (taken_set (known_in k.shared (given_in k.locals x)) base line xs rs ns)
taken_set k base line xs rs ns = typed.no_stmt
