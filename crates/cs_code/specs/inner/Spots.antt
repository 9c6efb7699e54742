-- The registers that hold a note's values.
use Rattle.std.specs.Prelude.{ℕ, ◌+◌, List, [], ◌∷◌, Option, Some, None}
use Rattle.cs_base.specs.declared.resource.Rate.{Rate}
use Rattle.cs_ir.specs.{Registers.temporary, Waves.if_init, declared.op.Act.Act, declared.op.Op.Op}
use Rattle.cs_ir.specs.declared.register.Reg.{Reg}
use Rattle.cs_meaning.specs.{Notes.reg, When.When, When.beginning, When.cycle}
use Rattle.cs_code.specs.inner.Kept.{past}
use Rattle.cs_typed.specs.{TypedTree.Expression, TypedTree.var, WellRated.node_rate}
use Rattle.cs_typed.specs.declared.tree.Var.TheVariants.{Local}
use Rattle.cs_ir.specs.declared.register.Kind.TheVariants as kind

-- an op with these parts
abbrev pub op_of : Act → Reg → List Reg → Op
op_of act into from = record { act = act; into = into; from = from }

-- the register of kept value number `at`
abbrev pub kept_reg : ℕ → Reg
kept_reg at = record { kind = kind.Kept; offset = at }

-- temporary number d of a rate
abbrev pub temp : Rate → ℕ → Reg
temp r d = record { kind = temporary r; offset = d }

-- the register of a local variable; None for any other expression
abbrev pub local_of : Expression → Option Reg
local_of (var r (Local q n)) = Some (reg q n)
local_of _ = None

-- The register that holds a value already: a kept value's own register, or a local variable's.
abbrev pub kept_or : When → Rate → ℕ → Option Reg → Option Reg
kept_or beginning r at own = own
kept_or cycle r at own = if_init r (Some (kept_reg at)) own

-- the register that holds an expression's value already, or None
abbrev pub direct : When → ℕ → Expression → Option Reg
direct when at e = kept_or when (node_rate e) at (local_of e)

-- the first register if there is one, otherwise the second
abbrev pub reg_or : Option Reg → Reg → Reg
reg_or (Some q) r = q
reg_or None r = r

-- the register that holds a value after its operand code has run
abbrev pub spot : When → ℕ → Expression → ℕ → Reg
spot when at e d = reg_or (direct when at e) (temp (node_rate e) d)

-- the registers that hold the values of expressions after their code has run
abbrev pub spots : When → ℕ → List Expression → ℕ → List Reg
spots when at [] d = []
spots when at (e ∷ es) d = spot when at e d ∷ spots when (past at e) es (d + 1)
