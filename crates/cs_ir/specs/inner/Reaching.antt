-- The register limits of a routine at the place where it is invoked.
use Rattle.std.specs.Prelude.{ℕ, zero, suc, ◌+◌, List}
use Rattle.cs_ir.specs.Flat.{begin_of, ops_at, window_of}
use Rattle.cs_ir.specs.{Limits.op_limit, Limits.ops_limit, Registers.most, declared.op.Op.Op}
use Rattle.cs_ir.specs.{declared.register.Kind.Kind, declared.step.Call.Call, declared.step.Step.Step}
use Rattle.cs_ir.specs.declared.step.Step.TheVariants as step

-- the register limit of a routine whose registers begin at `begin`; 0 if it has none
abbrev pub behind : ℕ → ℕ → ℕ
behind begin zero = 0
behind begin (suc n) = begin + suc n

-- the register limit of a kind, for the routine of a call
abbrev pub call_limit : List (List Op) → Kind → Call → ℕ
call_limit routines k c = behind (begin_of (window_of c) k) (ops_limit k (ops_at routines c.routine))

-- the register limit of a kind, for one step
abbrev pub step_limit : List (List Op) → Kind → Step → ℕ
step_limit routines k (step.Do op) = op_limit k op
step_limit routines k (step.Invoke c) = call_limit routines k c

-- the register limit of a kind for these steps, including the routines that they invoke
abbrev pub steps_limit : List (List Op) → Kind → List Step → ℕ
steps_limit routines k steps = most (step_limit routines k) steps
