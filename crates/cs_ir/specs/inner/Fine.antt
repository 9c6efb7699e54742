-- The conditions under which an op of a routine is fine in a window, checked among its routine's steps.
use Rattle.std.specs.Prelude.{ℕ, Bool, true, not, ◌+◌, ◌&&◌, ◌||◌, nat_lt}
use Rattle.std.specs.List.{list_all}
use Rattle.cs_ir.specs.{Flat.Begins, Flat.moved_reg, Registers.rate_at, Validity.has_register, Validity.takes_from}
use Rattle.cs_ir.specs.{Validity.writes, declared.op.Act.Act, declared.op.Op.Op, declared.register.Counts.Counts}
use Rattle.cs_ir.specs.declared.op.Act.TheVariants as act

-- whether an act of the step at place `at` finds what it names: a unit that exists, or a later step as its
-- target
abbrev pub finds_step : Counts → Begins → ℕ → Act → Bool
finds_step counts w at (act.Start opcode u) = nat_lt (w.unit + u) counts.units
finds_step counts w at (act.Unit opcode u reach) = nat_lt (w.unit + u) counts.units
finds_step counts w at (act.Jump to) = nat_lt at to
finds_step counts w at (act.Unless to) = nat_lt at to
finds_step counts w at _ = true

-- whether an op of a routine, the step at place `at`, is fine in a window
abbrev pub suits : Counts → Begins → ℕ → Op → Bool
suits counts w at op =
    (not (writes op.act) || has_register counts (moved_reg w op.into))
    && list_all (λ q. has_register counts (moved_reg w q)) op.from
    && finds_step counts w at op.act
    && takes_from op.act (rate_at op.into) op.from
