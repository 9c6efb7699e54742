use Rattle.std.proofs.Common.{◌≡◌, ℕ, ◌<◌, length}
use Rattle.cs_ir.specs.Placed.{regs_read}
use Rattle.cs_machine.specs.{Registers.values, inner.Gathered.IsFirstAt}
use Rattle.cs_machine.proofs.gather.firsts.Given as goal

-- the numbers before this index are their registers' values
abbrev pub invariant-loop-j : goal.invariant-loop-j
invariant-loop-j l = record {
  first : (i : ℕ) → i < l.j → IsFirstAt (values l.regs) l.inputs (regs_read l.from) i;
  long : length l.inputs ≡ 7;
}
