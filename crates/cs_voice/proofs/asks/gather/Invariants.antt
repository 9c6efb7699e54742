use Rattle.std.proofs.Common.{◌≡◌, map, take}
use Rattle.cs_ir.specs.{Placed.regs_read, Waves.first_values}
use Rattle.cs_machine.specs.Registers.{values}
use Rattle.cs_voice.proofs.asks.gather.Given as goal

abbrev pub invariant-loop-place : goal.invariant-loop-place
invariant-loop-place l = l.into.items ≡ first_values (map (values l.regs) (take l.place (regs_read l.from)))
