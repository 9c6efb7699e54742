-- The acts that a note may perform in each control cycle.
use Rattle.std.specs.{Prelude.Bool, Prelude.true, Prelude.false, Prelude.List, List.list_all}
use Rattle.cs_ir.specs.{declared.op.Act.Act, declared.op.Op.Op}
use Rattle.cs_ir.specs.declared.op.Act.TheVariants as act

-- whether an act can be performed in a control cycle: it starts no unit, looks up no table and schedules no
-- note
abbrev pub is_of_cycle : Act → Bool
is_of_cycle (act.Start opcode u) = false
is_of_cycle act.Seek = false
is_of_cycle act.Ask = false
is_of_cycle _ = true

-- whether all ops can be performed in a control cycle
abbrev pub are_of_cycle : List Op → Bool
are_of_cycle ops = list_all (λ op. is_of_cycle op.act) ops
