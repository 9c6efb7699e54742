use Rattle.std.proofs.Common.{refl}
use Rattle.cs_ir.specs.Placed.{regs_read}
use Rattle.cs_machine.proofs.Gathered.{seven_last, seven_stand}
use Rattle.cs_machine.specs.Registers.{values}
use Rattle.cs_signal.specs.Operands.{Lasts}
use Rattle.cs_machine.proofs.gather.operands.Goals as goal

pub returns : goal.returns
returns c = record {
  stand = seven_stand (values c.args.regs.now) (regs_read c.args.from) c.operand_at.result c.operand_at-2.result
      c.operand_at-3.result c.operand_at-4.result c.operand_at-5.result c.operand_at-6.result c.operand_at-7.result
      c.operand_at.ensures.stands c.operand_at-2.ensures.stands c.operand_at-3.ensures.stands
      c.operand_at-4.ensures.stands c.operand_at-5.ensures.stands c.operand_at-6.ensures.stands
      c.operand_at-7.ensures.stands c.requires.few;
  last = seven_last (Lasts c.args.regs.now.ksmps) c.operand_at.result c.operand_at-2.result c.operand_at-3.result
      c.operand_at-4.result c.operand_at-5.result c.operand_at-6.result c.operand_at-7.result
      c.operand_at.ensures.lasts c.operand_at-2.ensures.lasts c.operand_at-3.ensures.lasts c.operand_at-4.ensures.lasts
      c.operand_at-5.ensures.lasts c.operand_at-6.ensures.lasts c.operand_at-7.ensures.lasts;
  long = refl;
}
