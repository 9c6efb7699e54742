use Rattle.std.proofs.Common.{length, ◌∙◌}
use Rattle.cs_signal.specs.Operands.{inputs_at}
use Rattle.cs_ugen.proofs.Units.{runs}
use Rattle.cs_ugen.proofs.unit.Unit.block.Goals as goal

pub returns : goal.returns
returns c = c.rendered.ensures ∙ runs c.args.self.now (inputs_at c.args.inputs.now) (length c.args.out.now)
