use Rattle.std.proofs.Common.{ℕ, length}
use Rattle.cs_base.specs.Numbers.{clamp}
use Rattle.cs_signal.specs.{Line.part_way, Operands.operand_at}
use Rattle.cs_signal.proofs.Slopes.{shaped_ramp}
use Rattle.cs_signal.proofs.linen.slope.Goals as goal

pub returns : goal.returns
returns c =
    shaped_ramp (λ (j : ℕ). operand_at c.args.x.now j)
    (λ (m : ℕ). clamp (part_way c.args.from c.args.to m c.args.steps))
    c.args.number (length c.args.out.now) c.ramp.new.out c.shape.new.out c.ramp.ensures c.shape.ensures
