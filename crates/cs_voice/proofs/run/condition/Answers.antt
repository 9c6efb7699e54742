use Rattle.cs_ir.proofs.RegisterKinds.{all_small}
use Rattle.cs_ir.specs.Placed.{there}
use Rattle.cs_voice.proofs.run.condition.Goals as goal

pub only-requires-clause-small : goal.only-requires-clause-small
only-requires-clause-small c = all_small c.args.regs.now.counts (there c.args.op).from c.requires.there
