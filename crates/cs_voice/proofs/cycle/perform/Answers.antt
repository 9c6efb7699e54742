use Rattle.std.proofs.Common.{inl}
use Rattle.cs_voice.proofs.cycle.perform.Goals as goal

pub run-requires : goal.run-requires
run-requires g c = inl c.requires
