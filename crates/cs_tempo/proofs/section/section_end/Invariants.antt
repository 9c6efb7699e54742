use Rattle.std.proofs.Common.{◌≡◌, drop, take}
use Rattle.cs_tempo.specs.Sections.{sections_of}
use Rattle.cs_tempo.proofs.Parts.{in_front}
use Rattle.cs_tempo.proofs.section.section_end.Given as goal

abbrev pub invariant-loop-k : goal.invariant-loop-k
invariant-loop-k l = sections_of l.score ≡ in_front (take l.k l.score) (sections_of (drop l.k l.score))
