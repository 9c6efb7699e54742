use Rattle.std.proofs.Common.{◌≡◌, ◌≤◌, ◌^◌, max, map, drop}
use Rattle.cs_tempo.specs.Sections.{reach_of, greatest, tempo_of}
use Rattle.cs_tempo.proofs.section.length_of.Given as goal

abbrev pub invariant-loop-statement : goal.invariant-loop-statement
invariant-loop-statement l = record {
  length : max l.length (greatest
      (map (λ s. reach_of l.clock.head (tempo_of l.section) s.what) (drop l.statement-index l.section)))
      ≡ greatest (map (λ s. reach_of l.clock.head (tempo_of l.section) s.what) l.section);
  small : l.length ≤ 2 ^ 47;
}
