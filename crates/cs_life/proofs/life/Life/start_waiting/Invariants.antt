use Rattle.std.proofs.Common.{◌≡◌}
use Rattle.cs_base.specs.Limits.{most_asks}
use Rattle.cs_piece_meaning.specs.Moments.{Moment}
use Rattle.cs_piece.specs.Setups.{composition_of}
use Rattle.cs_life.specs.{Standing.StandsFor, inner.Doing.CanGoOn}
use Rattle.cs_life.specs.inner.Roster.{Grew}
use Rattle.cs_life.proofs.Waited.{Waits}
use Rattle.cs_life.proofs.life.Life.start_waiting.Given as goal

abbrev pub invariant-loop : goal.invariant-loop
invariant-loop g l = record {
  able : CanGoOn (g.B.Bank.access (g.B.Bank.rest l.bank)) l.self l.voices.items (g.B.Bank.cells l.bank);
  waits : (m : Moment) → StandsFor (composition_of l.initial.self.setup.now) l.initial.self l.initial.voices.items
      (g.B.Bank.cells l.initial.bank) m
      → Waits most_asks l.counter (composition_of l.initial.self.setup.now) l.cycle l.self l.voices.items
      (g.B.Bank.cells l.bank) m;
  setup : l.self.setup.now ≡ l.initial.self.setup.now;
  grown : Grew l.initial.voices.items l.voices.items;
  rest : g.B.Bank.rest l.bank ≡ g.B.Bank.rest l.initial.bank;
}
