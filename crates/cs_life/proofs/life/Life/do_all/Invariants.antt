use Rattle.std.proofs.Common.{◌≡◌, take}
use Rattle.cs_piece_meaning.specs.Starts.{all_done}
use Rattle.cs_piece.specs.Setups.{composition_of}
use Rattle.cs_life.specs.inner.Doing.{CanGoOn, HasGoneOn}
use Rattle.cs_life.specs.inner.Roster.{Grew}
use Rattle.cs_life.proofs.life.Life.do_all.Given as goal

abbrev pub invariant-loop-event : goal.invariant-loop-event
invariant-loop-event g l = record {
  able : CanGoOn (g.B.Bank.access (g.B.Bank.rest l.bank)) l.self l.voices.items (g.B.Bank.cells l.bank);
  done : HasGoneOn (all_done (composition_of l.initial.self.setup.now) (take l.event-index l.events)) l.initial.self
      l.initial.voices.items
      (g.B.Bank.cells l.initial.bank) l.self l.voices.items (g.B.Bank.cells l.bank);
  setup : l.self.setup.now ≡ l.initial.self.setup.now;
  grown : Grew l.initial.voices.items l.voices.items;
  rest : g.B.Bank.rest l.bank ≡ g.B.Bank.rest l.initial.bank;
}
