use Rattle.std.proofs.Common.{◌≡◌, ◌==◌, true, false, length, rules, sym}
use Rattle.std.specs.Prelude.{◌||◌, nat_lt, None}
use Rattle.std.proofs.lemmas.Result.{on_ok_weaker}
use Rattle.cs_base.specs.Limits.{most_notes}
use Rattle.cs_piece_meaning.specs.Starts.{Start, start_of}
use Rattle.cs_life.proofs.Beginning.{IsThere, none_there, there_is_room, too_many}
use Rattle.cs_life.proofs.Growing.{grew_none}
use Rattle.cs_piece.specs.Setups.{composition_of}
use Rattle.cs_life.proofs.life.Life.start_note.Goals as goal

pub returns-in-None-clause-started : goal.returns-in-None-clause-started
returns-in-None-clause-started g c = λ m st.
    let none : (composition_of c.args.self.now.setup.now).instrument c.args.note.number ≡ None = search rules in
    let s : Start = start_of c.args.note in
    none_there (composition_of c.args.self.now.setup.now) c.args.note.cycle m c.args.self.now c.start_nothing.new.self
    c.args.voices.now.items c.args.voices.now.items
    (g.B.Bank.cells c.args.bank.now) (g.B.Bank.cells c.args.bank.now) s none
    (c.start_nothing.ensures.counted _ _ _ m st)

pub returns-then-not-has_room-clause-started : goal.returns-then-not-has_room-clause-started
returns-then-not-has_room-clause-started g c = λ m st.
    let there : IsThere (composition_of c.args.self.now.setup.now) c.args.self.now.setup.now.layout
    c.args.self.now.setup.now.zones c.args.note.number
    c.in-Some.playable.instrument.now c.in-Some.playable.foot.now = search rules in
    let full : (c.args.note.cycles == 0 || nat_lt (length c.args.voices.now.items) most_notes) ≡ false = search rules in
    let s : Start = start_of c.args.note in
    too_many (composition_of c.args.self.now.setup.now) c.args.note.cycle m c.args.self.now
    c.start_nothing-then-not-has_room.new.self c.args.voices.now.items c.args.voices.now.items
    (g.B.Bank.cells c.args.bank.now) (g.B.Bank.cells c.args.bank.now) s c.in-Some.playable.instrument.now
    c.in-Some.playable.foot.now c.args.self.now.setup.now.layout c.args.self.now.setup.now.zones there st
    full
    (c.start_nothing-then-not-has_room.ensures.counted _ _ _ m st)

pub returns-else-not-has_room-clause-started : goal.returns-else-not-has_room-clause-started
returns-else-not-has_room-clause-started g c =
    on_ok_weaker c.begin.result
    (λ f m st.
    let there : IsThere (composition_of c.args.self.now.setup.now) c.args.self.now.setup.now.layout
    c.args.self.now.setup.now.zones c.args.note.number
    c.in-Some.playable.instrument.now c.in-Some.playable.foot.now = search rules in
    let any : (c.args.note.cycles == 0 || nat_lt (length c.args.voices.now.items) most_notes) ≡ true = search rules in
    let s : Start = start_of c.args.note in
    there_is_room (composition_of c.args.self.now.setup.now) c.args.note.cycle m c.args.self.now c.begin.new.self
    c.args.voices.now.items c.begin.new.voices.items
    (g.B.Bank.cells c.args.bank.now) (g.B.Bank.cells c.begin.new.bank) s c.in-Some.playable.instrument.now
    c.in-Some.playable.foot.now there st any f)
    c.begin.ensures.begun

pub returns-in-None-clause-grown : goal.returns-in-None-clause-grown
returns-in-None-clause-grown g c = grew_none c.args.voices.now.items

pub returns-then-not-has_room-clause-grown : goal.returns-then-not-has_room-clause-grown
returns-then-not-has_room-clause-grown g c = grew_none c.args.voices.now.items

pub begin-requires-clause-number : goal.begin-requires-clause-number
begin-requires-clause-number g c =
    let there : IsThere (composition_of c.args.self.now.setup.now) c.args.self.now.setup.now.layout
    c.args.self.now.setup.now.zones c.args.note.number
    c.in-Some.playable.instrument.now c.in-Some.playable.foot.now = search rules in
    sym there.2
