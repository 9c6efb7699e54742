use Rattle.std.proofs.Common.{◌≡◌, ℕ, ℤ, pos, slice_index_or, ◌∙◌, ◌+◌, ◌++◌, List, length, ap, map, refl, subst, sym}
use Rattle.std.proofs.lemmas.Result.{on_ok_weaker}
use Rattle.cs_cells.specs.{Access.AllowsBelow, Areas.word_count, Cells.cell}
use Rattle.cs_cells.proofs.Counted.{same_count}
use Rattle.cs_piece_meaning.specs.Moments.{Composition, Moment}
use Rattle.cs_piece_meaning.specs.Starts.{Start, all_asked, begun, start_of, time_of}
use Rattle.cs_ir.specs.{Asks.ask_of, declared.ask.Ask.Ask}
use Rattle.cs_life.proofs.{Beginning.Gives, Beginning.clock_is, Beginning.is_ready, Flags.flags_fit}
use Rattle.cs_meaning.specs.{Notes.Note, Plain.Plain}
use Rattle.cs_piece.specs.Setups.{composition_of}
use Rattle.cs_voice_meaning.specs.Voices.{Sheet, initialised}
use Rattle.cs_voice.specs.Starts.{IsStarted, sheet_at}
use Rattle.cs_tempo.specs.declared.plot.Plot.{Plot}
use Rattle.cs_life.proofs.life.Life.begin.Goals as goal

pub start-requires : goal.start-requires
start-requires g c =
    let stage = c.requires.stands.1.stand.stage_is in
    let flags = c.deref-2.result.now in
    let fit : length flags ≡ length c.args.self.now.stage.tables.now =
    ap length c.deref-2.ensures.value ∙ flags_fit _ _ _ _ stage.tables c.requires.stands.1.stand.made in
    record {
      playable = c.requires.instrument.1.playable c.args.self.now.started flags c.into_vec-fields.result.items fit;
      made = fit;
      tables = stage.can_be_played flags fit;
      places = stage.places;
      spaces = stage.zak;
      access = subst (λ areas. AllowsBelow (g.B.Bank.access (g.B.Bank.rest c.args.bank.now)) (word_count areas))
          (sym c.requires.stands.1.layout) c.requires.access;
    }

pub returns-clause-begun : goal.returns-clause-begun
returns-clause-begun g c =
    on_ok_weaker c.enter.result
    (λ f body m of room st.
    let k : Composition = composition_of c.args.self.now.setup.now in
    let s : Start = start_of c.args.note in
    let t : Note Plain = begun k m.made s body m in
    let left : Moment = record m { shared = t.world.shared } in
    let sheet : List ℤ → Sheet = λ fields.
    sheet_at c.args.playable.instrument.now c.args.self.now.started c.args.playable.foot.now c.args.self.now.stage
    c.deref-2.result.now fields in
    let before : ℕ → ℤ = cell (g.B.Bank.cells c.args.bank.now) in
    let gives : (fields : List ℤ) → Type 0 = λ fields. Gives (sheet fields) (c.args.note.cycle + c.args.note.cycles)
    (g.B.Bank.cells c.args.bank.now) (g.B.Bank.cells c.start.new.bank) c.in_ok-begun.begun c.start.new.asks.items in
    let ready = is_ready k c.args.self.now c.args.voices.now.items (g.B.Bank.cells c.args.bank.now)
    (g.B.Bank.cells c.start.new.bank) c.args.note.cycle s
    c.args.playable.instrument.now c.args.playable.foot.now body m of st c.in_ok-begun.begun c.start.new.asks.items
    c.time_of-time.result c.deref-2.result.now
    c.ask_all.new.pending c.ask_all.new.not_started room c.requires.number c.deref-2.ensures.value
    (subst gives c.into_vec-fields.ensures (record {
      result = subst (λ n. IsStarted (sheet c.into_vec-fields.result.items) n
          (initialised (sheet c.into_vec-fields.result.items) before) c.in_ok-begun.begun) c.end_of-until.ensures
          c.in_ok-begun.ensures.started;
      cells_are = c.in_ok-begun.ensures.cells;
      asks_are = c.in_ok-begun.ensures.asks
          ∙ ap (λ (x : List Ask). x
          ++ map ask_of (initialised (sheet c.into_vec-fields.result.items) before).world.asks)
          c.new-asks.ensures.items;
    }))
    (same_count g.B.Bank.cells g.B.Bank.rest g.B.Bank.access g.met.B.Bank.counted c.start.new.bank
    c.args.bank.now c.start.ensures.rest)
    (c.time_of-time.ensures ∙ ap (λ (x : List ℤ). slice_index_or x 1 (pos 0))
    (c.deref.ensures.value ∙ c.into_vec-fields.ensures))
    (c.in_ok-ask_all.ensures k left
    (clock_is k c.args.self.now.stage c.plot.result.now.cycles st.stand.stage_is
    (ap (λ (p : Plot). p.cycles) c.plot.ensures))) in
    f k (g.B.Bank.cells c.start.new.bank) c.args.note.cycle s body t
    (all_asked k c.args.note.cycle (time_of s) t.world.asks left) ready.began refl ready.room ready.stands)
    c.enter.ensures.entered
