use Rattle.std.proofs.Common.{◌≡◌, ap, length, subst, sym, ◌∙◌, []}
use Rattle.cs_cells.specs.{Access.AllowsBelow, Areas.word_count, Cells.cell}
use Rattle.cs_piece_meaning.specs.Course.{outside_done}
use Rattle.cs_piece.specs.{VoicesOfNotes.Hold, Setups.composition_of}
use Rattle.cs_voice_meaning.specs.Voices.{initialised}
use Rattle.cs_voice.specs.Starts.{sheet_at}
use Rattle.cs_life.proofs.{Flags.flags_fit, Opened.outside_holds, Performing.same_piece}
use Rattle.cs_life.proofs.life.begin_outside.Goals as goal

pub start-requires : goal.start-requires
start-requires g c =
    let stage = c.requires.stage in
    let flags = c.args.made.now in
    let fit : length flags ≡ length c.args.stage.tables.now =
    flags_fit c.args.stage.tables.now (composition_of c.args.setup.now).tables [] flags stage.tables c.requires.made in
    record {
      playable = (c.outside.ensures c.args.stage stage c.requires.layout c.requires.zones).playable 0 flags
          c.new-fields.result.items fit;
      made = fit;
      tables = stage.can_be_played flags fit;
      places = stage.places;
      spaces = stage.zak;
      access = subst (λ areas. AllowsBelow (g.B.Bank.access (g.B.Bank.rest c.args.bank.now)) (word_count areas))
          (sym c.requires.layout) c.requires.access;
    }

pub returns-clause-hold : goal.returns-clause-hold
returns-clause-hold g c =
    subst (λ areas. Hold areas (cell (g.B.Bank.cells c.start.new.bank))
    (outside_done (composition_of c.args.setup.now)).world.shared) c.requires.layout
    (outside_holds (composition_of c.args.setup.now) c.args.stage c.outside.result.instrument.now
    c.outside.result.foot.now c.args.made.now (g.B.Bank.cells c.args.bank.now)
    (g.B.Bank.cells c.start.new.bank) (word_count c.args.setup.now.layout) c.requires.stage
    (c.outside.ensures c.args.stage c.requires.stage c.requires.layout c.requires.zones)
    c.requires.made (same_piece (composition_of c.args.setup.now) c.args.stage c.args.made.now [] [] c.requires.stage
    c.requires.made) c.requires.cells
    (c.in_ok-start.ensures.cells
    ∙ ap (λ fields. (initialised
    (sheet_at c.outside.result.instrument.now 0 c.outside.result.foot.now c.args.stage c.args.made.now fields)
    (cell (g.B.Bank.cells c.args.bank.now))).world.shared) c.new-fields.ensures.items))
