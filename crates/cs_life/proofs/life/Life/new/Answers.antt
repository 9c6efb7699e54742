use Rattle.std.proofs.Common.{ap, length, pos, refl, subst, sym, ◌∙◌}
use Rattle.std.proofs.lemmas.List.{length-replicate}
use Rattle.cs_cells.specs.{Areas.word_count, Cells.cell}
use Rattle.cs_cells.proofs.Counted.{same_count}
use Rattle.cs_piece_meaning.specs.Course.{outside_done}
use Rattle.cs_piece.specs.{VoicesOfNotes.Hold, Setups.composition_of}
use Rattle.cs_voice.specs.{Memory.table_of, VoiceData.made}
use Rattle.cs_life.proofs.{Orders.same_length, Opened.none_made, Opened.opened}
use Rattle.cs_life.proofs.life.Life.new.Goals as goal

pub begin_outside-requires-clause-made : goal.begin_outside-requires-clause-made
begin_outside-requires-clause-made g c =
    c.deref.ensures.value ∙ c.in_ok-made.ensures
    ∙ none_made (composition_of c.args.setup.now).tables (length c.stage-stage.result.tables.now)
    (same_length table_of made c.stage-stage.result.tables.now (composition_of c.args.setup.now).tables
    c.stage-stage.ensures.stage.tables)

pub returns-clause-stands : goal.returns-clause-stands
returns-clause-stands g c =
    opened (composition_of c.args.setup.now)
    (record {
      setup = c.args.setup;
      stage = c.stage-stage.result;
      made = c.in_ok-made.made;
      pending =
          c.new.result;
      started = 0;
      not_started = 0;
    })
    (g.B.Bank.cells c.begin_outside.new.bank) c.stage-stage.ensures.stage c.stage-stage.ensures.layout
    c.stage-stage.ensures.zones
    (c.in_ok-made.ensures
    ∙ none_made (composition_of c.args.setup.now).tables (length c.stage-stage.result.tables.now)
    (same_length table_of made c.stage-stage.result.tables.now (composition_of c.args.setup.now).tables
    c.stage-stage.ensures.stage.tables))
    (subst (λ areas. Hold areas (cell (g.B.Bank.cells c.begin_outside.new.bank))
    (outside_done (composition_of c.args.setup.now)).world.shared)
    (sym c.stage-stage.ensures.layout) c.in_ok-begin_outside.ensures.hold)
    (same_count g.B.Bank.cells g.B.Bank.rest g.B.Bank.access g.met.B.Bank.counted c.begin_outside.new.bank
    c.args.bank.now c.begin_outside.ensures.rest
    ∙ ap length c.requires.cells
    ∙ length-replicate (word_count c.args.setup.now.layout) (pos 0)
    ∙ ap word_count (sym c.stage-stage.ensures.layout))
    c.new.ensures refl refl
