use Rattle.std.proofs.Common.{arith, [], Some, ◌+◌, length, replicate, sym, ap, ◌∙◌}
use Rattle.std.proofs.lemmas.{Grind.common_steps, List.length-replicate}
use Rattle.cs_desk.proofs.Making.{desk_starts, desk_rests, row_long}
use Rattle.cs_board.proofs.Opening.{length-each_below}
use Rattle.cs_board.specs.{Views.resting_view, Opening.each_below, declared.view.Berth.TheVariants.Vacant}
use Rattle.cs_cells.specs.Areas.{word_count}
use Rattle.cs_desk.proofs.resting.RestingTable.new.Goals as goal

pub new-requires : goal.new-requires
new-requires g c = desk_starts g.J.Job.means c.of.result.value c.deref.result.now c.of-2.result.value.items
    c.in_ok-slots.slots.items c.args.notes c.of-3.result.value
    (c.deref.ensures.value ∙ ap (λ v. v.items) (sym c.of-2.ensures)) c.in_ok-slots.ensures c.of-3.ensures

pub invariant_of-result : goal.invariant_of-result
invariant_of-result g c =
    let t = c.in-Ok.ensures.ok in record {
      rests = desk_rests c.args.layout.now c.of-2.result.value.items
          (each_below (λ a. 0) (word_count c.args.layout.now))
          (each_below (λ r. 0) (c.args.notes + (c.args.notes + c.args.edges))) c.of-3.result.value c.len.result
          c.words.result c.in-Ok.table.shared.table_id c.in-Ok.seat
          t.2 (t.4 ∙ ap (λ a. (
            resting_view a
                (record { words = c.of-2.result.value.items; homes = replicate c.of-3.result.value (Some Vacant) }),
            [],
          ))
          c.of.ensures) c.words.ensures.laid c.words.ensures.within c.len.ensures c.words.ensures.words
          (ap (λ v. v.items) c.of-2.ensures ∙ c.in_ok-row.ensures)
          (length-each_below (λ a. 0) (word_count c.args.layout.now))
          (t.0 ∙ ap length (c.deref.ensures.value ∙ ap (λ v. v.items) (sym c.of-2.ensures)))
          (t.1 ∙ ap length c.in_ok-slots.ensures ∙ length-replicate c.args.notes _ ∙ sym c.of-3.ensures);
    }

pub returns-in-Ok-clause-areas : goal.returns-in-Ok-clause-areas
returns-in-Ok-clause-areas g c = ap (λ z. z.0.plan.areas) c.in-Ok.ensures.ok.4 ∙ c.of.ensures

pub returns-in-Ok-clause-notes : goal.returns-in-Ok-clause-notes
returns-in-Ok-clause-notes g c =
    c.in-Ok.ensures.ok.1 ∙ ap length c.in_ok-slots.ensures ∙ length-replicate c.args.notes _

pub returns-in-Ok-clause-room : goal.returns-in-Ok-clause-room
returns-in-Ok-clause-room g c = grind (arith, common_steps, length-each_below, row_long)
