use Rattle.std.proofs.Common.{◌≡◌, rules, to_z, of_z, w64, pos}
use Rattle.std.proofs.lemmas.Result.{on_ok_weaker}
use Rattle.cs_life.proofs.Going.{note_done, table_done, table_given}
use Rattle.cs_life.proofs.Growing.{grew_none}
use Rattle.cs_piece.specs.Setups.{composition_of}
use Rattle.cs_life.proofs.life.Life.act.Goals as goal

pub start_note-requires : goal.start_note-requires
start_note-requires g c =
    record {
      stands = (c.requires.able.moment, c.requires.able.stands);
      access = c.requires.able.allows;
    }

pub make_table-requires : goal.make_table-requires
make_table-requires g c =
    let s : to_z w64 (of_z w64 c.in-Table.size) ≡ c.in-Table.size = search rules in
    let k : to_z w64 (of_z w64 c.in-Table.gen_) ≡ c.in-Table.gen_ = search rules in
    record {
      stands = (c.args.voices.now.items, c.requires.able.moment, c.requires.able.stands);
      access = c.requires.able.allows;
      table = table_given (composition_of c.args.self.now.setup.now) c.args.event.now.act c.in-Table.number
          c.in-Table.size c.in-Table.gen_
          (to_z w64 (of_z w64 c.in-Table.size)) (to_z w64 (of_z w64 c.in-Table.gen_)) c.in-Table.args
          c.as_slice.result.now c.in-Table.is s k
          c.as_slice.ensures c.requires.event;
    }

pub returns-in_ok-fields-in-Start-clause-done : goal.returns-in_ok-fields-in-Start-clause-done
returns-in_ok-fields-in-Start-clause-done g c =
    let number : to_z w64 (of_z w64 c.from.result) ≡ pos c.in-Start.instr = search rules in
    on_ok_weaker c.start_note.result
    (λ started. note_done c.args.event.now.cycle c.in-Start.is number c.in_ok-fields-in-Start.ensures started)
    c.start_note.ensures.started

pub returns-in-Table-clause-done : goal.returns-in-Table-clause-done
returns-in-Table-clause-done g c =
    let s : to_z w64 (of_z w64 c.in-Table.size) ≡ c.in-Table.size = search rules in
    let k : to_z w64 (of_z w64 c.in-Table.gen_) ≡ c.in-Table.gen_ = search rules in
    on_ok_weaker c.make_table.result
    (λ made. table_done c.args.event.now.cycle c.in-Table.is s k c.as_slice.ensures
    (made c.args.voices.now.items)) c.make_table.ensures.made

pub returns-in-Table-clause-grown : goal.returns-in-Table-clause-grown
returns-in-Table-clause-grown g c =
    on_ok_weaker c.make_table.result (λ made. grew_none c.args.voices.now.items) c.make_table.ensures.made
