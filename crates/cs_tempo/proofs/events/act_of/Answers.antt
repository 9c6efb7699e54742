use Rattle.std.proofs.Common.{arith}
use Rattle.cs_tempo.proofs.Acted.{hold_acts, note_acts}
use Rattle.cs_tempo.proofs.events.act_of.Goals as goal

pub returns-in_ok-note-in-Note : goal.returns-in_ok-note-in-Note
returns-in_ok-note-in-Note c = λ offset.
    note_acts c.args.clock.now offset c.args.cycles c.args.stop c.args.what.now c.in-Note.instr c.in-Note.at
    c.in-Note.more c.in-Note.length c.in_ok-note-in-Note.field-0 c.in-Note.is c.in_ok-note-in-Note.ensures

pub returns-in_ok-fields-in-Hold : goal.returns-in_ok-fields-in-Hold
returns-in_ok-fields-in-Hold c = λ offset.
    hold_acts c.args.clock.now offset c.args.cycles c.args.stop c.args.what.now c.in-Hold.instr c.in-Hold.at
    c.in-Hold.more c.in-Hold.given c.held_cycles-cycles.result c.in_ok-fields-in-Hold.fields c.in-Hold.is
    (c.held_cycles-cycles.ensures offset) c.in_ok-fields-in-Hold.ensures

pub note-requires-clause-short : goal.note-requires-clause-short
note-requires-clause-short c =
    let reach = rw c.in-Note.is at c.requires.reach in omega (arith, reach, c.requires.short)

pub held_cycles-cycles-requires-clause-at : goal.held_cycles-cycles-requires-clause-at
held_cycles-cycles-requires-clause-at c =
    let range = rw c.in-Hold.is at c.requires.range in
    let reach = rw c.in-Hold.is at c.requires.reach in record { beat = range.1; cycle = omega (arith, reach) }
