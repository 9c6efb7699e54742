use Rattle.std.proofs.Common.{◌∙◌, List, ℤ, ap, get_or, length, pos}
use Rattle.cs_voice.proofs.Sums.{added_at, added_long, room_for_more}
use Rattle.cs_voice.proofs.adding.add_row.Goals as goal

pub add_block-requires-clause-room : goal.add_block-requires-clause-room
add_block-requires-clause-room c =
    room_for_more c.requires.room.added c.args.sums.now c.requires.room.few c.requires.room.sums

pub returns-clause-sums : goal.returns-clause-sums
returns-clause-sums c j =
    ap (λ (l : List ℤ). get_or l j (pos 0)) c.add_block.ensures.sums
    ∙ added_at c.args.sums.now c.args.row.now j c.requires.long

pub returns-clause-long : goal.returns-clause-long
returns-clause-long c =
    ap length c.add_block.ensures.sums ∙ added_long c.args.sums.now c.args.row.now c.requires.long
