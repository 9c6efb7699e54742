use Rattle.cs_board.specs.{Resting.known_in, Views.with_word}
use Rattle.cs_desk.proofs.Sole.{sole_knows, sole_areas, sole_after, told_laid}
use Rattle.cs_board.proofs.Rests.{lays_word}
use Rattle.cs_desk.proofs.resting.lay.Goals as goal

pub store-requires : goal.store-requires
store-requires g c = (
  c.requires.sole.table,
  c.requires.word,
  lays_word g.J.Job.means c.args.table.now.shared.table_id.slots c.args.seat.now.id c.args.seat.now.me
      c.requires.sole.live (known_in c.args.seat.now)
      (sole_knows c.args.table.now.shared.table_id c.args.seat.now c.requires.sole) c.args.word c.args.value,
)

pub returns-clause-sole : goal.returns-clause-sole
returns-clause-sole g c =
    sole_after c.args.table.now.shared.table_id c.args.seat.now c.store.new.seat
    (with_word (known_in c.args.seat.now) c.args.word c.args.value) c.requires.sole c.store.ensures.0
    (told_laid c.args.table.now.shared.table_id c.args.seat.now c.requires.sole c.store.new.seat.me
    c.args.table.now.shared.table_id.slots c.args.word c.args.value c.store.ensures.2)

pub returns-clause-areas : goal.returns-clause-areas
returns-clause-areas g c =
    sole_areas c.args.table.now.shared.table_id c.args.seat.now c.store.new.seat
    (with_word (known_in c.args.seat.now) c.args.word c.args.value) c.requires.sole
    (told_laid c.args.table.now.shared.table_id c.args.seat.now c.requires.sole c.store.new.seat.me
    c.args.table.now.shared.table_id.slots c.args.word c.args.value c.store.ensures.2)
