use Rattle.std.proofs.Common.{[], ◌≡◌, ◌∷◌, Some, None, sym, ap, ◌∙◌, arith}
use Rattle.atomic_table.specs.Table.{rest}
use Rattle.cs_board.specs.{Resting.known_in, Views.laid, Views.with_home}
use Rattle.cs_desk.proofs.Sole.{sole_knows, sole_areas, sole_known, sole_after, told_reached, swapped, exchanged}
use Rattle.cs_desk.proofs.{Sole.held_live, Sole.held_knows, Sole.held_carries, resting.swap.Given.Over}
use Rattle.cs_board.proofs.Rests.{reaches_slot, leaves_slot}
use Rattle.cs_desk.proofs.resting.swap.Goals as goal

pub load-requires : goal.load-requires
load-requires g c =
    let id = c.args.table.now.shared.table_id in
    let s = c.args.seat.now in (
      c.requires.sole.table,
      c.requires.word,
      reaches_slot g.J.Job.means id.slots s.id s.me c.requires.sole.live (known_in s) (sole_knows id s c.requires.sole)
          c.args.note c.requires.lies.0 c.requires.lies.1,
    )

pub exchange-held-requires : goal.exchange-held-requires
exchange-held-requires g c =
    let id = c.args.table.now.shared.table_id in
    let reached = told_reached id c.args.seat.now c.requires.sole c.args.note c.requires.lies.0 c.requires.lies.1
    c.load.new.seat.me id.slots c.load.result c.load.ensures.2 in
    let e = ap (λ z. z.1) reached in (
      c.load.ensures.0 ∙ c.requires.sole.table,
      (c.requires.lies.0, e ∙ ap (λ r. (c.args.note, c.requires.lies.0) ∷ r) (sym (ap rest e))),
    )

pub load-requires-2 : goal.load-requires-2
load-requires-2 g c =
    let id = c.args.table.now.shared.table_id in
    let s = c.args.seat.now in
    let b = c.requires.lies in
    let m = c.exchange-held.new.seat.me in
    let reached = told_reached id s c.requires.sole c.args.note b.0 b.1 c.load.new.seat.me id.slots c.load.result
    c.load.ensures.2 in
    let held = (swapped id s c.requires.sole c.args.note b.0 b.1 c.load.new.seat.me reached c.exchange-held.result
    c.args.berth m c.exchange-held.ensures.2 c.exchange-held.ensures.3).1 in (
      c.exchange-held.ensures.0 ∙ c.load.ensures.0 ∙ c.requires.sole.table,
      omega (arith, c.requires.word),
      leaves_slot g.J.Job.means id.slots c.exchange-held.new.seat.id m
          (held_live id s c.requires.sole c.args.note b.0 b.1 m c.args.berth held)
          (with_home (known_in s) c.args.note None)
          (held_knows id s c.requires.sole c.args.note b.0 b.1 m c.args.berth held) c.args.note c.args.berth 0
          (held_carries id s c.requires.sole c.args.note b.0 b.1 m c.args.berth held),
    )

pub returns-clause-was : goal.returns-clause-was
returns-clause-was g c =
    let id = c.args.table.now.shared.table_id in
    let s = c.args.seat.now in
    let b = c.requires.lies in
    let reached = told_reached id s c.requires.sole c.args.note b.0 b.1 c.load.new.seat.me id.slots c.load.result
    c.load.ensures.2 in
    let held = (swapped id s c.requires.sole c.args.note b.0 b.1 c.load.new.seat.me reached c.exchange-held.result
    c.args.berth c.exchange-held.new.seat.me c.exchange-held.ensures.2 c.exchange-held.ensures.3).0 in
    b.1 ∙ ap (λ x. Some (Some x)) (sym held)

-- what the seat carries and knows afterwards
left : (g : Over) (c : goal.After-load-2 g) → c.load-2.new.seat.me
    ≡ (laid c.args.seat.now.me.0 (with_home (known_in c.args.seat.now) c.args.note (Some c.args.berth)), [])
left g c =
    exchanged c.args.table.now.shared.table_id c.args.seat.now c.requires.sole c.args.note c.requires.lies.0
    c.requires.lies.1 c.load.new.seat.me c.exchange-held.new.seat.me c.load-2.new.seat.me
    c.args.table.now.shared.table_id.slots c.load.result c.load-2.result c.exchange-held.result c.args.berth
    c.load.ensures.2 c.exchange-held.ensures.2 c.exchange-held.ensures.3 c.load-2.ensures.2

pub returns-clause-sole : goal.returns-clause-sole
returns-clause-sole g c =
    sole_after c.args.table.now.shared.table_id c.args.seat.now c.load-2.new.seat
    (with_home (known_in c.args.seat.now) c.args.note (Some c.args.berth)) c.requires.sole
    (c.load-2.ensures.0 ∙ c.exchange-held.ensures.0 ∙ c.load.ensures.0) (left g c)

pub returns-clause-areas : goal.returns-clause-areas
returns-clause-areas g c =
    sole_areas c.args.table.now.shared.table_id c.args.seat.now c.load-2.new.seat
    (with_home (known_in c.args.seat.now) c.args.note (Some c.args.berth)) c.requires.sole (left g c)

pub returns-clause-known : goal.returns-clause-known
returns-clause-known g c =
    sole_known c.args.table.now.shared.table_id c.args.seat.now c.load-2.new.seat
    (with_home (known_in c.args.seat.now) c.args.note (Some c.args.berth)) c.requires.sole (left g c)
