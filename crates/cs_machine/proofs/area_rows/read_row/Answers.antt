use Rattle.std.proofs.Common.{◌∙◌, ◌+◌, ◌<◌, ap, arith, length, map, refl, subst}
use Rattle.std.proofs.lemmas.List.FromFn.{length-map-range_with_len}
use Rattle.std.specs.List.{range_with_len}
use Rattle.cs_cells.specs.Cells.{cell}
use Rattle.cs_machine.proofs.Writing.{can_here, frame_read, within_here}
use Rattle.cs_machine.proofs.area_rows.read_row.Goals as goal

pub get_row-requires-clause-get : goal.get_row-requires-clause-get
get_row-requires-clause-get g c = λ j low.
    let access = g.B.Bank.access (g.B.Bank.rest c.args.bank.now) in
    can_here access.can_get access.count c.args.area j (c.args.area.first + j) c.requires.read
    (subst (λ n. j < n) c.requires.row low) refl

pub get_row-requires-clause-there : goal.get_row-requires-clause-there
get_row-requires-clause-there g c = λ j low.
    let access = g.B.Bank.access (g.B.Bank.rest c.args.bank.now) in
    within_here access.can_get access.count (g.B.Bank.cells c.args.bank.now) c.args.area j
    (g.met.B.Bank.counted c.args.bank.now) c.requires.read (subst (λ n. j < n) c.requires.row low)

pub get_row-requires-clause-small : goal.get_row-requires-clause-small
get_row-requires-clause-small g c = omega (arith, c.requires.row, c.requires.small)

pub returns-clause-frames : goal.returns-clause-frames
returns-clause-frames g c = λ j low.
    let cells = cell (g.B.Bank.cells c.args.bank.now) in
    let read = c.get_row.ensures.row in
    let long = ap length read ∙ length-map-range_with_len cells c.args.area.first (length c.args.row.now) in
    frame_read c.args.area (g.B.Bank.cells c.args.bank.now) c.get_row.new.row j
    (omega (arith, low, long, c.requires.row))
    (read ∙ ap (λ n. map cells (range_with_len c.args.area.first n)) c.requires.row)

pub returns-clause-row : goal.returns-clause-row
returns-clause-row g c =
    ap length c.get_row.ensures.row
    ∙ length-map-range_with_len (cell (g.B.Bank.cells c.args.bank.now)) c.args.area.first (length c.args.row.now)
