use Rattle.std.proofs.Common.{◌∙◌, ◌++◌, Some, ap, length, refl, sym}
use Rattle.std.proofs.lemmas.List.{append-nil}
use Rattle.cs_cells.specs.Cells.{cell}
use Rattle.cs_gen.specs.Tables.{curve_of}
use Rattle.cs_machine.specs.{Access.live_points, Readings.area_in, Readings.points_in}
use Rattle.cs_signal.specs.Steps.{run}
use Rattle.cs_ugen.specs.Units.{inputs_at, moving_count, opcode_of, unit_step}
use Rattle.cs_machine.proofs.{Placed.area_at, Placed.curve_from, Placed.reads_at, Placed.stays_at, Unchanging.same_unit}
use Rattle.cs_machine.proofs.player.Player.block.Goals as goal

pub block-requires-clause-reads_none : goal.block-requires-clause-reads_none
block-requires-clause-reads_none g c = reads_at c.requires.read c.self.view_is c.in-Nothing.is

pub block-requires-clause-count : goal.block-requires-clause-count
block-requires-clause-count g c = c.requires.count ∙ ap (λ p. moving_count (opcode_of p.state)) (sym c.self.view_is)

pub block-requires-clause-last : goal.block-requires-clause-last
block-requires-clause-last g c = c.requires.last

pub block_on-requires-clause-reads : goal.block_on-requires-clause-reads
block_on-requires-clause-reads g c = reads_at c.requires.read c.self.view_is c.in-Frozen.is

pub block_on-requires-clause-count : goal.block_on-requires-clause-count
block_on-requires-clause-count g c = c.requires.count ∙ ap (λ p. moving_count (opcode_of p.state)) (sym c.self.view_is)

pub block_on-requires-clause-last : goal.block_on-requires-clause-last
block_on-requires-clause-last g c = c.requires.last

pub new-table-requires-clause-power : goal.new-table-requires-clause-power
new-table-requires-clause-power g c = c.requires.read.power _ (area_at c.self.view_is c.in-Live.is)

pub new-table-requires-clause-read : goal.new-table-requires-clause-read
new-table-requires-clause-read g c = c.requires.read.live _ (area_at c.self.view_is c.in-Live.is)

pub new-table-requires-clause-small : goal.new-table-requires-clause-small
new-table-requires-clause-small g c = c.requires.read.small _ (area_at c.self.view_is c.in-Live.is)

pub block_on-requires-in-Live-clause-reads : goal.block_on-requires-in-Live-clause-reads
block_on-requires-in-Live-clause-reads g c = reads_at c.requires.read c.self.view_is c.in-Live.is

pub block_on-requires-in-Live-clause-count : goal.block_on-requires-in-Live-clause-count
block_on-requires-in-Live-clause-count g c =
    c.requires.count ∙ ap (λ p. moving_count (opcode_of p.state)) (sym c.self.view_is)

pub block_on-requires-in-Live-clause-last : goal.block_on-requires-in-Live-clause-last
block_on-requires-in-Live-clause-last g c = c.requires.last

pub returns-in-Nothing-clause-value : goal.returns-in-Nothing-clause-value
returns-in-Nothing-clause-value g c =
    let inputs = inputs_at c.args.inputs.now in
    let n = length c.args.row.now in
    let curve = curve_from c.self.view_is c.in-Nothing.is (cell (g.B.Bank.cells c.args.bank.now)) in
    c.block.ensures ∙ (λ i. run unit_step (λ j. sym (append-nil (inputs j)) i) c.self.inside.unit 0 n)
    ∙ (λ i. run unit_step (λ j. inputs j ++ curve i) (c.self.view_is i).state 0 n)

pub returns-in-Frozen-clause-value : goal.returns-in-Frozen-clause-value
returns-in-Frozen-clause-value g c =
    let curve = curve_from c.self.view_is c.in-Frozen.is (cell (g.B.Bank.cells c.args.bank.now)) in
    c.block_on.ensures.value ∙ (λ i. run unit_step (λ j. inputs_at c.args.inputs.now j ++ curve i)
    (c.self.view_is i).state 0 (length c.args.row.now))

pub returns-in-Live-clause-value : goal.returns-in-Live-clause-value
returns-in-Live-clause-value g c =
    let inputs = inputs_at c.args.inputs.now in
    let n = length c.args.row.now in
    let table = c.new-table.ensures in
    let curve = curve_from c.self.view_is c.in-Live.is (cell (g.B.Bank.cells c.args.bank.now)) in
    c.block_on-in-Live.ensures.value ∙ (λ i. run unit_step (λ j. inputs j
    ++ curve_of (live_points (table.area i) (cell (g.B.Bank.cells (table.bank i))))) c.self.inside.unit 0 n)
    ∙ (λ i. run unit_step (λ j. inputs j ++ curve i) (c.self.view_is i).state 0 n)

pub returns-in-Nothing-clause-player : goal.returns-in-Nothing-clause-player
returns-in-Nothing-clause-player g c = stays_at c.self.view_is refl refl
    (same_unit _ c.self.inside.unit c.block.new.self 0 (length c.args.row.now) c.block.new.out c.block.ensures)

pub returns-in-Frozen-clause-player : goal.returns-in-Frozen-clause-player
returns-in-Frozen-clause-player g c = stays_at c.self.view_is
    (ap (λ f. Some f.points.now) c.block_on.ensures.kept ∙ sym (ap points_in c.in-Frozen.is))
    (sym (ap area_in c.in-Frozen.is))
    (same_unit _ c.self.inside.unit c.block_on.new.self 0 (length c.args.row.now) c.block_on.new.out
    c.block_on.ensures.value)

pub returns-in-Live-clause-player : goal.returns-in-Live-clause-player
returns-in-Live-clause-player g c = stays_at c.self.view_is (sym (ap points_in c.in-Live.is))
    (sym (ap area_in c.in-Live.is))
    (same_unit _ c.self.inside.unit c.block_on-in-Live.new.self 0 (length c.args.row.now) c.block_on-in-Live.new.out
    c.block_on-in-Live.ensures.value)
