use Rattle.std.proofs.Common.{◌∙◌, ◌++◌, Some, ap, refl, sym}
use Rattle.std.proofs.lemmas.List.{append-nil}
use Rattle.cs_cells.specs.Cells.{cell}
use Rattle.cs_gen.specs.Tables.{curve_of}
use Rattle.cs_machine.specs.{Access.live_points, Readings.area_in, Readings.points_in}
use Rattle.cs_ugen.specs.Units.{moving_count, opcode_of, unit_step}
use Rattle.cs_ugen.proofs.Units.{opcode_stays}
use Rattle.cs_machine.proofs.Placed.{area_at, curve_from, reads_at, stays_at}
use Rattle.cs_machine.proofs.player.Player.step.Goals as goal

pub step-requires : goal.step-requires
step-requires g c = reads_at c.requires.read c.self.view_is c.in-Nothing.is

pub step_on-requires-clause-reads : goal.step_on-requires-clause-reads
step_on-requires-clause-reads g c = reads_at c.requires.read c.self.view_is c.in-Frozen.is

pub step_on-requires-clause-count : goal.step_on-requires-clause-count
step_on-requires-clause-count g c = c.requires.count ∙ ap (λ p. moving_count (opcode_of p.state)) (sym c.self.view_is)

pub new-table-requires-clause-power : goal.new-table-requires-clause-power
new-table-requires-clause-power g c = c.requires.read.power _ (area_at c.self.view_is c.in-Live.is)

pub new-table-requires-clause-read : goal.new-table-requires-clause-read
new-table-requires-clause-read g c = c.requires.read.live _ (area_at c.self.view_is c.in-Live.is)

pub new-table-requires-clause-small : goal.new-table-requires-clause-small
new-table-requires-clause-small g c = c.requires.read.small _ (area_at c.self.view_is c.in-Live.is)

pub step_on-value-requires-clause-reads : goal.step_on-value-requires-clause-reads
step_on-value-requires-clause-reads g c = reads_at c.requires.read c.self.view_is c.in-Live.is

pub step_on-value-requires-clause-count : goal.step_on-value-requires-clause-count
step_on-value-requires-clause-count g c =
    c.requires.count ∙ ap (λ p. moving_count (opcode_of p.state)) (sym c.self.view_is)

pub returns-in-Nothing-clause-value : goal.returns-in-Nothing-clause-value
returns-in-Nothing-clause-value g c =
    let curve = curve_from c.self.view_is c.in-Nothing.is (cell (g.B.Bank.cells c.args.bank.now)) in
    c.step.ensures ∙ ap (unit_step c.self.inside.unit) (sym (append-nil c.args.inputs.now))
    ∙ (λ i. unit_step (c.self.view_is i).state (c.args.inputs.now ++ curve i))

pub returns-in-Nothing-clause-player : goal.returns-in-Nothing-clause-player
returns-in-Nothing-clause-player g c = stays_at c.self.view_is refl refl
    (ap (λ r. opcode_of r.0) c.step.ensures ∙ opcode_stays c.self.inside.unit c.args.inputs.now)

pub returns-in-Frozen-clause-value : goal.returns-in-Frozen-clause-value
returns-in-Frozen-clause-value g c =
    let curve = curve_from c.self.view_is c.in-Frozen.is (cell (g.B.Bank.cells c.args.bank.now)) in
    c.step_on.ensures.value ∙ (λ i. unit_step (c.self.view_is i).state (c.args.inputs.now ++ curve i))

pub returns-in-Frozen-clause-player : goal.returns-in-Frozen-clause-player
returns-in-Frozen-clause-player g c = stays_at c.self.view_is
    (ap (λ f. Some f.points.now) c.step_on.ensures.kept ∙ sym (ap points_in c.in-Frozen.is))
    (sym (ap area_in c.in-Frozen.is))
    (ap (λ r. opcode_of r.0) c.step_on.ensures.value ∙ opcode_stays c.self.inside.unit _)

pub returns-in-Live-clause-value : goal.returns-in-Live-clause-value
returns-in-Live-clause-value g c =
    let table = c.new-table.ensures in
    let curve = curve_from c.self.view_is c.in-Live.is (cell (g.B.Bank.cells c.args.bank.now)) in
    c.step_on-value.ensures.value ∙ (λ i. unit_step c.self.inside.unit (c.args.inputs.now
    ++ curve_of (live_points (table.area i) (cell (g.B.Bank.cells (table.bank i))))))
    ∙ (λ i. unit_step (c.self.view_is i).state (c.args.inputs.now ++ curve i))

pub returns-in-Live-clause-player : goal.returns-in-Live-clause-player
returns-in-Live-clause-player g c = stays_at c.self.view_is (sym (ap points_in c.in-Live.is))
    (sym (ap area_in c.in-Live.is))
    (ap (λ r. opcode_of r.0) c.step_on-value.ensures.value ∙ opcode_stays c.self.inside.unit _)
