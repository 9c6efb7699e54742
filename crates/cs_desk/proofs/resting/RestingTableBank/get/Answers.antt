use Rattle.std.proofs.Common.{rules, sym, ap, ◌∙◌, w64}
use mir.Val.{SFits}
use Rattle.std.proofs.lemmas.Int.{to_z-of_z}
use Rattle.cs_base.specs.Numbers.{clamp}
use Rattle.cs_board.specs.Resting.{areas_in, known_in}
use Rattle.cs_cells.specs.Cells.{signed}
use Rattle.cs_desk.proofs.Sole.{reads_cell}
use Rattle.cs_desk.proofs.resting.RestingTableBank.get.Goals as goal

pub returns-clause-value : goal.returns-clause-value
returns-clause-value g c =
    let s = c.args.self.now.seat in
    let id = c.args.self.now.table.shared.table_id in
    let fits : SFits w64 c.cast_signed.result = search rules in
    c.of_raw.ensures ∙ ap clamp (to_z-of_z w64 c.cast_signed.result fits ∙ c.cast_signed.ensures)
    ∙ ap signed c.read-word.ensures.value
    ∙ sym (reads_cell (areas_in s) id.words id.slots (known_in s) c.args.addr c.args.self.now.rests.cleared c.requires)
