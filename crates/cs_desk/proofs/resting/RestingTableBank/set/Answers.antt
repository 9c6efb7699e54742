use Rattle.std.proofs.Common.{rules, ◌≡◌, ap, ◌∙◌, set, w64, of_z}
use mir.Val.{SFits}
use Rattle.std.proofs.lemmas.Int.{to_z-of_z}
use Rattle.std.specs.Int.{cast_signed}
use Rattle.cs_base.specs.Numbers.{clamp}
use Rattle.cs_base.proofs.Arithmetic.{clamp_same}
use Rattle.cs_board.specs.{Resting.areas_in, Resting.known_in, Views.cells_laid}
use Rattle.cs_desk.proofs.Sole.{resting_set, sets_cell}
use Rattle.cs_cells.specs.Cells.{values, signed}
use Rattle.cs_desk.proofs.resting.RestingTableBank.set.Goals as goal

pub invariant_of-self : goal.invariant_of-self
invariant_of-self g c = record {
  rests = resting_set c.args.self.now.areas c.args.self.now.cells c.args.self.now.table.shared.table_id
      c.args.self.now.seat c.lay.new.seat c.args.addr c.cast_unsigned.result c.args.self.now.rests c.lay.ensures.sole
      c.lay.ensures.areas c.lay.ensures.known c.requires;
}

pub returns-clause-cells : goal.returns-clause-cells
returns-clause-cells g c =
    let s = c.args.self.now.seat in
    let fits : SFits w64 c.raw.result = search rules in
    let word : cast_signed w64 c.cast_unsigned.result ≡ c.raw.result =
    ap (cast_signed w64) c.cast_unsigned.ensures
    ∙ ap (λ z. cast_signed w64 (of_z w64 z)) (to_z-of_z w64 c.raw.result fits) ∙ to_z-of_z w64 c.raw.result fits in
    let is : signed c.cast_unsigned.result ≡ c.args.value =
    ap clamp word ∙ clamp_same c.raw.result c.raw.ensures.in_range ∙ c.raw.ensures.value in
    ap (λ a. values (cells_laid a (known_in c.lay.new.seat))) c.lay.ensures.areas
    ∙ ap (λ w. values (cells_laid (areas_in s) w)) c.lay.ensures.known
    ∙ sets_cell (areas_in s) c.args.self.now.table.shared.table_id.words c.args.self.now.table.shared.table_id.slots
    (known_in s) c.args.addr c.cast_unsigned.result c.args.self.now.rests.cleared c.requires
    ∙ ap (λ z. set (values (cells_laid (areas_in s) (known_in s))) c.args.addr z) is
