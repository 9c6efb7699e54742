use Rattle.std.proofs.Common.{ap, false, length, pos, refl, sym, true, ◌∙◌}
use Rattle.cs_gen.specs.Points.{points_of}
use Rattle.cs_cells.proofs.Counted.{same_count}
use Rattle.cs_piece.specs.Setups.{composition_of}
use Rattle.cs_life.proofs.Tabled.{area_ready, stands_made}
use Rattle.cs_life.proofs.life.Life.make_table.Goals as goal

pub put-requires : goal.put-requires
put-requires g c = record {
  there = area_ready (g.B.Bank.access (g.B.Bank.rest c.args.bank.now)) (composition_of c.args.self.now.setup.now)
      c.args.self.now c.requires.stands.0
      (g.B.Bank.cells c.args.bank.now) c.requires.stands.1 c.args.table.number c.as_slice.result.now c.args.table.size
      c.args.table.gen_ c.args.table.args.now
      c.requires.stands.2 c.requires.table (sym c.has_cells.ensures ∙ c.if-has_cells.true)
      (ap (λ xs. pos (length xs)) c.as_slice.ensures ∙ c.in_ok-points.ensures.long) c.requires.access;
}

pub returns-in_ok-points-clause-made : goal.returns-in_ok-points-clause-made
returns-in_ok-points-clause-made g c = λ voices m h.
    stands_made c.args.table.number
    (points_of c.args.table.size c.args.table.gen_ c.args.table.args.now) c.mark.ensures h
    c.as_slice.result.now (c.as_slice.ensures ∙ c.in_ok-points.ensures.points) true
    (sym c.has_cells.ensures ∙ c.if-has_cells.true) c.put.ensures.written
    (same_count g.B.Bank.cells g.B.Bank.rest g.B.Bank.access g.met.B.Bank.counted c.put.new.bank
    c.args.bank.now c.put.ensures.rest)

pub returns-else-has_cells-clause-made : goal.returns-else-has_cells-clause-made
returns-else-has_cells-clause-made g c = λ voices m h.
    let points = points_of c.args.table.size c.args.table.gen_ c.args.table.args.now in
    stands_made c.args.table.number points c.mark.ensures h points refl false
    (sym c.has_cells.ensures ∙ c.if-has_cells.false) refl refl
