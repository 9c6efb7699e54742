use Rattle.cs_row.proofs.rows.Rows.empty.Goals as goal

pub invariant_of-self : goal.invariant_of-self
invariant_of-self g c = record {
  empty = (
    c.empty_rows.ensures.rooms c.args.self.now.block c.requires.sums c.args.self.now.empty.0,
    c.empty_rows.ensures.rows,
  );
}
