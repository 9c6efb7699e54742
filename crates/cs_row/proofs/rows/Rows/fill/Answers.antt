use Rattle.std.proofs.Common.{◌∙◌, List, ap, length, map, subst, sym}
use Rattle.cs_row.specs.Cuts.{AreRowsOf}
use Rattle.cs_row.proofs.rows.Rows.fill.Goals as goal

pub invariant_of-self : goal.invariant_of-self
invariant_of-self g c = record {
  empty = (
    c.fill_rows.ensures.rooms c.args.self.now.block c.args.self.now.empty.0,
    ap (λ v. v.items) c.replace-rows.ensures.after ∙ c.new.ensures.items,
  );
}

pub returns-clause-rows : goal.returns-clause-rows
returns-clause-rows g c =
    let cut = c.requires.notes.cut in
    subst (AreRowsOf g.J.Job.means c.args.self.now.most c.args.notes.now.items)
    (sym (c.fill_rows.ensures.rows c.args.self.now.most
    (record { rows = cut.rows; of = cut.of; lengths = cut.lengths ∙ sym c.deref.ensures.value }))) cut.of

pub returns-clause-lengths : goal.returns-clause-lengths
returns-clause-lengths g c =
    let cut = c.requires.notes.cut in
    ap (λ (rows : List (List g.row.J.Denot)). map length rows) (c.fill_rows.ensures.rows c.args.self.now.most
    (record { rows = cut.rows; of = cut.of; lengths = cut.lengths ∙ sym c.deref.ensures.value })) ∙ cut.lengths

pub returns-clause-sums : goal.returns-clause-sums
returns-clause-sums g c = c.fill_rows.ensures.sums c.args.self.now.block c.args.self.now.empty.0
