use Rattle.std.proofs.lemmas.{Grind.common_steps, List.get_or_read, List.length-set}
use Rattle.std.proofs.Common.{◌∙◌, ◌+◌, ◌<◌, ap, arith, length, pos, subst, sym}
use Rattle.cs_cells.specs.Cells.{cell}
use Rattle.cs_cells.proofs.Rows.{with_row_none, with_row_more}
use Rattle.cs_cells.proofs.bank.Bank.set_row.Goals as goal

pub loop-j-init : goal.loop-j-init
loop-j-init g c = grind (arith, common_steps, with_row_none)

pub loop-j-preserved : goal.loop-j-preserved
loop-j-preserved g c =
    let inv = c.loop-j.invariant in
    let low : c.loop-j.j < length c.args.row.now = omega arith in
    record {
      cells = ap cell c.set.ensures.cells
          ∙ with_row_more (g.Self.Bank.cells c.loop-j.self) (cell (g.Self.Bank.cells c.args.self.now)) c.args.first
          c.loop-j.j (cell c.args.row.now) c.index-row-j.result inv.cells
          (subst (λ n. c.args.first + c.loop-j.j < n) (sym inv.long) (c.requires.there c.loop-j.j low))
          (get_or_read c.args.row.now c.loop-j.j c.index-row-j.result low c.index-row-j.is (pos 0));
      long = ap length c.set.ensures.cells
          ∙ length-set (g.Self.Bank.cells c.loop-j.self) (c.args.first + c.loop-j.j) c.index-row-j.result ∙ inv.long;
      rest = c.set.ensures.rest ∙ inv.rest;
    }
