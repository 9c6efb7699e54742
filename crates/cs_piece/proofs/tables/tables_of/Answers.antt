use Rattle.std.proofs.Common.{◌∙◌, ap, map, subst, sym}
use Rattle.std.specs.List.{list_any}
use Rattle.cs_piece.specs.Tables.{ascending, given_in}
use Rattle.cs_piece.specs.inner.Marked.{Differ, codes_store, given_of, table_by}
use Rattle.cs_piece.proofs.{Ascending.made_differ, Ascending.number_of, Rights.tables_as}
use Rattle.cs_piece.proofs.tables.tables_of.Goals as goal

pub by_number-requires : goal.by_number-requires
by_number-requires c =
    subst (Differ number_of) (sym (c.in_ok-tables.ensures
    ∙ (λ i. map (λ x. table_by (c.deref-2.ensures.value i) c.in_ok-written.written (given_of x))
    (c.deref.ensures.value i))))
    (made_differ (given_in c.args.events.now) c.in_ok-given.given c.in_ok-written.written c.in_ok-given.ensures.stand)

pub returns : goal.returns
returns c o are =
    c.by_number.ensures ∙ ap ascending (c.in_ok-tables.ensures
    ∙ (λ i. map (λ x. table_by (c.deref-2.ensures.value i) c.in_ok-written.written (given_of x))
    (c.deref.ensures.value i))
    ∙ tables_as o c.args.lowered.now.instruments (given_in c.args.events.now) c.in_ok-given.given
    c.in_ok-written.written are c.in_ok-given.ensures.stand
    (λ n l. c.in_ok-written.ensures n l ∙ ap (list_any (codes_store n)) c.as_slice.ensures.same)
    c.in_ok-given.ensures.right)
