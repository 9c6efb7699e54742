use Rattle.std.proofs.Common.{Some, sym, ◌∙◌, ap, rules, w64, SFits}
use Rattle.std.proofs.lemmas.Int.{to_z-of_z}
use Rattle.cs_meaning.specs.Pieces.{find_table, is_there}
use Rattle.cs_voice.specs.Tables.{table_at, tables_of}
use Rattle.cs_voice.proofs.Tabled.{found_here, found_later}
use Rattle.cs_voice.proofs.tables.find_made.Goals as goal

pub returns-then-made-place : goal.returns-then-made-place
returns-then-made-place c =
    let fits : SFits w64 c.args.number = search rules in
    sym (found_here c.args.tables.now c.args.made.now _ c.loop-place.place c.index-tables-place.result
    c.loop-place-test.true c.requires
    c.index-tables-place.is (sym c.has_number.ensures ∙ c.if-has_number.true) c.loop-place.invariant
    ∙ ap (find_table (tables_of c.args.tables.now c.args.made.now)) (to_z-of_z w64 c.args.number fits))
    ∙ ap (λ m. Some (table_at c.index-tables-place.result m)) c.if-made-place.true

pub returns-then-has_number : goal.returns-then-has_number
returns-then-has_number c =
    let fits : SFits w64 c.args.number = search rules in
    ap is_there (sym (found_here c.args.tables.now c.args.made.now _ c.loop-place.place c.index-tables-place.result
    c.loop-place-test.true c.requires
    c.index-tables-place.is (sym c.has_number.ensures ∙ c.if-has_number.true) c.loop-place.invariant
    ∙ ap (find_table (tables_of c.args.tables.now c.args.made.now)) (to_z-of_z w64 c.args.number fits)))
    ∙ c.if-made-place.false

pub loop-place-preserved : goal.loop-place-preserved
loop-place-preserved c =
    found_later c.args.tables.now c.args.made.now _ c.loop-place.place c.index-tables-place.result
    c.loop-place-test.true c.requires
    c.index-tables-place.is (sym c.has_number.ensures ∙ c.if-has_number.false) c.loop-place.invariant
