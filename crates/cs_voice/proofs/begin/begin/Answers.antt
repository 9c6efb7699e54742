use Rattle.std.proofs.Common.{true, refl, sym, ◌∙◌, ap, arith, subst, rules, to_z, of_z, w64, SFits}
use Rattle.std.proofs.lemmas.Int.{to_z-of_z}
use Rattle.std.specs.List.{list_any}
use Rattle.cs_words.specs.Catalogue.{is_table}
use Rattle.cs_meaning.specs.Pieces.{find_table, is_there, table_number}
use Rattle.cs_base.specs.Heads.{header_of_head}
use Rattle.cs_signal.specs.Pace.{pace_of}
use Rattle.cs_voice.specs.Tables.{CanAllBePlayed, table_at, tables_of}
use Rattle.cs_voice.proofs.Starting.{alone, lacks_table, on_table, too_long}
use Rattle.cs_ugen.specs.Generators as generators
use Rattle.cs_voice.proofs.begin.begin.Goals as goal

pub begin_on_table-requires-clause-table : goal.begin_on_table-requires-clause-table
begin_on_table-requires-clause-table c =
    c.requires.tables _ (table_at c.in-Some.table.now true) c.in-Some.ensures

pub returns-in_default : goal.returns-in_default
returns-in_default c piece kinds counts head tables kind state =
    let fits : SFits w64 c.table_number-number.result = search rules in
    lacks_table c.args.finds.now.at.layout.now piece kinds counts c.args.start.opcode c.args.start.rate
    c.args.start.unit c.args.settled.now c.args.state.now c.args.state.now
    (pace_of (header_of_head c.args.finds.now.at.head.now)) (ap generators.pace_of head) kind c.requires.opcode
    state c.requires.unit c.requires.delays (to_z w64 (of_z w64 c.table_number-number.result))
    (sym (c.takes_table.ensures ∙ ap (λ r. list_any is_table r.fixed) c.signature_of.ensures) ∙ c.if-takes_table.true)
    (to_z-of_z w64 c.table_number-number.result fits ∙ c.table_number-number.ensures)
    (ap (λ ts. is_there (find_table ts (table_number c.args.settled.now))) tables
    ∙ sym (ap (λ n. is_there (find_table (tables_of c.args.finds.now.tables.now c.args.made.now) n))
    (to_z-of_z w64 c.table_number-number.result fits ∙ c.table_number-number.ensures)) ∙ c.in_default.ensures) refl

pub returns-then-takes_table : goal.returns-then-takes_table
returns-then-takes_table c piece kinds counts head tables kind state =
    let fits : SFits w64 c.table_number-number.result = search rules in
    on_table c.args.finds.now.at.layout.now piece kinds counts c.args.start.opcode c.args.start.rate c.args.start.unit
    c.args.settled.now c.args.state.now c.begin_on_table.new.state
    (pace_of (header_of_head c.args.finds.now.at.head.now)) (ap generators.pace_of head) kind c.requires.opcode
    state c.requires.unit c.requires.delays
    (sym (c.takes_table.ensures ∙ ap (λ r. list_any is_table r.fixed) c.signature_of.ensures) ∙ c.if-takes_table.true)
    (subst (λ ts. CanAllBePlayed c.args.finds.now.at.layout.now ts) (sym tables) c.requires.tables)
    (c.in_ok-begin_on_table.ensures piece.tables (ap (λ ts. find_table ts (table_number c.args.settled.now)) tables
    ∙ sym (ap (find_table (tables_of c.args.finds.now.tables.now c.args.made.now))
    (to_z-of_z w64 c.table_number-number.result fits ∙ c.table_number-number.ensures)) ∙ c.in-Some.ensures))

pub returns-then-samples : goal.returns-then-samples
returns-then-samples c piece kinds counts head tables kind state =
    too_long c.args.finds.now.at.layout.now piece kinds counts c.args.start.opcode c.args.start.rate
    c.args.start.unit c.args.settled.now c.args.state.now c.args.state.now
    (pace_of (header_of_head c.args.finds.now.at.head.now)) (ap generators.pace_of head) kind c.requires.opcode
    state c.requires.unit c.requires.delays c.samples_with-samples.result
    (sym (c.takes_table.ensures ∙ ap (λ r. list_any is_table r.fixed) c.signature_of.ensures) ∙ c.if-takes_table.false)
    c.samples_with-samples.ensures (omega arith) refl

pub returns : goal.returns
returns c piece kinds counts head tables kind state =
    alone c.args.finds.now.at.layout.now piece kinds counts c.args.start.opcode c.args.start.rate c.args.start.unit
    c.args.settled.now c.args.state.now c.begin_alone.new.state
    (pace_of (header_of_head c.args.finds.now.at.head.now)) (ap generators.pace_of head) kind c.requires.opcode
    state c.requires.unit c.requires.delays c.samples_with-samples.result
    (sym (c.takes_table.ensures ∙ ap (λ r. list_any is_table r.fixed) c.signature_of.ensures) ∙ c.if-takes_table.false)
    c.samples_with-samples.ensures (omega arith) c.in_ok-begin_alone.ensures
