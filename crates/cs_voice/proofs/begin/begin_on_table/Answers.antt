use Rattle.std.proofs.Common.{true, refl, sym, ◌∙◌, rules, w64, SFits}
use Rattle.std.proofs.lemmas.Int.{to_z-of_z}
use Rattle.cs_ugen.specs.Units.{unit_start}
use Rattle.cs_meaning.specs.Pieces.{table_number}
use Rattle.cs_base.specs.Heads.{header_of_head}
use Rattle.cs_signal.specs.Pace.{pace_of}
use Rattle.cs_voice.specs.Tables.{table_at}
use Rattle.cs_voice.proofs.Starting.{begun_on}
use Rattle.cs_voice.proofs.begin.begin_on_table.Goals as goal

pub returns : goal.returns
returns c = λ tables found.
    let fits : SFits w64 c.table_number-number.result = search rules in
    begun_on c.args.at.now.layout.now tables (table_at c.args.table.now true) (table_number c.args.settled.now)
    (table_number c.args.settled.now) _
    (unit_start c.args.start.opcode c.args.start.rate (pace_of (header_of_head c.args.at.now.head.now))
    c.args.settled.now) c.in_ok-unit.unit c.args.start.unit
    c.args.state.now c.put.new.state c.on_table-player.result refl
    (to_z-of_z w64 c.table_number-number.result fits ∙ c.table_number-number.ensures) (sym found)
    refl c.in_ok-unit.ensures.unit c.on_table-player.ensures.value c.on_table-player.ensures.small c.put.ensures
