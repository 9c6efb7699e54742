-- The codes of a well-rated block are valid, and name only existing things.
use Rattle.std.proofs.Common.{◌≡◌, ◌≤◌, true, List, length, arith}
use Rattle.cs_base.specs.declared.spaces.Spaces.{Spaces}
use Rattle.cs_ir.specs.{Validity.fine_from, declared.op.Op.Op, Registers.at_kind, declared.register.Counts.Counts}
use Rattle.cs_ir.specs.{declared.register.Kind.Kind, Limits.ops_limit}
use Rattle.cs_meaning.specs.Core.{Block, core}
use Rattle.cs_code.specs.{declared.frame.Pass.Pass, Names.block_units, inner.Code.pass_block_code}
use Rattle.cs_code.specs.inner.Kept.{start, past_block}
use Rattle.cs_typed.specs.{WellRated.IsRatedBlock, declared.setting.Setting.Setting}
use Rattle.cs_code.proofs.{FromRates.block_ranked, FromRates.narrow_block, Named.block_count}
use Rattle.cs_code.proofs.Valid.{fine_valid, of_cycles, whole_fine}
use Rattle.cs_typed.specs.TypedTree as typed

-- the number of units at the end of the text
pub units_counted : (b : Block) → (past_block start b).unit ≡ length (block_units b)
units_counted b = let h = block_count start b in omega arith

pub code_valid : (way : Pass) (spaces : Spaces) (s : Setting) (t : typed.Block) → IsRatedBlock s t
    → (counts : Counts) → (past_block start (core spaces t)).unit ≤ counts.units
    → ((k : Kind) → ops_limit k (pass_block_code way 0 start (core spaces t)) ≤ at_kind counts.registers k)
    → fine_from counts (length (pass_block_code way 0 start (core spaces t))) 0
    (pass_block_code way 0 start (core spaces t)) ≡ true
code_valid way spaces s t rated counts units limits =
    let b : Block = core spaces t in
    let ops : List Op = pass_block_code way 0 start b in
    let counted = units_counted b in
    fine_valid (of_cycles way) counts s.channels (block_units b) (length ops) 0 ops (omega arith) limits
    (whole_fine way s.channels b (block_ranked spaces s t rated) (narrow_block spaces s t rated))
