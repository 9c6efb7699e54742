-- The codes of a note mean its tree, in every world that refuses notes only as they begin.
use Rattle.std.proofs.Common.{ℕ, [], ◌∷◌, Option, refl, arith}
use Rattle.cs_ir.specs.{Machine.new_machine, Machine.again, Worlds.World}
use Rattle.cs_base.specs.declared.spaces.Spaces.{Spaces}
use Rattle.cs_meaning.specs.{Core.Block, Core.core, Notes.Path, Notes.new_note, Notes.moved_to, Plain.plain}
use Rattle.cs_code.specs.inner.Kept.{start, block_numbers, registers}
use Rattle.cs_typed.specs.{WellRated.IsRatedBlock, declared.setting.Setting.Setting}
use Rattle.cs_code.specs.{Means.MeansIn, Means.Means, inner.Code.init_block_code, inner.Code.perf_block_code}
use Rattle.cs_code.proofs.Inside.{AreApart, LaysOn, SuitsBlock}
use Rattle.cs_code.proofs.{Initialises.init_block_runs, Numbers.registers_apart, Numbers.registers_lay, Parts.Quiet}
use Rattle.cs_code.proofs.{PlainWorld.plain_quiet, Performs.perf_block_runs, Rated.block_suits}
use Rattle.cs_typed.specs.TypedTree as typed

pub means_in : {W : Type 0} (o : World W) → Quiet o → (placed : Path → Option ℕ) → AreApart placed → (body : Block)
    → SuitsBlock body → LaysOn placed (0 ∷ []) (block_numbers start body)
    → MeansIn o placed body (init_block_code 0 start body) (perf_block_code 0 start body)
means_in o quiet placed distinct body suits lays = record {
  starts = λ x. (init_block_runs o quiet placed distinct body (0 ∷ []) start 0 (new_note x) (new_machine x)
      (record { stands = record { locals = λ r n. refl; kept = λ p n is. refl; world = refl }; next = omega arith })
      suits lays).stands;
  goes_on = λ t m x s going. (perf_block_runs o quiet placed distinct body (0 ∷ []) start 0 (moved_to x t) (again x m)
      (record { stands = record { locals = s.locals; kept = s.kept; world = refl }; next = omega arith }) going suits
      lays).stands;
}

-- the codes of a well-rated block mean its tree in the plain world of every piece
pub means_its_tree : (spaces : Spaces) (s : Setting) (b : typed.Block) → IsRatedBlock s b
    → Means (core spaces b) (init_block_code 0 start (core spaces b)) (perf_block_code 0 start (core spaces b))
means_its_tree spaces s b rated =
    let body : Block = core spaces b in
    record {
      plan = registers body;
      each = λ piece. means_in (plain piece) (plain_quiet piece) (registers body) (registers_apart body) body
          (block_suits spaces s b rated) (registers_lay body);
    }
