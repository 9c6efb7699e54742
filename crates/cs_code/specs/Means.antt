-- The relation between a note's codes and the note's tree.
use Rattle.std.specs.Prelude.{ℕ, false, ◌≡◌, List, Option, Some}
use Rattle.cs_base.specs.declared.resource.Rate.{Rate}
use Rattle.cs_ir.specs.Machine.{Machine, new_machine, again, run}
use Rattle.cs_ir.specs.{Waves.constant, Worlds.World, declared.op.Op.Op}
use Rattle.cs_meaning.specs.{Core.Block, Initialising.init_block, Performing.perf_block, Plain.Piece, Plain.plain}
use Rattle.cs_meaning.specs.Notes.{Note, Path, reg, start, new_note, moved_to}
use Rattle.cs_ir.specs.declared.register.Kind.TheVariants as kind

-- The register of each kept value of a note, by its path, if it has one; each local variable has a separate
-- register.
abbrev pub RegisterPlan : Type 0
RegisterPlan = Path → Option ℕ

-- A machine corresponds to a note: they have the same local variables, kept values and state of the world.
pub record StandsInMachine {W : Type 0} (plan : RegisterPlan) (t : Note W) (m : Machine W) : Type 0 where
  pub locals : (r : Rate) (n : ℕ) → m.regs (reg r n) ≡ t.locals (reg r n)
  pub kept : (p : Path) (n : ℕ) → plan p ≡ Some n
      → m.regs (record { kind = kind.Kept; offset = n }) ≡ constant (t.kept p)
  pub world : m.world ≡ t.world

-- The two codes of a note mean its statements in a world. After the first has run on a new machine, the
-- machine corresponds to a new note after the statements' initialisation. The second has in each control
-- cycle the same effect as the statements, whatever other notes did to the world in between.
pub record MeansIn {W : Type 0} (o : World W) (plan : RegisterPlan) (body : Block) (init perf : List Op) : Type 0 where
  pub starts : (x : W) → StandsInMachine plan (init_block o start body (new_note x)) (run o 0 init (new_machine x))
  pub goes_on : (t : Note W) (m : Machine W) (x : W) → StandsInMachine plan t m → o.refused x ≡ false
      → StandsInMachine plan (perf_block o start body (moved_to x t)) (run o 0 perf (again x m))

-- The two codes of a note mean its statements in the plain world of every piece, with the registers of one
-- plan.
pub record Means (body : Block) (init perf : List Op) : Type 0 where
  pub plan : RegisterPlan
  pub each : (piece : Piece) → MeansIn (plain piece) plan body init perf
