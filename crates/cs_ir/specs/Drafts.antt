-- Codes that are being built: the ops of a draft, and the places of its marks.
use Rattle.std.specs.Prelude.{ℕ, ◌≡◌, ◌++◌, List, Some, length, slice_get}
use Rattle.cs_ir.specs.{Codes.aim, declared.op.Op.Op, declared.step.Step.Step}
use Rattle.cs_ir.specs.Flat.{flat, flat_routines, place_of}
use Rattle.cs_ir.specs.declared.step.Step.TheVariants as step

-- A draft: the steps of the routines that it may invoke, by number, and its own steps.
pub record Draft : Type 0 where
  pub routines : List (List Step)
  pub steps : List Step

-- the ops of the routines that a draft may invoke
abbrev pub library_of : Draft → List (List Op)
library_of d = flat_routines d.routines

-- the ops of a draft
abbrev pub drafted : Draft → List Op
drafted d = flat (library_of d) d.steps

-- A mark of a draft is the index of a step that is an op; `place` is the place of this op.
pub record IsAt (d : Draft) (mark place : ℕ) : Type 0 where
  pub op : Op
  pub is : slice_get d.steps mark ≡ Some (step.Do op)
  pub stands : place ≡ place_of (library_of d) mark d.steps

-- The draft has further ops; the routines, and the places of marks, are unchanged.
pub record Grew (old new : Draft) (more : List Op) : Type 0 where
  pub ops : drafted new ≡ drafted old ++ more
  pub routines : library_of new ≡ library_of old
  pub marks : (mark place : ℕ) → IsAt old mark place → IsAt new mark place

-- The target of the jump at a place, if the op there is one, is the end of the draft; everything else is
-- unchanged.
pub record Aimed (old new : Draft) (place : ℕ) : Type 0 where
  pub ops : drafted new ≡ aim place (length (drafted old)) (drafted old)
  pub routines : library_of new ≡ library_of old
  pub marks : (mark other : ℕ) → IsAt old mark other → IsAt new mark other
