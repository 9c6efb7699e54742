-- Routines that are generated once, and the codes that invoke them.
use Rattle.std.specs.Prelude.{◌≡◌, ◌+◌, ◌≤◌, ◌^◌, List, length, map}
use Rattle.cs_base.specs.declared.spaces.Spaces.{Spaces}
use Rattle.cs_ir.specs.{Drafts.Draft, Drafts.Grew, Drafts.drafted, declared.op.Op.Op}
use Rattle.cs_ir.specs.Routines.{AreRoutines, library_in}
use Rattle.cs_meaning.specs.Core.{Block, core}
use Rattle.cs_typed.specs.declared.tree.TypedOrc.{TypedOrc}
use Rattle.cs_code.specs.{declared.codes.BlockOps.BlockOps, declared.codes.Library.Library, declared.frame.Pass.Pass}
use Rattle.cs_code.specs.declared.frame.Progress.{Progress}
use Rattle.cs_code.specs.{declared.routines.Routines.Routines, inner.Code.pass_block_code}
use Rattle.cs_code.specs.inner.Kept.{start, past_block}
use Rattle.cs_typed.specs.TypedTree as typed
use Rattle.cs_code.specs.declared.frame.Pass.TheVariants as pass

-- the sum of two progresses
abbrev pub further_on : Progress → Progress → Progress
further_on p q = record { part = p.part + q.part; unit = p.unit + q.unit }

-- Routines serve a code: each has its own code, from the first register and the first place on, and the
-- number of values that each keeps and of units in each is known.
pub record Serve (way : Pass) (spaces : Spaces) (rs : List typed.Block) (made : List (List Op))
    (known : List Progress) : Type 0 where
  pub code : made ≡ map (λ b. pass_block_code way 0 start (core spaces b)) rs
  pub extents : known ≡ map (λ b. past_block start (core spaces b)) rs

-- A draft has grown by the code of a block, and `q` is the progress at the block's end.
pub record Lowered (way : Pass) (old new : Draft) (p q : Progress) (b : Block) : Type 0 where
  pub ops : Grew old new (pass_block_code way (length (drafted old)) p b)
  pub next : q ≡ past_block p b

-- The routines of an orchestra in one of a note's codes.
pub record AreMade (way : Pass) (spaces : Spaces) (rs : List typed.Block) (m : Routines) : Type 0 where
  pub serve : Serve way spaces rs (library_in m.list.value.items) m.extents.items
  pub are : AreRoutines m.list.value.items
  pub few : length m.list.value.items ≤ 2 ^ 31

-- The routines of an orchestra in both codes.
pub record IsLibraryOf (orc : TypedOrc) (l : Library) : Type 0 where
  pub init : AreMade pass.Initialisation orc.spaces (typed.routines orc.routines.items) l.init
  pub perf : AreMade pass.Performance orc.spaces (typed.routines orc.routines.items) l.perf

-- The ops of a block in both of a note's codes.
pub record AreCodes (spaces : Spaces) (t : typed.Block) (init perf : BlockOps) : Type 0 where
  pub begins : init.ops ≡ pass_block_code pass.Initialisation 0 start (core spaces t)
  pub performs : perf.ops ≡ pass_block_code pass.Performance 0 start (core spaces t)
  pub extent : init.extent ≡ past_block start (core spaces t)
