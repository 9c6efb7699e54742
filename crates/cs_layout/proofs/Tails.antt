-- The resources from each kind on.
use Rattle.std.proofs.Common.{ℕ, List, ◌++◌, length}
use Rattle.cs_base.specs.declared.resource.Res.TheVariants as res
use Rattle.cs_base.specs.declared.spaces.Spaces.{Spaces}
use Rattle.cs_layout.specs.Layouts.{SharedCells, numbered, of_tables}
use Rattle.cs_layout.specs.declared.areas.LiveTable.{LiveTable}
use Rattle.cs_typed.specs.TypedTree.{SharedNames}

module _ (ksmps : ℕ) (names : SharedNames) (spaces : Spaces) (live : List LiveTable) where
  abbrev pub from_za : List SharedCells
  from_za = numbered res.ZakA spaces.audio ksmps ++ of_tables live

  abbrev pub from_zk : List SharedCells
  from_zk = numbered res.ZakK spaces.control 1 ++ from_za

  abbrev pub from_sound : List SharedCells
  from_sound = numbered res.Sound (length names.sound) ksmps ++ from_zk

  abbrev pub from_control : List SharedCells
  from_control = numbered res.Control (length names.control) 1 ++ from_sound

  abbrev pub from_ga : List SharedCells
  from_ga = numbered res.Ga (length names.variables.audio) ksmps ++ from_control

  abbrev pub from_gk : List SharedCells
  from_gk = numbered res.Gk (length names.variables.control) 1 ++ from_ga
