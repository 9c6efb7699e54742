-- The zak place that a value names.
use Rattle.std.specs.Prelude.{ℕ, ◌&&◌, nat_lt, Option, Some, None, if◌then◌else◌}
use Rattle.cs_base.specs.declared.resource.Res.{Res}
use Rattle.cs_words.specs.declared.catalogue.Space.{Space}
use Rattle.cs_ir.specs.{Resources.places_of, Resources.reaches, Resources.zak_place, declared.op.Reach.Reach}
use Rattle.cs_machine.specs.declared.state.NoteSetting.{NoteSetting}

-- the place with a number, if its space has it and it is within reach
abbrev pub reached : NoteSetting → Space → Reach → Option ℕ → Option Res
reached at s reach None = None
reached at s reach (Some n) = if nat_lt n (places_of at.spaces s) && reaches reach n then Some (zak_place s n) else None
