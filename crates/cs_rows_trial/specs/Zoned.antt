-- Where the cells of a note lie.
use Rattle.std.specs.Prelude.{◌≡◌, List}
use Rattle.cs_cells.specs.declared.footprint.Area.{Area}
use Rattle.cs_voice.specs.declared.note.Started.{Started}
use Rattle.cs_voice.specs.declared.note.Started.TheVariants.{Live, NoTable, DelayTooLong}

-- a note that plays claims cells of these zones
abbrev pub IsIn : List Area → Started → Type 0
IsIn zones (Live v) = v.zones ≡ zones
IsIn zones (NoTable number) = Unit {0}
IsIn zones (DelayTooLong samples) = Unit {0}
