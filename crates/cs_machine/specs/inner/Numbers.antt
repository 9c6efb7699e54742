-- Integers that values name, as the code computes them.
use Rattle.std.specs.Prelude.{ℕ, ℤ, pos, Bool, false, ◌+◌, ◌&&◌, List, nat_le, nat_lt, Option, Some, None}
use Rattle.std.specs.Prelude.{if◌then◌else◌}
use Rattle.cs_base.specs.declared.resource.Res.{Res}
use Rattle.cs_words.specs.declared.catalogue.Space.{Space}
use Rattle.cs_ir.specs.{Resources.reaches, declared.op.Reach.Reach}
use Rattle.cs_cells.specs.declared.footprint.Area.{Area}
use Rattle.cs_voice_meaning.specs.VoiceWorld.{lies_cleared}
use Rattle.cs_base.specs.declared.resource.Res.TheVariants as res
use Rattle.cs_words.specs.declared.catalogue.Space.TheVariants as space

-- the exclusive end of the places that are cleared: one after the integer part of a value, at most the number
-- of places, and 0 if the value is below 0
abbrev pub end_of : ℕ → Option ℕ → ℕ
end_of count None = 0
end_of count (Some k) = if nat_lt k count then k + 1 else count

-- the first place that is cleared: the integer part of a value, at most the end, and 0 if the value is below
-- 0
abbrev pub from_of : ℕ → Option ℕ → ℕ
from_of end None = 0
from_of end (Some m) = if nat_lt m end then m else end

-- whether a resource is a place of a space that is cleared: within reach, from one number on and before
-- another
abbrev pub clears : Space → Reach → ℕ → ℕ → Res → Bool
clears space.Control reach from end (res.ZakK n) = reaches reach n && (nat_le from n && nat_lt n end)
clears space.Audio reach from end (res.ZakA n) = reaches reach n && (nat_le from n && nat_lt n end)
clears s reach from end g = false

-- the cells after the places that pass the test were cleared
abbrev pub cleared_in : List Area → (Res → Bool) → (ℕ → ℤ) → ℕ → ℤ
cleared_in areas test cells = λ a. if lies_cleared areas test a then pos 0 else cells a
