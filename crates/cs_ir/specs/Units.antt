-- The shapes of opcodes that have a state or work on zak places.
use Rattle.std.specs.Prelude.{Bool, true, false}
use Rattle.cs_words.specs.declared.catalogue.Shape.{Shape}
use Rattle.cs_words.specs.declared.catalogue.Shape.TheVariants as shape

-- whether a shape is a unit: it computes its result with its own state, and is started as the note begins
abbrev pub is_unit : Shape → Bool
is_unit shape.Unit = true
is_unit _ = false

-- whether a shape reads or writes zak places
abbrev pub is_zak : Shape → Bool
is_zak (shape.ZakGet s) = true
is_zak (shape.ZakPut s) = true
is_zak shape.ZakMix = true
is_zak (shape.ZakClear s) = true
is_zak _ = false
