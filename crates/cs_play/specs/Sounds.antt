-- The contents of a sink after a run of known texts.
use Rattle.std.specs.Prelude.{ℕ, ◌≡◌, ◌⊎◌, List, [], Option, Some, None}
use Rattle.cs_edge.specs.{Moves.Held, Told.IsFront}
use Rattle.cs_arguments.specs.Reading.{Asked}
use Rattle.cs_source.specs.{Sounds.IsSoundOf, Texts.Texts}

-- The contents of a sink after a run, compared with those before: the same if no sound file was opened; empty
-- if it couldn't be opened; or, under the name in the arguments, a prefix of the sound of the texts.
abbrev pub HoldsSoundFront : Texts → Asked → Option Held → Held → Type 0
HoldsSoundFront t asked before now =
    (before ≡ Some now)
    ⊎ (((now.name ≡ None) × (now.bytes ≡ []))
    ⊎ ((now.name ≡ Some asked.sound_file) × (sound : List ℕ) × IsSoundOf t asked.width sound × IsFront now.bytes sound))
