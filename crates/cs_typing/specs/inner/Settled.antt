-- The settings found before a point of the text.
use Rattle.std.specs.Prelude.{ℕ, true, List, [], ◌∷◌, if◌then◌else◌}
use Rattle.std.specs.{Option.option_or}
use Rattle.cs_base.specs.{declared.spaces.Spaces.Spaces, Heads.Header, Heads.header_of_head}
use Rattle.cs_grammar.specs.{Tree.Argument}
use Rattle.cs_typing.specs.{declared.settle.Settings.Settings, declared.zak.Zaks.Zaks}
use Rattle.cs_typing.specs.Settings.{at, Zak, zak_fault, sizes}

-- a `zakinit` with this line and these arguments
abbrev pub zak_at : ℕ → List Argument → Zak
zak_at line args = record { line = line; args = args }

-- the data after one more `zakinit`: its fault, if there was none before, and its sizes, if it is the first
abbrev pub after_zak : Zaks → Zak → Zaks
after_zak s z = record {
  seen = true;
  fault = option_or s.fault (at z.line (zak_fault s.seen z));
  spaces = if s.seen then s.spaces else sizes z.args;
}

-- the data after more `zakinit`s
abbrev pub after_zaks : Zaks → List Zak → Zaks
after_zaks s [] = s
after_zaks s (z ∷ rest) = after_zaks (after_zak s z) rest

-- the settings of a piece, without the proofs of the header's ranges
pub record Told : Type 0 where
  pub head : Header
  pub spaces : Spaces

-- settings with these parts
abbrev pub told : Header → Spaces → Told
told h spaces = record { head = h; spaces = spaces }

-- the settings in the code, without their proofs
abbrev pub settings_of : Settings → Told
settings_of s = told (header_of_head s.head) s.spaces
