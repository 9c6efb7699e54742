-- The context of a statement, and which opcodes are allowed in it.
use Rattle.std.specs.Prelude.{ℕ, Bool, true, false}
pub use Rattle.cs_base.specs.Heads.{Header}
use Rattle.cs_words.specs.declared.catalogue.Shape.{Shape}
use Rattle.cs_words.specs.declared.catalogue.Shape.TheVariants as shape
use Rattle.cs_typed.specs.declared.setting.Setting.{Setting}

-- the context outside instruments, in a piece with this number of channels
abbrev pub outside : ℕ → Setting
outside channels = record { inside = false; channels = channels }

-- the context inside an instrument, in a piece with this number of channels
abbrev pub inside : ℕ → Setting
inside channels = record { inside = true; channels = channels }

-- the opcodes that are allowed outside instruments
abbrev pub stands_outside : Shape → Bool
stands_outside shape.Init = true
stands_outside shape.ZakInit = true
stands_outside _ = false

-- the opcodes that run once, when the note begins
abbrev pub is_starting : Shape → Bool
is_starting shape.Init = true
is_starting shape.ZakInit = true
is_starting shape.Ask = true
is_starting _ = false

-- the opcodes that run once if all their arguments are known when the note begins
abbrev pub is_writing : Shape → Bool
is_writing shape.Store = true
is_writing shape.ChannelPut = true
is_writing _ = false
