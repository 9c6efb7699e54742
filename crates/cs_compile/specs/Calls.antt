-- What calls of user-defined opcodes in an orchestra's text mean for the piece: each instrument of the piece
-- does what the one in the text does, where each call has its own frame.
use Rattle.std.specs.{Prelude.ℕ, Prelude.ℤ, Prelude.pos, Prelude.◌≡◌, Prelude.Ok, Prelude.Some, List.Contains}
use Rattle.cs_base.specs.{Lines.Excerpt, declared.spaces.Spaces.Spaces}
use Rattle.cs_compile.specs.Meaning.{IsReadAs}
use Rattle.cs_grammar.specs.Tree.{Instrument, Orchestra}
use Rattle.cs_meaning.specs.Core.{Block, core}
use Rattle.cs_piece_meaning.specs.Moments.{Composition}
use Rattle.cs_typing.specs.Known.{Shared}
use Rattle.cs_udo.specs.Expanding.{expanding}
use Rattle.cs_udo_meaning.specs.{Lives.MeansFrames, Typed.shared_of}
use Rattle.cs_typed.specs.TypedTree as typed

-- These statements mean the instrument with this number, as an orchestra was written: in worlds with states W
-- they do what it does with a separate frame for each place of a call, where `shared` says the places of the
-- names that notes share.
pub record MeansInstrument (W : Type 0) (o : Orchestra) (shared : Shared) (spaces : Spaces) (number : ℕ) (body : Block)
    : Type 0 where
  pub written : Instrument
  pub stands : Contains o.instrs written
  pub numbered : Contains written.numbers number
  pub made : typed.Instrument
  pub body_is : body ≡ core spaces made.body
  pub means : MeansFrames W o.opcodes shared written made

-- The text was read as an orchestra. For each number of its instruments the piece has statements, and the
-- statements that the piece has for a number mean the instrument with that number. The names that notes
-- share, which no expansion changes, have the places that they have in the expanded text.
pub record MeansCalls (W : Type 0) (text : Excerpt) (c : Composition) : Type 0 where
  pub orchestra : Orchestra
  pub read : IsReadAs text (Ok orchestra)
  pub expansion : Orchestra
  pub expanded : expanding orchestra ≡ Ok expansion
  pub there : (i : Instrument) (number : ℕ) → Contains orchestra.instrs i → Contains i.numbers number
      → (body : Block) × (c.instrument (pos number) ≡ Some body)
  pub each : (z : ℤ) (body : Block) → c.instrument z ≡ Some body
      → (number : ℕ) × (z ≡ pos number) × MeansInstrument W orchestra (shared_of expansion) c.spaces number body
