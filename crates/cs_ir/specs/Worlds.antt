-- Shared resources and the effects of opcodes, as both codes and meanings see them.
use Rattle.std.specs.Prelude.{ℕ, ℤ, Bool, List}
use Rattle.cs_base.specs.{declared.resource.Rate.Rate, declared.resource.Res.Res}
use Rattle.cs_words.specs.{declared.catalogue.Opcode.Opcode, declared.word.HeadName.HeadName}
use Rattle.cs_ir.specs.{Waves.Wave, declared.op.Reach.Reach}

-- A world: everything that a note can do in it. Its states W contain the shared resources, the note's units,
-- its output, whether it was turned off, the notes that it has scheduled, and whether its initialisation was
-- refused. A unit has a number, which is the place of its opcode in the text. An opcode that looks up a
-- table, stores into one, or reads or writes zak places has no number.
pub record World (W : Type 0) : Type 0 where
  pub ksmps : ℕ
  pub field : ℕ → ℤ
  pub head : HeadName → ℤ
  pub load : Res → W → Wave
  pub save : Res → Wave → W → W
  pub start : Opcode → Rate → ℕ → List ℤ → W → W
  pub does : Opcode → Rate → ℕ → Reach → List Wave → W → W × Wave
  pub seek : List ℤ → W → W
  pub store : Rate → Reach → List Wave → W → W
  pub zak : Opcode → Reach → List Wave → W → W × Wave
  pub out : ℕ → Wave → W → W
  pub out_at : Wave → Wave → W → W
  pub turnoff : W → W
  pub ask : List ℤ → W → W
  pub refused : W → Bool
