-- The units as the generators of a piece: the results of opcodes with a state.
use Rattle.cs_words.specs.Generators.{Generators}
use Rattle.cs_signal.specs.{Delay.delay_length, Pace.Pace}
use Rattle.cs_ugen.specs.Units.{gen}
pub use Rattle.cs_signal.specs.Pace.{pace_of}

-- the results of opcodes at this pace, by their formulas
abbrev pub the_generators : Pace → Generators
the_generators pace = record {
  gen = λ opcode r settled inputs. gen opcode r pace settled inputs;
  delay = delay_length pace;
}
