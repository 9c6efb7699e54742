-- Small performances for worked examples: eight frames a second, four frames a control cycle, one channel.
use Rattle.std.specs.Prelude.{ℕ, ℤ, pos, ◌*◌, List, [], ◌∷◌, Option, Some, None, if◌then◌else◌}
use Rattle.std.specs.Ordering.{int_eq}
use Rattle.cs_typed.specs.TypedTree.{number, var, field, value, set, call, Block as Statements, no_stmt, andthen}
use Rattle.cs_typed.specs.declared.tree.Var.TheVariants.{Local}
use Rattle.cs_base.specs.declared.spaces.Spaces.{Spaces}
use Rattle.cs_meaning.specs.{Core.Block, Core.core, Examples.whole}
use Rattle.cs_tempo.specs.declared.plot.Event.{Event}
use Rattle.cs_piece_meaning.specs.Moments.{Composition}
use Rattle.cs_base.specs.declared.resource.Rate.TheVariants as rate
use Rattle.cs_words.specs.declared.catalogue.Opcode.TheVariants as op
use Rattle.cs_tempo.specs.declared.plot.EventAct.TheVariants as act

-- no zak places
abbrev no_places : Spaces
no_places = record { control = 0; audio = 0 }

-- instruments 1 and 2
abbrev two : Statements → Statements → ℤ → Option Block
two first second z =
    if int_eq z (pos 1) then Some (core no_places first)
    else (if int_eq z (pos 2) then Some (core no_places second) else None)

-- a piece of two instruments
abbrev pub piece_of_two : Statements → Statements → Statements → List Event → ℕ → Composition
piece_of_two outside first second events cycles = record {
  head = record { sr = 8; ksmps = 4; nchnls = 1; dbfs = pos (32768 * 65536) };
  spaces = no_places;
  outside = core no_places outside;
  instrument = two first second;
  tables = [];
  events = events;
  cycles = cycles;
}

-- a note of an instrument: the cycle in which it begins, the number of cycles that it lasts, and its p4
abbrev pub note : ℕ → ℕ → ℕ → ℤ → Event
note instr at cycles p4 = record {
  cycle = at;
  line = 1;
  act = act.Start instr cycles (whole instr ∷ whole 0 ∷ whole 0 ∷ p4 ∷ []);
}

-- a1 = p4; out a1
abbrev pub sounding_p4 : Statements
sounding_p4 =
    andthen (set 3 rate.Audio (Local rate.Audio 0) (field rate.Init 4))
    (andthen (call 4 rate.Audio [] op.Out (value (var rate.Audio (Local rate.Audio 0)) ∷ [])) no_stmt)

-- schedule 2, .5, 1, p4
abbrev pub asking_for_two : Statements
asking_for_two =
    andthen (call 3 rate.Init [] op.Schedule
    (value (number rate.Init (whole 2)) ∷ value (number rate.Init (pos 32768)) ∷ value (number rate.Init (whole 1))
    ∷ value (field rate.Init 4) ∷ []))
    no_stmt
