-- Small cycles whose turns are worked out by hand.
use Rattle.std.specs.Prelude.{ℕ, ℤ, pos, List, [], ◌∷◌, map, Option, Some, None, if◌then◌else◌}
use Rattle.std.specs.Ordering.{int_eq}
use Rattle.cs_piece_meaning.specs.{Examples.note, Moments.Composition}
use Rattle.cs_base.specs.declared.spaces.Spaces.{Spaces}
use Rattle.cs_ir.specs.Resources.{Stock}
use Rattle.cs_meaning.specs.Core.{Block, core}
use Rattle.cs_meaning.specs.Examples.{no_code, reading_any, reading_first, whole, writing_first}
use Rattle.cs_typed.specs.TypedTree.{number, var, set, call, value, Block as Statements, no_stmt, andthen}
use Rattle.cs_typed.specs.declared.tree.Var.TheVariants.{Local, Global}
use Rattle.cs_turns.specs.Turns.{touched, turns_of}
use Rattle.cs_base.specs.declared.resource.Rate.TheVariants as rate
use Rattle.cs_base.specs.declared.resource.Res.TheVariants as res
use Rattle.cs_words.specs.declared.catalogue.Opcode.TheVariants as op

-- gk1 = 1
abbrev giving : Statements
giving = andthen (set 4 rate.Control (Global (res.Gk 0)) (number rate.Init (whole 1))) no_stmt

-- k1 = gk1, and k1 = gk2
abbrev taking : ℕ → Statements
taking n = andthen (set 7 rate.Control (Local rate.Control 0) (var rate.Control (Global (res.Gk n)))) no_stmt

abbrev no_places : Spaces
no_places = record { control = 0; audio = 0 }

-- three instruments: the first sets what the second reads, and the third reads another variable
abbrev three : ℤ → Option Block
three z =
    if int_eq z (pos 1) then Some (core no_places giving)
    else (if int_eq z (pos 2) then Some (core no_places (taking 0)) else
    (if int_eq z (pos 3) then Some (core no_places (taking 1)) else None))

-- one note of each, for two cycles
abbrev pub giving_and_taking : Composition
giving_and_taking = record {
  head = record { sr = 8; ksmps = 4; nchnls = 1; dbfs = pos 2147483648 };
  spaces = no_places;
  outside = core no_places no_code;
  instrument = three;
  tables = [];
  events = note 1 0 2 (pos 0) ∷ note 2 0 2 (pos 0) ∷ note 3 0 2 (pos 0) ∷ [];
  cycles = 2;
}

-- zkw 2, 1
abbrev writing_second : Statements
writing_second = andthen
    (call 5 rate.Control [] op.Zkw (value (number rate.Init (whole 2)) ∷ value (number rate.Init (whole 1)) ∷ []))
    no_stmt

-- four control zak places and no table
abbrev four_places : Stock
four_places = record { spaces = record { control = 4; audio = 4 }; live = [] }

-- The turns of notes that write zak place 0, write place 1, read place 0, and read any place.
abbrev pub turns_of_places : List ℕ
turns_of_places =
    turns_of (map (λ statements. touched four_places (core four_places.spaces statements))
    (writing_first ∷ writing_second ∷ reading_first ∷ reading_any ∷ []))
