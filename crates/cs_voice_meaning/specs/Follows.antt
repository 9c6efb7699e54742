-- The relation between the states of the voice's world and of the plain world; and the fact that codes
-- preserve it.
use Rattle.std.specs.Prelude.{ℕ, ℤ, ◌≡◌, true, List, ◌++◌, Option, Some, None}
use Rattle.std.specs.List.{AllByRecursion}
use Rattle.cs_base.specs.{declared.resource.Rate.Rate, declared.resource.Res.Res}
use Rattle.cs_words.specs.declared.catalogue.Opcode.{Opcode}
use Rattle.cs_signal.specs.Pace.{Pace}
use Rattle.cs_ugen.specs.{Units.IsUnitOpcode, Units.Stands, Generators.pace_of, Generators.the_generators}
use Rattle.cs_ir.specs.{Registers.rate_at, Validity.has_value, declared.op.Act.Act, declared.op.Op.Op}
use Rattle.cs_ir.specs.Machine.{Machine, run}
use Rattle.cs_ir.specs.Resources.{Stock, tables_within, unit_uses, zak_uses}
use Rattle.cs_cells.specs.declared.footprint.Area.{Area}
use Rattle.cs_meaning.specs.{Model.State, Pieces.Piece, Pieces.table_number, Plain.Plain, Plain.History, Plain.plain}
use Rattle.cs_voice_meaning.specs.Placing.{HasArea, IsPlaced}
use Rattle.cs_voice_meaning.specs.VoiceWorld.{Playing, VoiceState, read_cells, voice_world}
use Rattle.cs_ir.specs.declared.op.Act.TheVariants as act

-- each resource of a list is named
abbrev pub AreNamed : (Res → Type 0) → List Res → Type 0
AreNamed N gs = AllByRecursion N gs

-- The opcode and the rate of the unit with each number.
abbrev pub Kinds : Type 0
Kinds = ℕ → Opcode × Rate

-- An op at a rate touches only named resources, starts and runs units as their kinds say, and doesn't save
-- into a table.
abbrev pub ActNamed : Stock → Kinds → (Res → Type 0) → Act → Rate → Type 0
ActNamed stock kinds N (act.Load g) r = N g
ActNamed stock kinds N (act.Save g) r = N g × (has_value g ≡ true)
ActNamed stock kinds N (act.Start opcode u) r = (kinds u ≡ (opcode, r)) × IsUnitOpcode opcode
ActNamed stock kinds N (act.Unit opcode u reach) r = (kinds u ≡ (opcode, r)) × AreNamed N (unit_uses stock opcode reach)
ActNamed stock kinds N (act.Store reach) r = AreNamed N (tables_within stock reach)
ActNamed stock kinds N (act.Zak opcode reach) r = AreNamed N (zak_uses stock opcode reach)
ActNamed stock kinds N _ r = Unit {0}

-- all ops touch only named resources, and start and run units as their kinds say
abbrev pub OpsNamed : Stock → Kinds → (Res → Type 0) → List Op → Type 0
OpsNamed stock kinds N ops = AllByRecursion (λ op. ActNamed stock kinds N op.act (rate_at op.into)) ops

-- two machines in related states, with the same registers and the same next op
pub record Alike {V W : Type 0} (R : V → W → Type 0) (m : Machine V) (n : Machine W) : Type 0 where
  pub regs : m.regs ≡ n.regs
  pub next : m.next ≡ n.next
  pub world : R m.world n.world

-- a unit that plays is in the state that all its inputs so far lead to
pub record PlaysUnit (pace : Pace) (kind : Opcode × Rate) (p : Playing) (h : History) : Type 0 where
  pub opcode : h.opcode ≡ kind.0
  pub rate : h.rate ≡ kind.1
  pub table : p.table ≡ table_number h.settled
  pub unit : IsUnitOpcode kind.0
  pub stands : Stands p.state kind.0 kind.1 pace h.settled h.inputs

-- both are present and related, or neither is present
abbrev pub BothOrNone : {A B : Type 0} → (A → B → Type 0) → Option A → Option B → Type 0
BothOrNone P None None = Unit {0}
BothOrNone P (Some a) (Some b) = P a b
BothOrNone P None (Some b) = ⊥
BothOrNone P (Some a) None = ⊥

-- a unit is in the same state in both worlds, or exists in neither
abbrev pub SameUnit : Pace → Opcode × Rate → Option Playing → Option History → Type 0
SameUnit pace kind p h = BothOrNone (PlaysUnit pace kind) p h

-- Two worlds are in related states: their shared resources are related, each unit is related, and everything
-- else is the same. The first has scheduled the same notes as the second after its `earlier` ones.
pub record AreRelated {S U T Y : Type 0} (Shares : S → T → Type 0) (Plays : ℕ → U → Y → Type 0)
    (earlier : List (List ℤ)) (x : State S U) (y : State T Y) : Type 0 where
  pub shared : Shares x.shared y.shared
  pub units : (u : ℕ) → BothOrNone (Plays u) (x.units u) (y.units u)
  pub delays : x.delays ≡ y.delays
  pub outs : x.outs ≡ y.outs
  pub ended : x.ended ≡ y.ended
  pub asks : y.asks ≡ earlier ++ x.asks
  pub cause : x.cause ≡ y.cause

-- The voice's world is in the state of the plain world: named resources have the same values, and each unit
-- is in the state that its inputs lead to.
abbrev pub SameState : (Res → Type 0) → List Area → Kinds → Pace → List (List ℤ) → VoiceState → Plain → Type 0
SameState N areas kinds pace earlier x y = AreRelated
    (λ cells shared. (g : Res) → N g → read_cells areas g cells ≡ shared g)
    (λ u p h. PlaysUnit pace (kinds u) p h) earlier x y

-- Machines that run the same ops in the voice's world and in the plain world, from the same state, reach the
-- same state, for all resources that have areas, if the ops touch no others.
abbrev pub DoAlike : Type 0
DoAlike = (areas : List Area) (stock : Stock) (piece : Piece) (kinds : Kinds) (earlier : List (List ℤ)) →
    IsPlaced areas stock piece → piece.generators ≡ the_generators (pace_of piece.head) →
    (ops : List Op) (m : Machine VoiceState) (n : Machine Plain) → OpsNamed stock kinds (HasArea areas) ops →
    Alike (SameState (HasArea areas) areas kinds (pace_of piece.head) earlier) m n →
    Alike (SameState (HasArea areas) areas kinds (pace_of piece.head) earlier) (run (voice_world areas piece) 0 ops m)
    (run (plain piece) 0 ops n)
