-- The parts of a voice: how one is made, and how a cycle changes it.
use Rattle.std.proofs.Common.{◌≡◌, Bool, true, false, List, [], ◌∷◌, if◌then◌else◌, ◌∙◌, ap}
use Rattle.std.specs.List.{AllByRecursion}
use Rattle.cs_base.specs.{declared.resource.Rate.Rate, declared.resource.Res.Res}
use Rattle.cs_words.specs.Catalogue.{row_of}
use Rattle.cs_ir.specs.{Registers.rate_at, declared.op.Act.Act, declared.op.Op.Op}
use Rattle.cs_ir.specs.Resources.{Stock, act_writes, tables_within, unit_uses, writes_places, zak_uses}
use Rattle.cs_cells.specs.{Access.Access, Access.Allows, Cells.in_area}
use Rattle.cs_voice_meaning.specs.{Follows.ActNamed, Follows.AreNamed, Follows.OpsNamed, Follows.Kinds, Placing.HasArea}
use Rattle.cs_voice_meaning.specs.Voices.{Sheet, IsUsed, IsWritten, OpsWritten, may_use, may_write}
use Rattle.cs_machine.specs.States.{CanDo, MayGet, MaySet}
use Rattle.cs_ir.specs.declared.op.Act.TheVariants as act

-- ---- if a bank allows what a voice may touch, each of the voice's ops can be done

module _ (s : Sheet) (access : Access)
    (bank : Allows access (λ a. may_use s a ≡ true) (λ a. may_write s a ≡ true)) where
  may_get : (g : Res) → IsUsed s g → MayGet access s.areas g
  may_get g (area, is, used) =
      (area, is, record { can = λ a here. bank.get a (used a here); within = λ a here. bank.there a (used a here) })

  may_set : (g : Res) → IsUsed s g → IsWritten s g → MaySet access s.areas g
  may_set g (area, is, used) w = (
    area,
    is,
    record {
      can = λ a here. bank.set a (w a (ap (λ o. in_area o a) is ∙ here));
      within = λ a here. bank.there a (used a here);
    },
  )

  each_get : (gs : List Res) → AreNamed (IsUsed s) gs → AreNamed (MayGet access s.areas) gs
  each_get [] h = tt
  each_get (g ∷ gs) h = (may_get g h.0, each_get gs h.1)

  each_set : (gs : List Res) → AreNamed (IsUsed s) gs → AreNamed (IsWritten s) gs → AreNamed (MaySet access s.areas) gs
  each_set [] h w = tt
  each_set (g ∷ gs) h w = (may_set g h.0 w.0, each_set gs h.1 w.1)

  if_set : (b : Bool) (gs : List Res) → AreNamed (IsUsed s) gs → AreNamed (IsWritten s) (if b then gs else [])
      → AreNamed (MaySet access s.areas) (if b then gs else [])
  if_set true gs h w = each_set gs h w
  if_set false gs h w = tt

  can_do : (stock : Stock) (kinds : Kinds) (t : Act) (r : Rate) → ActNamed stock kinds (IsUsed s) t r
      → AreNamed (IsWritten s) (act_writes stock t) → CanDo access s.areas stock t
  can_do stock kinds (act.Load g) r h w = record { uses = (may_get g h, tt); writes = tt }
  can_do stock kinds (act.Save g) r h w = record { uses = (may_get g h.0, tt); writes = (may_set g h.0 w.0, tt) }
  can_do stock kinds (act.Unit opcode u reach) r h w =
      record { uses = each_get (unit_uses stock opcode reach) h.1; writes = tt }
  can_do stock kinds (act.Store reach) r h w =
      record { uses = each_get (tables_within stock reach) h; writes = each_set (tables_within stock reach) h w }
  can_do stock kinds (act.Zak opcode reach) r h w = record {
    uses = each_get (zak_uses stock opcode reach) h;
    writes = if_set (writes_places (row_of opcode).shape) (zak_uses stock opcode reach) h w;
  }
  can_do stock kinds _ r h w = record { uses = tt; writes = tt }

  pub can_all : (stock : Stock) (kinds : Kinds) (ops : List Op) → OpsNamed stock kinds (IsUsed s) ops
      → OpsWritten stock (IsWritten s) ops → AllByRecursion (λ (op : Op). CanDo access s.areas stock op.act) ops
  can_all stock kinds [] h w = tt
  can_all stock kinds (op ∷ ops) h w = (
    can_do stock kinds op.act (rate_at op.into) h.0 w.0,
    can_all stock kinds ops h.1 w.1,
  )

-- everything that a voice uses has its area
module _ (s : Sheet) where
  has_area : (g : Res) → IsUsed s g → HasArea s.areas g
  has_area g (area, is, used) = (area, is)

  each_area : (gs : List Res) → AreNamed (IsUsed s) gs → AreNamed (HasArea s.areas) gs
  each_area [] h = tt
  each_area (g ∷ gs) h = (has_area g h.0, each_area gs h.1)

  act_area : (stock : Stock) (kinds : Kinds) (t : Act) (r : Rate) → ActNamed stock kinds (IsUsed s) t r
      → ActNamed stock kinds (HasArea s.areas) t r
  act_area stock kinds (act.Load g) r h = has_area g h
  act_area stock kinds (act.Save g) r h = (has_area g h.0, h.1)
  act_area stock kinds (act.Start opcode u) r h = h
  act_area stock kinds (act.Unit opcode u reach) r h = (h.0, each_area (unit_uses stock opcode reach) h.1)
  act_area stock kinds (act.Store reach) r h = each_area (tables_within stock reach) h
  act_area stock kinds (act.Zak opcode reach) r h = each_area (zak_uses stock opcode reach) h
  act_area stock kinds _ r h = tt

  pub all_areas : (stock : Stock) (kinds : Kinds) (ops : List Op) → OpsNamed stock kinds (IsUsed s) ops
      → OpsNamed stock kinds (HasArea s.areas) ops
  all_areas stock kinds [] h = tt
  all_areas stock kinds (op ∷ ops) h = (
    act_area stock kinds op.act (rate_at op.into) h.0,
    all_areas stock kinds ops h.1,
  )
