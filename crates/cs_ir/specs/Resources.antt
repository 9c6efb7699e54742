-- The shared resources that an op may read or write.
use Rattle.std.specs.Prelude.{ℕ, Bool, true, false, ◌&&◌, ◌↔◌, List, [], ◌∷◌, map, nat_le, if◌then◌else◌}
use Rattle.std.specs.List.{Contains, filter, flat_map, range_with_len}
use Rattle.cs_base.specs.{declared.resource.Res.Res, declared.spaces.Spaces.Spaces}
use Rattle.cs_words.specs.{Catalogue.row_of, Catalogue.takes_table, declared.catalogue.Opcode.Opcode}
use Rattle.cs_words.specs.{declared.catalogue.Shape.Shape, declared.catalogue.Space.Space}
use Rattle.cs_ir.specs.{Units.is_zak, declared.op.Act.Act, declared.op.Op.Op, declared.op.Reach.Reach}
use Rattle.cs_base.specs.declared.resource.Res.TheVariants as res
use Rattle.cs_words.specs.declared.catalogue.Shape.TheVariants as shape
use Rattle.cs_words.specs.declared.catalogue.Space.TheVariants as space
use Rattle.cs_ir.specs.declared.op.Act.TheVariants as act
use Rattle.cs_ir.specs.declared.op.Reach.TheVariants as reach

-- the number of places of a zak space
abbrev pub places_of : Spaces → Space → ℕ
places_of spaces space.Control = spaces.control
places_of spaces space.Audio = spaces.audio

-- the place of a zak space with a number
abbrev pub zak_place : Space → ℕ → Res
zak_place space.Control n = res.ZakK n
zak_place space.Audio n = res.ZakA n

-- the resources of a piece besides its variables and channels: its zak spaces, and the numbers of its live
-- tables
pub record Stock : Type 0 where
  pub spaces : Spaces
  pub live : List ℕ

-- whether a number is within a reach
abbrev pub reaches : Reach → ℕ → Bool
reaches reach.Nothing n = false
reaches (reach.Span first last) n = nat_le first n && nat_le n last
reaches reach.Any n = true

-- the live tables that are within a reach
abbrev pub tables_within : Stock → Reach → List Res
tables_within stock r = map res.Table (filter (reaches r) stock.live)

-- the places of a zak space that are within a reach
abbrev pub places_within : Stock → Space → Reach → List Res
places_within stock s r = map (zak_place s) (filter (reaches r) (range_with_len 0 (places_of stock.spaces s)))

-- the tables that a unit may read; none if its opcode reads no table
abbrev pub unit_uses : Stock → Opcode → Reach → List Res
unit_uses stock opcode r = if takes_table opcode then tables_within stock r else []

-- the zak places that an opcode may touch, by its shape
abbrev pub shape_uses : Stock → Shape → Reach → List Res
shape_uses stock (shape.ZakGet s) r = places_within stock s r
shape_uses stock (shape.ZakPut s) r = places_within stock s r
shape_uses stock shape.ZakMix r = places_within stock space.Audio r
shape_uses stock (shape.ZakClear s) r = places_within stock s r
shape_uses stock _ r = []

-- whether a shape writes zak places
abbrev pub writes_places : Shape → Bool
writes_places (shape.ZakGet s) = false
writes_places s = is_zak s

-- the zak places that an opcode may touch within a reach
abbrev pub zak_uses : Stock → Opcode → Reach → List Res
zak_uses stock opcode r = shape_uses stock (row_of opcode).shape r

-- the zak places that an opcode may write within a reach
abbrev pub zak_writes : Stock → Opcode → Reach → List Res
zak_writes stock opcode r = if writes_places (row_of opcode).shape then zak_uses stock opcode r else []

-- The question about touched resources: those that may be read or written, or only those that may be written.
pub data Access : Type 0 where
  may_use : Access
  may_write : Access

-- resources that are only read are used, and not written
abbrev pub read_only : Access → List Res → List Res
read_only may_use rs = rs
read_only may_write rs = []

-- the zak places that an opcode touches, for one of the two questions
abbrev pub zak_touches : Access → Stock → Opcode → Reach → List Res
zak_touches may_use stock opcode r = zak_uses stock opcode r
zak_touches may_write stock opcode r = zak_writes stock opcode r

-- the resources that an op may touch
abbrev pub act_touches : Access → Stock → Act → List Res
act_touches t stock (act.Load g) = read_only t (g ∷ [])
act_touches t stock (act.Save g) = g ∷ []
act_touches t stock (act.Unit opcode u r) = read_only t (unit_uses stock opcode r)
act_touches t stock (act.Store r) = tables_within stock r
act_touches t stock (act.Zak opcode r) = zak_touches t stock opcode r
act_touches t stock _ = []

-- the resources that ops touch, for one of the two questions
abbrev pub ops_touch : Access → Stock → List Op → List Res
ops_touch t stock ops = flat_map (λ o. act_touches t stock o.act) ops

-- the resources that an act may read or write
abbrev pub act_uses : Stock → Act → List Res
act_uses = act_touches may_use

-- the resources that an act may write
abbrev pub act_writes : Stock → Act → List Res
act_writes = act_touches may_write

-- the resources that ops may read or write
abbrev pub ops_use : Stock → List Op → List Res
ops_use = ops_touch may_use

-- the resources that ops may write
abbrev pub ops_write : Stock → List Op → List Res
ops_write = ops_touch may_write

-- two lists name the same resources, in any order and with any repetitions
abbrev pub NameTheSame : List Res → List Res → Type 0
NameTheSame xs ys = (g : Res) → Contains xs g ↔ Contains ys g
