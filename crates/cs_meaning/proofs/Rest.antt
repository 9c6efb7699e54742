-- The parts of a state that units, stores and acts on zak places don't change, in the world of any model.
use Rattle.std.proofs.Common.{◌≡◌, ℕ, ℤ, pos, ◌-◌, ◌&&◌, Bool, true, false, List, nat_le, Option, Some, None}
use Rattle.std.proofs.Common.{if◌then◌else◌, refl}
use Rattle.cs_base.specs.{declared.resource.Rate.Rate, declared.resource.Res.Res}
use Rattle.cs_words.specs.declared.catalogue.Opcode.{Opcode}
use Rattle.cs_words.specs.{declared.catalogue.Shape.Shape, declared.catalogue.Space.Space}
use Rattle.cs_ir.specs.{Resources.reaches, Waves.Wave, Waves.operand, Waves.silence, declared.op.Reach.Reach}
use Rattle.cs_meaning.specs.Model.{Cause, State, WorldModel, with_value, unit_points, has_run, unit_does, store_into}
use Rattle.cs_meaning.specs.Model.{store_at, zak_does, out_to, out_to_numbered}
use Rattle.cs_meaning.specs.Pieces.{Table, find_table, is_live, index, may_touch, at_place, has_place}
use Rattle.cs_words.specs.declared.catalogue.Shape.TheVariants as shape
use Rattle.cs_words.specs.declared.catalogue.Space.TheVariants as space

-- all parts of a note's state except shared resources, its units and its output
pub record Rest : Type 0 where
  pub delays : ℕ
  pub ended : Bool
  pub asks : List (List ℤ)
  pub cause : Option Cause

abbrev pub rest : {S U : Type 0} → State S U → Rest
rest x = record { delays = x.delays; ended = x.ended; asks = x.asks; cause = x.cause }

module _ {S U : Type 0} (model : WorldModel S U) where
  either : (b : Bool) (x y z : State S U) → rest x ≡ rest z → rest y ≡ rest z → rest (if b then x else y) ≡ rest z
  either true x y z h k = h
  either false x y z h k = k

  either_of : (b : Bool) (p q : State S U × Wave) (z : State S U) → rest p.0 ≡ rest z → rest q.0 ≡ rest z
      → rest (if b then p else q).0 ≡ rest z
  either_of true p q z h k = h
  either_of false p q z h k = k

  pub unit_rest : (opcode : Opcode) (r : Rate) (u : ℕ) (reach : Reach) (ws : List Wave) (o : Option U) (x : State S U)
      → rest (unit_does model opcode r u reach ws o x).0 ≡ rest x
  unit_rest opcode r u reach ws None x = refl
  unit_rest opcode r u reach ws (Some p) x =
      either_of (may_touch opcode reach (model.table p))
      (has_run u (model.plays r ws (unit_points model opcode p x) p) x) (x, silence) x refl refl

  table_rest : (r : Rate) (ws : List Wave) (o : Option Table) (x : State S U)
      → rest (store_into model r ws o x) ≡ rest x
  table_rest r ws None x = refl
  table_rest r ws (Some t) x = either (is_live t) _ x x refl refl

  pub store_rest : (r : Rate) (reach : Reach) (ws : List Wave) (i : Option ℕ) (x : State S U)
      → rest (store_at model r reach ws i x) ≡ rest x
  store_rest r reach ws None x = refl
  store_rest r reach ws (Some n) x =
      either (reaches reach n) (store_into model r ws (find_table model.piece.tables (pos n)) x) x x
      (table_rest r ws (find_table model.piece.tables (pos n)) x) refl

  place_rest : (sp : Space) (reach : Reach) (i : Option ℕ) (x : State S U) (w : Res → Wave)
      → rest (at_place model.piece sp reach i x (λ g. with_value model g (w g) x)) ≡ rest x
  place_rest sp reach None x w = refl
  place_rest sp reach (Some n) x w = either (has_place model.piece sp reach n) _ x x refl refl

  pub zak_rest : (sh : Shape) (reach : Reach) (ws : List Wave) (x : State S U)
      → rest (zak_does model sh reach ws x).0 ≡ rest x
  zak_rest (shape.ZakGet sp) reach ws x = refl
  zak_rest (shape.ZakPut sp) reach ws x = place_rest sp reach (index (operand 1 ws 0)) x _
  zak_rest shape.ZakMix reach ws x = place_rest space.Audio reach (index (operand 1 ws 0)) x _
  zak_rest (shape.ZakClear sp) reach ws x = refl
  zak_rest shape.Unit reach ws x = refl
  zak_rest shape.Store reach ws x = refl
  zak_rest shape.Init reach ws x = refl
  zak_rest shape.Out reach ws x = refl
  zak_rest shape.OutAt reach ws x = refl
  zak_rest shape.Turnoff reach ws x = refl
  zak_rest shape.ZakInit reach ws x = refl
  zak_rest shape.ChannelGet reach ws x = refl
  zak_rest shape.ChannelPut reach ws x = refl
  zak_rest shape.ChannelMix reach ws x = refl
  zak_rest shape.ChannelClear reach ws x = refl
  zak_rest shape.Ask reach ws x = refl

  pub numbered_rest : (i : Option ℕ) (w : Wave) (x : State S U)
      → rest (out_to_numbered model.piece.head.nchnls i w x) ≡ rest x
  numbered_rest None w x = refl
  numbered_rest (Some n) w x =
      either (nat_le 1 n && nat_le n model.piece.head.nchnls) (out_to (n - 1) w x) x x refl refl
