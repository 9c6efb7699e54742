-- What an instrument's codes touch is in its areas and in its footprint.
use Rattle.std.proofs.Common.{◌≡◌, ℕ, zero, suc, ◌<◌, ◌||◌, ◌&&◌, ◌+◌, ◌++◌, Bool, true, not, List, [], ◌∷◌, length}
use Rattle.std.proofs.Common.{nat_lt, slice_get, Option, Some, None, refl, sym, ◌∙◌, ap, subst, arith}
use Rattle.std.specs.List.{Contains, list_all}
use Rattle.std.proofs.lemmas.{Bool.and_parts, Bool.and_from, Bool.or_left, Bool.Decides.nat_tests}
use Rattle.std.proofs.lemmas.List.Elements.{All-head, All-tail}
use Rattle.cs_base.specs.{declared.resource.Rate.Rate, declared.resource.Res.Res}
use Rattle.cs_ir.specs.{Registers.rate_at, Cycles.are_of_cycle, declared.op.Act.Act, declared.op.Code.Code}
use Rattle.cs_ir.specs.{declared.op.Op.Op, declared.register.Counts.Counts, declared.register.Reg.Reg}
use Rattle.cs_ir.specs.Resources.{Stock, act_uses, act_writes, ops_use, ops_write}
use Rattle.cs_ir.proofs.Shapes.{started_shape}
use Rattle.cs_ir.specs.Validity.{has_value, takes_from, has_register, finds, writes, is_fine, fine_from}
use Rattle.cs_cells.specs.{Cells.covers, Cells.in_area, declared.footprint.Area.Area}
use Rattle.cs_code.specs.{Names.UnitKind, Names.Names, Names.AllNamed, Names.block_units, Means.MeansIn}
use Rattle.cs_meaning.specs.{Core.core, Plain.Piece, Plain.plain}
use Rattle.cs_rwset.specs.Footprints.{stock_of, places_holding}
use Rattle.cs_rwset.proofs.{Holding.holding_covers, Placed.contains_first, Placed.contains_rest}
use Rattle.cs_voice_meaning.specs.Placing.{area_of, HasArea}
use Rattle.cs_voice_meaning.specs.Follows.{ActNamed, AreNamed, OpsNamed}
use Rattle.cs_voice_meaning.specs.Voices.{Sheet, IsUsed, IsWritten, OpsWritten, IsPlayable, has_channel, have_channels}
use Rattle.cs_voice_meaning.proofs.Placed.{area_at}
use Rattle.cs_piece.specs.{VoicesOfNotes.Perform, Sheets.kind_of, Sheets.kinds_of, Sheets.IsSheetOf}
use Rattle.cs_piece.proofs.Joined.{perform_so}
use Rattle.cs_typed.specs.TypedTree as typed
use Rattle.cs_ir.specs.declared.op.Act.TheVariants as act

-- ---- lists of resources

all_split : (N : Res → Type 0) (gs hs : List Res) → AreNamed N (gs ++ hs) → AreNamed N gs × AreNamed N hs
all_split N [] hs h = (tt, h)
all_split N (g ∷ gs) hs h = let rest = all_split N gs hs h.1 in ((h.0, rest.0), rest.1)

all_with : (N M : Res → Type 0) (gs : List Res) → ((g : Res) → Contains gs g → N g → M g) → AreNamed N gs
    → AreNamed M gs
all_with N M [] each h = tt
all_with N M (g ∷ gs) each h =
    (each g (contains_first g gs) h.0, all_with N M gs (λ x among. each x (contains_rest g x gs among)) h.1)

all_from : (M : Res → Type 0) (gs : List Res) → ((g : Res) → Contains gs g → M g) → AreNamed M gs
all_from M [] each = tt
all_from M (g ∷ gs) each =
    (each g (contains_first g gs), all_from M gs (λ x among. each x (contains_rest g x gs among)))

-- ---- ops

saves_value : (g : Res) (r : Rate) (xs : List Reg) → takes_from (act.Save g) r xs ≡ true → has_value g ≡ true
saves_value g r (x ∷ []) h = (and_parts (has_value g) _ h).0
saves_value g r _ h = absurd (cc)

fine_takes : (counts : Counts) (end place : ℕ) (op : Op) → is_fine counts end place op ≡ true
    → takes_from op.act (rate_at op.into) op.from ≡ true
fine_takes counts end place op h =
    let own : Bool = not (writes op.act) || has_register counts op.into in
    (and_parts (own && list_all (has_register counts) op.from && finds counts end place op.act)
    (takes_from op.act (rate_at op.into) op.from) h).1

act_named : (stock : Stock) (channels : ℕ) (units : List UnitKind) (N : Res → Type 0) (a : Act) (r : Rate)
    (xs : List Reg) → Names channels units a r → takes_from a r xs ≡ true
    → AreNamed N (act_uses stock a) → ActNamed stock (kinds_of units) N a r
act_named stock channels units N (act.Load g) r xs names takes h = h.0
act_named stock channels units N (act.Save g) r xs names takes h = (h.0, saves_value g r xs takes)
act_named stock channels units N (act.Start opcode u) r xs names takes h =
    (ap kind_of names, started_shape opcode r xs takes)
act_named stock channels units N (act.Unit opcode u reach) r xs names takes h = (ap kind_of names, h)
act_named stock channels units N (act.Store reach) r xs names takes h = h
act_named stock channels units N (act.Zak opcode reach) r xs names takes h = h
act_named stock channels units N _ r xs names takes h = tt

below : (c channels : ℕ) → c < channels → nat_lt c channels ≡ true
below c channels h = grind (arith, nat_tests)

act_channel : (channels : ℕ) (units : List UnitKind) (a : Act) (r : Rate) → Names channels units a r
    → has_channel channels a ≡ true
act_channel channels units (act.Out c) r names = below c channels names
act_channel channels units _ r names = refl

channels_there : (channels : ℕ) (units : List UnitKind) (ops : List Op) → AllNamed channels units ops
    → have_channels channels ops ≡ true
channels_there channels units [] names = refl
channels_there channels units (op ∷ ops) names =
    and_from (has_channel channels op.act) (have_channels channels ops)
    (act_channel channels units op.act (rate_at op.into)
    (All-head (λ o. Names channels units o.act (rate_at o.into)) op ops names))
    (channels_there channels units ops (All-tail (λ o. Names channels units o.act (rate_at o.into)) op ops names))

ops_named : (stock : Stock) (channels : ℕ) (units : List UnitKind) (N : Res → Type 0) (counts : Counts) (end place : ℕ)
    (ops : List Op) → AllNamed channels units ops
    → fine_from counts end place ops ≡ true → AreNamed N (ops_use stock ops) → OpsNamed stock (kinds_of units) N ops
ops_named stock channels units N counts end place [] names fine h = tt
ops_named stock channels units N counts end place (op ∷ ops) names fine h =
    let parts = all_split N (act_uses stock op.act) (ops_use stock ops) h in
    let both = and_parts (is_fine counts end place op) (fine_from counts end (place + 1) ops) fine in (
      act_named stock channels units N op.act (rate_at op.into) op.from
          (All-head (λ o. Names channels units o.act (rate_at o.into)) op ops names)
          (fine_takes counts end place op both.0) parts.0,
      ops_named stock channels units N counts end (place + 1) ops
          (All-tail (λ o. Names channels units o.act (rate_at o.into)) op ops names) both.1 parts.1,
    )

ops_written : (stock : Stock) (N : Res → Type 0) (ops : List Op) → AreNamed N (ops_write stock ops)
    → OpsWritten stock N ops
ops_written stock N [] h = tt
ops_written stock N (op ∷ ops) h = let parts =
    all_split N (act_writes stock op.act) (ops_write stock ops) h in (parts.0, ops_written stock N ops parts.1)

-- ---- the footprint

stands_in : (areas : List Area) (place : ℕ) (area : Area) → slice_get areas place ≡ Some area → Contains areas area
stands_in [] place area e = absurd (cc)
stands_in (x ∷ areas) zero area e =
    subst (λ y. Contains (x ∷ areas) y) (let same : x ≡ area = cc in same) (contains_first x areas)
stands_in (x ∷ areas) (suc place) area e = contains_rest x area areas (stands_in areas place area e)

area_in : (o : Option Area) (a : ℕ) → in_area o a ≡ true → (area : Area) × (o ≡ Some area)
area_in None a h = absurd (cc)
area_in (Some area) a h = (area, refl)

-- the areas of some resources cover each cell of one of them
covered : (areas : List Area) (rs : List Res) (g : Res) (area : Area) (a : ℕ) → area_of areas g ≡ Some area
    → Contains rs g → in_area (Some area) a ≡ true → covers areas (places_holding areas rs) a ≡ true
covered areas rs g area a e among inside =
    let p = area_at areas g area e in
    holding_covers areas rs area a (stands_in areas p.0 area p.1) (subst (λ r. Contains rs r) (sym p.2) among) inside

module _ (s : Sheet) (body : typed.Block) (init perf : Code) (h : IsSheetOf s body init perf) where
  abbrev stock : Stock
  stock = stock_of s.areas

  abbrev units : List UnitKind
  units = block_units (core s.piece.spaces body)

  used : (g : Res) → Contains (ops_use stock s.perf) g → HasArea s.areas g → IsUsed s g
  used g among has = (
    has.0,
    has.1,
    λ a inside.
        or_left (covers s.zones s.foot.uses a) (covers s.zones s.foot.writes a)
        (h.uses a ∙ covered s.areas (ops_use stock s.perf) g has.0 a has.1 among inside),
  )

  written : (g : Res) → Contains (ops_write stock s.perf) g → IsWritten s g
  written g among a inside =
      let at = area_in (area_of s.areas g) a inside in
      h.writes a
      ∙ covered s.areas (ops_write stock s.perf) g at.0 a at.1 among (ap (λ o. in_area o a) (sym at.1) ∙ inside)

  init_named : AllNamed s.piece.head.nchnls units s.init
  init_named = subst (AllNamed s.piece.head.nchnls units) (sym h.init_ops) h.code.runs.init_names

  perf_named : AllNamed s.piece.head.nchnls units s.perf
  perf_named = subst (AllNamed s.piece.head.nchnls units) (sym h.perf_ops) h.code.runs.perf_names

  pub plays_from : IsPlayable s
  plays_from = record {
    stock = stock;
    kinds = kinds_of units;
    placed = h.placed;
    init_uses = ops_named stock s.piece.head.nchnls units (HasArea s.areas) init.counts (length init.ops) 0 s.init
        init_named (ap (fine_from init.counts (length init.ops) 0) h.init_ops ∙ h.code.runs.init_valid) h.init_areas;
    perf_uses = ops_named stock s.piece.head.nchnls units (IsUsed s) perf.counts (length perf.ops) 0 s.perf perf_named
        (ap (fine_from perf.counts (length perf.ops) 0) h.perf_ops ∙ h.code.runs.perf_valid)
        (all_with (HasArea s.areas) (IsUsed s) (ops_use stock s.perf) used h.perf_areas);
    perf_writes = ops_written stock (IsWritten s) s.perf (all_from (IsWritten s) (ops_write stock s.perf) written);
    init_channels = channels_there s.piece.head.nchnls units s.init init_named;
    perf_channels = channels_there s.piece.head.nchnls units s.perf perf_named;
    perf_acts = ap are_of_cycle h.perf_ops ∙ h.code.runs.perf_cycle;
  }

  means_so : (piece : Piece) → MeansIn (plain piece) h.code.means.plan (core s.piece.spaces body) s.init s.perf
  means_so piece =
      subst (λ ops. MeansIn (plain piece) h.code.means.plan (core s.piece.spaces body) ops s.perf) (sym h.init_ops)
      (subst (λ ops. MeansIn (plain piece) h.code.means.plan (core s.piece.spaces body) init.ops ops)
      (sym h.perf_ops) (h.code.means.each piece))

  pub performed_from : Perform h.code.means.plan (kinds_of units) s (core s.piece.spaces body)
  unfolding plays_from
  performed_from = perform_so s plays_from (core s.piece.spaces body) h.code.means.plan means_so h.generators
