-- The instruments of a setup are ready: their notes can begin and perform what their statements say.
use Rattle.std.proofs.Common.{◌≡◌, ℕ, ℤ, pos, zero, suc, ◌+◌, ⊎_elim, ◌<◌, ◌==◌, ◌||◌, Bool, true, false, List, [], ◌∷◌}
use Rattle.std.proofs.Common.{◌++◌, length, nat_lt, slice_get, Some, None, if◌then◌else◌, refl, sym, ◌∙◌, ap, subst}
use Rattle.std.proofs.Common.{arith}
use Rattle.std.specs.{List.AllZip, List.Contains, List.cons_option, List.filter_map, List.list_any, Option.option_map}
use Rattle.std.proofs.lemmas.{Bool.cases_eq, List.Elements.Contains-append_left, List.Elements.Contains-append_right}
use Rattle.cs_base.proofs.Tests.{by_test, some_is}
use Rattle.cs_base.specs.{Rates.same_res, declared.resource.Res.Res, declared.spaces.Spaces.Spaces}
use Rattle.cs_cells.specs.{declared.footprint.Area.Area, declared.footprint.Footprint.Footprint, Cells.covers}
use Rattle.cs_code.specs.{Lowered.IsCodeOf, Means.RegisterPlan, Names.block_units}
use Rattle.cs_ir.specs.Instruments.{Numbered}
use Rattle.cs_ir.specs.Resources.{Stock, may_use, may_write, ops_use, ops_write}
use Rattle.cs_layout.proofs.{Complete.there, Counted.spaces_are}
use Rattle.cs_layout.specs.{Layouts.areas_of, declared.areas.LiveTable.LiveTable}
use Rattle.cs_meaning.specs.{Uses.block_begins, Uses.block_uses, Uses.block_writes, Core.Block, Core.core}
use Rattle.cs_name_laws.specs.Names.{IsNamedBlock, is_there}
use Rattle.cs_piece.proofs.{Played.performed_from, Played.plays_from, Staged.some_area}
use Rattle.cs_piece.specs.{Sheets.IsSheetOf, Sheets.kinds_of, VoicesOfNotes.Perform, Compositions.live_in}
use Rattle.cs_piece.specs.{Ready.IsInstrumentOf, Ready.IsStageOf, Tables.tables_in}
use Rattle.cs_rwset.proofs.Placed.{contains_first, contains_rest, places_alike}
use Rattle.cs_rwset.specs.{Zones.IsFootOver, Footprints.stock_of, Footprints.table_number}
use Rattle.cs_voice_meaning.specs.{Follows.AreNamed, Placing.HasArea, Placing.area_of, Voices.IsPlayable}
use Rattle.cs_voice.specs.{Starts.sheet_at, declared.stage.Stage.Stage}
use Rattle.cs_typed.specs.{Places.Header, TypedTree.SharedNames}
use Rattle.cs_piece.proofs.Bodies.{body_for, holds_of_body, no_body}
use Rattle.cs_piece.specs.Setups.{IsSetup, SetupData, composition_of}
use Rattle.cs_base.specs.declared.resource.Res.TheVariants as res
use Rattle.cs_typed.specs.TypedTree as typed

-- all of some resources have the property
all_there : (H : Res → Type 0) (gs : List Res) → ((g : Res) → Contains gs g → H g) → AreNamed H gs
all_there H [] f = tt
all_there H (g ∷ gs) f = (f g (contains_first g gs), all_there H gs (λ h c. f h (contains_rest g h gs c)))

-- a live table of a layout has its area
head_area : (a : Area) (areas : List Area) (g : Res) → same_res a.res g ≡ true → HasArea (a ∷ areas) g
head_area a areas g e = (a, by (same_res a.res g) e)
  where
    by : (b : Bool) → b ≡ true → (if b then Some a else area_of areas g) ≡ Some a
    by true holds = refl
    by false holds = absurd cc

later_area : (a : Area) (areas : List Area) (g : Res) → HasArea areas g → HasArea (a ∷ areas) g
later_area a areas g h = by (same_res a.res g)
  where
    by : (b : Bool) → (x : Area) × ((if b then Some a else area_of areas g) ≡ Some x)
    by true = (a, refl)
    by false = (h.0, h.1)

either_later : (b t : Bool) → b ≡ false → (b || t) ≡ true → t ≡ true
either_later true t fails e = absurd cc
either_later false t fails e = e

other_number : (g : Res) (n : ℕ) (ms : List ℕ) → same_res g (res.Table n) ≡ false
    → list_any (λ m. m == n) (cons_option (table_number g) ms) ≡ true → list_any (λ m. m == n) ms ≡ true
other_number (res.Table m) n ms fails e = either_later (m == n) (list_any (λ k. k == n) ms) fails e
other_number _ n ms fails e = e

live_area : (areas : List Area) (n : ℕ)
    → list_any (λ m. m == n) (filter_map (λ (a : Area). table_number a.res) areas) ≡ true → HasArea areas (res.Table n)
live_area [] n e = absurd cc
live_area (a ∷ areas) n e = by_test (same_res a.res (res.Table n))
    (λ holds. head_area a areas (res.Table n) holds)
    (λ fails. later_area a areas (res.Table n)
    (live_area areas n (other_number a.res n (filter_map (λ (x : Area). table_number x.res) areas) fails e)))

-- each resource of a piece has its area
has_area : (ksmps : ℕ) (names : SharedNames) (spaces : Spaces) (live : List LiveTable) (g : Res)
    → is_there names (stock_of (areas_of ksmps names spaces live)) g ≡ true
    → HasArea (areas_of ksmps names spaces live) g
has_area ksmps names spaces live g e = by g e
  where
    areas : List Area
    areas = areas_of ksmps names spaces live

    by : (h : Res) → is_there names (stock_of (areas_of ksmps names spaces live)) h ≡ true
        → HasArea (areas_of ksmps names spaces live) h
    by (res.Gi n) f = some_area (area_of (areas_of ksmps names spaces live) (res.Gi n))
        (there ksmps names spaces live (res.Gi n) ∙ f)
    by (res.Gk n) f = some_area (area_of (areas_of ksmps names spaces live) (res.Gk n))
        (there ksmps names spaces live (res.Gk n) ∙ f)
    by (res.Ga n) f = some_area (area_of (areas_of ksmps names spaces live) (res.Ga n))
        (there ksmps names spaces live (res.Ga n) ∙ f)
    by (res.Control n) f = some_area (area_of (areas_of ksmps names spaces live) (res.Control n))
        (there ksmps names spaces live (res.Control n) ∙ f)
    by (res.Sound n) f = some_area (area_of (areas_of ksmps names spaces live) (res.Sound n))
        (there ksmps names spaces live (res.Sound n) ∙ f)
    by (res.ZakK n) f =
        some_area (area_of (areas_of ksmps names spaces live) (res.ZakK n)) (there ksmps names spaces live (res.ZakK n)
        ∙ ap (λ (s : Spaces). nat_lt n s.control) (sym (spaces_are ksmps names spaces live)) ∙ f)
    by (res.ZakA n) f =
        some_area (area_of (areas_of ksmps names spaces live) (res.ZakA n)) (there ksmps names spaces live (res.ZakA n)
        ∙ ap (λ (s : Spaces). nat_lt n s.audio) (sym (spaces_are ksmps names spaces live)) ∙ f)
    by (res.Table n) f = live_area (areas_of ksmps names spaces live) n f

-- what notes touch exists, as a law of cs_name_laws states
abbrev pub TouchWhatIsThere : Type 0
TouchWhatIsThere = (names : SharedNames) (b : typed.Block) → IsNamedBlock names b
    → (spaces : Spaces) (stock : Stock) (g : Res)
    → Contains (block_uses stock (core spaces b) ++ block_begins stock (core spaces b)) g
    → is_there names stock g ≡ true

-- What is ready about an instrument in a piece with these zak spaces and channels.
record IsReady (stage : Stage) (i : Numbered) (foot : Footprint) (spaces : Spaces) (body : typed.Block) : Type 0 where
  pub plan : RegisterPlan
  pub playable : (age : ℕ) (flags : List Bool) (fields : List ℤ) → length flags ≡ length stage.tables.now
      → IsPlayable (sheet_at i age foot stage flags fields)
  pub performs : (age : ℕ) (flags : List Bool) (fields : List ℤ) → length flags ≡ length stage.tables.now
      → Perform plan (kinds_of (block_units (core spaces body))) (sheet_at i age foot stage flags fields)
      (core spaces body)

module _ (c : SetupData) (stage : Stage) (is_stage : IsStageOf (composition_of c) stage) (i : Numbered)
    (foot : Footprint) (body : typed.Block) (feet : IsFootOver stage.layout.now stage.zones.now i.perf foot)
    (named : (g : Res) → (spaces : Spaces) → Contains (block_uses (stock_of stage.layout.now) (core spaces body)
    ++ block_begins (stock_of stage.layout.now) (core spaces body)) g → HasArea stage.layout.now g) where
  -- what statements use in a cycle, and as a note begins, has its area
  uses_there : (spaces : Spaces) (g : Res) → Contains (block_uses (stock_of stage.layout.now) (core spaces body)) g
      → HasArea stage.layout.now g
  uses_there spaces g k =
      named g spaces (Contains-append_left (block_uses (stock_of stage.layout.now) (core spaces body))
      (block_begins (stock_of stage.layout.now) (core spaces body)) g k)

  begins_there : (spaces : Spaces) (g : Res) → Contains (block_begins (stock_of stage.layout.now) (core spaces body)) g
      → HasArea stage.layout.now g
  begins_there spaces g k =
      named g spaces (Contains-append_right (block_uses (stock_of stage.layout.now) (core spaces body))
      (block_begins (stock_of stage.layout.now) (core spaces body)) g k)

  sheet_of : IsCodeOf stage.spaces stage.head.now.nchnls body i.init i.perf
      → (age : ℕ) (flags : List Bool) (fields : List ℤ)
      → length flags ≡ length stage.tables.now → IsSheetOf (sheet_at i age foot stage flags fields) body i.init i.perf
  sheet_of code age flags fields long = record {
    code = code;
    init_ops = refl;
    perf_ops = refl;
    generators = refl;
    placed = is_stage.placed flags fields long;
    init_areas = all_there (HasArea stage.layout.now) (ops_use (stock_of stage.layout.now) i.init.ops)
        (λ g k. begins_there stage.spaces g ((code.touches.begins may_use (stock_of stage.layout.now) g).0 k));
    perf_areas = all_there (HasArea stage.layout.now) (ops_use (stock_of stage.layout.now) i.perf.ops)
        (λ g k. uses_there stage.spaces g ((code.touches.cycles may_use (stock_of stage.layout.now) g).0 k));
    uses = feet.uses;
    writes = feet.writes;
  }

  ready_here : IsCodeOf stage.spaces stage.head.now.nchnls body i.init i.perf → IsReady stage i foot stage.spaces body
  unfolding sheet_of
  ready_here code = record {
    plan = code.means.plan;
    playable = λ age flags fields long. plays_from (sheet_at i age foot stage flags fields) body i.init i.perf
        (sheet_of code age flags fields long);
    performs = λ age flags fields long. performed_from (sheet_at i age foot stage flags fields) body i.init i.perf
        (sheet_of code age flags fields long);
  }

  -- the same for the spaces and channels of the composition
  ready_as : (spaces : Spaces) (channels : ℕ) → stage.spaces ≡ spaces → stage.head.now.nchnls ≡ channels
      → IsCodeOf spaces channels body i.init i.perf → IsReady stage i foot spaces body
  ready_as spaces channels e f =
      subst (λ ch. IsCodeOf spaces ch body i.init i.perf → IsReady stage i foot spaces body) f
      (subst (λ sp. IsCodeOf sp stage.head.now.nchnls body i.init i.perf → IsReady stage i foot sp body) e ready_here)

  pub instrument_is : IsCodeOf (typed.orchestra c.orchestra).spaces c.orchestra.head.nchnls body i.init i.perf
      → IsInstrumentOf stage i foot (core (typed.orchestra c.orchestra).spaces body)
  instrument_is code =
      let areas : List Area = stage.layout.now in
      let statements : Block = core (typed.orchestra c.orchestra).spaces body in
      let r = ready_as (typed.orchestra c.orchestra).spaces c.orchestra.head.nchnls is_stage.spaces
      (ap (λ (h : Header). h.nchnls) is_stage.head) code in
      record {
        plan = r.plan;
        kinds = kinds_of (block_units (core (typed.orchestra c.orchestra).spaces body));
        playable = r.playable;
        performs = r.performs;
        footprint = feet.places;
        there = all_there (HasArea areas) (block_uses (stock_of areas) statements)
            (uses_there (typed.orchestra c.orchestra).spaces);
        uses = λ a. feet.uses a
            ∙ ap (λ places. covers areas places a) (places_alike areas (ops_use (stock_of areas) i.perf.ops)
            (block_uses (stock_of areas) statements) (code.touches.cycles may_use (stock_of areas)));
        writes = λ a. feet.writes a
            ∙ ap (λ places. covers areas places a) (places_alike areas (ops_write (stock_of areas) i.perf.ops)
            (block_writes (stock_of areas) statements) (code.touches.cycles may_write (stock_of areas)));
      }

-- What a setup returns is ready on its stage.
module _ (touched : TouchWhatIsThere) (c : SetupData) (h : IsSetup c) (stage : Stage)
    (is_stage : IsStageOf (composition_of c) stage) (laid : stage.layout.now ≡ c.layout)
    (zoned : stage.zones.now ≡ c.zones) (i : Numbered) (foot : Footprint) (body : typed.Block)
    (names : IsNamedBlock (typed.shared_names c.orchestra.globals) body) where
  touches : (g : Res) (spaces : Spaces) → Contains (block_uses (stock_of stage.layout.now) (core spaces body)
      ++ block_begins (stock_of stage.layout.now) (core spaces body)) g → HasArea stage.layout.now g
  touches g spaces k =
      let here = laid ∙ h.areas_are in
      subst (λ areas. HasArea areas g) (sym here)
      (has_area c.orchestra.head.ksmps (typed.shared_names c.orchestra.globals) (typed.orchestra c.orchestra).spaces
      (live_in (tables_in (typed.orchestra c.orchestra) c.plot.events)) g
      (subst (λ areas. is_there (typed.shared_names c.orchestra.globals) (stock_of areas) g ≡ true) here
      (touched (typed.shared_names c.orchestra.globals) body names spaces (stock_of stage.layout.now) g k)))

  pub ready_for : IsFootOver c.layout c.zones i.perf foot
      → IsCodeOf (typed.orchestra c.orchestra).spaces c.orchestra.head.nchnls body i.init i.perf
      → IsInstrumentOf stage i foot (core (typed.orchestra c.orchestra).spaces body)
  ready_for feet code = instrument_is c stage is_stage i foot body
      (subst (λ areas. IsFootOver areas stage.zones.now i.perf foot) (sym laid)
      (subst (λ zones. IsFootOver c.layout zones i.perf foot) (sym zoned) feet)) touches code

-- footprints are at their instruments' indexes
pub foot_at : (areas zones : List Area) (is : List Numbered) (feet : List Footprint) (k : ℕ) (i : Numbered)
    (foot : Footprint)
    → AllZip (λ (x : Numbered) (f : Footprint). IsFootOver areas zones x.perf f) is feet → slice_get is k ≡ Some i
    → slice_get feet k ≡ Some foot → IsFootOver areas zones i.perf foot
foot_at areas zones [] feet k i foot h e f = absurd cc
foot_at areas zones (x ∷ is) [] k i foot h e f = absurd h
foot_at areas zones (x ∷ is) (y ∷ feet) zero i foot h e f =
    subst {A = Numbered × Footprint} (λ p. IsFootOver areas zones p.0.perf p.1)
    (λ j. (some_is x i e j, some_is y foot f j)) h.0
foot_at areas zones (x ∷ is) (y ∷ feet) (suc k) i foot h e f = foot_at areas zones is feet k i foot h.1 e f

-- what a setup returns for a number
module _ (touched : TouchWhatIsThere) (s : SetupData) (h : IsSetup s) where
  pub handed_out : (place : ℕ) (i : Numbered) (foot : Footprint) → slice_get s.lowered.instruments place ≡ Some i
      → slice_get s.feet place ≡ Some foot → (z : ℤ) → pos i.number ≡ z
      → (body : Block) × ((composition_of s).instrument z ≡ Some body) × (pos i.number ≡ z)
      × ((stage : Stage) → IsStageOf (composition_of s) stage → stage.layout.now ≡ s.layout
      → stage.zones.now ≡ s.zones → IsInstrumentOf stage i foot body)
  handed_out place i foot at feet z n =
      let b = body_for (typed.orchestra s.orchestra) s.lowered.instruments place i z h.instruments at n in (
        core (typed.orchestra s.orchestra).spaces b.body,
        ap (option_map (core (typed.orchestra s.orchestra).spaces)) b.here,
        n,
        λ stage is_stage laid zoned. ready_for touched s h stage is_stage laid zoned i foot b.body
            (holds_of_body (IsNamedBlock (typed.shared_names s.orchestra.globals)) (typed.orchestra s.orchestra).instrs
            z b.body h.named.instruments b.here)
            (foot_at s.layout s.zones s.lowered.instruments s.feet place i foot h.touch at feet) b.code,
      )

  pub not_there : (z : ℤ) → ((k : ℕ) (i : Numbered) → slice_get s.lowered.instruments k ≡ Some i → pos i.number ≡ z → ⊥)
      → (composition_of s).instrument z ≡ None
  not_there z none = ap (option_map (core (typed.orchestra s.orchestra).spaces))
      (no_body (typed.orchestra s.orchestra) s.lowered.instruments z h.instruments none)

  pub outside_is : (stage : Stage) → IsStageOf (composition_of s) stage → stage.layout.now ≡ s.layout
      → stage.zones.now ≡ s.zones → IsInstrumentOf stage s.lowered.zero s.zero_foot (composition_of s).outside
  outside_is stage is_stage laid zoned =
      ready_for touched s h stage is_stage laid zoned s.lowered.zero s.zero_foot (typed.orchestra s.orchestra).zero
      h.named.zero h.zero_touches h.zero_code

-- one more instrument isn't the one that is looked for
pub none_more : (l : List Numbered) (place : ℕ) (x : Numbered) (z : ℤ)
    → ((k : ℕ) (i : Numbered) → k < place → slice_get l k ≡ Some i → pos i.number ≡ z → ⊥)
    → slice_get l place ≡ Some x → (pos x.number ≡ z → ⊥) → (k : ℕ) (i : Numbered) → k < place + 1
    → slice_get l k ≡ Some i → pos i.number ≡ z → ⊥
none_more l place x z none at differs k i low here n = ⊎_elim
    (λ (e : k ≡ place). differs
    (ap (λ (y : Numbered). pos y.number) (some_is x i (sym at ∙ ap (slice_get l) (sym e) ∙ here)) ∙ n))
    (λ (f : k ≡ place → ⊥). none k i (omega arith) here n) (cases_eq k place)
