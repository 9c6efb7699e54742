-- The stage of a setup: it has the tables of the composition, and what its notes share has areas in its
-- layout.
use Rattle.std.proofs.lemmas.{Bool.or_left, Bool.or_right, Bool.eq-eqb, List.length-map, Option.slice_get-get_or}
use Rattle.std.proofs.Common.{◌≡◌, ℕ, ℤ, zero, suc, ◌<◌, ◌≤◌, ◌==◌, ◌&&◌, Bool, true, false, not, List, [], ◌∷◌, get_or}
use Rattle.std.proofs.Common.{length, map, pos, slice_get, unsigned_abs, Option, Some, None, cond, if◌then◌else◌, refl}
use Rattle.std.proofs.Common.{sym, ◌∙◌, ap, subst, arith}
use Rattle.std.specs.{Int.is_negative, List.All, List.AllByRecursion, List.filter, List.list_any, Option.is_some}
use Rattle.std.proofs.lemmas.List.Elements.{All-cons, All-nil}
use Rattle.cs_base.proofs.Tests.{some_is}
use Rattle.cs_base.specs.{Rates.res_rate, declared.resource.Rate.Rate, declared.resource.Res.Res}
use Rattle.cs_machine.specs.{Access.AreSpaces, Access.spaces_of, States.header_of}
use Rattle.cs_cells.specs.{Areas.IsLaid, Areas.limit_passed, declared.footprint.Area.Area}
use Rattle.cs_gen.proofs.Places.{accepted, is_made}
use Rattle.cs_gen.specs.{Points.len_of, Points.points_of, Tables.IsMade}
use Rattle.cs_base.specs.declared.spaces.Spaces.{Spaces}
use Rattle.cs_layout.proofs.Complete.{is_laid, is_placed, there}
use Rattle.cs_layout.proofs.{Counted.spaces_are, ZakSpaces.are_spaces}
use Rattle.cs_layout.specs.{Layouts.AreApart, Layouts.AreLive, Layouts.areas_of, declared.areas.LiveTable.LiveTable}
use Rattle.cs_meaning.specs.{Plain.Table, Plain.find_table, Pieces.Piece}
use Rattle.cs_ugen.proofs.Curves.{made_len}
use Rattle.cs_ugen.specs.Points.{is_len}
use Rattle.cs_rwset.specs.{Zones.AreZones, Footprints.stock_of}
use Rattle.cs_ir.specs.{Resources.Stock, Validity.has_value}
use Rattle.cs_machine.proofs.Found.{own}
use Rattle.cs_voice_meaning.proofs.Naming.{found_number}
use Rattle.cs_voice_meaning.specs.Placing.{IsPlaced, area_of, cell_count, is_table_size}
use Rattle.cs_voice.specs.{Starts.piece_at, Tables.CanAllBePlayed, Tables.table_at, Tables.tables_of, Memory.table_of}
use Rattle.cs_voice.specs.{VoiceData.made, declared.stage.Stage.Stage, declared.stage.PieceTable.PieceTable}
use Rattle.cs_tempo.specs.declared.plot.Event.{Event}
use Rattle.cs_typed.specs.TypedTree.{SharedNames}
use Rattle.cs_piece.specs.{Compositions.live_in, Ready.IsStageOf, inner.Marked.IsRight}
use Rattle.cs_piece.specs.Setups.{IsSetup, SetupData, composition_of}
use Rattle.cs_piece.specs.Tables.{Given, firsts, given_in, is_frozen, table_given, table_in, tables_in}
use Rattle.cs_piece.proofs.Ascending.{apart_in, each_ascending, tables_differ}
use Rattle.cs_piece.proofs.{LiveFound.live_found, Rights.AreRight, Rights.right_firsts, Rights.right_in}
use Rattle.cs_base.specs.declared.resource.Rate.TheVariants as rate
use Rattle.cs_base.specs.declared.resource.Res.TheVariants as res
use Rattle.cs_typed.specs.TypedTree as typed
use Rattle.cs_piece.specs.Tables as pieces

-- what a table of a plot has to satisfy
pub record IsSound (t : Table) : Type 0 where
  pub some : 0 < t.size
  pub power : is_len (len_of t.size) ≡ true
  pub points : (points : List ℤ) → t.frozen ≡ Some points → length points ≡ t.size

frozen_points : (b : Bool) (g : Given) (points : List ℤ)
    → (if b then Some (points_of g.size g.gen g.args) else None) ≡ Some points → points_of g.size g.gen g.args ≡ points
frozen_points true g points e = some_is (points_of g.size g.gen g.args) points e
frozen_points false g points e = absurd cc

sound_given : (b : Bool) (g : Given) → IsRight g → IsSound (table_given b g)
sound_given b g right =
    let sized = accepted g.size g.gen g.args right.fault in
    let made_so : IsMade g.size g.gen g.args (points_of g.size g.gen g.args) =
    is_made g.size g.gen g.args (points_of g.size g.gen g.args) sized refl in
    let long : length (points_of g.size g.gen g.args) ≡ unsigned_abs g.size = ap unsigned_abs made_so.count in
    record {
      some = (let low : 2 ≤ unsigned_abs g.size = sized.0 in omega arith);
      power = ap (λ n. is_len (len_of n)) (sym long)
          ∙ made_len g.size g.gen g.args (points_of g.size g.gen g.args) right.fault made_so;
      points = λ points e. ap length (sym (frozen_points b g points e)) ∙ long;
    }

sound_all : (o : typed.Orchestra) (all gs : List Given) → AreRight gs → AllByRecursion IsSound (map (table_in o all) gs)
sound_all o all [] h = tt
sound_all o all (g ∷ gs) h = (sound_given (is_frozen o all g.number) g h.0, sound_all o all gs h.1)

pub sound_in : (o : typed.Orchestra) (events : List Event) → AreRight (given_in events)
    → AllByRecursion IsSound (tables_in o events)
sound_in o events h =
    each_ascending IsSound (map (table_in o (given_in events)) (firsts (given_in events)))
    (sound_all o (given_in events) (firsts (given_in events)) (right_firsts (given_in events) h))

-- a table that a note finds is one of the composition's, made or not
pub record IsOne (tables : List Table) (t : Table) : Type 0 where
  pub place : ℕ
  pub u : Table
  pub at : slice_get tables place ≡ Some u
  pub number : t.number ≡ u.number
  pub size : t.size ≡ u.size
  pub frozen : t.frozen ≡ u.frozen

first_is : {X : Type 0} (x y : X) (xs ys : List X) → x ∷ xs ≡ y ∷ ys → x ≡ y
first_is x y xs ys e = cc

rest_is : {X : Type 0} (x y : X) (xs ys : List X) → x ∷ xs ≡ y ∷ ys → xs ≡ ys
rest_is x y xs ys e = cc

found_in : (ts : List PieceTable) (flags : List Bool) (cs : List Table) (n : ℤ) (t : Table)
    → map table_of ts ≡ map made cs → find_table (tables_of ts flags) n ≡ Some t → IsOne cs t
found_in [] flags cs n t e f = absurd cc
found_in (x ∷ ts) [] cs n t e f = absurd cc
found_in (x ∷ ts) (m ∷ flags) [] n t e f = absurd cc
found_in (x ∷ ts) (m ∷ flags) (c ∷ cs) n t e f =
    by (not (is_negative n) && x.number == unsigned_abs n)
    (found_in ts flags cs n t (rest_is (table_of x) (made c) (map table_of ts) (map made cs) e)) f
  where
    same : table_of x ≡ made c
    same = first_is (table_of x) (made c) (map table_of ts) (map made cs) e

    by : (b : Bool) → (find_table (tables_of ts flags) n ≡ Some t → IsOne cs t)
        → (if b then Some (table_at x m) else find_table (tables_of ts flags) n) ≡ Some t → IsOne (c ∷ cs) t
    by true later g = subst (IsOne (c ∷ cs)) (some_is (table_at x m) t g) (record {
      place = zero;
      u = c;
      at = refl;
      number = ap (λ (y : Table). y.number) same;
      size = ap (λ (y : Table). y.size) same;
      frozen = ap (λ (y : Table). y.frozen) same;
    })
    by false later g = let r =
        later g in record {
          place = suc r.place;
          u = r.u;
          at = r.at;
          number = r.number;
          size = r.size;
          frozen =
              r.frozen;
        }

-- the index of a table that isn't frozen among the live ones
abbrev as_live : Table → LiveTable
as_live t = record { number = t.number; size = t.size }

live_place : (cs : List Table) (k : ℕ) (u : Table) → slice_get cs k ≡ Some u → u.frozen ≡ None
    → (place : ℕ) × (slice_get (live_in cs) place ≡ Some (as_live u))
live_place [] k u e none = absurd cc
live_place (c ∷ cs) zero u e none =
    by (not (is_some c.frozen)) (ap (λ o. not (is_some o)) (ap (λ (t : Table). t.frozen) (some_is c u e) ∙ none))
  where
    rest : List Table
    rest = filter (λ (t : Table). not (is_some t.frozen)) cs

    by : (b : Bool) → b ≡ true
        → (place : ℕ) × (slice_get (map as_live (cond b (c ∷ rest) rest)) place ≡ Some (as_live u))
    by true holds = (zero, ap (λ (t : Table). Some (as_live t)) (some_is c u e))
    by false holds = absurd cc
live_place (c ∷ cs) (suc k) u e none = by (not (is_some c.frozen)) (live_place cs k u e none)
  where
    rest : List Table
    rest = filter (λ (t : Table). not (is_some t.frozen)) cs

    by : (b : Bool) → (place : ℕ) × (slice_get (live_in cs) place ≡ Some (as_live u))
        → (place : ℕ) × (slice_get (map as_live (cond b (c ∷ rest) rest)) place ≡ Some (as_live u))
    by true r = (suc r.0, r.1)
    by false r = (r.0, r.1)

some_points : (cs : List Table) → AllByRecursion IsSound cs
    → All (λ (t : LiveTable). is_table_size t.size ≡ true) (live_in cs)
some_points [] h = All-nil (λ (t : LiveTable). is_table_size t.size ≡ true)
some_points (c ∷ cs) h = by (not (is_some c.frozen)) (some_points cs h.1)
  where
    rest : List Table
    rest = filter (λ (t : Table). not (is_some t.frozen)) cs

    by : (b : Bool) → All (λ (t : LiveTable). is_table_size t.size ≡ true) (live_in cs)
        → All (λ (t : LiveTable). is_table_size t.size ≡ true) (map as_live (cond b (c ∷ rest) rest))
    by true later = All-cons (λ (t : LiveTable). is_table_size t.size ≡ true) (as_live c) (live_in cs) h.0.power later
    by false later = later

sound_at : (cs : List Table) (k : ℕ) (u : Table) → AllByRecursion IsSound cs → slice_get cs k ≡ Some u → IsSound u
sound_at [] k u h e = absurd cc
sound_at (c ∷ cs) zero u h e = subst IsSound (some_is c u e) h.0
sound_at (c ∷ cs) (suc k) u h e = sound_at cs k u h.1 e

-- a live table has its area
any_live : (live : List LiveTable) (place n size : ℕ) → slice_get live place ≡ Some (record { number = n; size = size })
    → list_any (λ t. t.number == n) live ≡ true
any_live [] place n size e = absurd cc
any_live (x ∷ live) zero n size e =
    or_left (x.number == n) (list_any (λ t. t.number == n) live)
    (eq-eqb x.number n (ap (λ (t : LiveTable). t.number) (some_is x (record { number = n; size = size }) e)))
any_live (x ∷ live) (suc place) n size e =
    or_right (x.number == n) (list_any (λ t. t.number == n) live) (any_live live place n size e)

pub some_area : (o : Option Area) → is_some o ≡ true → (x : Area) × (o ≡ Some x)
some_area None e = absurd cc
some_area (Some x) e = (x, refl)

module _ (ksmps : ℕ) (names : SharedNames) (spaces : Spaces) (cs : List Table) (sound : AllByRecursion IsSound cs)
    (ts : List PieceTable) (same : map table_of ts ≡ map made cs) where
  pub are_live : (flags : List Bool) → AreLive (live_in cs) (tables_of ts flags)
  are_live flags n t e none =
      let r = found_in ts flags cs n t same e in
      let p = live_place cs r.place r.u r.at (sym r.frozen ∙ none) in
      (p.0, p.1 ∙ ap Some (λ i. record { number = sym r.number i; size = sym r.size i }))

  pub can_all : (flags : List Bool) → CanAllBePlayed (areas_of ksmps names spaces (live_in cs)) (tables_of ts flags)
  can_all flags n t e =
      let r = found_in ts flags cs n t same e in
      let s = sound_at cs r.place r.u sound r.at in
      record {
        power = ap (λ m. is_len (len_of m)) r.size ∙ s.power;
        points = λ points f. s.points points (sym r.frozen ∙ f) ∙ sym r.size;
        area = λ none.
            let p = are_live flags n t e none in
            some_area (area_of (areas_of ksmps names spaces (live_in cs)) (res.Table t.number))
            (there ksmps names spaces (live_in cs) (res.Table t.number)
            ∙ any_live (live_in cs) p.0 t.number t.size p.1);
      }

-- a setup has the tables of its composition, as a note finds them once they have been made
all_made : (ts : List PieceTable) → map table_of ts ≡ map made (map pieces.table_of ts)
all_made [] = refl
all_made (t ∷ ts) = ap (λ (l : List Table). table_of t ∷ l) (all_made ts)

pub tables_found : (s : SetupData) → IsSetup s → map table_of s.tables ≡ map made (composition_of s).tables
tables_found s h = all_made s.tables ∙ ap (map made) h.tables_are

-- no area of a layout is empty
some_cells : (areas : List Area) (stock : Stock) (piece : Piece) → IsPlaced areas stock piece
    → All (λ (a : Area). 0 < a.length) areas
some_cells areas stock piece placed k d low =
    let x = get_or areas k d in has x (own areas k x placed.laid (slice_get-get_or areas k d low))
  where
    counted : (n : ℕ) (r : Rate) → 0 < n → 0 < cell_count n r
    counted n rate.Audio h = h
    counted n _ h = omega arith

    valued : (x : Area) (g : Res) → area_of areas g ≡ Some x → has_value g ≡ true → 0 < x.length
    valued x g is value = subst (λ n. 0 < n) (sym (placed.cells g x is value))
        (counted piece.head.ksmps (res_rate g) placed.frames)

    of : (x : Area) (g : Res) → area_of areas g ≡ Some x → 0 < x.length
    of x (res.Table n) is =
        let there = placed.live n x is in
        let lies = placed.tables (pos n) there.table there.found there.live in
        let number : there.table.number ≡ n = found_number piece.tables (pos n) there.table there.found in
        subst (λ n. 0 < n) (sym (lies.size x (ap (λ m. area_of areas (res.Table m)) number ∙ is))) lies.some
    of x (res.Gi n) is = valued x (res.Gi n) is refl
    of x (res.Gk n) is = valued x (res.Gk n) is refl
    of x (res.Ga n) is = valued x (res.Ga n) is refl
    of x (res.Control n) is = valued x (res.Control n) is refl
    of x (res.Sound n) is = valued x (res.Sound n) is refl
    of x (res.ZakK n) is = valued x (res.ZakK n) is refl
    of x (res.ZakA n) is = valued x (res.ZakA n) is refl

    has : (x : Area) → area_of areas x.res ≡ Some x → 0 < x.length
    has x is = of x x.res is

-- What a setup returns as its stage.
module _ (s : SetupData) (h : IsSetup s) (stage : Stage) (head : stage.head.now ≡ s.orchestra.head)
    (laid : stage.layout.now ≡ s.layout) (zoned : stage.zones.now ≡ s.zones)
    (spaces_so : stage.spaces ≡ s.orchestra.spaces)
    (same : map table_of stage.tables.now ≡ map made (composition_of s).tables) where
  sound : AllByRecursion IsSound (tables_in (typed.orchestra s.orchestra) s.plot.events)
  sound = sound_in (typed.orchestra s.orchestra) s.plot.events (right_in s.plot.events h.performable.each)

  here : stage.layout.now ≡ areas_of stage.head.now.ksmps (typed.shared_names s.orchestra.globals) stage.spaces
      (live_in (tables_in (typed.orchestra s.orchestra) s.plot.events))
  here = laid ∙ h.areas_are
      ∙ λ i. areas_of (sym head i).ksmps (typed.shared_names s.orchestra.globals) (sym spaces_so i)
      (live_in (tables_in (typed.orchestra s.orchestra) s.plot.events))

  frames : 0 < stage.head.now.ksmps
  frames = let low = stage.head.now.ksmps_in_range in omega arith

  apart : AreApart (live_in (tables_in (typed.orchestra s.orchestra) s.plot.events))
  apart = apart_in (typed.orchestra s.orchestra) s.plot.events

  places : AreSpaces stage.layout.now
  places = subst AreSpaces (sym here)
      (are_spaces stage.head.now.ksmps (typed.shared_names s.orchestra.globals) stage.spaces
      (live_in (tables_in (typed.orchestra s.orchestra) s.plot.events)))

  zak : spaces_of stage.layout.now ≡ stage.spaces
  zak = ap spaces_of here ∙ spaces_are stage.head.now.ksmps (typed.shared_names s.orchestra.globals) stage.spaces
      (live_in (tables_in (typed.orchestra s.orchestra) s.plot.events))

  placed : (flags : List Bool) (fields : List ℤ) → length flags ≡ length stage.tables.now
      → IsPlaced stage.layout.now (stock_of stage.layout.now) (piece_at stage flags fields)
  placed flags fields long =
      subst (λ areas. IsPlaced areas (stock_of areas) (piece_at stage flags fields)) (sym here)
      (is_placed (typed.shared_names s.orchestra.globals)
      (live_in (tables_in (typed.orchestra s.orchestra) s.plot.events)) (piece_at stage flags fields) apart frames
      (are_live stage.head.now.ksmps (typed.shared_names s.orchestra.globals) stage.spaces
      (tables_in (typed.orchestra s.orchestra) s.plot.events) sound stage.tables.now same flags)
      (λ n any. live_found stage.tables.now flags (tables_in (typed.orchestra s.orchestra) s.plot.events) n
      (tables_differ (typed.orchestra s.orchestra) s.plot.events) same long any)
      (some_points (tables_in (typed.orchestra s.orchestra) s.plot.events) sound))

  can_be_played : (flags : List Bool) → CanAllBePlayed stage.layout.now (tables_of stage.tables.now flags)
  can_be_played flags =
      subst (λ areas. CanAllBePlayed areas (tables_of stage.tables.now flags)) (sym here)
      (can_all stage.head.now.ksmps (typed.shared_names s.orchestra.globals) stage.spaces
      (tables_in (typed.orchestra s.orchestra) s.plot.events) sound stage.tables.now same flags)

  pub is_stage : IsStageOf (composition_of s) stage
  is_stage = record {
    head = ap header_of head;
    spaces = spaces_so;
    tables = same;
    laid = subst IsLaid (sym here) (is_laid stage.head.now.ksmps (typed.shared_names s.orchestra.globals) stage.spaces
        (live_in (tables_in (typed.orchestra s.orchestra) s.plot.events)) apart);
    within = ap limit_passed laid ∙ h.within;
    places = places;
    zak = zak;
    some = some_cells stage.layout.now (stock_of stage.layout.now)
        (piece_at stage (map (λ t. false) stage.tables.now) [])
        (placed (map (λ t. false) stage.tables.now) [] (length-map stage.tables.now (λ t. false)));
    zones = subst (λ areas. AreZones areas stage.zones.now) (sym laid)
        (subst (AreZones s.layout) (sym zoned) h.zones_are);
    placed = λ flags fields long. placed flags fields long;
    can_be_played = λ flags long. can_be_played flags;
  }

-- the areas of a setup follow one another
pub laid_is : (s : SetupData) → IsSetup s → IsLaid s.layout
laid_is s h = subst IsLaid (sym h.areas_are)
    (is_laid s.orchestra.head.ksmps (typed.shared_names s.orchestra.globals) (typed.orchestra s.orchestra).spaces
    (live_in (tables_in (typed.orchestra s.orchestra) s.plot.events))
    (apart_in (typed.orchestra s.orchestra) s.plot.events))
