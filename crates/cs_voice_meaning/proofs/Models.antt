-- The world of one model follows the world of another model of the same piece, if the models are related.
use Rattle.std.proofs.lemmas.{Grind.common_steps, Bool.Decides.nat_tests}
use Rattle.std.proofs.Common.{◌≡◌, ◌∙◌, ℕ, ℤ, pos, ◌-◌, ◌&&◌, ◌||◌, ◌==◌, ◌++◌, Bool, true, false, not, List, ◌∷◌, []}
use Rattle.std.proofs.Common.{arith, map, nat_le, slice_index_or, unsigned_abs, Option, Some, None, if◌then◌else◌, refl}
use Rattle.std.proofs.Common.{ap, subst, append_assoc}
use Rattle.std.specs.{List.range_with_len, Option.is_some}
use Rattle.cs_base.specs.{Rates.res_rate, declared.resource.Rate.Rate, declared.resource.Res.Res}
use Rattle.cs_words.specs.{Catalogue.row_of, Catalogue.takes_table, declared.catalogue.Opcode.Opcode}
use Rattle.cs_words.specs.{declared.catalogue.Shape.Shape, declared.catalogue.Space.Space}
use Rattle.cs_gen.specs.Tables.{curve_of}
use Rattle.cs_ugen.specs.Units.{IsUnitOpcode}
use Rattle.cs_ir.specs.Resources.{Stock, reaches, shape_uses, unit_uses, tables_within, places_within, zak_place}
use Rattle.cs_ir.specs.{Validity.has_value, declared.op.Reach.Reach}
use Rattle.cs_ir.specs.Waves.{Wave, held, silence, operand}
use Rattle.cs_cells.specs.declared.footprint.Area.{Area}
use Rattle.cs_meaning.specs.Model.{State, WorldModel, Cause, no_table, loaded, saved, put_unit, unit_points, has_run}
use Rattle.cs_meaning.specs.Model.{unit_does, store_into, store_at, zak_does, lacks_table, refused_for, begun, starts}
use Rattle.cs_meaning.specs.Model.{out_to, out_to_numbered, world_of}
use Rattle.cs_meaning.specs.Pieces.{Piece, Table, find_table, table_number, index, added, stored, places_of_indices}
use Rattle.cs_meaning.specs.Pieces.{read_points, points_of, may_touch, at_place, has_place}
use Rattle.cs_voice_meaning.specs.Placing.{IsPlaced, IsTablePlaced}
use Rattle.cs_voice_meaning.specs.Follows.{Kinds, AreNamed, BothOrNone, AreRelated}
use Rattle.cs_voice_meaning.proofs.Alikes.{Follows}
use Rattle.cs_voice_meaning.proofs.Naming.{place_named, table_named, no_table as no_table_is}
use Rattle.cs_base.specs.declared.resource.Res.TheVariants as res
use Rattle.cs_words.specs.declared.catalogue.Shape.TheVariants as shape

equal : (m n : ℕ) → (m == n) ≡ true → m ≡ n
equal m n h = grind (arith, nat_tests)

pub live_is : (f : Option (List ℤ)) → not (is_some f) ≡ true → f ≡ None
live_is None h = refl
live_is (Some points) h = absurd (cc)

when_taken : (N : Res → Type 0) (b : Bool) (l : List Res) → AreNamed N (if b then l else []) → b ≡ true → AreNamed N l
when_taken N true l h e = h
when_taken N false l h e = absurd (cc)

reached : (a b : Bool) → (not a || b) ≡ true → a ≡ true → b ≡ true
reached true b h e = h
reached false b h e = absurd (cc)

either_wave : (b : Bool) (v w : Wave) → (b ≡ true → v ≡ w) → (if b then v else silence) ≡ (if b then w else silence)
either_wave true v w e = e refl
either_wave false v w e = refl

-- the values in a table after a store
abbrev pub stores : Table → List Wave → ℕ → Wave → Wave
stores t ws n w = stored (places_of_indices t (operand 1 ws)) (operand 0 ws) n w

-- Two models are related, for the named resources and for units of these kinds.
pub record ModelFollows {S U T Y : Type 0} (areas : List Area) (stock : Stock) (piece : Piece) (kinds : Kinds)
    (N : Res → Type 0) (Shares : S → T → Type 0) (Plays : ℕ → U → Y → Type 0) (m : WorldModel S U)
    (k : WorldModel T Y) : Type 0 where
  pub load : (g : Res) (s : S) (t : T) → N g → Shares s t → m.load g s ≡ k.load g t
  pub save : (g : Res) (w : Wave) (s : S) (t : T) → N g → has_value g ≡ true → Shares s t
      → Shares (m.save g (held piece.head.ksmps (res_rate g) w) s) (k.save g (held piece.head.ksmps (res_rate g) w) t)
  pub store : (table : Table) (ws : List Wave) (n : ℕ) (s : S) (t : T) → N (res.Table table.number)
      → IsTablePlaced areas stock table → Shares s t
      → Shares (m.save (res.Table table.number) (stores table ws n (m.load (res.Table table.number) s)) s)
      (k.save (res.Table table.number) (stores table ws n (m.load (res.Table table.number) s)) t)
  pub clear : (clears : Res → Bool) (s : S) (t : T) → Shares s t → Shares (m.clear clears s) (k.clear clears t)
  pub start : (opcode : Opcode) (r : Rate) (u : ℕ) (is : List ℤ) → kinds u ≡ (opcode, r) → IsUnitOpcode opcode
      → Plays u (m.start opcode r is) (k.start opcode r is)
  pub delay : m.delay ≡ k.delay
  pub table : (u : ℕ) (p : U) (h : Y) → Plays u p h → m.table p ≡ k.table h
  pub plays : (opcode : Opcode) (r : Rate) (u : ℕ) (ws : List Wave) (points : List ℤ) (p : U) (h : Y)
      → kinds u ≡ (opcode, r) → Plays u p h → Plays u (m.plays r ws points p).0 (k.plays r ws points h).0
      × (held piece.head.ksmps r (m.plays r ws points p).1 ≡ held piece.head.ksmps r (k.plays r ws points h).1)

abbrev of_piece : {S U : Type 0} → Piece → WorldModel S U → WorldModel S U
of_piece piece m = record m { piece = piece }

module _ {S U T Y : Type 0} (areas : List Area) (stock : Stock) (piece : Piece) (kinds : Kinds) (N : Res → Type 0)
    (earlier : List (List ℤ)) (placed : IsPlaced areas stock piece) (Shares : S → T → Type 0)
    (Plays : ℕ → U → Y → Type 0) (one : WorldModel S U) (two : WorldModel T Y)
    (f : ModelFollows areas stock piece kinds N Shares Plays one two) where
  abbrev m : WorldModel S U
  m = of_piece piece one

  abbrev k : WorldModel T Y
  k = of_piece piece two

  abbrev R : State S U → State T Y → Type 0
  R x y = AreRelated Shares Plays earlier x y

  when : (b : Bool) (x n : State S U) (y o : State T Y) → (b ≡ true → R x y) → R n o
      → R (if b then x else n) (if b then y else o)
  when true x n y o here there = here refl
  when false x n y o here there = there

  -- ---- one part of the state changes

  share : (s : S) (t : T) (x : State S U) (y : State T Y) → Shares s t → R x y
      → R (record x { shared = s }) (record y { shared = t })
  share s t x y h a = grind (arith, common_steps)

  put : (u : ℕ) (p : U) (h : Y) (x : State S U) (y : State T Y) → Plays u p h → R x y
      → R (put_unit u p x) (put_unit u h y)
  put u p h x y plays a = grind (arith, common_steps, equal)

  refuse : (c : Cause) (x : State S U) (y : State T Y) → R x y → R (refused_for c x) (refused_for c y)
  refuse c x y a = grind (arith, common_steps)

  delay : (n : ℕ) (x : State S U) (y : State T Y) → R x y → R (record x { delays = n }) (record y { delays = n })
  delay n x y a = grind (arith, common_steps)

  out : (c : ℕ) (w : Wave) (x : State S U) (y : State T Y) → R x y → R (out_to c w x) (out_to c w y)
  out c w x y a = grind (arith, common_steps)

  -- ---- starts

  begin : (opcode : Opcode) (r : Rate) (u : ℕ) (is : List ℤ) (x : State S U) (y : State T Y) → kinds u ≡ (opcode, r)
      → IsUnitOpcode opcode → R x y → R (begun m opcode r u is x) (begun k opcode r u is y)
  begin opcode r u is x y kind unit a = put u _ _ x y (f.start opcode r u is kind unit) a

  started : (opcode : Opcode) (r : Rate) (u : ℕ) (is : List ℤ) (x : State S U) (y : State T Y) → kinds u ≡ (opcode, r)
      → IsUnitOpcode opcode → R x y → R (starts m opcode r u is x) (starts k opcode r u is y)
  started opcode r u is x y kind unit a =
      grind (arith, common_steps, begin, delay, nat_le, refuse, slice_index_or, when)

  -- ---- units and stores

  points_same : (x : State S U) (y : State T Y) (t : Table) (frozen : Option (List ℤ)) → R x y
      → (frozen ≡ None → N (res.Table t.number))
      → points_of (λ g. loaded m g x) t frozen ≡ points_of (λ g. loaded k g y) t frozen
  points_same x y t (Some points) a n = refl
  points_same x y t None a n =
      ap (λ w. map w (range_with_len 0 t.size)) (f.load (res.Table t.number) x.shared y.shared (n refl) a.shared)

  read_same : (x : State S U) (y : State T Y) (o : Option Table) → R x y
      → ((t : Table) → o ≡ Some t → t.frozen ≡ None → N (res.Table t.number))
      → read_points (λ g. loaded m g x) o ≡ read_points (λ g. loaded k g y) o
  read_same x y None a n = refl
  read_same x y (Some t) a n = ap curve_of (points_same x y t t.frozen a (n t refl))

  unit_points_same : (opcode : Opcode) (reach : Reach) (p : U) (h : Y) (x : State S U) (y : State T Y)
      → m.table p ≡ k.table h → AreNamed N (unit_uses stock opcode reach) → may_touch opcode reach (m.table p) ≡ true
      → R x y → unit_points m opcode p x ≡ unit_points k opcode h y
  unit_points_same opcode reach p h x y table named may a =
      either_points _ (λ takes. read_same x y (find_table piece.tables (m.table p)) a
      (λ t found live. table_named areas stock piece N placed reach (m.table p) t (when_taken _ _ _ named takes)
      (reached _ _ may takes) found live) ∙ ap (λ z. read_points (λ g. loaded k g y) (find_table piece.tables z)) table)
    where
      either_points : (b : Bool) {l n : List ℤ} → (b ≡ true → l ≡ n) → (if b then l else []) ≡ (if b then n else [])
      either_points true e = e refl
      either_points false e = refl

  -- related states and the same result
  abbrev Ran : Rate → State S U × Wave → State T Y × Wave → Type 0
  Ran r v q = R v.0 q.0 × (held piece.head.ksmps r v.1 ≡ held piece.head.ksmps r q.1)

  unit_ran : (opcode : Opcode) (r : Rate) (u : ℕ) (reach : Reach) (ws : List Wave) (o : Option U) (e : Option Y)
      (x : State S U) (y : State T Y) → kinds u ≡ (opcode, r) → AreNamed N (unit_uses stock opcode reach)
      → BothOrNone (Plays u) o e → R x y
      → Ran r (unit_does m opcode r u reach ws o x) (unit_does k opcode r u reach ws e y)
  unit_ran opcode r u reach ws None None x y kind named same a = (a, refl)
  unit_ran opcode r u reach ws None (Some h) x y kind named same a = absurd same
  unit_ran opcode r u reach ws (Some p) None x y kind named same a = absurd same
  unit_ran opcode r u reach ws (Some p) (Some h) x y kind named plays a =
      let table = f.table u p h plays in
      subst (λ z. Ran r (unit_does m opcode r u reach ws (Some p) x)
      (if may_touch opcode reach z then has_run u (k.plays r ws (unit_points k opcode h y) h) y else
      (y, silence))) table (by (may_touch opcode reach (m.table p)) _ _ (λ may.
      subst (λ l. Ran r (has_run u (m.plays r ws (unit_points m opcode p x) p) x) (has_run u (k.plays r ws l h) y))
      (unit_points_same opcode reach p h x y table named may a) (full (unit_points m opcode p x))))
    where
      full : (l : List ℤ) → Ran r (has_run u (m.plays r ws l p) x) (has_run u (k.plays r ws l h) y)
      full l = let on = f.plays opcode r u ws l p h kind plays in (put u _ _ x y on.0 a, on.1)

      by : (b : Bool) (v : State S U × Wave) (q : State T Y × Wave) → (b ≡ true → Ran r v q)
          → Ran r (if b then v else (x, silence)) (if b then q else (y, silence))
      by true v q h = h refl
      by false v q h = (a, refl)

  table_alike : (r : Rate) (ws : List Wave) (o : Option Table) (x : State S U) (y : State T Y)
      → ((t : Table) → o ≡ Some t → t.frozen ≡ None → N (res.Table t.number) × IsTablePlaced areas stock t) → R x y
      → R (store_into m r ws o x) (store_into k r ws o y)
  table_alike r ws None x y named a = a
  table_alike r ws (Some t) x y named a = grind (arith, common_steps, live_is, share, when)

  store_alike : (r : Rate) (reach : Reach) (ws : List Wave) (i : Option ℕ) (x : State S U) (y : State T Y)
      → AreNamed N (tables_within stock reach) → R x y → R (store_at m r reach ws i x) (store_at k r reach ws i y)
  store_alike r reach ws None x y named a = a
  store_alike r reach ws (Some n) x y named a = when (reaches reach n) _ x _ y
      (λ touches. table_alike r ws (find_table piece.tables (pos n)) x y (λ t found live. (
        table_named areas stock piece N placed reach (pos n) t named touches found live,
        placed.tables (pos n) t found live,
      )) a) a

  -- ---- zak places

  place_alike : (sp : Space) (reach : Reach) (i : Option ℕ) (x : State S U) (y : State T Y) (v : Res → State S U)
      (w : Res → State T Y) → AreNamed N (places_within stock sp reach) → R x y
      → ((z : Res) → N z → has_value z ≡ true → R (v z) (w z))
      → R (at_place piece sp reach i x v) (at_place piece sp reach i y w)
  place_alike sp reach None x y v w named a each = a
  place_alike sp reach (Some n) x y v w named a each =
      when (has_place piece sp reach n) (v (zak_place sp n)) x (w (zak_place sp n)) y (λ there. each (zak_place sp n)
      (place_named N stock piece.spaces sp reach n placed.spaces named there) (no_table_is sp n)) a

  place_wave : (sp : Space) (reach : Reach) (i : Option ℕ) (x : State S U) (y : State T Y)
      → AreNamed N (places_within stock sp reach) → R x y
      → at_place piece sp reach i silence (λ g. loaded m g x) ≡ at_place piece sp reach i silence (λ g. loaded k g y)
  place_wave sp reach None x y named a = refl
  place_wave sp reach (Some n) x y named a = either_wave _ _ _ (λ there. f.load (zak_place sp n) x.shared y.shared
      (place_named _ stock _ _ _ _ placed.spaces named there) a.shared)

  save_alike : (g : Res) (w : Wave) (x : State S U) (y : State T Y) → N g → has_value g ≡ true → R x y
      → R (saved m g w x) (saved k g w y)
  save_alike g w x y n t a = share _ _ x y (f.save g w x.shared y.shared n t a.shared) a

  mixed_alike : (g : Res) (v : Wave) (x : State S U) (y : State T Y) → N g → has_value g ≡ true → R x y
      → R (saved m g (added (loaded m g x) v) x) (saved k g (added (loaded k g y) v) y)
  mixed_alike g v x y n t a = grind (arith, common_steps, save_alike)

  zak_alike : (sh : Shape) (reach : Reach) (ws : List Wave) (x : State S U) (y : State T Y)
      → AreNamed N (shape_uses stock sh reach) → R x y → R (zak_does m sh reach ws x).0 (zak_does k sh reach ws y).0
      × ((zak_does m sh reach ws x).1 ≡ (zak_does k sh reach ws y).1)
  zak_alike (shape.ZakGet sp) reach ws x y named a = (a, place_wave sp reach (index (operand 0 ws 0)) x y named a)
  zak_alike (shape.ZakPut sp) reach ws x y named a = grind (arith, common_steps, place_alike, save_alike)
  zak_alike shape.ZakMix reach ws x y named a = grind (arith, common_steps, mixed_alike, place_alike)
  zak_alike (shape.ZakClear sp) reach ws x y named a = grind (arith, common_steps, share)
  zak_alike _ reach ws x y named a = (a, refl)

  out_at_alike : (i : Option ℕ) (w : Wave) (x : State S U) (y : State T Y) → R x y
      → R (out_to_numbered piece.head.nchnls i w x) (out_to_numbered piece.head.nchnls i w y)
  out_at_alike None w x y a = a
  out_at_alike (Some n) w x y a = when _ _ _ _ _ (λ there. out (n - 1) w x y a) a

  -- ---- the complete world

  pub models_follow : Follows stock kinds N (world_of (of_piece piece one)) (world_of (of_piece piece two))
      (AreRelated Shares Plays earlier)
  models_follow = record {
    ksmps = refl;
    field = refl;
    head = refl;
    load = λ g x y n a. f.load g x.shared y.shared n a.shared;
    save = λ g w x y n t a. save_alike g w x y n t a;
    start = started;
    does = λ opcode r u reach ws x y kind named a.
        unit_ran opcode r u reach ws (x.units u) (y.units u) x y kind named (a.units u) a;
    seek = λ is x y a. when (lacks_table m is) _ x _ y (λ e. refuse (no_table (table_number is)) x y a) a;
    store = λ r reach ws x y named a. store_alike r reach ws (index (operand 2 ws 0)) x y named a;
    zak = λ opcode reach ws x y named a. zak_alike (row_of opcode).shape reach ws x y named a;
    out = out;
    out_at = λ i w x y a. out_at_alike (index (i 0)) w x y a;
    turnoff = λ x y a. record {
      shared = a.shared;
      units = a.units;
      delays = a.delays;
      outs = a.outs;
      ended = refl;
      asks = a.asks;
      cause = a.cause;
    };
    ask = λ is x y a. record {
      shared = a.shared;
      units = a.units;
      delays = a.delays;
      outs = a.outs;
      ended = a.ended;
      asks = ap (λ l. l ++ is ∷ []) a.asks ∙ append_assoc earlier x.asks (is ∷ []);
      cause = a.cause;
    };
    refused = λ x y a. ap is_some a.cause;
  }
