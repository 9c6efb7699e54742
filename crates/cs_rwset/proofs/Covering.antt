-- The resources that numbers of tables and places reach, in a layout.
use Rattle.std.proofs.Common.{◌≡◌, ◌<◌, ◌≤◌, ◌↔◌, ℕ, zero, suc, List, [], ◌∷◌, Option, Some, None, Bool, true, false}
use Rattle.std.proofs.Common.{◌||◌, nat_le, nat_lt, refl, sym, ◌∙◌, ap, subst, arith, ⊎_elim, if◌then◌else◌}
use Rattle.std.specs.List.{Contains, cons_option, filter, range_with_len}
use Rattle.std.proofs.lemmas.{Bool.and_from, Bool.and_parts, Bool.or_left, Bool.Decides.nat_tests}
use Rattle.std.proofs.lemmas.List.Elements.{Contains-append_left, Contains-append_right, Contains-append_cases}
use Rattle.cs_base.specs.{Rates.same_res, declared.resource.Res.Res}
use Rattle.cs_words.specs.{Catalogue.row_of, declared.catalogue.Space.Space}
use Rattle.cs_cells.specs.{Areas.HasPlace, declared.footprint.Area.Area}
use Rattle.cs_ir.specs.Resources.{Stock, act_uses, act_writes, ops_use, ops_write, places_of, places_within, reaches}
use Rattle.cs_ir.specs.Resources.{tables_within, writes_places, zak_place, zak_uses}
use Rattle.cs_ir.specs.{declared.op.Act.Act, declared.op.Op.Op, declared.op.Reach.Reach, declared.touches.Touch.Touch}
use Rattle.cs_rwset.specs.Footprints.{is_among, place_count, places_holding, stock_of, table_number}
use Rattle.cs_ir.specs.Touched.{covers, resources}
use Rattle.cs_rwset.proofs.Placed.{exact_places, places_exact, among_contains, contains_among, contains_none}
use Rattle.cs_rwset.proofs.Placed.{contains_first, contains_rest, contains_filter, filter_contains, map_contains}
use Rattle.cs_rwset.proofs.Placed.{contains_map, contains_range, range_contains, same_tests}
use Rattle.cs_base.specs.declared.resource.Res.TheVariants as res
use Rattle.cs_words.specs.declared.catalogue.Space.TheVariants as space
use Rattle.cs_ir.specs.declared.op.Act.TheVariants as act
use Rattle.cs_ir.specs.declared.op.Reach.TheVariants as reach
use Rattle.cs_ir.specs.declared.touches.Touch.TheVariants as touch

-- a table that has an area is live
number_first : (n : ℕ) (o : Option ℕ) (xs : List ℕ) → o ≡ Some n → Contains (cons_option o xs) n
number_first n None xs e = absurd cc
number_first n (Some m) xs e = subst (λ k. Contains (k ∷ xs) n) (sym (let f = e in cc)) (contains_first n xs)

number_rest : (n : ℕ) (o : Option ℕ) (xs : List ℕ) → Contains xs n → Contains (cons_option o xs) n
number_rest n None xs h = h
number_rest n (Some m) xs h = contains_rest m n xs h

pub table_is_live : (areas : List Area) (n place : ℕ) → HasPlace areas (res.Table n) place
    → Contains (stock_of areas).live n
table_is_live [] n place h = absurd (let e = h.1 in cc)
table_is_live (a ∷ areas) n zero h =
    let is : a.res ≡ res.Table n = let e = h.1 in let f = h.2 in cc in
    number_first n (table_number a.res) (stock_of areas).live (ap table_number is)
table_is_live (a ∷ areas) n (suc place) h =
    number_rest n (table_number a.res) (stock_of areas).live (table_is_live areas n place h)

-- the resources that are named: tables, and places
pub table_named : (stock : Stock) (r : Reach) (g : Res) → Contains (tables_within stock r) g
    → (n : ℕ) × Contains stock.live n × (reaches r n ≡ true) × (res.Table n ≡ g)
table_named stock r g h =
    let m = map_contains res.Table (filter (reaches r) stock.live) g h in
    let f = filter_contains (reaches r) stock.live m.0 m.1 in (m.0, f.0, f.1, m.2)

pub named_table : (stock : Stock) (r : Reach) (n : ℕ) → Contains stock.live n → reaches r n ≡ true
    → Contains (tables_within stock r) (res.Table n)
named_table stock r n h e =
    contains_map res.Table (filter (reaches r) stock.live) n (contains_filter (reaches r) stock.live n h e)

pub place_named : (stock : Stock) (s : Space) (r : Reach) (g : Res) → Contains (places_within stock s r) g
    → (n : ℕ) × (n < places_of stock.spaces s) × (reaches r n ≡ true) × (zak_place s n ≡ g)
place_named stock s r g h =
    let m = map_contains (zak_place s) (filter (reaches r) (range_with_len 0 (places_of stock.spaces s))) g h in
    let f = filter_contains (reaches r) (range_with_len 0 (places_of stock.spaces s)) m.0
    m.1 in (m.0, range_contains (places_of stock.spaces s) m.0 f.0, f.1, m.2)

pub named_place : (stock : Stock) (s : Space) (r : Reach) (n : ℕ) → n < places_of stock.spaces s → reaches r n ≡ true
    → Contains (places_within stock s r) (zak_place s n)
named_place stock s r n l e =
    contains_map (zak_place s) (filter (reaches r) (range_with_len 0 (places_of stock.spaces s))) n
    (contains_filter (reaches r) (range_with_len 0 (places_of stock.spaces s)) n
    (contains_range (places_of stock.spaces s) n l) e)

-- a literal number reaches only itself
pub literal_reaches : (n : ℕ) → reaches (reach.Span n n) n ≡ true
literal_reaches n = grind (arith, nat_tests)

pub literal_alone : (n m : ℕ) → reaches (reach.Span n n) m ≡ true → m ≡ n
literal_alone n m h =
    let b = and_parts (nat_le n m) (nat_le m n) h in let c = b.0 in let d = b.1 in grind (arith, nat_tests)

-- a span reaches exactly the numbers within it
pub span_within : (first last n : ℕ) → reaches (reach.Span first last) n ≡ true → (first ≤ n) × (n ≤ last)
span_within first last n h =
    let b = and_parts (nat_le first n) (nat_le n last) h in let c = b.0 in let d =
    b.1 in (grind (arith, nat_tests), grind (arith, nat_tests))

pub within_span : (first last n : ℕ) → first ≤ n → n ≤ last → reaches (reach.Span first last) n ≡ true
within_span first last n l m =
    and_from (nat_le first n) (nat_le n last) (grind (arith, nat_tests)) (grind (arith, nat_tests))

-- a written resource is also a used one
pub act_written_is_used : (stock : Stock) (a : Act) (r : Res) → Contains (act_writes stock a) r
    → Contains (act_uses stock a) r
act_written_is_used stock (act.Save g) r h = h
act_written_is_used stock (act.Store reach) r h = h
act_written_is_used stock (act.Zak opcode reach) r h = by (writes_places (row_of opcode).shape) h
  where
    by : (b : Bool) → Contains (if b then zak_uses stock opcode reach else []) r
        → Contains (zak_uses stock opcode reach) r
    by true k = k
    by false k = absurd (contains_none r k)
act_written_is_used stock a r h = absurd (contains_none r h)

pub ops_written_is_used : (stock : Stock) (ops : List Op) (r : Res) → Contains (ops_write stock ops) r
    → Contains (ops_use stock ops) r
ops_written_is_used stock [] r h = h
ops_written_is_used stock (o ∷ ops) r h =
    ⊎_elim (λ here. Contains-append_left (act_uses stock o.act) (ops_use stock ops) r
    (act_written_is_used stock o.act r here))
    (λ later. Contains-append_right (act_uses stock o.act) (ops_use stock ops) r
    (ops_written_is_used stock ops r later)) (Contains-append_cases (act_writes stock o.act) (ops_write stock ops) r h)

or_none : (b : Bool) → (b || false) ≡ true → b ≡ true
or_none true h = refl
or_none false h = absurd cc

one_only : (r o : Res) → is_among (o ∷ []) r ≡ true → same_res r o ≡ true
one_only r o h = or_none (same_res r o) h

only_one : (r o : Res) → same_res r o ≡ true → is_among (o ∷ []) r ≡ true
only_one r o h = or_left (same_res r o) false h

-- An area's resource passes the test if and only if it is among the named resources.
module _ (areas : List Area) (place : ℕ) (g : Res) (h : HasPlace areas g place) where
  abbrev pub stock : Stock
  stock = stock_of areas

  covered_is_named : (n : Touch) (r : Res) → r ≡ g → covers stock.spaces n r ≡ true → Contains (resources stock n) r
  covered_is_named (touch.One o) r e c = among_contains (o ∷ []) r (only_one r o c)
  covered_is_named (touch.Tables reach) (res.Table n) e c =
      named_table stock reach n (table_is_live areas n place (h.0, h.1, h.2 ∙ sym e)) c
  covered_is_named (touch.Places space.Control reach) (res.ZakK n) e c =
      let b = and_parts (nat_lt n stock.spaces.control) (reaches reach n) c in
      let b0 = b.0 in named_place stock space.Control reach n (grind (arith, nat_tests)) b.1
  covered_is_named (touch.Places space.Audio reach) (res.ZakA n) e c =
      let b = and_parts (nat_lt n stock.spaces.audio) (reaches reach n) c in
      let b0 = b.0 in named_place stock space.Audio reach n (grind (arith, nat_tests)) b.1
  covered_is_named n r e c = absurd cc

  named_is_covered : (n : Touch) (r : Res) → Contains (resources stock n) r → covers stock.spaces n r ≡ true
  named_is_covered (touch.One o) r k = let x = contains_among (o ∷ []) r k in one_only r o x
  named_is_covered (touch.Tables reach) r k =
      let t = table_named stock reach r k in subst (λ q. covers stock.spaces (touch.Tables reach) q ≡ true) t.3 t.2
  named_is_covered (touch.Places space.Control reach) r k =
      let t = place_named stock space.Control reach r k in
      let l = t.1 in
      subst (λ q. covers stock.spaces (touch.Places space.Control reach) q ≡ true) t.3
      (and_from (nat_lt t.0 stock.spaces.control) (reaches reach t.0) (grind (arith, nat_tests)) t.2)
  named_is_covered (touch.Places space.Audio reach) r k =
      let t = place_named stock space.Audio reach r k in
      let l = t.1 in
      subst (λ q. covers stock.spaces (touch.Places space.Audio reach) q ≡ true) t.3
      (and_from (nat_lt t.0 stock.spaces.audio) (reaches reach t.0) (grind (arith, nat_tests)) t.2)

  pub covers_named : (n : Touch) → covers stock.spaces n g ≡ is_among (resources stock n) g
  covers_named n =
      same_tests (covers stock.spaces n g) (is_among (resources stock n) g)
      (λ c. contains_among (resources stock n) g (covered_is_named n g refl c))
      (λ c. named_is_covered n g (among_contains (resources stock n) g c))

-- ---- the places of resources named by numbers

module _ (areas : List Area) where
  pub table_places : (r : Reach) (place : ℕ) → Contains (places_holding areas (tables_within (stock_of areas) r)) place
      ↔ ((n : ℕ) × (reaches r n ≡ true) × HasPlace areas (res.Table n) place)
  table_places r place = (
    λ h. let e = places_exact areas (tables_within (stock_of areas) r) place h in
        let t = table_named (stock_of areas) r e.0 e.1 in
        (t.0, t.2, subst (λ g. HasPlace areas g place) (sym t.3) e.2),
    λ h. exact_places areas (tables_within (stock_of areas) r) place (res.Table h.0)
        (named_table (stock_of areas) r h.0 (table_is_live areas h.0 place h.2) h.1) h.2,
  )

  count_is : (s : Space) → place_count areas s ≡ places_of (stock_of areas).spaces s
  count_is space.Control = refl
  count_is space.Audio = refl

  pub zak_places : (s : Space) (r : Reach) (place : ℕ)
      → Contains (places_holding areas (places_within (stock_of areas) s r)) place
      ↔ ((n : ℕ) × (n < place_count areas s) × (reaches r n ≡ true) × HasPlace areas (zak_place s n) place)
  zak_places s r place = (
    λ h. let e = places_exact areas (places_within (stock_of areas) s r) place h in
        let t = place_named (stock_of areas) s r e.0 e.1 in
        (t.0, subst (λ k. t.0 < k) (sym (count_is s)) t.1, t.2, subst (λ g. HasPlace areas g place) (sym t.3) e.2),
    λ h. exact_places areas (places_within (stock_of areas) s r) place (zak_place s h.0)
        (named_place (stock_of areas) s r h.0 (subst (λ k. h.0 < k) (count_is s) h.1) h.2) h.3,
  )
