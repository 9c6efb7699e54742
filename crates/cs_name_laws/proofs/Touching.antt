-- All resources that a note may read or write exist.
use Rattle.std.proofs.Common.{◌≡◌, ◌<◌, ◌+◌, ◌==◌, ℕ, Bool, true, false, nat_lt, List, [], ◌∷◌, ◌++◌, filter, get_or}
use Rattle.std.proofs.Common.{arith, subst, if◌then◌else◌}
use Rattle.std.specs.List.{All, Contains, flat_map, list_any, range_with_len}
use Rattle.std.proofs.lemmas.{Bool.Decides.nat_tests, List.Concat.flat_map-cons, List.Folds.list_any_at}
use Rattle.std.proofs.lemmas.List.Elements.{All-cons, All-nil, All-head, All-tail, All-append, All-contains, All-filter}
use Rattle.std.proofs.lemmas.List.Elements.{All-map, All-same}
use Rattle.std.proofs.lemmas.List.FromFn.{get_or-range_with_len, length-range_with_len}
use Rattle.cs_base.specs.{declared.resource.Rate.Rate, declared.resource.Res.Res, declared.spaces.Spaces.Spaces}
use Rattle.cs_words.specs.{Catalogue.row_of, Catalogue.takes_table, declared.catalogue.Opcode.Opcode}
use Rattle.cs_words.specs.{declared.catalogue.Shape.Shape, declared.catalogue.Space.Space}
use Rattle.cs_ir.specs.Resources.{Stock, may_use, places_of, zak_place, reaches, tables_within, places_within}
use Rattle.cs_ir.specs.{Resources.shape_uses, Resources.unit_uses, Resources.zak_uses, declared.op.Reach.Reach}
use Rattle.cs_meaning.specs.Core.{Stmt, Block, Arms, set, unit, zak, store, out, out_at, ask, choose, no_stmt, andthen}
use Rattle.cs_meaning.specs.{Core.otherwise, Core.arm, Core.core, Uses.block_begins}
use Rattle.cs_meaning.specs.Uses.{When, beginning, cycle, done_at, var_uses, vars_use, expr_reads, exprs_read}
use Rattle.cs_meaning.specs.Uses.{expr_used, exprs_used, stmt_touched, block_touched, arms_touched, block_uses}
use Rattle.cs_typed.specs.{Variables.EachInExpression, declared.tree.Var.Var as Variable}
use Rattle.cs_typed.specs.TypedTree.{SharedNames, Expression, number, var, field, head, neg, pair, pick, apply}
use Rattle.cs_typed.specs.declared.tree.Var.TheVariants.{Local, Global}
use Rattle.cs_name_laws.specs.Names.{is_named, is_there, IsNamed, IsNamedBlock}
use Rattle.cs_name_laws.proofs.NamedCore.{IsNamedCore, IsNamedCoreBlock, AreNamedCoreArms, block_core}
use Rattle.cs_base.specs.declared.resource.Rate.TheVariants as rate
use Rattle.cs_base.specs.declared.resource.Res.TheVariants as res
use Rattle.cs_words.specs.declared.catalogue.Shape.TheVariants as shape
use Rattle.cs_words.specs.declared.catalogue.Space.TheVariants as space
use Rattle.cs_typed.specs.TypedTree as typed

module _ (names : SharedNames) (stock : Stock) where
  abbrev There : Res → Type 0
  There g = is_there names stock g ≡ true

  abbrev AreThere : List Res → Type 0
  AreThere gs = All There gs

  none : AreThere []
  none = All-nil There

  both : (gs hs : List Res) → AreThere gs → AreThere hs → AreThere (gs ++ hs)
  both gs hs p q = All-append There gs hs p q

  by_rate : (w : When) (r : Rate) (once kept each : List Res) → AreThere once → AreThere kept
      → AreThere each → AreThere (done_at w r once kept each)
  by_rate beginning rate.Init once kept each p q s = p
  by_rate beginning r once kept each p q s = q
  by_rate cycle rate.Init once kept each p q s = none
  by_rate cycle r once kept each p q s = s

  -- ---- names

  named_there : (g : Res) → is_named names g ≡ true → There g
  named_there (res.Gi n) h = h
  named_there (res.Gk n) h = h
  named_there (res.Ga n) h = h
  named_there (res.Control n) h = h
  named_there (res.Sound n) h = h
  named_there g h = absurd (cc h)

  var_there : (v : Variable) → IsNamed names v → AreThere (var_uses v)
  var_there (Local r n) h = none
  var_there (Global g) h = All-cons There g [] (named_there g h) none

  vars_there : (vs : List Variable) → All (IsNamed names) vs → AreThere (vars_use vs)
  vars_there [] h = none
  vars_there (v ∷ vs) h = var_there v (All-head (IsNamed names) v vs h)

  reads_there : (e : Expression) → EachInExpression (IsNamed names) e → AreThere (expr_reads e)
  reads_there (var r v) h = var_there v h
  reads_there (neg r a) h = reads_there a h
  reads_there (pair r o a b) h = both (expr_reads a) (expr_reads b) (reads_there a h.0) (reads_there b h.1)
  reads_there (pick r c a b) h = both _ _ (reads_there c h.0) (both _ _ (reads_there a h.1) (reads_there b h.2))
  reads_there (apply r f a) h = reads_there a h
  reads_there e h = none

  uses_there : (w : When) (e : Expression) → EachInExpression (IsNamed names) e → AreThere (expr_used w e)
  uses_there w (var r v) h =
      let there = var_there v h in by_rate w r (var_uses v) [] (var_uses v) there none there
  uses_there w (neg r a) h =
      let part = uses_there w a h in
      by_rate w r (expr_reads a) (expr_used w a) (expr_used w a) (reads_there a h) part part
  uses_there w (pair r o a b) h =
      let there = both _ _ (uses_there w a h.0) (uses_there w b h.1) in
      by_rate w r (expr_reads a ++ expr_reads b) _ _ (reads_there (pair r o a b) h) there there
  uses_there w (pick r c a b) h =
      let there = both _ _ (uses_there w c h.0) (both _ _ (uses_there w a h.1) (uses_there w b h.2)) in
      by_rate w r (expr_reads c ++ (expr_reads a ++ expr_reads b)) _ _ (reads_there (pick r c a b) h) there there
  uses_there w (apply r f a) h =
      let part = uses_there w a h in
      by_rate w r (expr_reads a) (expr_used w a) (expr_used w a) (reads_there a h) part part
  uses_there w e h = none

  -- the resources of each expression of a list
  each_there : (f : Expression → List Res) → ((e : Expression) → EachInExpression (IsNamed names) e → AreThere (f e))
      → (es : List Expression) → All (EachInExpression (IsNamed names)) es → AreThere (flat_map f es)
  each_there f one [] h = none
  each_there f one (e ∷ es) h =
      All-same There (flat_map f (e ∷ es)) (f e ++ flat_map f es) (flat_map-cons f e es)
      (both (f e) (flat_map f es) (one e (All-head (EachInExpression (IsNamed names)) e es h))
      (each_there f one es (All-tail (EachInExpression (IsNamed names)) e es h)))

  use_there : (w : When) (es : List Expression) → All (EachInExpression (IsNamed names)) es → AreThere (exprs_used w es)
  use_there w es h = each_there (expr_used w) (uses_there w) es h

  read_there : (es : List Expression) → All (EachInExpression (IsNamed names)) es → AreThere (exprs_read es)
  read_there es h = each_there expr_reads reads_there es h

  -- ---- units

  same_number : (m : ℕ) → (m == m) ≡ true
  same_number m = grind (arith, nat_tests)

  live_there : (xs : List ℕ) → All (λ n. list_any (λ m. m == n) xs ≡ true) xs
  live_there xs k d low = list_any_at (λ m. m == get_or xs k d) xs k d low (same_number (get_or xs k d))

  tables_there : (r : Reach) → AreThere (tables_within stock r)
  tables_there r =
      All-map There res.Table (filter (reaches r) stock.live)
      (All-filter (reaches r) (λ n. There (res.Table n)) stock.live (live_there stock.live))

  in_range : (count : ℕ) → All (λ n. nat_lt n count ≡ true) (range_with_len 0 count)
  in_range count k d low =
      let under : k < count = subst (λ n. k < n) (length-range_with_len 0 count) low in
      let is : get_or (range_with_len 0 count) k d ≡ 0 + k = get_or-range_with_len 0 count k d under in
      let lower : (n : ℕ) → n ≡ 0 + k → nat_lt n count ≡ true = λ n e. grind (arith, nat_tests) in
      lower (get_or (range_with_len 0 count) k d) is

  place_there : (s : Space) (n : ℕ) → nat_lt n (places_of stock.spaces s) ≡ true → There (zak_place s n)
  place_there space.Control n h = h
  place_there space.Audio n h = h

  places_there : (s : Space) (r : Reach) → AreThere (places_within stock s r)
  places_there s r =
      let all = range_with_len 0 (places_of stock.spaces s) in
      All-map There (zak_place s) (filter (reaches r) all) (All-filter (reaches r) (λ n. There (zak_place s n)) all
      (λ k d low. place_there s (get_or all k d) (in_range (places_of stock.spaces s) k d low)))

  if_table : (b : Bool) (r : Reach) → AreThere (if b then tables_within stock r else [])
  if_table true r = tables_there r
  if_table false r = none

  unit_there : (opcode : Opcode) (r : Reach) → AreThere (unit_uses stock opcode r)
  unit_there opcode r = if_table (takes_table opcode) r

  shape_there : (sh : Shape) (r : Reach) → AreThere (shape_uses stock sh r)
  shape_there (shape.ZakGet s) r = places_there s r
  shape_there (shape.ZakPut s) r = places_there s r
  shape_there shape.ZakMix r = places_there space.Audio r
  shape_there (shape.ZakClear s) r = places_there s r
  shape_there sh r = none

  zak_there : (opcode : Opcode) (r : Reach) → AreThere (zak_uses stock opcode r)
  zak_there opcode r = shape_there (row_of opcode).shape r

  -- ---- statements

  mutual
    stmt_there : (w : When) (x : Stmt) → IsNamedCore names x → AreThere (stmt_touched may_use w stock x)
    stmt_there w (set r v e) h =
        let value = uses_there w e h.1 in
        let variable = var_there _ h.0 in
        by_rate w r (expr_reads e ++ var_uses v) (expr_used w e) (expr_used w e ++ var_uses v)
        (both (expr_reads e) _ (reads_there e h.1) variable) value (both (expr_used w e) _ value variable)
    stmt_there w (unit r vs opcode reach xs is) h =
        let own = both _ _ (unit_there _ _) (vars_there _ h.0) in
        let moving = use_there _ _ h.1 in
        let settled = read_there _ h.2 in
        by_rate _ _ _ _ _ (both _ _ settled (both _ _ (read_there _ h.1) own)) (both _ _ moving settled)
        (both _ _ moving own)
    stmt_there w (zak r vs opcode reach xs) h =
        let own = both _ _ (zak_there _ _) (vars_there _ h.0) in
        let moving = use_there _ _ h.1 in
        by_rate _ _ _ _ _ (both _ _ (read_there _ h.1) own) moving (both _ _ moving own)
    stmt_there w (store r reach es is) h =
        let own = tables_there _ in
        let moving = use_there _ _ h.0 in
        let settled = read_there _ h.1 in
        by_rate _ _ _ _ _ (both _ _ settled (both _ _ (read_there _ h.0) own)) (both _ _ moving settled)
        (both _ _ moving own)
    stmt_there w (out r es) h = use_there w es h
    stmt_there w (out_at r es) h = use_there w es h
    stmt_there w (ask es) h = by_rate w rate.Init (exprs_read es) [] [] (read_there es h) none none
    stmt_there w (choose r list) h = arms_there w list h
    stmt_there w x h = none

    block_there : (w : When) (b : Block) → IsNamedCoreBlock names b → AreThere (block_touched may_use w stock b)
    block_there w no_stmt h = none
    block_there w (andthen x rest) h = both _ _ (stmt_there w x h.0) (block_there w rest h.1)

    arms_there : (w : When) (list : Arms) → AreNamedCoreArms names list → AreThere (arms_touched may_use w stock list)
    arms_there w (otherwise b) h = block_there w b h
    arms_there w (arm c b rest) h =
        both _ _ (uses_there w c h.0) (both _ _ (block_there w b h.1) (arms_there w rest h.2))

pub touched : (names : SharedNames) (b : typed.Block) → IsNamedBlock names b → (spaces : Spaces) (stock : Stock)
    (g : Res) → Contains (block_uses stock (core spaces b) ++ block_begins stock (core spaces b)) g
    → is_there names stock g ≡ true
touched names b h spaces stock g there =
    let c = core spaces b in
    let named = block_core _ _ _ h in
    All-contains (There names stock) (block_uses stock c ++ block_begins stock c) g
    (both names stock _ _ (block_there _ _ _ _ named) (block_there _ _ _ _ named)) there
