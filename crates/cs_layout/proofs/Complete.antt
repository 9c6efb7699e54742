-- The layout of a piece has an area for each resource of the piece.
use Rattle.std.proofs.Common.{◌≡◌, ℕ, zero, suc, ◌+◌, ◌<◌, ◌==◌, ◌||◌, ◌&&◌, Bool, true, false, List, [], ◌∷◌, ◌++◌}
use Rattle.std.proofs.Common.{length, map, take, nat_lt, nat_le, arith, ap, sym, ◌∙◌, refl, subst, slice_get, Option}
use Rattle.std.proofs.{Common.Some, Common.None, Math.Bool.or-false}
use Rattle.std.specs.{List.All, List.filter_map, List.list_any, List.range_with_len, Option.is_some}
use Rattle.std.proofs.lemmas.{Bool.Decides.nat_tests, List.Folds.list_any-append}
use Rattle.std.proofs.lemmas.List.Elements.{All-head, All-tail}
use Rattle.cs_base.specs.{Rates.res_rate, Rates.same_res, declared.resource.Res.Res, declared.spaces.Spaces.Spaces}
use Rattle.cs_base.proofs.Tests.{by_test, some_is}
use Rattle.cs_cells.specs.{Areas.IsLaid, Areas.word_count, declared.footprint.Area.Area}
use Rattle.cs_ir.specs.Validity.{has_value}
use Rattle.cs_layout.specs.Layouts.{SharedCells, numbered, of_tables, shared_by, areas_of, is_shared, AreApart, AreLive}
use Rattle.cs_layout.specs.{Layouts.AreOfPiece, Layouts.IsLive, declared.areas.GroupKind.GroupKind, inner.Groups.res_of}
use Rattle.cs_layout.specs.declared.areas.LiveTable.{LiveTable}
use Rattle.cs_layout.proofs.Laid.{laid_at, is_there, found_at}
use Rattle.cs_layout.proofs.{Sharing.position, Sharing.is_at, Counted.spaces_are}
use Rattle.cs_layout.proofs.Tails.{from_gk, from_ga, from_control, from_sound, from_zk, from_za}
use Rattle.cs_meaning.specs.Pieces.{Piece, Table}
use Rattle.cs_machine.proofs.Curved.{some_points}
use Rattle.cs_rwset.specs.Footprints.{stock_of, table_number}
use Rattle.cs_voice_meaning.specs.Placing.{IsPlaced, IsTablePlaced, area_of, cell_count, is_table_size}
use Rattle.cs_typed.specs.TypedTree.{SharedNames}
use Rattle.cs_base.specs.declared.resource.Res.TheVariants as res
use Rattle.cs_layout.specs.declared.areas.GroupKind.TheVariants as kind

-- each resource has an area at its own position
record IsAreaAt (ksmps : ℕ) (names : SharedNames) (spaces : Spaces) (live : List LiveTable) (p : ℕ) (area : Area) : Type
    0 where
  place : p ≡ position ksmps names spaces live area.res
  cells : has_value area.res ≡ true → area.length ≡ cell_count ksmps (res_rate area.res)
  begins : area.first ≡ word_count (take p (areas_of ksmps names spaces live))

area_at : (ksmps : ℕ) (names : SharedNames) (spaces : Spaces) (live : List LiveTable) → AreApart live
    → (p : ℕ) (area : Area)
    → slice_get (areas_of ksmps names spaces live) p ≡ Some area → IsAreaAt ksmps names spaces live p area
area_at ksmps names spaces live apart p area e =
    let here = laid_at 0 (shared_by ksmps names spaces live) p area e in
    let at = is_at ksmps names spaces live apart p here.what here.there in
    record {
      place = at.place ∙ ap (position ksmps names spaces live) (sym here.res);
      cells = λ h. here.long ∙ at.cells (subst (λ r. has_value r ≡ true) here.res h)
          ∙ ap (λ r. cell_count ksmps (res_rate r)) (sym here.res);
      begins = omega (arith, here.begins);
    }

pub is_laid : (ksmps : ℕ) (names : SharedNames) (spaces : Spaces) (live : List LiveTable) → AreApart live
    → IsLaid (areas_of ksmps names spaces live)
is_laid ksmps names spaces live apart = record {
  follows = λ p area e. (area_at ksmps names spaces live apart p area e).begins;
  apart = λ p q r (a, e, f) (b, g, h).
      (area_at ksmps names spaces live apart p a e).place ∙ ap (position ksmps names spaces live) (f ∙ sym h)
      ∙ sym (area_at ksmps names spaces live apart q b g).place;
}

pub cells_of : (ksmps : ℕ) (names : SharedNames) (spaces : Spaces) (live : List LiveTable) → AreApart live
    → (g : Res) (area : Area)
    → area_of (areas_of ksmps names spaces live) g ≡ Some area → has_value g ≡ true
    → area.length ≡ cell_count ksmps (res_rate g)
cells_of ksmps names spaces live apart g area e h =
    let found = found_at (areas_of ksmps names spaces live) g area e in
    (area_at ksmps names spaces live apart found.place area found.there).cells
    (subst (λ r. has_value r ≡ true) (sym found.res) h)
    ∙ ap (λ r. cell_count ksmps (res_rate r)) found.res

-- whether one of some resources of a kind is a resource
abbrev any_of : Res → List SharedCells → Bool
any_of g ss = list_any (λ s. same_res s.res g) ss

none_from : (kind : ℕ → Res) (g : Res) (a count cells : ℕ) → ((n : ℕ) → same_res (kind n) g ≡ false)
    → any_of g (map (λ n. record { res = kind n; cells = cells }) (range_with_len a count)) ≡ false
none_from kind g a zero cells h = refl
none_from kind g a (suc count) cells h = rw (h a) (none_from kind g (a + 1) count cells h)

one_from : (kind : ℕ → Res) (g : Res) (k a count cells : ℕ) → ((n : ℕ) → same_res (kind n) g ≡ (n == k))
    → any_of g (map (λ n. record { res = kind n; cells = cells }) (range_with_len a count))
    ≡ (nat_le a k && nat_lt k (a + count))
one_from kind g k a zero cells h = grind (arith, nat_tests)
one_from kind g k a (suc count) cells h = rw (h a, one_from kind g k (a + 1) count cells h) (grind (arith, nat_tests))

-- the number of a resource, if it is of the kind
abbrev number_in : GroupKind → Res → Option ℕ
number_in kind.Gi (res.Gi n) = Some n
number_in kind.Gk (res.Gk n) = Some n
number_in kind.Ga (res.Ga n) = Some n
number_in kind.Control (res.Control n) = Some n
number_in kind.Sound (res.Sound n) = Some n
number_in kind.ZakK (res.ZakK n) = Some n
number_in kind.ZakA (res.ZakA n) = Some n
number_in _ _ = None

abbrev is_number : Option ℕ → ℕ → Bool
is_number None n = false
is_number (Some k) n = n == k

abbrev number_within : Option ℕ → ℕ → Bool
number_within None count = false
number_within (Some k) count = nat_lt k count

by_number : (x : GroupKind) (n : ℕ) (g : Res) → same_res (res_of x n) g ≡ is_number (number_in x g) n
by_number kind.Gi n (res.Gi m) = refl
by_number kind.Gk n (res.Gk m) = refl
by_number kind.Ga n (res.Ga m) = refl
by_number kind.Control n (res.Control m) = refl
by_number kind.Sound n (res.Sound m) = refl
by_number kind.ZakK n (res.ZakK m) = refl
by_number kind.ZakA n (res.ZakA m) = refl
by_number x n g = refl

-- a resource is in a group if its number is one of the group's
in_group : (x : GroupKind) (count cells : ℕ) (g : Res)
    → any_of g (numbered (res_of x) count cells) ≡ number_within (number_in x g) count
in_group x count cells g = by (number_in x g) (λ n. by_number x n g)
  where
    by : (o : Option ℕ) → ((n : ℕ) → same_res (res_of x n) g ≡ is_number o n)
        → any_of g (numbered (res_of x) count cells) ≡ number_within o count
    by None h = none_from (res_of x) g 0 count cells h
    by (Some k) h = one_from (res_of x) g k 0 count cells h ∙ grind (arith, nat_tests)

-- a group, and the resources after it
group_then : (x : GroupKind) (count cells : ℕ) (ys : List SharedCells) (g : Res) (b : Bool) → any_of g ys ≡ b
    → any_of g (numbered (res_of x) count cells ++ ys) ≡ (number_within (number_in x g) count || b)
group_then x count cells ys g b e =
    list_any-append (λ s. same_res s.res g) (numbered (res_of x) count cells) ys
    ∙ λ i. in_group x count cells g i || e i

no_table : (g : Res) (live : List LiveTable) → ((n : ℕ) → same_res (res.Table n) g ≡ false)
    → any_of g (of_tables live) ≡ false
no_table g [] h = refl
no_table g (t ∷ live) h = rw (h t.number) (no_table g live h)

one_table : (n : ℕ) (live : List LiveTable) → any_of (res.Table n) (of_tables live) ≡ list_any (λ t. t.number == n) live
one_table n [] = refl
one_table n (t ∷ live) = ap (λ b. (t.number == n) || b) (one_table n live)

abbrev is_live : List LiveTable → Res → Bool
is_live live (res.Table n) = list_any (λ t. t.number == n) live
is_live live _ = false

among_tables : (g : Res) (live : List LiveTable) → any_of g (of_tables live) ≡ is_live live g
among_tables (res.Table n) live = one_table n live
among_tables g live = no_table g live (λ n. refl)

-- a resource is shared if and only if the piece has it
module _ (ksmps : ℕ) (names : SharedNames) (spaces : Spaces) (live : List LiveTable) where
  by_groups : (g : Res) → any_of g (shared_by ksmps names spaces live)
      ≡ (number_within (number_in kind.Gi g) (length names.variables.init)
      || (number_within (number_in kind.Gk g) (length names.variables.control)
      || (number_within (number_in kind.Ga g) (length names.variables.audio)
      || (number_within (number_in kind.Control g) (length names.control)
      || (number_within (number_in kind.Sound g) (length names.sound)
      || (number_within (number_in kind.ZakK g) spaces.control
      || (number_within (number_in kind.ZakA g) spaces.audio || is_live live g)))))))
  by_groups g =
      group_then kind.Gi (length names.variables.init) 1 (from_gk ksmps names spaces live) g _
      (group_then kind.Gk (length names.variables.control) 1 (from_ga ksmps names spaces live) g _
      (group_then kind.Ga (length names.variables.audio) ksmps (from_control ksmps names spaces live) g _
      (group_then kind.Control (length names.control) 1 (from_sound ksmps names spaces live) g _
      (group_then kind.Sound (length names.sound) ksmps (from_zk ksmps names spaces live) g _
      (group_then kind.ZakK spaces.control 1 (from_za ksmps names spaces live) g _
      (group_then kind.ZakA spaces.audio ksmps (of_tables live) g _ (among_tables g live)))))))

  shared_is : (g : Res) → any_of g (shared_by ksmps names spaces live) ≡ is_shared names spaces live g
  shared_is (res.Table k) = by_groups (res.Table k)
  shared_is g = by_groups g ∙ or-false (is_shared names spaces live g)

  pub there : (g : Res) → is_some (area_of (areas_of ksmps names spaces live) g) ≡ is_shared names spaces live g
  there g = is_there 0 (shared_by ksmps names spaces live) g ∙ shared_is g

-- if a table has an area, it is one of the layout's tables
among_areas : (areas : List Area) (p n : ℕ) (area : Area) → slice_get areas p ≡ Some area → area.res ≡ res.Table n
    → list_any (λ m. n == m) (filter_map (λ a. table_number a.res) areas) ≡ true
among_areas [] p n area e h = absurd (cc (e))
among_areas (a ∷ areas) zero n area e h =
    let is : a.res ≡ res.Table n = ap (λ x. x.res) (some_is a area e) ∙ h in
    rw (ap table_number is) (grind (arith, nat_tests))
among_areas (a ∷ areas) (suc p) n area e h = later a.res refl (among_areas areas p n area e h)
  where
    later : (r : Res) → a.res ≡ r → list_any (λ m. n == m) (filter_map (λ b. table_number b.res) areas) ≡ true
        → list_any (λ m. n == m) (filter_map (λ b. table_number b.res) (a ∷ areas)) ≡ true
    later (res.Table k) is more = rw (ap table_number is) (rw more (by_test (n == k) (λ y. rw y refl) (λ y. rw y refl)))
    later r is more = rw (ap table_number is) more

live_is_shared : (live : List LiveTable) (q n size : ℕ) → slice_get live q ≡ Some (record { number = n; size = size })
    → list_any (λ t. t.number == n) live ≡ true
live_is_shared [] q n size e = absurd (cc (e))
live_is_shared (t ∷ live) zero n size e =
    let is : t.number ≡ n = ap (λ x. x.number) (some_is t (record { number = n; size = size }) e) in
    by_test (t.number == n) (λ y. rw y refl) (λ y. absurd (grind (arith, nat_tests, y, is)))
live_is_shared (t ∷ live) (suc q) n size e =
    let more = live_is_shared live q n size e in by_test (t.number == n) (λ y. rw y refl) (λ y. rw y more)

-- the size of a table is a power of two or one more
abbrev IsSized : LiveTable → Type 0
IsSized t = is_table_size t.size ≡ true

all_at : (live : List LiveTable) (q : ℕ) (t : LiveTable) → All IsSized live → slice_get live q ≡ Some t → IsSized t
all_at [] q t a e = absurd (cc (e))
all_at (u ∷ live) zero t a e = subst IsSized (some_is u t e) (All-head IsSized u live a)
all_at (u ∷ live) (suc q) t a e = all_at live q t (All-tail IsSized u live a) e

some_of : {A : Type 0} (o : Option A) → is_some o ≡ true → (x : A) × (o ≡ Some x)
some_of None e = absurd (cc (e))
some_of (Some x) e = (x, refl)

module _ (ksmps : ℕ) (names : SharedNames) (spaces : Spaces) (live : List LiveTable) (apart : AreApart live) where
  table_size : (n q size : ℕ) (area : Area) → slice_get live q ≡ Some (record { number = n; size = size })
      → area_of (areas_of ksmps names spaces live) (res.Table n) ≡ Some area → area.length ≡ size
  table_size n q size area e f =
      let found = found_at (areas_of ksmps names spaces live) (res.Table n) area f in
      let here = laid_at 0 (shared_by ksmps names spaces live) found.place area found.there in
      here.long ∙ (is_at ksmps names spaces live apart found.place here.what here.there).size n q size
      (sym here.res ∙ found.res) e

  pub table_placed : (t : Table) → All IsSized live → IsLive live t
      → IsTablePlaced (areas_of ksmps names spaces live) (stock_of (areas_of ksmps names spaces live)) t
  table_placed t sized (q, e) =
      let area = some_of (area_of (areas_of ksmps names spaces live) (res.Table t.number))
      (there ksmps names spaces live (res.Table t.number) ∙ live_is_shared live q t.number t.size e) in
      let found = found_at (areas_of ksmps names spaces live) (res.Table t.number) area.0 area.1 in
      record {
        among = among_areas (areas_of ksmps names spaces live) found.place t.number area.0 found.there found.res;
        some = (let most = some_points t.size
            (all_at live q (record { number = t.number; size = t.size }) sized e) in omega (arith, most));
        power = all_at live q (record { number = t.number; size = t.size }) sized e;
        size = λ a f. table_size t.number q t.size a e f;
      }

pub is_placed : (names : SharedNames) (live : List LiveTable) (piece : Piece) → AreApart live → 0 < piece.head.ksmps
    → AreLive live piece.tables → AreOfPiece live piece.tables
    → All IsSized live → IsPlaced (areas_of piece.head.ksmps names piece.spaces live)
    (stock_of (areas_of piece.head.ksmps names piece.spaces live)) piece
is_placed names live piece apart frames are of_piece sized = record {
  laid = is_laid piece.head.ksmps names piece.spaces live apart;
  frames = frames;
  cells = cells_of piece.head.ksmps names piece.spaces live apart;
  spaces = spaces_are piece.head.ksmps names piece.spaces live;
  tables = λ number t found frozen. table_placed piece.head.ksmps names piece.spaces live apart t sized
      (are number t found frozen);
  live = λ n area at. of_piece n (sym (there piece.head.ksmps names piece.spaces live (res.Table n)) ∙ ap is_some at);
}
