-- The areas as they are made, group by group.
use Rattle.std.proofs.Common.{◌≡◌, ℕ, zero, suc, ◌+◌, ◌*◌, ◌<◌, List, [], ◌∷◌, ◌++◌, length, map, get_or, take, sum_by}
use Rattle.std.proofs.{Common.arith, Common.ap, Common.sym, Common.◌∙◌, Common.refl, Math.Nat.suc-mul}
use Rattle.std.specs.List.{flat_map, range_with_len}
use Rattle.std.proofs.lemmas.List.{append-nil, append_assoc, length-append, map-append, take_more}
use Rattle.std.proofs.lemmas.{List.Concat.flat_map-append, List.FromFn.length-map-range_with_len}
use Rattle.std.proofs.lemmas.List.Sums.{sum_by-append, sum_by-cons}
use Rattle.cs_base.specs.{declared.resource.Res.Res, declared.spaces.Spaces.Spaces}
use Rattle.cs_cells.specs.{Areas.word_count, declared.footprint.Area.Area}
use Rattle.cs_layout.specs.Layouts.{SharedCells, areas_of, laid_from, numbered, of_tables, shared_by}
use Rattle.cs_layout.specs.{declared.areas.Group.Group, declared.areas.LiveTable.LiveTable}
use Rattle.cs_layout.specs.inner.Groups.{groups_of, members, res_of}
use Rattle.cs_layout.proofs.Laid.{laid, length-laid, words-laid}
use Rattle.cs_typed.specs.TypedTree.{SharedNames}
use Rattle.cs_base.specs.declared.resource.Res.TheVariants as res

abbrev pub cells_in : List SharedCells → ℕ
cells_in ss = sum_by (λ s. s.cells) ss

-- later resources get later areas
pub laid-append : (first : ℕ) (xs ys : List SharedCells)
    → laid_from first (xs ++ ys) ≡ laid_from first xs ++ laid_from (first + cells_in xs) ys
laid-append first [] ys = ap (λ n. laid_from n ys) (let same : first ≡ first + 0 = omega arith in same)
laid-append first (x ∷ xs) ys =
    ap (λ more. laid first x ∷ more) (laid-append (first + x.cells) xs ys
    ∙ ap (λ n. laid_from (first + x.cells) xs ++ laid_from n ys)
    (let same : first + x.cells + cells_in xs ≡ first + cells_in (x ∷ xs) =
    omega (arith, sum_by-cons (λ s. s.cells) x xs) in same))

-- the groups, one after the other, are what is shared
behind : (gs : List Group) (ys : List SharedCells) (g : Group)
    → flat_map members (g ∷ gs) ++ ys ≡ members g ++ (flat_map members gs ++ ys)
behind gs ys g = append_assoc (members g) (flat_map members gs) ys

pub groups_are : (ksmps : ℕ) (names : SharedNames) (spaces : Spaces) (live : List LiveTable)
    → flat_map members (groups_of ksmps names spaces) ++ of_tables live ≡ shared_by ksmps names spaces live
groups_are ksmps names spaces live = joined (groups_of ksmps names spaces) (of_tables live)
  where
    all_then : List Group → List SharedCells → List SharedCells
    all_then [] ys = ys
    all_then (g ∷ gs) ys = members g ++ all_then gs ys

    joined : (gs : List Group) (ys : List SharedCells) → flat_map members gs ++ ys ≡ all_then gs ys
    joined [] ys = refl
    joined (g ∷ gs) ys = behind gs ys g ∙ ap (λ zs. members g ++ zs) (joined gs ys)

-- resources of a kind: the number of their cells, and one more resource
from_cells : (kind : ℕ → Res) (cells a n : ℕ)
    → cells_in (map (λ k. record { res = kind k; cells = cells }) (range_with_len a n)) ≡ n * cells
from_cells kind cells a zero = let none : 0 ≡ 0 * cells = omega arith in none
from_cells kind cells a (suc n) =
    sum_by-cons (λ s. s.cells) (record { res = kind a; cells = cells })
    (map (λ k. record { res = kind k; cells = cells }) (range_with_len (a + 1) n))
    ∙ ap (λ k. cells + k) (from_cells kind cells (a + 1) n) ∙ (let more = suc-mul n cells in omega (arith, more))

pub numbered_cells : (kind : ℕ → Res) (n cells : ℕ) → cells_in (numbered kind n cells) ≡ n * cells
numbered_cells kind n cells = from_cells kind cells 0 n

range_more : (a n j : ℕ) → a + n ≡ j → range_with_len a (suc n) ≡ range_with_len a n ++ j ∷ []
range_more a zero j e = let same : a ≡ j = omega (arith, e) in ap (λ k. k ∷ []) same
range_more a (suc n) j e = ap (λ l. a ∷ l) (range_more (a + 1) n j (omega (arith, e)))

numbered_more : (kind : ℕ → Res) (n cells : ℕ)
    → numbered kind (n + 1) cells ≡ numbered kind n cells ++ record { res = kind n; cells = cells } ∷ []
numbered_more kind n cells =
    ap (λ k. numbered kind k cells) (let on : n + 1 ≡ suc n = omega arith in on)
    ∙ ap (map (λ k. record { res = kind k; cells = cells })) (range_more 0 n n (omega arith))
    ∙ map-append (λ k. record { res = kind k; cells = cells }) (range_with_len 0 n) (n ∷ [])

pub next_is : (first n cells next : ℕ) → next ≡ first + n * cells → next + cells ≡ first + (n + 1) * cells
next_is first n cells next h =
    let more : (n + 1) * cells ≡ n * cells + cells =
    ap (λ k. k * cells) (let on : n + 1 ≡ suc n = omega arith in on) ∙ suc-mul n cells in omega (arith, h, more)

pub one_pushed : (old areas more : List Area) (kind : ℕ → Res) (first n cells next : ℕ)
    → areas ≡ old ++ laid_from first (numbered kind n cells) → next ≡ first + n * cells
    → more ≡ areas ++ record { res = kind n; first = next; length = cells } ∷ []
    → more ≡ old ++ laid_from first (numbered kind (n + 1) cells)
one_pushed old areas more kind first n cells next was at is =
    is ∙ ap (λ l. l ++ record { res = kind n; first = next; length = cells } ∷ []) was
    ∙ append_assoc old (laid_from first (numbered kind n cells))
    (record { res = kind n; first = next; length = cells } ∷ [])
    ∙ ap (λ l. old ++ l)
    (ap (λ k. laid_from first (numbered kind n cells) ++ record { res = kind n; first = k; length = cells } ∷ [])
    (at ∙ ap (λ m. first + m) (sym (numbered_cells kind n cells)))
    ∙ sym (laid-append first (numbered kind n cells) (record { res = kind n; cells = cells } ∷ []))
    ∙ ap (laid_from first) (sym (numbered_more kind n cells)))

-- groups and tables: the numbers of their resources and cells, and one more of them
group_cells : (gs : List Group) → cells_in (flat_map members gs) ≡ sum_by (λ g. g.count * g.cells) gs
group_cells [] = refl
group_cells (g ∷ gs) =
    sum_by-append (λ s. s.cells) (members g) (flat_map members gs)
    ∙ (λ i. numbered_cells (res_of g.kind) g.count g.cells i + group_cells gs i)
    ∙ sym (sum_by-cons (λ x. x.count * x.cells) g gs)

group_length : (gs : List Group) → length (flat_map members gs) ≡ sum_by (λ g. g.count) gs
group_length [] = refl
group_length (g ∷ gs) =
    length-append (members g) (flat_map members gs)
    ∙ (λ i. length-map-range_with_len {X = SharedCells} (λ k. record { res = res_of g.kind k; cells = g.cells }) 0
    g.count i
    + group_length gs i)
    ∙ sym (sum_by-cons (λ x. x.count) g gs)

table_cells : (live : List LiveTable) → cells_in (of_tables live) ≡ sum_by (λ t. t.size) live
table_cells [] = refl
table_cells (t ∷ live) =
    sum_by-cons (λ s. s.cells) (record { res = res.Table t.number; cells = t.size }) (of_tables live)
    ∙ ap (λ n. t.size + n) (table_cells live)
    ∙ sym (sum_by-cons (λ x. x.size) t live)

table_length : (live : List LiveTable) → length (of_tables live) ≡ length live
table_length [] = refl
table_length (t ∷ live) = ap suc (table_length live)

pub group_pushed : (areas more : List Area) (gs : List Group) (i : ℕ) (d : Group) (next : ℕ) → i < length gs
    → areas ≡ laid_from 0 (flat_map members (take i gs))
    → next ≡ sum_by (λ g. g.count * g.cells) (take i gs) → more ≡ areas ++ laid_from next (members (get_or gs i d))
    → more ≡ laid_from 0 (flat_map members (take (i + 1) gs))
group_pushed areas more gs i d next low was at is =
    is ∙ ap (λ l. l ++ laid_from next (members (get_or gs i d))) was
    ∙ ap (λ k. laid_from 0 (flat_map members (take i gs)) ++ laid_from k (members (get_or gs i d)))
    (let cells = group_cells (take i gs) in let same : next ≡ 0 + cells_in (flat_map members (take i gs)) =
    omega (arith, cells, at) in same)
    ∙ sym (laid-append 0 (flat_map members (take i gs)) (members (get_or gs i d)))
    ∙ ap (laid_from 0)
    (sym (ap (flat_map members) (take_more gs i d low) ∙ flat_map-append members (take i gs) (get_or gs i d ∷ [])
    ∙ ap (λ t. flat_map members (take i gs) ++ t) (append-nil (members (get_or gs i d)))))

both_cells : (gs : List Group) (live : List LiveTable)
    → cells_in (flat_map members gs ++ of_tables live) ≡ sum_by (λ g. g.count * g.cells) gs + sum_by (λ t. t.size) live
both_cells gs live = sum_by-append (λ s. s.cells) (flat_map members gs) (of_tables live)
    ∙ (λ i. group_cells gs i + table_cells live i)

pub table_pushed : (areas more : List Area) (gs : List Group) (live : List LiveTable) (i : ℕ) (d : LiveTable) (next : ℕ)
    → i < length live
    → areas ≡ laid_from 0 (flat_map members gs ++ of_tables (take i live))
    → next ≡ sum_by (λ g. g.count * g.cells) gs + sum_by (λ t. t.size) (take i live)
    → more ≡ areas ++ record { res = res.Table (get_or live i d).number; first = next; length = (get_or live i d).size }
    ∷ []
    → more ≡ laid_from 0 (flat_map members gs ++ of_tables (take (i + 1) live))
table_pushed areas more gs live i d next low was at is =
    let x : SharedCells = record { res = res.Table (get_or live i d).number; cells = (get_or live i d).size } in
    is ∙ ap (λ l. l ++ laid next x ∷ []) was
    ∙ ap (λ k. laid_from 0 (flat_map members gs ++ of_tables (take i live)) ++ laid k x ∷ [])
    (let cells = both_cells gs (take i live) in let same : next ≡ 0 + cells_in
    (flat_map members gs ++ of_tables (take i live)) = omega (arith, cells, at) in same)
    ∙ sym (laid-append 0 (flat_map members gs ++ of_tables (take i live)) (x ∷ []))
    ∙ ap (laid_from 0)
    (append_assoc (flat_map members gs) (of_tables (take i live)) (x ∷ [])
    ∙ ap (λ l. flat_map members gs ++ l)
    (sym (ap of_tables (take_more live i d low)
    ∙ map-append (λ t. record { res = res.Table t.number; cells = t.size }) (take i live) (get_or live i d ∷ []))))

-- what was made is the piece's areas, and their number
module _ (ksmps : ℕ) (names : SharedNames) (spaces : Spaces) (live : List LiveTable) (gs : List Group)
    (are : gs ≡ groups_of ksmps names spaces) where
  pub made_are : (made : List Area) → made ≡ laid_from 0 (flat_map members gs ++ of_tables live)
      → made ≡ areas_of ksmps names spaces live
  made_are made is = is ∙ ap (λ g. laid_from 0 (flat_map members g ++ of_tables live)) are
      ∙ ap (laid_from 0) (groups_are ksmps names spaces live)

  pub count_is : (n : ℕ) → n ≡ sum_by (λ g. g.count) gs + length live → length (areas_of ksmps names spaces live) ≡ n
  count_is n is =
      ap length (sym (made_are (laid_from 0 (flat_map members gs ++ of_tables live)) refl))
      ∙ length-laid 0 (flat_map members gs ++ of_tables live) ∙ length-append (flat_map members gs) (of_tables live)
      ∙ (λ i. group_length gs i + table_length live i) ∙ sym is

  pub words_is : (n : ℕ) → n ≡ sum_by (λ g. g.count * g.cells) gs + sum_by (λ t. t.size) live
      → word_count (areas_of ksmps names spaces live) ≡ n
  words_is n is =
      ap word_count (sym (made_are (laid_from 0 (flat_map members gs ++ of_tables live)) refl))
      ∙ words-laid 0 (flat_map members gs ++ of_tables live) ∙ both_cells gs live ∙ sym is
