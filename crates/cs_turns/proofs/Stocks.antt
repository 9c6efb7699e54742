-- The areas of a piece have its stock.
use Rattle.std.proofs.Common.{arith, ◌≡◌, ℕ, ◌+◌, List, [], ◌∷◌, ◌++◌, map, None, refl, ap, ◌∙◌}
use Rattle.std.proofs.lemmas.{Grind.common_steps, List.Elements.filter_map-append}
use Rattle.std.specs.List.{filter_map, range_with_len}
use Rattle.cs_base.specs.{declared.resource.Res.Res, declared.spaces.Spaces.Spaces}
use Rattle.cs_cells.specs.declared.footprint.Area.{Area}
use Rattle.cs_piece_meaning.specs.Moments.{Composition}
use Rattle.cs_ir.specs.Resources.{Stock}
use Rattle.cs_layout.specs.Layouts.{SharedCells, areas_of, laid_from, numbered, of_tables, shared_by}
use Rattle.cs_layout.specs.declared.areas.LiveTable.{LiveTable}
use Rattle.cs_meaning.specs.Plain.{Table}
use Rattle.cs_rwset.specs.Footprints.{stock_of, table_number}
use Rattle.cs_typed.specs.TypedTree.{SharedNames}
use Rattle.cs_turns.specs.Turns.{live, live_tables, stock_in}
use Rattle.cs_base.specs.declared.resource.Res.TheVariants as res

-- the numbers of tables among what is shared
abbrev tables_among : List SharedCells → List ℕ
tables_among ss = filter_map (λ (s : SharedCells). table_number s.res) ss

laid : (first : ℕ) (ss : List SharedCells)
    → filter_map (λ (a : Area). table_number a.res) (laid_from first ss) ≡ tables_among ss
laid first [] = refl
laid first (s ∷ rest) = grind (arith, common_steps, laid (first + s.cells) rest)

-- resources of other kinds have no table numbers
others : (kind : ℕ → Res) → ((n : ℕ) → table_number (kind n) ≡ None) → (cells : ℕ) (ns : List ℕ)
    → tables_among (map (λ n. record { res = kind n; cells = cells }) ns) ≡ []
others kind none cells [] = refl
others kind none cells (n ∷ ns) = grind (arith, common_steps, others kind none cells ns)

tables : (ts : List LiveTable) → tables_among (of_tables ts) ≡ map (λ (t : LiveTable). t.number) ts
tables [] = refl
tables (t ∷ ts) = ap (λ (ns : List ℕ). t.number ∷ ns) (tables ts)

-- resources of another kind before the others
front : (xs ys : List SharedCells) → tables_among xs ≡ [] → tables_among (xs ++ ys) ≡ tables_among ys
front xs ys none = filter_map-append (λ (s : SharedCells). table_number s.res) xs ys
    ∙ ap (λ (ns : List ℕ). ns ++ tables_among ys) none

in_front : (kind : ℕ → Res) (count cells : ℕ) (ys : List SharedCells) → ((n : ℕ) → table_number (kind n) ≡ None)
    → tables_among (numbered kind count cells ++ ys) ≡ tables_among ys
in_front kind count cells ys none =
    front (numbered kind count cells) ys (others kind none cells (range_with_len 0 count))

shared : (ksmps : ℕ) (names : SharedNames) (spaces : Spaces) (ts : List LiveTable)
    → tables_among (shared_by ksmps names spaces ts) ≡ map (λ (t : LiveTable). t.number) ts
shared ksmps names spaces ts = grind (arith, common_steps, in_front, tables)

numbers : (ts : List Table)
    → map (λ (t : LiveTable). t.number) (map (λ (t : Table). record { number = t.number; size = t.size }) ts) ≡ map
    (λ (t : Table). t.number) ts
numbers [] = refl
numbers (t ∷ ts) = ap (λ (ns : List ℕ). t.number ∷ ns) (numbers ts)

pub stock_is : (c : Composition) (ksmps : ℕ) (names : SharedNames)
    → (stock_of (areas_of ksmps names c.spaces (live_tables c.tables))).spaces ≡ c.spaces
    → stock_of (areas_of ksmps names c.spaces (live_tables c.tables)) ≡ stock_in c
stock_is c ksmps names spaces =
    let shareds = shared_by ksmps names c.spaces (live_tables c.tables) in
    both _ c.spaces _ (map (λ (t : Table). t.number) (live c.tables)) spaces
    (laid 0 shareds ∙ (shared ksmps names c.spaces (live_tables c.tables) ∙ numbers (live c.tables)))
  where
    both : (s u : Spaces) (ns ms : List ℕ) → s ≡ u → ns ≡ ms
        → ◌≡◌ {A = Stock} (record { spaces = s; live = ns }) (record { spaces = u; live = ms })
    both s u ns ms e f = cc
