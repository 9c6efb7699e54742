-- The number of places in each zak space.
use Rattle.std.proofs.Common.{◌≡◌, ℕ, zero, suc, ◌+◌, Bool, true, false, List, [], ◌∷◌, ◌++◌, length, map, count_by}
use Rattle.std.proofs.Common.{arith, ap, sym, ◌∙◌, refl, if◌then◌else◌}
use Rattle.std.specs.List.{range_with_len}
use Rattle.std.proofs.lemmas.List.Sums.{sum_by-cons}
use Rattle.cs_base.specs.{declared.resource.Res.Res, declared.spaces.Spaces.Spaces}
use Rattle.cs_base.proofs.Texts.{count_by-append}
use Rattle.cs_ir.specs.Resources.{places_of}
use Rattle.cs_layout.specs.Layouts.{SharedCells, numbered, of_tables, shared_by, laid_from, areas_of}
use Rattle.cs_layout.proofs.Tails.{from_gk, from_ga, from_control, from_sound, from_zk, from_za}
use Rattle.cs_layout.specs.declared.areas.LiveTable.{LiveTable}
use Rattle.cs_rwset.specs.Footprints.{is_place, place_count, stock_of}
use Rattle.cs_typed.specs.TypedTree.{SharedNames}
use Rattle.cs_words.specs.declared.catalogue.Space.{Space}
use Rattle.cs_base.specs.declared.resource.Res.TheVariants as res
use Rattle.cs_words.specs.declared.catalogue.Space.TheVariants as space

abbrev counted : Space → List SharedCells → ℕ
counted s ss = count_by (λ x. is_place s x.res) ss

abbrev one : Bool → ℕ
one b = if b then 1 else 0

counted_cons : (s : Space) (x : SharedCells) (ss : List SharedCells)
    → counted s (x ∷ ss) ≡ one (is_place s x.res) + counted s ss
counted_cons s x ss = sum_by-cons (λ y. one (is_place s y.res)) x ss

laid_counted : (s : Space) (first : ℕ) (ss : List SharedCells) → place_count (laid_from first ss) s ≡ counted s ss
laid_counted s first [] = refl
laid_counted s first (x ∷ ss) =
    sum_by-cons (λ a. one (is_place s a.res)) (record { res = x.res; first = first; length = x.cells })
    (laid_from (first + x.cells) ss)
    ∙ ap (λ n. one (is_place s x.res) + n) (laid_counted s (first + x.cells) ss) ∙ sym (counted_cons s x ss)

abbrev of_kind : (ℕ → Res) → ℕ → ℕ → SharedCells
of_kind kind cells n = record { res = kind n; cells = cells }

none_counted : (s : Space) (kind : ℕ → Res) (a count cells : ℕ) → ((n : ℕ) → is_place s (kind n) ≡ false)
    → counted s (map (of_kind kind cells) (range_with_len a count)) ≡ 0
none_counted s kind a zero cells h = refl
none_counted s kind a (suc count) cells h =
    counted_cons s (of_kind kind cells a) (map (of_kind kind cells) (range_with_len (a + 1) count))
    ∙ ap (λ b. one b + counted s (map (of_kind kind cells) (range_with_len (a + 1) count))) (h a)
    ∙ omega (arith, none_counted s kind (a + 1) count cells h)

all_counted : (s : Space) (kind : ℕ → Res) (a count cells : ℕ) → ((n : ℕ) → is_place s (kind n) ≡ true)
    → counted s (map (of_kind kind cells) (range_with_len a count)) ≡ count
all_counted s kind a zero cells h = refl
all_counted s kind a (suc count) cells h =
    counted_cons s (of_kind kind cells a) (map (of_kind kind cells) (range_with_len (a + 1) count))
    ∙ ap (λ b. one b + counted s (map (of_kind kind cells) (range_with_len (a + 1) count))) (h a)
    ∙ omega (arith, all_counted s kind (a + 1) count cells h)

none_then : (s : Space) (kind : ℕ → Res) (count cells : ℕ) (ys : List SharedCells) (n : ℕ)
    → ((n : ℕ) → is_place s (kind n) ≡ false)
    → counted s ys ≡ n → counted s (numbered kind count cells ++ ys) ≡ n
none_then s kind count cells ys n h e =
    count_by-append (λ x. is_place s x.res) (numbered kind count cells) ys
    ∙ omega (arith, none_counted s kind 0 count cells h, e)

all_then : (s : Space) (kind : ℕ → Res) (count cells : ℕ) (ys : List SharedCells)
    → ((n : ℕ) → is_place s (kind n) ≡ true)
    → counted s ys ≡ 0 → counted s (numbered kind count cells ++ ys) ≡ count
all_then s kind count cells ys h e =
    count_by-append (λ x. is_place s x.res) (numbered kind count cells) ys
    ∙ omega (arith, all_counted s kind 0 count cells h, e)

tables_counted : (s : Space) (live : List LiveTable) → ((n : ℕ) → is_place s (res.Table n) ≡ false)
    → counted s (of_tables live) ≡ 0
tables_counted s [] h = refl
tables_counted s (t ∷ live) h =
    counted_cons s (record { res = res.Table t.number; cells = t.size }) (of_tables live)
    ∙ ap (λ b. one b + counted s (of_tables live)) (h t.number)
    ∙ omega (arith, tables_counted s live h)

places_are : (ksmps : ℕ) (names : SharedNames) (spaces : Spaces) (live : List LiveTable) (s : Space)
    → place_count (areas_of ksmps names spaces live) s ≡ places_of spaces s
places_are ksmps names spaces live space.Control = let s =
    space.Control in laid_counted s 0 (shared_by ksmps names spaces live) ∙
    (none_then s res.Gi (length names.variables.init) 1 (from_gk ksmps names spaces live) spaces.control (λ n. refl)
    (none_then s res.Gk (length names.variables.control) 1 (from_ga ksmps names spaces live) spaces.control (λ n. refl)
    (none_then s res.Ga (length names.variables.audio) ksmps (from_control ksmps names spaces live) spaces.control
    (λ n. refl)
    (none_then s res.Control (length names.control) 1 (from_sound ksmps names spaces live) spaces.control (λ n. refl)
    (none_then s res.Sound (length names.sound) ksmps (from_zk ksmps names spaces live) spaces.control (λ n. refl)
    (all_then s res.ZakK spaces.control 1 (from_za ksmps names spaces live) (λ n. refl)
    (none_then s res.ZakA spaces.audio ksmps (of_tables live) 0 (λ n. refl)
    (tables_counted s live (λ n. refl)))))))))
places_are ksmps names spaces live space.Audio = let s =
    space.Audio in laid_counted s 0 (shared_by ksmps names spaces live) ∙
    (none_then s res.Gi (length names.variables.init) 1 (from_gk ksmps names spaces live) spaces.audio (λ n. refl)
    (none_then s res.Gk (length names.variables.control) 1 (from_ga ksmps names spaces live) spaces.audio (λ n. refl)
    (none_then s res.Ga (length names.variables.audio) ksmps (from_control ksmps names spaces live) spaces.audio
    (λ n. refl)
    (none_then s res.Control (length names.control) 1 (from_sound ksmps names spaces live) spaces.audio (λ n. refl)
    (none_then s res.Sound (length names.sound) ksmps (from_zk ksmps names spaces live) spaces.audio (λ n. refl)
    (none_then s res.ZakK spaces.control 1 (from_za ksmps names spaces live) spaces.audio (λ n. refl)
    (all_then s res.ZakA spaces.audio ksmps (of_tables live) (λ n. refl)
    (tables_counted s live (λ n. refl)))))))))

pub spaces_are : (ksmps : ℕ) (names : SharedNames) (spaces : Spaces) (live : List LiveTable)
    → (stock_of (areas_of ksmps names spaces live)).spaces ≡ spaces
spaces_are ksmps names spaces live = λ i. record {
  control = places_are ksmps names spaces live space.Control i;
  audio = places_are ksmps names spaces live space.Audio i;
}
