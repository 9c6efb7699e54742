-- The resources that a unit may touch are named: its table, and its zak places.
use Rattle.std.proofs.lemmas.{Grind.common_steps, Bool.Decides.nat_tests}
use Rattle.std.proofs.Common.{◌≡◌, ℕ, ℤ, zero, suc, ◌+◌, ◌<◌, ◌≤◌, ◌≢◌, Bool, true, false, not, ◌&&◌, ◌==◌, List, ◌∷◌}
use Rattle.std.proofs.Common.{[], map, nat_lt, unsigned_abs, None, Some, if◌then◌else◌, refl, sym, ◌∙◌, ap, subst}
use Rattle.std.proofs.Common.{arith, ltb-true, ⊎_elim}
use Rattle.std.specs.List.{list_any, filter, range_with_len}
use Rattle.std.proofs.lemmas.Bool.{and_parts, or_left, or_right, or_cases}
use Rattle.cs_base.proofs.Tests.{by_test}
use Rattle.cs_base.specs.{declared.resource.Res.Res, declared.spaces.Spaces.Spaces}
use Rattle.cs_cells.specs.declared.footprint.Area.{Area}
use Rattle.cs_words.specs.declared.catalogue.Space.{Space}
use Rattle.cs_ir.specs.{Validity.has_value, declared.op.Reach.Reach}
use Rattle.cs_ir.specs.Resources.{Stock, places_of, zak_place, reaches, places_within, tables_within}
use Rattle.cs_meaning.specs.Plain.{Piece, Table, find_table}
use Rattle.cs_voice_meaning.specs.{Follows.AreNamed, Placing.IsPlaced}
use Rattle.cs_base.specs.declared.resource.Res.TheVariants as res
use Rattle.cs_words.specs.declared.catalogue.Space.TheVariants as space

equal : (m n : ℕ) → (m == n) ≡ true → m ≡ n
equal m n h = grind (arith, nat_tests)

differ : (m n : ℕ) → (m == n) ≡ false → m ≢ n
differ m n h e = grind (arith, common_steps, nat_tests)

split : (N : Res → Type 0) (f : ℕ → Res) (b : Bool) (k : ℕ) (l : List ℕ) → AreNamed N (map f (if b then k ∷ l else l))
    → (b ≡ true → N (f k)) × AreNamed N (map f l)
split N f true k l h = (λ e. h.0, h.1)
split N f false k l h = (λ e. absurd (cc), h)

pub named_among : (N : Res → Type 0) (f : ℕ → Res) (r : Reach) (xs : List ℕ)
    → AreNamed N (map f (filter (reaches r) xs)) → (n : ℕ)
    → list_any (λ k. n == k) xs ≡ true → reaches r n ≡ true → N (f n)
named_among N f r [] h n among at = absurd (cc)
named_among N f r (k ∷ xs) h n among at =
    let parts = split N f (reaches r k) k (filter (reaches r) xs) h in
    ⊎_elim
    (λ here. let e : n ≡ k = equal n k here in subst (λ z. N (f z)) (sym e) (parts.0 (sym (ap (reaches r) e) ∙ at)))
    (λ later. named_among N f r xs parts.1 n later at)
    (or_cases (n == k) (list_any (λ k. n == k) xs) among)

pub in_range : (n j len : ℕ) → j ≤ n → n < j + len → list_any (λ k. n == k) (range_with_len j len) ≡ true
in_range n j zero low high = absurd (omega arith)
in_range n j (suc len) low high = by_test (n == j)
    (λ yes. or_left (n == j) (list_any (λ k. n == k) (range_with_len (j + 1) len)) yes)
    (λ no. let other : n ≢ j = differ n j no in
    or_right (n == j) (list_any (λ k. n == k) (range_with_len (j + 1) len))
    (in_range n (j + 1) len (omega arith) (omega arith)))

-- a place of a space within a reach is named
pub place_named : (N : Res → Type 0) (stock : Stock) (spaces : Spaces) (s : Space) (r : Reach) (n : ℕ)
    → stock.spaces ≡ spaces → AreNamed N (places_within stock s r)
    → (nat_lt n (places_of spaces s) && reaches r n) ≡ true → N (zak_place s n)
place_named N stock spaces s r n e h at =
    let both = and_parts (nat_lt n (places_of spaces s)) (reaches r n) at in
    let low : n < places_of stock.spaces s =
    subst (λ k. n < places_of k s) (sym e) (ltb-true n (places_of spaces s) both.0) in
    named_among N (zak_place s) r (range_with_len 0 (places_of stock.spaces s)) h n
    (in_range n 0 (places_of stock.spaces s) (omega arith) (omega arith)) both.1

pub no_table : (s : Space) (n : ℕ) → has_value (zak_place s n) ≡ true
no_table space.Control n = refl
no_table space.Audio n = refl

-- a table that is found has the number that was looked up
pub found_number : (ts : List Table) (z : ℤ) (t : Table) → find_table ts z ≡ Some t → t.number ≡ unsigned_abs z
found_number [] z t h = absurd (cc)
found_number (x ∷ ts) z t h = grind (arith, common_steps, and_parts, equal, not, unsigned_abs, found_number ts z t)

-- a live table within a reach is named
pub table_named : (areas : List Area) (stock : Stock) (piece : Piece) (N : Res → Type 0) → IsPlaced areas stock piece
    → (reach : Reach) (z : ℤ) (t : Table) → AreNamed N (tables_within stock reach)
    → reaches reach (unsigned_abs z) ≡ true → find_table piece.tables z ≡ Some t → t.frozen ≡ None
    → N (res.Table t.number)
table_named areas stock piece N placed reach z t named at found live =
    named_among N res.Table reach stock.live named t.number (placed.tables z t found live).among
    (ap (reaches reach) (found_number piece.tables z t found) ∙ at)
