-- Stores into a live table, one after another.
use Rattle.std.proofs.Common.{◌≡◌, ℕ, ℤ, suc, ◌+◌, ◌-◌, ◌<◌, ◌==◌, true, false, List, length, Some, nat_lt, nat_le}
use Rattle.std.proofs.Common.{slice_set, if◌then◌else◌, sym, ◌∙◌, ap, subst, arith, leb-true, ltb-true}
use Rattle.std.proofs.lemmas.{Bool.eqb-true, Bool.and_parts, Bool.Decides.nat_tests}
use Rattle.cs_base.proofs.Tests.{by_test}
use Rattle.cs_gen.specs.{Points.len_of, Places.place_of_index}
use Rattle.cs_ir.specs.Waves.{Wave}
use Rattle.cs_cells.proofs.Rows.{set_cell}
use Rattle.cs_cells.specs.{Cells.cell, Cells.in_area, declared.footprint.Area.Area}
use Rattle.cs_meaning.specs.Pieces.{Table, places_of_indices, stored}
use Rattle.cs_voice_meaning.specs.Placing.{wave_in, with_wave}
use Rattle.cs_machine.proofs.Writing.{frame_in, in_here}
use Rattle.cs_base.specs.declared.resource.Rate.TheVariants as rate

-- an address of an area is the area's first address plus a frame
off : (area : Area) (a : ℕ) → in_area (Some area) a ≡ true
    → (a - area.first < area.length) × (area.first + (a - area.first) ≡ a)
off area a h =
    let b = and_parts (nat_le area.first a) (nat_lt a (area.first + area.length)) h in
    let low = leb-true area.first a b.0 in
    let high = ltb-true a (area.first + area.length) b.1 in
    (omega (arith, low, high), omega (arith, low, high))

-- writing the values of an area into it again changes nothing
pub none_stored : (area : Area) (cells : ℕ → ℤ) → cells ≡ with_wave (Some area) (wave_in rate.Audio area cells) cells
none_stored area cells = λ i a. at a i
  where
    at : (a : ℕ) → cells a ≡ with_wave (Some area) (wave_in rate.Audio area cells) cells a
    at a = by_test (in_area (Some area) a)
        (λ yes. let there = off area a yes in
        sym (ap (λ b. if b then wave_in rate.Audio area cells (a - area.first) else cells a) yes
        ∙ frame_in area cells (a - area.first) there.0 ∙ ap cells there.1))
        (λ no. sym (ap (λ b. if b then wave_in rate.Audio area cells (a - area.first) else cells a) no))

-- one more store
same_place : (p f a : ℕ) → a ≡ f + p → (p == a - f) ≡ true
same_place p f a e = let is : a - f ≡ p = omega (arith, e) in grind (arith, nat_tests)

other_place : (p f a : ℕ) → (a == f + p) ≡ false → f + (a - f) ≡ a → (p == a - f) ≡ false
other_place p f a away there = by_test (p == a - f)
    (λ yes. absurd (let e : p ≡ a - f = eqb-true p (a - f) yes in let same : a ≡ f + p = omega (arith, e, there) in
    let t : (a == f + p) ≡ true = grind (arith, nat_tests) in cc)) (λ n. n)

next : (n : ℕ) → suc n ≡ n + 1
next n = omega arith

pub one_stored : (c : List ℤ) (cells : ℕ → ℤ) (area : Area) (place : ℕ → ℕ) (sig w : Wave) (j p : ℕ) (z : ℤ)
    → cell c ≡ with_wave (Some area) (stored place sig j w) cells
    → p ≡ place j → p < area.length → area.first + p < length c → z ≡ sig j
    → cell (slice_set c (area.first + p) z) ≡ with_wave (Some area) (stored place sig (j + 1) w) cells
one_stored c cells area place sig w j p z before at_p low long is =
    (λ i a. at a i) ∙ ap (λ n. with_wave (Some area) (stored place sig n w) cells) (next j)
  where
    inside : (a : ℕ) → (a == area.first + p) ≡ false → in_area (Some area) a ≡ true
        → stored place sig j w (a - area.first) ≡ stored place sig (suc j) w (a - area.first)
    inside a away here =
        sym (ap (λ q. if q == a - area.first then sig j else stored place sig j w (a - area.first)) (sym at_p)
        ∙ ap (λ b. if b then sig j else stored place sig j w (a - area.first))
        (other_place p area.first a away (off area a here).1))

    at : (a : ℕ) → cell (slice_set c (area.first + p) z) a ≡ with_wave (Some area) (stored place sig (suc j) w) cells a
    at a = set_cell c (area.first + p) z a long ∙ by_test (a == area.first + p)
        (λ yes. let e : a ≡ area.first + p = eqb-true a (area.first + p) yes in
        ap (λ b. if b then z else cell c a) yes ∙ is
        ∙ sym (ap (λ b. if b then sig j else stored place sig j w (a - area.first)) (same_place p area.first a e))
        ∙ ap (λ q. if q == a - area.first then sig j else stored place sig j w (a - area.first)) at_p
        ∙ sym (ap (λ b. if b then stored place sig (suc j) w (a - area.first) else cells a)
        (subst (λ x. in_area (Some area) x ≡ true) (sym e) (in_here area p low))))
        (λ no. ap (λ b. if b then z else cell c a) no ∙ ap (λ f. f a) before ∙ by_test (in_area (Some area) a)
        (λ here. ap (λ b. if b then stored place sig j w (a - area.first) else cells a) here ∙ inside a no here
        ∙ sym (ap (λ b. if b then stored place sig (suc j) w (a - area.first) else cells a) here))
        (λ out. ap (λ b. if b then stored place sig j w (a - area.first) else cells a) out
        ∙ sym (ap (λ b. if b then stored place sig (suc j) w (a - area.first) else cells a) out)))

-- the indexes of a table that has as many points as the area has cells
pub in_table : (t : Table) (area : Area) (indices sig w : Wave) (n : ℕ) (cells now : ℕ → ℤ) → t.size ≡ area.length
    → now ≡ with_wave (Some area) (stored (λ j. place_of_index (len_of area.length) (indices j)) sig n w) cells
    → now ≡ with_wave (Some area) (stored (places_of_indices t indices) sig n w) cells
in_table t area indices sig w n cells now size h =
    h ∙ ap (λ k. with_wave (Some area) (stored (λ j. place_of_index (len_of k) (indices j)) sig n w) cells) (sym size)
