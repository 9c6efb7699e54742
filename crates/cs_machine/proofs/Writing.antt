-- Reading and writing areas.
use Rattle.std.proofs.Common.{◌≡◌, ℕ, ℤ, pos, ◌+◌, ◌-◌, ◌<◌, ◌≤◌, true, false, ◌&&◌, List, length, map, Some, nat_lt}
use Rattle.std.proofs.Common.{nat_le, slice_set, if◌then◌else◌, refl, sym, ◌∙◌, ap, subst, arith}
use Rattle.std.proofs.lemmas.{Bool.and_parts, Bool.Decides.nat_tests, List.FromFn.get_or-map-range_with_len}
use Rattle.std.specs.List.{range_with_len}
use Rattle.cs_base.proofs.Tests.{by_test}
use Rattle.cs_ir.specs.Waves.{Wave, constant}
use Rattle.cs_cells.specs.{Access.Access, Cells.cell, Cells.in_area, Cells.with_row, declared.footprint.Area.Area}
use Rattle.cs_cells.proofs.Rows.{with_row_none, with_row_more}
use Rattle.cs_signal.specs.Operands.{argument}
use Rattle.cs_voice_meaning.specs.Placing.{wave_in, with_wave}
use Rattle.cs_machine.specs.Access.{CanSet, CanTouch}
use Rattle.cs_base.specs.declared.resource.Rate.TheVariants as rate

-- what may be set stays the same while the bank has the same rest
pub set_again : {S : Type 0} (access : S → Access) (r s : S) (area : Area) → s ≡ r
    → CanSet (access r) area → CanSet (access s) area
set_again access r s area rest h = subst (λ q. CanSet (access q) area) (sym rest) h

-- a cell of an area
pub in_here : (area : Area) (j : ℕ) → j < area.length → in_area (Some area) (area.first + j) ≡ true
in_here area j h = grind (arith, nat_tests)

pub can_here : (can : ℕ → Type 0) (n : ℕ) (area : Area) (j a : ℕ) → CanTouch can n area → j < area.length
    → a ≡ area.first + j → can a
can_here can n area j a h low is = subst can (sym is) (h.can (area.first + j) (in_here area j low))

pub within_here : (can : ℕ → Type 0) (n : ℕ) (cells : List ℤ) (area : Area) (j : ℕ) → length cells ≡ n
    → CanTouch can n area → j < area.length → area.first + j < length cells
within_here can n cells area j counted h low =
    subst (λ m. area.first + j < m) (sym counted) (h.within (area.first + j) (in_here area j low))

-- the value of a frame of an area
pub frame_in : (area : Area) (cells : ℕ → ℤ) (j : ℕ) → j < area.length
    → wave_in rate.Audio area cells j ≡ cells (area.first + j)
frame_in area cells j low = let test : nat_lt j area.length ≡ true =
    grind (arith, nat_tests) in ap (λ b. if b then cells (area.first + j) else pos 0) test

pub frame_past : (area : Area) (cells : ℕ → ℤ) (j : ℕ) → area.length ≤ j → wave_in rate.Audio area cells j ≡ pos 0
frame_past area cells j far = let test : nat_lt j area.length ≡ false =
    grind (arith, nat_tests) in ap (λ b. if b then cells (area.first + j) else pos 0) test

-- the elements of a row that was read from an area
pub frame_read : (area : Area) (c : List ℤ) (row : List ℤ) (j : ℕ) → j < area.length
    → row ≡ map (cell c) (range_with_len area.first area.length) → argument row j ≡ wave_in rate.Audio area (cell c) j
frame_read area c row j low is =
    ap (λ r. argument r j) is
    ∙ get_or-map-range_with_len (cell c) area.first area.length j (area.first + j) (pos 0) low refl
    ∙ sym (frame_in area (cell c) j low)

-- only frames of an area matter of a wave
below_here : (f n a : ℕ) → (nat_le f a && nat_lt a (f + n)) ≡ true → a - f < n
below_here f n a h =
    let parts = and_parts (nat_le f a) (nat_lt a (f + n)) h in
    let low = parts.0 in
    let high = parts.1 in
    grind (arith, nat_tests, low, high)

pub same_wave : (area : Area) (w v : Wave) (cells : ℕ → ℤ) → ((j : ℕ) → j < area.length → w j ≡ v j)
    → with_wave (Some area) w cells ≡ with_wave (Some area) v cells
same_wave area w v cells h = λ i a. at a i
  where
    at : (a : ℕ) → with_wave (Some area) w cells a ≡ with_wave (Some area) v cells a
    at a = by_test (in_area (Some area) a) (λ yes. ap (λ b. if b then w (a - area.first) else cells a) yes
        ∙ h (a - area.first) (below_here area.first area.length a yes)
        ∙ sym (ap (λ b. if b then v (a - area.first) else cells a) yes))
        (λ no. ap (λ b. if b then w (a - area.first) else cells a) no
        ∙ sym (ap (λ b. if b then v (a - area.first) else cells a) no))

-- one value was written into an area of one cell
pub one_value : (c : List ℤ) (area : Area) (z : ℤ) → area.length ≡ 1 → area.first + 0 < length c
    → cell (slice_set c (area.first + 0) z) ≡ with_wave (Some area) (constant z) (cell c)
one_value c area z one low =
    with_row_more c (cell c) area.first 0 (constant z) z (with_row_none area.first (constant z) (cell c)) low refl
    ∙ ap (λ n. with_row area.first n (constant z) (cell c)) (sym one)
