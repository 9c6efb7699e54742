-- Saving and clearing keep the voice's cells and the plain world's values equal.
use Rattle.std.proofs.lemmas.{Grind.common_steps, Bool.Decides.nat_tests}
use Rattle.std.proofs.Common.{◌≡◌, ℕ, ℤ, pos, zero, suc, ◌<◌, ◌≤◌, ◌≢◌, Bool, true, false, ◌&&◌, List, ◌∷◌, nat_lt, []}
use Rattle.std.proofs.Common.{slice_get, Some, if◌then◌else◌, refl, sym, ◌∙◌, ap, arith, ⊎_elim}
use Rattle.std.specs.List.{list_any}
use Rattle.std.proofs.lemmas.Bool.{and_parts, and_from, or_left, or_right, or_cases}
use Rattle.cs_base.specs.{Rates.same_res, Rates.res_rate, declared.resource.Rate.Rate, declared.resource.Res.Res}
use Rattle.cs_base.proofs.{Rates.same_res_is, Rates.same_res_here, Tests.by_test}
use Rattle.cs_ir.specs.{Validity.has_value, Resources.Stock, Waves.Wave, Waves.held, Waves.silence}
use Rattle.cs_cells.specs.{Cells.in_area, declared.footprint.Area.Area}
use Rattle.cs_cells.proofs.Laid.{one_place}
use Rattle.cs_meaning.specs.{Pieces.Piece, Plain.shared_with, Plain.silenced}
use Rattle.cs_voice_meaning.specs.Placing.{area_of, wave_in, wave_of, IsPlaced}
use Rattle.cs_voice_meaning.specs.VoiceWorld.{lies_cleared, read_cells, write_cells, clear_cells}
use Rattle.cs_voice_meaning.proofs.Placed.{Roomy, Fits, area_at, wave_same, wave_written, wave_kept}
use Rattle.cs_base.specs.declared.resource.Rate.TheVariants as rate
use Rattle.cs_base.specs.declared.resource.Res.TheVariants as res

pub any_at : (f : Area → Bool) (areas : List Area) → list_any f areas ≡ true
    → (place : ℕ) × (area : Area) × (slice_get areas place ≡ Some area) × (f area ≡ true)
any_at f [] h = absurd (cc)
any_at f (a ∷ areas) h = ⊎_elim
    (λ here. (0, a, refl, here))
    (λ later. let at = any_at f areas later in (suc at.0, at.1, at.2, at.3))
    (or_cases (f a) (list_any f areas) h)

any_from : (f : Area → Bool) (areas : List Area) (place : ℕ) (area : Area) → slice_get areas place ≡ Some area
    → f area ≡ true → list_any f areas ≡ true
any_from f [] place area at h = absurd (cc)
any_from f (a ∷ areas) zero area at h = let e : a ≡ area = cc in or_left (f a) (list_any f areas) (ap f e ∙ h)
any_from f (a ∷ areas) (suc place) area at h = or_right (f a) (list_any f areas) (any_from f areas place area at h)

-- an area whose cells are all 0 reads as silence
pub zeros : (r : Rate) (area : Area) → wave_in r area (λ a. pos 0) ≡ silence
zeros rate.Init area = refl
zeros rate.Control area = refl
zeros rate.Audio area = grind (arith, common_steps, nat_lt)

silent : (r : Rate) (area : Area) (c : ℕ → ℤ) → Roomy r area.length
    → ((a : ℕ) → in_area (Some area) a ≡ true → c a ≡ pos 0) → wave_in r area c ≡ silence
silent r area c some all = wave_same r area c (λ a. pos 0) some all ∙ zeros r area

pub past_end : (j n : ℕ) → n ≤ j → nat_lt j n ≡ false
past_end j n h = grind (arith, nat_tests)

fits_frames : (area : Area) (ksmps : ℕ) (w : Wave) → area.length ≡ ksmps
    → Fits rate.Audio area (held ksmps rate.Audio w)
fits_frames area ksmps w e j h = let at : ksmps ≤ j =
    omega (arith, e, h) in ap (λ b. if b then w j else pos 0) (past_end j ksmps at)

-- each named resource has the same value in its cells as in the plain world
abbrev pub Reads : List Area → (Res → Type 0) → (ℕ → ℤ) → (Res → Wave) → Type 0
Reads areas N cells shared = (g : Res) → N g → read_cells areas g cells ≡ shared g

module _ (areas : List Area) (stock : Stock) (piece : Piece) (placed : IsPlaced areas stock piece) where
  one_cell : (g : Res) (a : Area) (n : ℕ) → n ≡ 1 → a.length ≡ n → 0 < a.length
  one_cell g a n e h = omega (arith, e, h)

  pub roomy : (g : Res) (a : Area) → area_of areas g ≡ Some a → Roomy (res_rate g) a.length
  roomy (res.Gi n) a h = one_cell (res.Gi n) a 1 refl (placed.cells (res.Gi n) a h refl)
  roomy (res.Gk n) a h = one_cell (res.Gk n) a 1 refl (placed.cells (res.Gk n) a h refl)
  roomy (res.ZakK n) a h = one_cell (res.ZakK n) a 1 refl (placed.cells (res.ZakK n) a h refl)
  roomy (res.Control n) a h = one_cell (res.Control n) a 1 refl (placed.cells (res.Control n) a h refl)
  roomy _ a h = tt

  pub fits_held : (g : Res) (a : Area) (w : Wave) → area_of areas g ≡ Some a → has_value g ≡ true
      → Fits (res_rate g) a (held piece.head.ksmps (res_rate g) w)
  fits_held (res.Ga n) a w h t = fits_frames a piece.head.ksmps w (placed.cells (res.Ga n) a h refl)
  fits_held (res.ZakA n) a w h t = fits_frames a piece.head.ksmps w (placed.cells (res.ZakA n) a h refl)
  fits_held (res.Sound n) a w h t = fits_frames a piece.head.ksmps w (placed.cells (res.Sound n) a h refl)
  fits_held (res.Table n) a w h t = absurd (cc)
  fits_held _ a w h t = λ j. refl

module _ (areas : List Area) (stock : Stock) (piece : Piece) (N : Res → Type 0) (placed : IsPlaced areas stock piece)
    (has : (g : Res) → N g → (area : Area) × (area_of areas g ≡ Some area)) where
  other : (h g : Res) → same_res h g ≡ false → h ≢ g
  other h g unlike e = absurd (let t : same_res h g ≡ true = ap (λ k. same_res h k) (sym e) ∙ same_res_here h in cc)

  pub written_reads : (g : Res) (a : Area) (w : Wave) (c : ℕ → ℤ) (s : Res → Wave) → area_of areas g ≡ Some a
      → Fits (res_rate g) a w → Reads areas N c s → Reads areas N (write_cells areas g w c) (shared_with g w s)
  written_reads g a w c s at fits r h nh =
      grind (arith, common_steps, by_test, other, roomy, same_res_is, wave_kept, wave_written)

  pub held_reads : (g : Res) (w : Wave) (c : ℕ → ℤ) (s : Res → Wave) → N g → has_value g ≡ true → Reads areas N c s
      → Reads areas N (write_cells areas g (held piece.head.ksmps (res_rate g) w) c)
      (shared_with g (held piece.head.ksmps (res_rate g) w) s)
  held_reads g w c s n t r =
      let a = has g n in
      written_reads _ _ _ _ _ a.1 (fits_held _ stock _ placed _ _ _ a.1 t) r

  -- ---- clearing

  cells_cleared : (clears : Res → Bool) (g : Res) (area : Area) (c : ℕ → ℤ) → area_of areas g ≡ Some area
      → clears g ≡ true → (a : ℕ) → in_area (Some area) a ≡ true
      → (if lies_cleared areas clears a then pos 0 else c a) ≡ pos 0
  cells_cleared clears g area c at hit a inside = grind (arith, common_steps, and_from, any_from, area_at)

  cells_left : (clears : Res → Bool) (g : Res) (area : Area) (c : ℕ → ℤ) → area_of areas g ≡ Some area
      → clears g ≡ false → (a : ℕ) → in_area (Some area) a ≡ true
      → (if lies_cleared areas clears a then pos 0 else c a) ≡ c a
  cells_left clears g area c at missed a inside =
      let place = area_at areas g area at in
      let none : lies_cleared areas clears a ≡ false = by_test (lies_cleared areas clears a) (λ yes.
      let found = any_at (λ z. in_area (Some z) a && clears z.res) areas yes in
      let both = and_parts (in_area (Some found.1) a) (clears found.1.res) found.3 in
      let one : found.0 ≡ place.0 =
      one_place areas found.0 place.0 a placed.laid (ap (λ o. in_area o a) found.2 ∙ both.0)
      (ap (λ o. in_area o a) place.1 ∙ inside) in
      let some : Some found.1 ≡ Some area = sym found.2 ∙ ap (slice_get areas) one ∙ place.1 in
      let same : found.1 ≡ area = cc in
      let t : clears g ≡ true = sym (ap clears place.2) ∙ ap (λ z. clears z.res) (sym same) ∙ both.1 in
      absurd (cc)) (λ f. f) in
      ap (λ b. if b then pos 0 else c a) none

  pub cleared_reads : (clears : Res → Bool) (cells : ℕ → ℤ) (s : Res → Wave) → Reads areas N cells s
      → Reads areas N (clear_cells areas clears cells) (silenced clears s)
  cleared_reads clears cells s r g n =
      let a = has g n in
      let c : ℕ → ℤ = clear_cells areas clears cells in
      let some = roomy areas stock piece placed g a.0 a.1 in
      ap (λ o. wave_of o (res_rate g) c) a.1
      ∙ by_test (clears g) (λ yes. silent (res_rate g) a.0 c some (cells_cleared clears g a.0 cells a.1 yes)
      ∙ sym (ap (λ b. if b then silence else s g) yes))
      (λ no. wave_same (res_rate g) a.0 c cells some (cells_left clears g a.0 cells a.1 no)
      ∙ sym (ap (λ o. wave_of o (res_rate g) cells) a.1) ∙ r g n ∙ sym (ap (λ b. if b then silence else s g) no))
