-- Resources and their cells: a value written into an area is read from it, and no other resource changes.
use Rattle.std.proofs.lemmas.{Grind.common_steps, Bool.Decides.nat_tests}
use Rattle.std.proofs.Common.{◌≡◌, ℕ, ℤ, pos, suc, ◌+◌, ◌-◌, ◌<◌, ◌≤◌, ◌≢◌, Bool, true, false, List, ◌∷◌, nat_lt, []}
use Rattle.std.proofs.Common.{slice_get, Some, if◌then◌else◌, sym, ◌∙◌, ap, arith, ltb-true}
use Rattle.cs_base.specs.{Rates.same_res, declared.resource.Rate.Rate, declared.resource.Res.Res}
use Rattle.cs_base.proofs.{Rates.same_res_is, Tests.by_test}
use Rattle.cs_ir.specs.Waves.{Wave}
use Rattle.cs_cells.specs.{Areas.IsLaid, Cells.in_area, declared.footprint.Area.Area}
use Rattle.cs_cells.proofs.Laid.{one_place}
use Rattle.cs_voice_meaning.specs.Placing.{area_of, wave_in, with_wave}
use Rattle.cs_base.specs.declared.resource.Rate.TheVariants as rate

-- ---- areas

-- a resource's area is one of the areas
pub area_at : (areas : List Area) (g : Res) (area : Area) → area_of areas g ≡ Some area
    → (place : ℕ) × (slice_get areas place ≡ Some area) × (area.res ≡ g)
area_at [] g area h = absurd (cc)
area_at (a ∷ areas) g area h = by_test (same_res a.res g)
    (λ yes. let here : a ≡ area = let e : (if same_res a.res g then Some a else area_of areas g) ≡ Some area =
    h in first (same_res a.res g) yes e in
    (0, ap Some here, ap (λ x. x.res) (sym here) ∙ same_res_is a.res g yes))
    (λ no. let later : area_of areas g ≡ Some area = second (same_res a.res g) no h in
    let at = area_at areas g area later in (suc at.0, at.1, at.2))
  where
    first : (b : Bool) → b ≡ true → (if b then Some a else area_of areas g) ≡ Some area → a ≡ area
    first true e k = cc
    first false e k = absurd (cc)

    second : (b : Bool) → b ≡ false → (if b then Some a else area_of areas g) ≡ Some area → area_of areas g ≡ Some area
    second true e k = absurd (cc)
    second false e k = k

-- the areas of two resources share no cell
pub apart : (areas : List Area) (g h : Res) (a b : Area) (x : ℕ) → IsLaid areas → area_of areas g ≡ Some a
    → area_of areas h ≡ Some b → in_area (Some a) x ≡ true → in_area (Some b) x ≡ true → g ≡ h
apart areas g h a b x laid ha hb xa xb =
    let p = area_at areas g a ha in
    let q = area_at areas h b hb in
    let one : p.0 ≡ q.0 = one_place areas p.0 q.0 x laid (ap (λ o. in_area o x) p.1 ∙ xa)
    (ap (λ o. in_area o x) q.1 ∙ xb) in
    let both : Some a ≡ Some b = sym p.1 ∙ ap (slice_get areas) one ∙ q.1 in
    let same : a ≡ b = cc in
    sym p.2 ∙ ap (λ z. z.res) same ∙ q.2

-- ---- signals

-- an area has a cell for a value; the area of an audio signal may be empty
abbrev pub Roomy : Rate → ℕ → Type 0
Roomy rate.Audio n = Unit {0}
Roomy _ n = 0 < n

in_front : (area : Area) (j : ℕ) → j < area.length → in_area (Some area) (area.first + j) ≡ true
in_front area j h = grind (arith, nat_tests)

in_first : (area : Area) → 0 < area.length → in_area (Some area) area.first ≡ true
in_first area h = grind (arith, nat_tests)

below : (j n : ℕ) → nat_lt j n ≡ true → j < n
below j n h = ltb-true j n h

at_or_past : (j n : ℕ) → nat_lt j n ≡ false → n ≤ j
at_or_past j n h = grind (arith, nat_tests)

-- the value of an area depends only on its cells
pub wave_same : (r : Rate) (area : Area) (c d : ℕ → ℤ) → Roomy r area.length
    → ((a : ℕ) → in_area (Some area) a ≡ true → c a ≡ d a) → wave_in r area c ≡ wave_in r area d
wave_same rate.Init area c d some same = λ i j. same area.first (in_first area some) i
wave_same rate.Control area c d some same = λ i j. same area.first (in_first area some) i
wave_same rate.Audio area c d some same = grind (arith, common_steps, below, by_test, in_front, nat_lt)

-- a signal that an area can hold: one value, or 0 beyond the area's cells
abbrev pub Fits : Rate → Area → Wave → Type 0
Fits rate.Audio area w = (j : ℕ) → area.length ≤ j → w j ≡ pos 0
Fits _ area w = (j : ℕ) → w j ≡ w 0

written_at : (area : Area) (w : Wave) (c : ℕ → ℤ) (j : ℕ) → j < area.length
    → with_wave (Some area) w c (area.first + j) ≡ w j
written_at area w c j h = grind (arith, common_steps, in_front)

first_written : (area : Area) (w : Wave) (c : ℕ → ℤ) → 0 < area.length → with_wave (Some area) w c area.first ≡ w 0
first_written area w c h = grind (arith, common_steps, in_first)

-- a value that was written is read
pub wave_written : (r : Rate) (area : Area) (w : Wave) (c : ℕ → ℤ) → Roomy r area.length → Fits r area w
    → wave_in r area (with_wave (Some area) w c) ≡ w
wave_written rate.Init area w c some fits = λ i j. (first_written area w c some ∙ sym (fits j)) i
wave_written rate.Control area w c some fits = λ i j. (first_written area w c some ∙ sym (fits j)) i
wave_written rate.Audio area w c some fits = grind (arith, common_steps, at_or_past, below, by_test, nat_lt, written_at)

-- outside the area nothing changes
pub unwritten : (area : Area) (w : Wave) (c : ℕ → ℤ) (a : ℕ) → in_area (Some area) a ≡ false
    → with_wave (Some area) w c a ≡ c a
unwritten area w c a h = ap (λ b. if b then w (a - area.first) else c a) h

not_in : (areas : List Area) (g h : Res) (a b : Area) (x : ℕ) → IsLaid areas → area_of areas g ≡ Some a
    → area_of areas h ≡ Some b → h ≢ g → in_area (Some b) x ≡ true → in_area (Some a) x ≡ false
not_in areas g h a b x laid ha hb other inside =
    by_test (in_area (Some a) x) (λ yes. absurd (other (sym (apart areas g h a b x laid ha hb yes inside)))) (λ no. no)

-- another resource keeps its value
pub wave_kept : (areas : List Area) (g h : Res) (a b : Area) (r : Rate) (w : Wave) (c : ℕ → ℤ) → IsLaid areas
    → area_of areas g ≡ Some a → area_of areas h ≡ Some b
    → h ≢ g → Roomy r b.length → wave_in r b (with_wave (Some a) w c) ≡ wave_in r b c
wave_kept areas g h a b r w c laid ha hb other some = grind (arith, common_steps, not_in, unwritten, wave_same)
