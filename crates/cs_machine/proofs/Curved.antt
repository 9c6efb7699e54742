-- A live table as a curve.
use Rattle.std.proofs.Common.{◌≡◌, ℕ, ℤ, pos, ◌+◌, ◌-◌, ◌%◌, ◌<◌, ◌≤◌, ◌==◌, Bool, true, false, [], ◌∷◌, length, take}
use Rattle.std.proofs.Common.{slice_index_or, if◌then◌else◌, sym, ◌∙◌, ap, subst, arith}
use Rattle.std.proofs.lemmas.List.{get_or_append_left, get_or_at, get_or-take, length-append, length-take-le}
use Rattle.std.proofs.lemmas.List.FromFn.{get_or-map-range_with_len, length-map-range_with_len}
use Rattle.cs_gen.specs.{Points.guard_place, Points.len_of, Tables.curve_of}
use Rattle.cs_ugen.specs.Points.{IsCurve, curve_len, is_len}
use Rattle.cs_ugen.proofs.Curves.{is_len-bounds}
use Rattle.cs_signal.specs.Operands.{argument}
use Rattle.cs_cells.specs.declared.footprint.Area.{Area}
use Rattle.cs_voice_meaning.specs.Placing.{wave_in}
use Rattle.cs_machine.specs.Access.{live_points}
use Rattle.cs_machine.proofs.Writing.{frame_in}
use Rattle.cs_base.specs.declared.resource.Rate.TheVariants as rate

-- a table has at least two points: a power of two, or one more
len_most : (n : ℕ) → len_of n ≤ n
len_most n = omega arith

guard_below : (n : ℕ) (odd : Bool) → 2 ≤ n → (if odd then n - 1 else 0) < n
guard_below n true h = omega arith
guard_below n false h = omega arith

pub guard_within : (n : ℕ) → is_len (len_of n) ≡ true → guard_place n < n
guard_within n power =
    let low : 2 ≤ len_of n = (is_len-bounds (len_of n) power).0 in
    let most = len_most n in
    guard_below n (n % 2 == 1) (omega (arith, low, most))

pub some_points : (n : ℕ) → is_len (len_of n) ≡ true → 1 ≤ len_of n
some_points n power = let low : 2 ≤ len_of n = (is_len-bounds (len_of n) power).0 in omega (arith, low)

pub place_within : (n place : ℕ) → place < len_of n → place < n
place_within n place low = let most = len_most n in omega (arith, low, most)

module _ (area : Area) (cells : ℕ → ℤ) where
  points_long : length (live_points area cells) ≡ area.length
  points_long = length-map-range_with_len (wave_in rate.Audio area cells) 0 area.length

  front_long : length (take (len_of (length (live_points area cells))) (live_points area cells)) ≡ len_of area.length
  front_long =
      length-take-le (len_of (length (live_points area cells))) (live_points area cells)
      (len_most (length (live_points area cells))) ∙ ap len_of points_long

  pub curve_long : length (curve_of (live_points area cells)) ≡ len_of area.length + 1
  curve_long =
      length-append (take (len_of (length (live_points area cells))) (live_points area cells))
      (slice_index_or (live_points area cells) (guard_place (length (live_points area cells))) (pos 0) ∷ [])
      ∙ ap (λ n. n + 1) front_long

  pub live_len : curve_len (curve_of (live_points area cells)) ≡ len_of area.length
  live_len = let long = curve_long in omega (arith, long)

  pub live_curve : is_len (len_of area.length) ≡ true → IsCurve (curve_of (live_points area cells))
  live_curve power = record { power = subst (λ n. is_len n ≡ true) (sym live_len) power }

  point : (place : ℕ) → place < area.length → argument (live_points area cells) place ≡ cells (area.first + place)
  point place low =
      get_or-map-range_with_len (wave_in rate.Audio area cells) 0 area.length place place (pos 0) low (omega arith)
      ∙ frame_in area cells place low

  pub live_point : (place : ℕ) → place < len_of area.length
      → argument (curve_of (live_points area cells)) place ≡ cells (area.first + place)
  live_point place low =
      get_or_append_left (take (len_of (length (live_points area cells))) (live_points area cells))
      (slice_index_or (live_points area cells) (guard_place (length (live_points area cells))) (pos 0) ∷ []) (pos 0)
      place (subst (λ n. place < n) (sym front_long) low)
      ∙ get_or-take (len_of (length (live_points area cells))) (live_points area cells) place (pos 0)
      (subst (λ n. place < len_of n) (sym points_long) low) ∙ point place (place_within area.length place low)

  pub live_guard : (place : ℕ) → is_len (len_of area.length) ≡ true → place ≡ len_of area.length
      → argument (curve_of (live_points area cells)) place ≡ cells (area.first + guard_place area.length)
  live_guard place power is =
      ap (argument (curve_of (live_points area cells))) is
      ∙ get_or_at (take (len_of (length (live_points area cells))) (live_points area cells))
      (slice_index_or (live_points area cells) (guard_place (length (live_points area cells))) (pos 0)) [] (pos 0)
      (len_of area.length) front_long ∙ ap (λ n. argument (live_points area cells) (guard_place n)) points_long
      ∙ point (guard_place area.length) (guard_within area.length power)

  -- what is read at an index, from any cell
  pub read_there : (place k : ℕ) (z : ℤ) → place < len_of area.length → k ≡ place → z ≡ cells (area.first + k)
      → z ≡ argument (curve_of (live_points area cells)) place
  read_there place k z low same is = is ∙ ap (λ n. cells (area.first + n)) same ∙ sym (live_point place low)

  pub read_guard : (place : ℕ) (z : ℤ) → is_len (len_of area.length) ≡ true
      → place ≤ curve_len (curve_of (live_points area cells)) → len_of area.length ≤ place
      → z ≡ cells (area.first + guard_place area.length) → z ≡ argument (curve_of (live_points area cells)) place
  read_guard place z power within far is =
      let long = live_len in is ∙ sym (live_guard place power (omega (arith, within, far, long)))
