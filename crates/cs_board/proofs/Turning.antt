-- The resources of a note's footprint, one by one.
use Rattle.std.proofs.lemmas.{Grind.common_steps, Option.slice_get_within, Option.get_or_from_slice_get}
use Rattle.cs_base.specs.Limits.{most_resources}
use Rattle.std.proofs.Common.{◌≡◌, ℕ, zero, suc, ◌+◌, ◌-◌, ◌<◌, ◌≤◌, List, [], ◌∷◌, length, get_or, take, true, Option}
use Rattle.std.proofs.Common.{Some, None, refl, sym, ap, ◌∙◌, subst, arith, slice_get}
use Rattle.std.specs.{List.Contains, List.Sorted.IsStrictlyIncreasing}
use Rattle.cs_board.specs.inner.Sittings.{deed, ran_out}
use Rattle.cs_cells.specs.Meaning.{Meaning}
use Rattle.cs_board.specs.{Counts.one, Counts.listed, Facts.turned_in, Views.does, Words.at, declared.view.Doing.Doing}
use Rattle.cs_board.specs.{declared.view.Plan.Plan, declared.view.View.View}
use Rattle.cs_board.specs.Plans.{IsPlan, area_count, places_used, places_written, uses_of, writers_before}
use Rattle.cs_board.proofs.Conflicts.{contains_at, listed_of, used_place, written_used, written_rises}
use Rattle.cs_board.proofs.Counting.{count_le, increasing_few, listed_fresh}

get_default : (xs : List ℕ) (i r : ℕ) → i < length xs → get_or xs i r ≡ get_or xs i 0
get_default [] i r l = absurd (omega arith)
get_default (y ∷ ys) zero r l = refl
get_default (y ∷ ys) (suc i) r l = get_default ys i r (omega arith)

pub contains_there : (xs : List ℕ) (i : ℕ) → i < length xs → Contains xs (at xs i)
contains_there xs i l = (i, l, get_default xs i (at xs i) l)

-- a view that does this note doesn't change when it is set to do it
pub does_again : {J : Type 0} (v : View J) (d : Doing) → v.doing ≡ Some d → v ≡ does v d
does_again v d e = λ i. record v { doing = e i }

module _ {J : Type 0} (M : Meaning J) (k : Plan J) (whole : IsPlan M k) (t : ℕ) where
  used_rises : IsStrictlyIncreasing (places_used M k t)
  used_rises = go (slice_get k.jobs t) refl
    where
      go : (o : Option J) → slice_get k.jobs t ≡ o → IsStrictlyIncreasing (uses_of M o)
      go None e = λ i l. absurd (omega arith)
      go (Some j) e = (whole.footprints t j e).uses

  pub few_used : length (places_used M k t) ≤ most_resources
  few_used = omega (
    arith,
    whole.few,
    increasing_few (places_used M k t) (area_count k) used_rises
        (λ i l. used_place M k whole t (at (places_used M k t) i) (contains_there (places_used M k t) i l)),
  )

  pub used_there : (xs : List ℕ) (i : ℕ) → xs ≡ places_used M k t → i < length xs
      → (at xs i < area_count k) × (listed (places_used M k t) (at xs i) ≡ true)
  used_there xs i same l =
      let c : Contains (places_used M k t) (at xs i) = subst (λ z. Contains z (at xs i)) same (contains_there xs i l) in
      (used_place M k whole t (at xs i) c, listed_of (places_used M k t) (at xs i) c)

  pub written_there : (i r : ℕ) → slice_get (places_written M k t) i ≡ Some r
      → (r < area_count k) × (listed (places_used M k t) r ≡ true)
  written_there i r e =
      let c : Contains (places_used M k t) r = written_used M k whole t r (contains_at (places_written M k t) i r e) in
      (used_place M k whole t r c, listed_of (places_used M k t) r c)

  pub few_writers : (r : ℕ) → writers_before M k t r ≤ t
  few_writers r = count_le (λ u. listed (places_written M k u) r) t

  -- before its own turn, a note finds in a turn word only the earlier writers
  pub look_before : (v : View J) (r x : ℕ) → v.doing ≡ Some (ran_out M k t 0)
      → x ≡ writers_before M k (deed v).note r + turned_in M k r v.doing → x ≡ writers_before M k t r
  look_before v r x e h = grind (arith, common_steps)

  -- before the note's turn on a resource, its turn word counts only the earlier writers
  pub look_next : (v : View J) (r x : ℕ) → v.doing ≡ Some (deed v) → (deed v).note ≡ t
      → slice_get (places_written M k t) ((deed v).phase - 1) ≡ Some r
      → x ≡ writers_before M k (deed v).note r + turned_in M k r v.doing → x ≡ writers_before M k (deed v).note r
  look_next v r x e note next h =
      let i : ℕ = (deed v).phase - 1 in
      let W : List ℕ = places_written M k t in
      let l : i < length W = slice_get_within W i r next in
      let is : at W i ≡ r = get_or_from_slice_get W i r 0 next in
      let none : turned_in M k r v.doing ≡ 0 =
      ap (turned_in M k r) e ∙ ap (λ n. one (listed (take i (places_written M k n)) r)) note
      ∙ ap one (ap (listed (take i W)) (sym is) ∙ listed_fresh W (written_rises M k whole t) i l) in
      omega arith
