-- The end of a cycle: the state of a board at rest, and what the next cycle finds.
use Rattle.std.proofs.lemmas.{Grind.common_steps, Option.same_Some, Option.slice_get_within, Option.slice_get-get_or}
use Rattle.std.proofs.Common.{◌≡◌, ℕ, zero, suc, ◌+◌, ◌<◌, ◌≤◌, List, [], ◌∷◌, ◌++◌, map, length, get_or, take, drop}
use Rattle.std.proofs.Common.{false, Some, None, refl, sym, ap, ◌∙◌, subst, arith, slice_get}
use Rattle.std.specs.List.{Contains}
use Rattle.atomic_table.specs.{Seated.TableId, declared.shared.Seat.Seat}
use Rattle.cs_board.specs.Resting.{IsSole, areas_in, known_in}
use Rattle.cs_desk.specs.inner.Resting.{IsResting, IsCleared}
use Rattle.cs_cells.specs.{Meaning.Meaning, Meaning.Frames, Serial.serial_jobs}
use Rattle.cs_cells.proofs.SerialRun.{foot-serial_jobs, length-serial_jobs}
use Rattle.cs_board.specs.{Counts.listed, declared.view.Berth.Berth, declared.view.Plan.Plan, declared.view.View.View}
use Rattle.cs_board.specs.Plans.{IsPlan, area_count, writes_of, places_written}
use Rattle.cs_board.proofs.Conflicts.{used_place, written_used}
use Rattle.cs_desk.proofs.Laying.{drop_one}

pub took : {A : Type 0} (xs : List A) (i : ℕ) (x : A) → slice_get xs i ≡ Some x → take (i + 1) xs ≡ take i xs ++ x ∷ []
took xs i x h = let e : i + 1 ≡ suc i = omega arith in ap (λ j. take j xs) e ∙ go xs i x h
  where
    go : {A : Type 0} (xs : List A) (i : ℕ) (x : A) → slice_get xs i ≡ Some x → take (suc i) xs ≡ take i xs ++ x ∷ []
    go [] i x h = absurd (cc)
    go (y ∷ ys) zero x h = ap (λ z. z ∷ []) (same_Some _ _ h)
    go (y ∷ ys) (suc i) x h = ap (λ z. y ∷ z) (go ys i x h)

map_at : {A B : Type 0} (f : A → B) (xs : List A) (i : ℕ) (x : A) → slice_get xs i ≡ Some x
    → slice_get (map f xs) i ≡ Some (f x)
map_at f [] i x h = absurd (cc)
map_at f (y ∷ ys) zero x h = ap Some (ap f (same_Some _ _ h))
map_at f (y ∷ ys) (suc i) x h = map_at f ys i x h

pub there : {A : Type 0} (xs : List A) (i : ℕ) → i < length xs → (x : A) × (slice_get xs i ≡ Some x)
there [] i l = absurd (omega arith)
there (x ∷ xs) zero l = (x, refl)
there (x ∷ xs) (suc i) l = there xs i (omega arith)

past : {A : Type 0} (xs : List A) (i : ℕ) → length xs ≤ i → slice_get xs i ≡ None
past [] i l = refl
past (x ∷ xs) zero l = absurd (omega arith)
past (x ∷ xs) (suc i) l = past xs i (omega arith)

module _ {J : Type 0} (M : Meaning J) (F : Frames M) (k : Plan J) (whole : IsPlan M k) where
  abbrev left_jobs : List J
  left_jobs = serial_jobs M k.jobs k.cells

  pub left_long : length left_jobs ≡ k.notes
  left_long = length-serial_jobs M k.jobs k.cells ∙ whole.jobs

  pub left_low : (t end : ℕ) → t < end → end ≡ k.notes → t < length left_jobs
  left_low t end l is = omega (arith, left_long, l, is)

  -- the job after a note has the note's footprint
  pub left_writes : (t : ℕ) (j : J) → slice_get left_jobs t ≡ Some j → (M.foot j).writes ≡ places_written M k t
  left_writes t j at_ =
      let low : t < length k.jobs =
      omega (arith, slice_get_within left_jobs t j at_, length-serial_jobs M k.jobs k.cells) in
      let i = there k.jobs t low in
      let same_ : Some (M.foot j) ≡ Some (M.foot i.0) =
      sym (map_at M.foot left_jobs t j at_) ∙ ap (λ z. slice_get z t) (foot-serial_jobs M F k.jobs k.cells)
      ∙ map_at M.foot k.jobs t i.0 i.1 in
      ap (λ z. z.writes) (same_Some _ _ same_) ∙ ap (writes_of M) (sym i.1)

  -- no note after the last one writes
  pub none_past : (u r : ℕ) → length left_jobs ≤ u → listed (places_written M k u) r ≡ false
  none_past u r l = ap (λ o. listed (writes_of M o) r)
      (past k.jobs u (omega (arith, l, length-serial_jobs M k.jobs k.cells)))

  -- the next of the resources that a note writes
  pub next_written : (t : ℕ) (items : List ℕ) (i : ℕ) → items ≡ places_written M k t → i < length items
      → (get_or items i 0 < area_count k)
      × (drop i (places_written M k t) ≡ get_or items i 0 ∷ drop (i + 1) (places_written M k t))
  next_written t items i is low =
      let at_ : slice_get items i ≡ Some (get_or items i 0) = slice_get-get_or items i 0 low in
      let c : Contains items (get_or items i 0) = (i, low, default items i low) in (
        used_place M k whole t (get_or items i 0)
            (written_used M k whole t (get_or items i 0) (subst (λ l. Contains l (get_or items i 0)) is c)),
        subst (λ l. drop i l ≡ get_or items i 0 ∷ drop (i + 1) l) is (drop_one items i (get_or items i 0) at_),
      )
    where
      default : (xs : List ℕ) (i : ℕ) → i < length xs → get_or xs i (get_or xs i 0) ≡ get_or xs i 0
      default [] i l = absurd (omega arith)
      default (x ∷ xs) zero l = refl
      default (x ∷ xs) (suc i) l = default xs i (omega arith)

-- the seat of the desk after a cycle
pub rests_again : {J : Type 0} (M : Meaning J) (k : Plan J) (r c : ℕ) (id : TableId) (s : Seat (Berth J) (View J))
    → IsPlan M k → IsSole id s → areas_in s ≡ k.areas
    → area_count k ≡ r → length k.cells ≡ c → IsCleared k.areas id.words id.slots (known_in s) → IsResting r c id s
rests_again M k r c id s whole sole areas areas_made cells_made cleared = grind (arith, common_steps)
