-- The one seat of a board that rests, after a step.
use Rattle.std.proofs.lemmas.{Grind.common_steps, List.length-replicate, List.length-set, List.map-set}
use Rattle.std.proofs.lemmas.{List.get_or_append_left, Option.get_or_from_slice_get}
use Rattle.std.proofs.Common.{◌≡◌, ℕ, zero, suc, ◌+◌, ◌<◌, ◌≤◌, List, [], ◌∷◌, ◌++◌, length, set, take, drop, replicate}
use Rattle.std.proofs.Common.{true, false, Option, Some, None, refl, sym, ap, ◌∙◌, subst, arith}
use Rattle.std.proofs.Common.{slice_get, slice_index, get_or, pos}
use Rattle.std.proofs.{Common.drop_at, Common.drop-drop, Common.is_some, Math.Seq.take-append_seam}
use mathlib.Core.Option.{none}
use Rattle.atomic_table.specs.{Seated.TableId, Table.step, Table.rest, declared.shared.Seat.Seat}
use Rattle.cs_board.specs.Resting.{IsSole, still_in, areas_in, known_in}
use Rattle.cs_desk.specs.inner.Resting.{IsResting, IsCleared, all_vacant, others_laid}
use Rattle.cs_base.specs.Limits.{most_resources}
use Rattle.cs_cells.specs.{Areas.IsLaid, Areas.word_count, Cells.values, Cells.signed, declared.footprint.Area.Area}
use Rattle.cs_board.specs.{Plays.Sat, Plays.lays, Plays.reaches, Plays.leaves, Opening.each_below}
use Rattle.cs_board.specs.{declared.view.Berth.Berth, declared.view.Still.Still, declared.view.View.View}
use Rattle.cs_board.specs.Views.{laid, with_word, with_home, cells_laid}
use Rattle.cs_board.specs.declared.view.Berth.TheVariants.{Vacant, Full, Told}
use Rattle.cs_board.proofs.{AllWords.one_set, Opening.length-each_below}
use Rattle.cs_desk.proofs.Plainly.{value_at}
pub use Rattle.cs_board.proofs.Sole.{sole_knows, sole_carries}

past_drop : (xs ys : List ℕ) (n i : ℕ) → length xs ≡ n → drop (n + i) (xs ++ ys) ≡ drop i ys
past_drop xs ys n i l = sym (drop-drop i n (xs ++ ys)) ∙ ap (drop i) (drop_at xs ys n l)

set-append_front : (xs ys : List ℕ) (i x : ℕ) → i < length xs → set (xs ++ ys) i x ≡ set xs i x ++ ys
set-append_front [] ys i x l = absurd (omega arith)
set-append_front (y ∷ xs) ys zero x l = refl
set-append_front (y ∷ xs) ys (suc i) x l = ap (λ r. y ∷ r) (set-append_front xs ys i x (omega arith))

module _ {A : Type 0} where
  pub set_twice : (l : List A) (t : ℕ) (x y : A) → set (set l t x) t y ≡ set l t y
  set_twice [] t x y = refl
  set_twice (z ∷ l) zero x y = refl
  set_twice (z ∷ l) (suc t) x y = ap (λ r. z ∷ r) (set_twice l t x y)

abbrev Sits : Type 0 → Type 0
Sits J = Seat (Berth J) (View J)

module _ {J : Type 0} where
  pub sole_areas : (id : TableId) (s s' : Sits J) (w : Still J) → IsSole id s → s'.me ≡ (laid s.me.0 w, [])
      → areas_in s' ≡ areas_in s
  sole_areas id s s' w h me = ap (λ z. z.0.plan.areas) me

  pub sole_known : (id : TableId) (s s' : Sits J) (w : Still J) → IsSole id s → s'.me ≡ (laid s.me.0 w, [])
      → known_in s' ≡ w
  sole_known id s s' w h me = ap (λ z. still_in z.0.rest) me

  pub sole_after : (id : TableId) (s s' : Sits J) (w : Still J) → IsSole id s → s'.table_id ≡ s.table_id
      → s'.me ≡ (laid s.me.0 w, []) → IsSole id s'
  sole_after id s s' w h table me = grind (arith, common_steps, is_some)

  -- vacant slots are a list of vacant slots
  pub cleared_homes : (w : Still J) (slots : ℕ) → all_vacant w.homes ≡ true → length w.homes ≡ slots
      → w.homes ≡ replicate slots (Some Vacant)
  cleared_homes w slots v l = go w.homes v ∙ ap (λ n. replicate n (Some Vacant)) l
    where
      go : (hs : List (Option (Berth J))) → all_vacant hs ≡ true → hs ≡ replicate (length hs) (Some Vacant)
      go [] e = refl
      go (None ∷ hs) e = absurd (let z : false ≡ true = e in cc)
      go (Some Vacant ∷ hs) e = ap (λ z. Some Vacant ∷ z) (go hs e)
      go (Some (Full j) ∷ hs) e = absurd (let z : false ≡ true = e in cc)
      go (Some (Told g) ∷ hs) e = absurd (let z : false ≡ true = e in cc)

  pub cleared_of : (areas : List Area) (words slots : ℕ) (w : Still J) (cells others : List ℕ)
      → w.words ≡ 0 ∷ cells ++ (each_below (λ r. 0) (length areas) ++ others)
      → length cells ≡ word_count areas → length w.words ≡ words → w.homes ≡ replicate slots (Some Vacant)
      → (cells_laid areas w ≡ cells) × IsCleared areas words slots w
  cleared_of areas words slots w cells others is long count homes = (
    cells_,
    record {
      words = is ∙ ap (λ z. 0 ∷ z ++ (zeros ++ others)) (sym cells_)
          ∙ ap (λ z. 0 ∷ cells_laid areas w ++ (zeros ++ z)) (sym others_);
      long = ap length cells_ ∙ long;
      count = count;
      vacant = ap all_vacant homes ∙ all_are slots;
      slots = ap length homes ∙ length-replicate slots vacant_one;
    },
  )
    where
      vacant_one : Option (Berth J)
      vacant_one = Some Vacant

      all_are : (n : ℕ) → all_vacant (replicate n vacant_one) ≡ true
      all_are zero = refl
      all_are (suc n) = all_are n

      zeros : List ℕ
      zeros = each_below (λ r. 0) (length areas)

      cells_ : cells_laid areas w ≡ cells
      cells_ = ap (λ ws. take (word_count areas) (drop 1 ws)) is
          ∙ ap (λ c. take c (drop 1 (0 ∷ cells ++ (zeros ++ others)))) (sym long)
          ∙ take-append_seam cells (zeros ++ others)

      others_ : others_laid areas w ≡ others
      others_ = ap (drop (1 + (word_count areas + length areas))) is
          ∙ (let e : 1 + (word_count areas + length areas) ≡ suc (word_count areas + length areas) = omega arith in
          ap (λ i. drop i (0 ∷ cells ++ (zeros ++ others))) e)
          ∙ past_drop cells (zeros ++ others) (word_count areas) (length areas) long
          ∙ drop_at zeros others (length areas) (length-each_below (λ r. 0) (length areas))

  pub cleared_set : (areas : List Area) (words slots : ℕ) (w : Still J) (a x : ℕ) → IsCleared areas words slots w
      → a < word_count areas
      → (cells_laid areas (with_word w (1 + a) x) ≡ set (cells_laid areas w) a x)
      × IsCleared areas words slots (with_word w (1 + a) x)
  cleared_set areas words slots w a x h low =
      cleared_of areas words slots (with_word w (1 + a) x) (set (cells_laid areas w) a x) (others_laid areas w)
      (ap (λ ws. set ws (1 + a) x) h.words
      ∙ one_set 0 (cells_laid areas w ++ (each_below (λ r. 0) (length areas) ++ others_laid areas w)) a x
      ∙ ap (λ l. 0 ∷ l) (set-append_front (cells_laid areas w)
      (each_below (λ r. 0) (length areas) ++ others_laid areas w) a x (omega (arith, h.long, low))))
      (length-set (cells_laid areas w) a x ∙ h.long)
      (length-set w.words (1 + a) x ∙ h.count)
      (cleared_homes w slots h.vacant h.slots)

  pub resting_set : (r c : ℕ) (id : TableId) (s s' : Sits J) (a x : ℕ) → IsResting r c id s → IsSole id s'
      → areas_in s' ≡ areas_in s
      → known_in s' ≡ with_word (known_in s) (1 + a) x → a < word_count (areas_in s) → IsResting r c id s'
  resting_set r c id s s' a x h sole areas known low = record {
    sole = sole;
    laid = subst IsLaid (sym areas) h.laid;
    few = subst (λ z. length z ≤ most_resources) (sym areas) h.few;
    areas = ap length areas ∙ h.areas;
    cells = ap word_count areas ∙ h.cells;
    cleared = subst (λ z. IsCleared z id.words id.slots (known_in s')) (sym areas)
        (subst (IsCleared (areas_in s) id.words id.slots) (sym known)
        ((cleared_set (areas_in s) id.words id.slots (known_in s) a x h.cleared low).1));
  }

  pub reads_cell : (areas : List Area) (words slots : ℕ) (w : Still J) (a : ℕ) → IsCleared areas words slots w
      → a < word_count areas → get_or (values (cells_laid areas w)) a (pos 0) ≡ signed (slice_index w.words (1 + a))
  reads_cell areas words slots w a h low =
      let cells = cells_laid areas w in
      let others : List ℕ = each_below (λ r. 0) (length areas) ++ others_laid areas w in
      let near : a < length cells = omega (arith, h.long, low) in
      let next : 1 + a ≡ suc a = omega arith in
      get_or_from_slice_get (values cells) a (signed (slice_index cells a)) (pos 0) (value_at cells a near)
      ∙ ap signed (sym (ap (λ ws. slice_index ws (1 + a)) h.words ∙ ap (slice_index (0 ∷ cells ++ others)) next
      ∙ get_or_append_left cells others _ a near))

  pub sets_cell : (areas : List Area) (words slots : ℕ) (w : Still J) (a x : ℕ) → IsCleared areas words slots w
      → a < word_count areas
      → values (cells_laid areas (with_word w (1 + a) x)) ≡ set (values (cells_laid areas w)) a (signed x)
  sets_cell areas words slots w a x h low =
      ap values (cleared_set areas words slots w a x h low).0 ∙ map-set signed (cells_laid areas w) a x

-- What the steps of a board that rests let its seat know. s is the seat before them, n the seat after a step.
module _ {J : Type 0} (id : TableId) (s : Seat (Berth J) (View J)) (h : IsSole id s) where
  pub told_laid : (n : Sat J) (slots i x : ℕ) → lays (step slots i x 0 none) s.me x n
      → n ≡ (laid s.me.0 (with_word (known_in s) i x), [])
  told_laid n slots i x told = grind (arith, common_steps)

  module _ (t : ℕ) (b : Berth J) (lies : slice_get (known_in s).homes t ≡ Some (Some b)) where
    abbrev taken : Still J
    taken = with_home (known_in s) t None

    pub told_reached : (n : Sat J) (slots r : ℕ) → reaches (step slots t 0 0 none) s.me r n
        → n ≡ (laid s.me.0 taken, (t, b) ∷ [])
    told_reached n slots r told =
        told (known_in s) b (sole_knows id s h) lies ∙ ap (λ z. (laid s.me.0 taken, (t, b) ∷ z)) (sole_carries id s h)

    module _ (n : Sat J) (reached : n ≡ (laid s.me.0 taken, (t, b) ∷ [])) where
      -- the earlier content of the slot, and what the seat carries then
      pub swapped : (x y : Berth J) (m : Sat J) → n.1 ≡ (t, x) ∷ rest n.1 → m ≡ (n.0, (t, y) ∷ rest n.1)
          → (x ≡ b) × (m ≡ (laid s.me.0 taken, (t, y) ∷ []))
      swapped x y m found given = grind (arith, common_steps)

    module _ (m : Sat J) (x : Berth J) (held : m ≡ (laid s.me.0 taken, (t, x) ∷ [])) where
      pub held_live : m.0.spent ≡ false
      held_live = ap (λ z. z.0.spent) held ∙ h.live

      pub held_knows : m.0.rest ≡ Some taken
      held_knows = ap (λ z. z.0.rest) held

      pub held_carries : m.1 ≡ (t, x) ∷ []
      held_carries = ap (λ z. z.1) held

      pub told_left : (n : Sat J) (slots r : ℕ) → leaves (step slots 0 0 0 none) m r n
          → n ≡ (laid s.me.0 (with_home (known_in s) t (Some x)), [])
      told_left n slots r told =
          let no_slot : List (ℕ × Berth J) = [] in
          told taken t x held_knows held_carries
          ∙ ap (λ z. (laid z.0 (with_home taken t (Some x)), no_slot)) held
          ∙ ap (λ l. (laid s.me.0 (record { words = (known_in s).words; homes = l }), no_slot))
          (set_twice (known_in s).homes t None (Some x))

    -- a slot's content is taken, exchanged for y, and put back
    pub exchanged : (n m p : Sat J) (slots r q : ℕ) (x y : Berth J) → reaches (step slots t 0 0 none) s.me r n
        → n.1 ≡ (t, x) ∷ rest n.1 → m ≡ (n.0, (t, y) ∷ rest n.1) → leaves (step slots 0 0 0 none) m q p
        → p ≡ (laid s.me.0 (with_home (known_in s) t (Some y)), [])
    exchanged n m p slots r q x y reached found given left =
        told_left m y (swapped n (told_reached n slots r reached) x y m found given).1 p slots q left
