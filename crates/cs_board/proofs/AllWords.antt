-- The list of all words: the word at each number, and the list after a word was set.
use Rattle.std.proofs.lemmas.Grind.{common_steps}
use Rattle.std.proofs.Common.{◌≡◌, ℕ, suc, ◌+◌, ◌<◌, List, [], ◌∷◌, ◌++◌, length, set, sym, ap, ◌∙◌, arith, zero-add}
use Rattle.std.proofs.lemmas.List.{get_or_append_left, get_or-append-add, set-append_left, length-set}
use Rattle.cs_board.specs.{Plans.edge_count, Plans.area_count, declared.view.Plan.Plan}
use Rattle.cs_board.specs.Words.{Words, at, all_words, IsSized, status_at, watch_at, own_at, turn_at, cell_at}

set-append-add : (xs ys : List ℕ) (i x : ℕ) → set (xs ++ ys) (length xs + i) x ≡ xs ++ set ys i x
set-append-add [] ys i x = ap (λ j. set ys j x) (zero-add i)
set-append-add (y ∷ xs) ys i x = grind (arith, common_steps, set-append-add xs ys i x)

-- an element after a first part of n words
past_get : (xs ys : List ℕ) (n i : ℕ) → length xs ≡ n → at (xs ++ ys) (n + i) ≡ at ys i
past_get xs ys n i l = ap (λ m. at (xs ++ ys) (m + i)) (sym l) ∙ get_or-append-add xs ys i 0

past_set : (xs ys : List ℕ) (n i x : ℕ) → length xs ≡ n → set (xs ++ ys) (n + i) x ≡ xs ++ set ys i x
past_set xs ys n i x l = ap (λ m. set (xs ++ ys) (m + i) x) (sym l) ∙ set-append-add xs ys i x

pub one_get : (n : ℕ) (xs : List ℕ) (i : ℕ) → at (n ∷ xs) (1 + i) ≡ at xs i
one_get n xs i = let e : 1 + i ≡ suc i = omega arith in ap (at (n ∷ xs)) e

pub one_set : (n : ℕ) (xs : List ℕ) (i x : ℕ) → set (n ∷ xs) (1 + i) x ≡ n ∷ set xs i x
one_set n xs i x = let e : 1 + i ≡ suc i = omega arith in ap (λ j. set (n ∷ xs) j x) e

module _ {J : Type 0} (k : Plan J) (w : Words) (s : IsSized k w) where
  abbrev after_own : List ℕ
  after_own = w.watch ++ w.spare

  abbrev after_status : List ℕ
  after_status = w.own ++ after_own

  abbrev after_turns : List ℕ
  after_turns = w.status ++ after_status

  abbrev after_cells : List ℕ
  after_cells = w.turns ++ after_turns

  to_cells : (i : ℕ) → at (all_words w) (1 + (length k.cells + i)) ≡ at after_cells i
  to_cells i = one_get 0 (w.cells ++ after_cells) (length k.cells + i)
      ∙ past_get w.cells after_cells (length k.cells) i s.cells

  to_turns : (i : ℕ) → at (all_words w) (1 + (length k.cells + (area_count k + i))) ≡ at after_turns i
  to_turns i = to_cells (area_count k + i) ∙ past_get w.turns after_turns (area_count k) i s.turns

  to_status : (i : ℕ) → at (all_words w) (1 + (length k.cells + (area_count k + (k.notes + i)))) ≡ at after_status i
  to_status i = to_turns (k.notes + i) ∙ past_get w.status after_status k.notes i s.status

  to_own : (i : ℕ) → at (all_words w) (1 + (length k.cells + (area_count k + (k.notes + (k.notes + i))))) ≡ at after_own
      i
  to_own i = to_status (k.notes + i) ∙ past_get w.own after_own k.notes i s.own

  pub get_cell : (a : ℕ) → a < length k.cells → at (all_words w) (cell_at a) ≡ at w.cells a
  get_cell a low = one_get 0 (w.cells ++ after_cells) a
      ∙ get_or_append_left w.cells after_cells 0 a (omega (arith, s.cells))

  pub get_turn : (r : ℕ) → r < area_count k → at (all_words w) (turn_at k r) ≡ at w.turns r
  get_turn r low = to_cells r ∙ get_or_append_left w.turns after_turns 0 r (omega (arith, s.turns))

  pub get_status : (t : ℕ) → t < k.notes → at (all_words w) (status_at k t) ≡ at w.status t
  get_status t low = to_turns t ∙ get_or_append_left w.status after_status 0 t (omega (arith, s.status))

  pub get_watch : (e : ℕ) → e < edge_count k → at (all_words w) (watch_at k e) ≡ at w.watch e
  get_watch e low = to_own e ∙ get_or_append_left w.watch w.spare 0 e (omega (arith, s.watch))

  set_past_cells : (i x : ℕ) → set (all_words w) (1 + (length k.cells + i)) x ≡ 0 ∷ w.cells ++ set after_cells i x
  set_past_cells i x = one_set 0 (w.cells ++ after_cells) (length k.cells + i) x
      ∙ ap (λ r. 0 ∷ r) (past_set w.cells after_cells (length k.cells) i x s.cells)

  set_past_turns : (i x : ℕ) → set (all_words w) (1 + (length k.cells + (area_count k + i))) x ≡ 0 ∷ w.cells
      ++ (w.turns ++ set after_turns i x)
  set_past_turns i x = set_past_cells (area_count k + i) x
      ∙ ap (λ r. 0 ∷ w.cells ++ r) (past_set w.turns after_turns (area_count k) i x s.turns)

  set_past_status : (i x : ℕ)
      → set (all_words w) (1 + (length k.cells + (area_count k + (k.notes + i)))) x ≡ 0 ∷ w.cells
      ++ (w.turns ++ (w.status ++ set after_status i x))
  set_past_status i x = set_past_turns (k.notes + i) x
      ∙ ap (λ r. 0 ∷ w.cells ++ (w.turns ++ r)) (past_set w.status after_status k.notes i x s.status)

  set_past_own : (i x : ℕ)
      → set (all_words w) (1 + (length k.cells + (area_count k + (k.notes + (k.notes + i))))) x ≡ 0 ∷ w.cells
      ++ (w.turns ++ (w.status ++ (w.own ++ set after_own i x)))
  set_past_own i x = set_past_status (k.notes + i) x
      ∙ ap (λ r. 0 ∷ w.cells ++ (w.turns ++ (w.status ++ r))) (past_set w.own after_own k.notes i x s.own)

  pub set_cell_word : (a x : ℕ) → a < length k.cells
      → set (all_words w) (cell_at a) x ≡ all_words (record w { cells = set w.cells a x })
  set_cell_word a x low = one_set 0 (w.cells ++ after_cells) a x
      ∙ ap (λ r. 0 ∷ r) (set-append_left w.cells after_cells a x (omega (arith, s.cells)))

  pub set_turn : (r x : ℕ) → r < area_count k
      → set (all_words w) (turn_at k r) x ≡ all_words (record w { turns = set w.turns r x })
  set_turn r x low = set_past_cells r x
      ∙ ap (λ z. 0 ∷ w.cells ++ z) (set-append_left w.turns after_turns r x (omega (arith, s.turns)))

  pub set_status : (t x : ℕ) → t < k.notes
      → set (all_words w) (status_at k t) x ≡ all_words (record w { status = set w.status t x })
  set_status t x low = set_past_turns t x
      ∙ ap (λ r. 0 ∷ w.cells ++ (w.turns ++ r)) (set-append_left w.status after_status t x (omega (arith, s.status)))

  pub set_own : (t x : ℕ) → t < k.notes
      → set (all_words w) (own_at k t) x ≡ all_words (record w { own = set w.own t x })
  set_own t x low = grind (arith, common_steps, set-append_left, set_past_status)

  pub set_watch : (e x : ℕ) → e < edge_count k
      → set (all_words w) (watch_at k e) x ≡ all_words (record w { watch = set w.watch e x })
  set_watch e x low = grind (arith, common_steps, set-append_left, set_past_own)

  pub sized_cell : (a x : ℕ) → IsSized k (record w { cells = set w.cells a x })
  sized_cell a x = grind (arith, common_steps, length-set)

  pub sized_turn : (r x : ℕ) → IsSized k (record w { turns = set w.turns r x })
  sized_turn r x = grind (arith, common_steps, length-set)

  pub sized_status : (t x : ℕ) → IsSized k (record w { status = set w.status t x })
  sized_status t x = grind (arith, common_steps, length-set)

  pub sized_own : (t x : ℕ) → IsSized k (record w { own = set w.own t x })
  sized_own t x = grind (arith, common_steps, length-set)

  pub sized_watch : (e x : ℕ) → IsSized k (record w { watch = set w.watch e x })
  sized_watch e x = grind (arith, common_steps, length-set)
