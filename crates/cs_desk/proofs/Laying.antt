-- A cycle is laid out on a board that rests, and its jobs and turns are cleared after it.
use Rattle.std.proofs.lemmas.{Grind.common_steps, Bool.cases_Bool, Bool.cases_eq, Bool.or_cases, Option.same_Some}
use Rattle.std.proofs.Common.{◌≡◌, ◌≢◌, ℕ, zero, suc, ◌+◌, ◌-◌, ◌<◌, ◌≤◌, inl, inr, ⊎_elim, List, [], ◌∷◌, ◌++◌, map}
use Rattle.std.proofs.Common.{length, take, drop, set, replicate, true, false, Option, Some, refl, sym, ap, ◌∙◌, arith}
use Rattle.std.proofs.Common.{◌==◌, slice_get, eqb-true, ext_get_or, length-append}
use Rattle.std.proofs.lemmas.List.{length-map, length-replicate, length-set, take-append-drop, length-take-le}
use Rattle.std.proofs.lemmas.List.{length-drop, replicate-append-replicate}
use Rattle.std.proofs.Math.Seq.{take-append_seam}
use Rattle.cs_desk.proofs.Sole.{cleared_of, cleared_homes}
use Rattle.cs_board.specs.{Resting.IsLaying, Resting.wide, Counts.listed, Plans.area_count, Plans.edge_count}
use Rattle.cs_board.specs.{Plans.places_written, Opening.each_below, Opening.first_status, Opening.first_watch}
use Rattle.cs_board.specs.{declared.view.Berth.Berth, declared.view.Plan.Plan, declared.view.Still.Still}
use Rattle.cs_desk.specs.inner.Resting.{IsCleared, others_laid, IsClearing, ClearsTurns, plan_over}
use Rattle.cs_cells.specs.{Areas.word_count, Cells.signed, Meaning.Meaning, Serial.serial_jobs}
use Rattle.cs_cells.specs.declared.footprint.Area.{Area}
use Rattle.cs_graph.specs.Graph.{Dependencies}
use Rattle.cs_board.specs.Views.{slot_row, jobs_laid, cells_laid, plan_laid, with_word, with_home}
use Rattle.cs_board.specs.Words.{Words, all_words, IsSized, status_at, own_at, watch_at, turn_at, word_total}
use Rattle.cs_board.specs.declared.view.Berth.TheVariants.{Vacant, Full}
use Rattle.cs_board.proofs.AllWords.{set_status, set_own, set_watch, set_turn, sized_status, sized_own, sized_watch}
use Rattle.cs_board.proofs.{Lists.put_cases, Opening.length-each_below, Opening.at_each_below}

module _ {A : Type 0} where
  -- the element after t equal ones
  pub middle_get : (t : ℕ) (v x : A) (ys : List A) → slice_get (replicate t v ++ x ∷ ys) t ≡ Some x
  middle_get zero v x ys = refl
  middle_get (suc t) v x ys = middle_get t v x ys

  pub middle_set : (t : ℕ) (v x y : A) (ys : List A) → set (replicate t v ++ x ∷ ys) t y ≡ replicate t v ++ y ∷ ys
  middle_set zero v x y ys = refl
  middle_set (suc t) v x y ys = ap (λ l. v ∷ l) (middle_set t v x y ys)

  one_more : (t : ℕ) (v : A) (ys : List A) → replicate (suc t) v ++ ys ≡ replicate t v ++ v ∷ ys
  one_more zero v ys = refl
  one_more (suc t) v ys = ap (λ l. v ∷ l) (one_more t v ys)

  drop_suc : (l : List A) (t : ℕ) (x : A) → slice_get l t ≡ Some x → drop t l ≡ x ∷ drop (suc t) l
  drop_suc [] t x e = absurd (cc)
  drop_suc (y ∷ l) zero x e = ap (λ z. z ∷ l) (same_Some _ _ e)
  drop_suc (y ∷ l) (suc t) x e = drop_suc l t x e

  pub drop_one : (l : List A) (t : ℕ) (x : A) → slice_get l t ≡ Some x → drop t l ≡ x ∷ drop (t + 1) l
  drop_one l t x e = let s : suc t ≡ t + 1 = omega arith in drop_suc l t x e ∙ ap (λ n. x ∷ drop n l) s

module _ {J : Type 0} where
  abbrev empty : Option (Berth J)
  empty = Some Vacant

  abbrev after : List J → ℕ → List (Option (Berth J))
  after js n = map (λ j. Some (Full j)) js ++ replicate n empty

  row_next : (t : ℕ) (js : List J) (n : ℕ) → slot_row (t + 1) js n ≡ replicate t empty ++ empty ∷ after js n
  row_next t js n = grind (arith, common_steps, one_more, replicate)

  -- the slot before the jobs is vacant, and then receives the next job
  pub row_vacant : (t : ℕ) (js : List J) (n : ℕ) → slice_get (slot_row (t + 1) js n) t ≡ Some (Some Vacant)
  row_vacant t js n = ap (λ l. slice_get l t) (row_next t js n) ∙ middle_get t empty empty (after js n)

  pub row_filled : (t : ℕ) (js : List J) (n : ℕ) (j : J) → slice_get js t ≡ Some j
      → set (slot_row (t + 1) (drop (t + 1) js) n) t (Some (Full j)) ≡ slot_row t (drop t js) n
  row_filled t js n j e = ap (λ l. set l t (Some (Full j))) (row_next t (drop (t + 1) js) n)
      ∙ middle_set t empty empty (Some (Full j)) (after (drop (t + 1) js) n)
      ∙ ap (λ l. slot_row t l n) (sym (drop_one js t j e))

  -- the first of the jobs is in the slot, and the slot is vacant after it is taken
  pub row_full : (t : ℕ) (js : List J) (n : ℕ) (j : J) → slice_get js t ≡ Some j
      → slice_get (slot_row t (drop t js) n) t ≡ Some (Some (Full j))
  row_full t js n j e = ap (λ l. slice_get (slot_row t l n) t) (drop_one js t j e)
      ∙ middle_get t empty (Some (Full j)) (after (drop (t + 1) js) n)

  pub row_emptied : (t : ℕ) (js : List J) (n : ℕ) (j : J) → slice_get js t ≡ Some j
      → set (slot_row t (drop t js) n) t (Some Vacant) ≡ slot_row (t + 1) (drop (t + 1) js) n
  row_emptied t js n j e = ap (λ l. set (slot_row t l n) t empty) (drop_one js t j e)
      ∙ middle_set t empty (Some (Full j)) empty (after (drop (t + 1) js) n) ∙ sym (row_next t (drop (t + 1) js) n)

  pub laid_row : (js : List J) (n : ℕ) → jobs_laid (slot_row 0 js n) ≡ js
  laid_row [] zero = refl
  laid_row [] (suc n) = laid_row [] n
  laid_row (j ∷ js) n = ap (λ l. j ∷ l) (laid_row js n)

  drop_past : (js : List J) → drop (length js) js ≡ []
  drop_past [] = refl
  drop_past (j ∷ js) = drop_past js

  -- all slots are vacant
  pub row_none : (js : List J) (n slots : ℕ) → length js + n ≡ slots
      → slot_row (length js) (drop (length js) js) n ≡ replicate slots empty
  row_none js n slots e = ap (λ l. slot_row (length js) l n) (drop_past js)
      ∙ replicate-append-replicate (length js) n empty ∙ ap (λ m. replicate m empty) e

  pub row_long : (t : ℕ) (js : List J) (n : ℕ) → length (slot_row t js n) ≡ t + (length js + n)
  row_long zero [] n = length-replicate n empty ∙ (let z : n ≡ 0 + (0 + n) = omega arith in z)
  row_long zero (j ∷ js) n = let h : length (slot_row 0 js n) ≡ 0 + (length js + n) = row_long 0 js n in omega arith
  row_long (suc t) js n = let h : length (slot_row t js n) ≡ t + (length js + n) = row_long t js n in omega arith

-- the number of words
pub words_long : (w : Words)
    → length (all_words w)
    ≡ 1 + (length w.cells + (length w.turns + (length w.status + (length w.own + (length w.watch + length w.spare)))))
words_long w = grind (arith, common_steps, length-append)

module _ {J : Type 0} (k : Plan J) where
  pub sized_long : (p : Words) → IsSized k p → length (all_words p) ≡ word_total k + k.spare
  sized_long p s = omega (arith, words_long p, s.cells, s.turns, s.status, s.own, s.watch, s.spare)

  -- one more watch word is laid
  pub laying_watch : (t e x : ℕ) (w : Still J) → e < edge_count k → x ≡ first_watch k.edges e → IsLaying k t e w
      → IsLaying k t (e + 1) (with_word w (watch_at k e) x)
  laying_watch t e x w low is h = record {
    parts = record h.parts { watch = set h.parts.watch e x };
    words = ap (λ ws. set ws (watch_at k e) x) h.words ∙ set_watch k h.parts h.sized e x low;
    sized = sized_watch k h.parts h.sized e x;
    cells = h.cells;
    turns = h.turns;
    status = h.status;
    own = h.own;
    watch = λ f l m. ⊎_elim
        (λ y. y.1 ∙ is ∙ ap (first_watch k.edges) (sym y.0))
        (λ y. let n = y.0 in y.1 ∙ h.watch f (omega arith) m)
        (put_cases h.parts.watch e x f (omega (arith, h.sized.watch)));
    left = h.left;
    homes = h.homes;
  }

  -- one more note is laid
  pub laying_note : (t e x : ℕ) (j : J) (w : Still J) → t < k.notes → slice_get k.jobs t ≡ Some j
      → x ≡ first_status k.edges t → IsLaying k (t + 1) e w
      → IsLaying k t e (with_word (with_word (with_home w t (Some (Full j))) (status_at k t) x) (own_at k t) 0)
  laying_note t e x j w low at_ is h =
      let p : Words = record h.parts { status = set h.parts.status t x } in
      let s : IsSized k p = sized_status k h.parts h.sized t x in record {
        parts = record p { own = set p.own t 0 };
        words = ap (λ ws. set (set ws (status_at k t) x) (own_at k t) 0) h.words
            ∙ ap (λ ws. set ws (own_at k t) 0) (set_status k h.parts h.sized t x low) ∙ set_own k p s t 0 low;
        sized = sized_own k p s t 0;
        cells = h.cells;
        turns = h.turns;
        status = λ u l m. ⊎_elim
            (λ y. y.1 ∙ is ∙ ap (first_status k.edges) (sym y.0))
            (λ y. let n = y.0 in y.1 ∙ h.status u (omega arith) m)
            (put_cases h.parts.status t x u (omega (arith, h.sized.status)));
        own = λ u l m. ⊎_elim
            (λ y. y.1)
            (λ y. let n = y.0 in y.1 ∙ h.own u (omega arith) m)
            (put_cases h.parts.own t 0 u (omega (arith, h.sized.own)));
        watch = h.watch;
        left = h.left;
        homes = ap (λ l. set l t (Some (Full j))) h.homes ∙ row_filled t k.jobs h.left j at_;
      }

  -- the plan that is laid out is the cycle's
  pub laid_plan : (e : ℕ) (w : Still J) (areas : List Area) (graph : Dependencies) → IsLaying k 0 e w → k.areas ≡ areas
      → k.edges ≡ graph.edges → length k.jobs ≡ k.notes
      → length k.cells ≡ word_count areas → plan_laid areas w graph ≡ k
  laid_plan e w areas graph h areas_is edges_is jobs_is cells_is =
      grind (arith, common_steps, laid_row, sized_long, take-append_seam)

-- what was cleared can be laid out
module _ {J : Type 0} (areas : List Area) (w : Still J) (graph : Dependencies) (jobs : List J)
    (words_made slots_made : ℕ) (h : IsCleared areas words_made slots_made w)
    (slots : length jobs ≤ slots_made) (words : wide areas (length jobs) (length graph.edges) ≤ words_made) where
  abbrev k : Plan J
  k = plan_over areas w graph jobs

  abbrev n : ℕ
  n = length jobs

  abbrev m : ℕ
  m = length graph.edges

  pub starts_laying : IsLaying (plan_over areas w graph jobs) (length jobs) 0 w
  starts_laying =
      let p : Words = record {
        cells = cells_laid areas w;
        turns = each_below (λ r. 0) (length areas);
        status = take n (others_laid areas w);
        own = take n (drop n (others_laid areas w));
        watch = take m (drop n (drop n (others_laid areas w)));
        spare = drop m (drop n (drop n (others_laid areas w)));
      } in
      let long : n + (n + m) ≤ length (others_laid areas w) = omega (arith, total, h.count, h.long, words) in
      let rest1 : length (drop n (others_laid areas w)) ≡ length (others_laid areas w) - n =
      length-drop n (others_laid areas w) in
      let rest2 : length (drop n (drop n (others_laid areas w))) ≡ length (drop n (others_laid areas w)) - n =
      length-drop n (drop n (others_laid areas w)) in
      record {
        parts = p;
        words = h.words ∙ ap (λ l. 0 ∷ cells_laid areas w ++ (each_below (λ r. 0) (length areas) ++ l)) split;
        sized = record {
          cells = sym (length-map (cells_laid areas w) signed);
          turns = length-each_below (λ r. 0) (length areas);
          status = length-take-le n (others_laid areas w) (omega (arith, long));
          own = length-take-le n (drop n (others_laid areas w)) (omega (arith, long, rest1));
          watch = length-take-le m (drop n (drop n (others_laid areas w))) (omega (arith, long, rest1, rest2));
          spare = omega (arith, rest3, rest2, rest1, total, long, h.long);
        };
        cells = refl;
        turns = refl;
        status = λ u l o. absurd (omega arith);
        own = λ u l o. absurd (omega arith);
        watch = λ f l o. absurd (omega arith);
        left = slots_made - n;
        homes = cleared_homes w slots_made h.vacant h.slots
            ∙ sym (row_none jobs (slots_made - n) slots_made (omega (arith, slots)));
      }
    where
      total : length w.words ≡ 1 + (length (cells_laid areas w) + (length areas + length (others_laid areas w)))
      total = ap length h.words ∙ omega (
        arith,
        length-append (cells_laid areas w) (each_below (λ r. 0) (length areas) ++ (others_laid areas w)),
        length-append (each_below (λ r. 0) (length areas)) (others_laid areas w),
        length-each_below (λ r. 0) (length areas),
      )

      rest3 : length (drop m (drop n (drop n (others_laid areas w))))
          ≡ length (drop n (drop n (others_laid areas w))) - m
      rest3 = length-drop m (drop n (drop n (others_laid areas w)))

      split : (others_laid areas w) ≡ take n (others_laid areas w)
          ++ (take n (drop n (others_laid areas w))
          ++ (take m (drop n (drop n (others_laid areas w))) ++ drop m (drop n (drop n (others_laid areas w)))))
      split = sym (take-append-drop n (others_laid areas w))
          ∙ ap (λ l. take n (others_laid areas w) ++ l) (sym (take-append-drop n (drop n (others_laid areas w)))
          ∙ ap (λ l. take n (drop n (others_laid areas w)) ++ l)
          (sym (take-append-drop m (drop n (drop n (others_laid areas w))))))

-- the turn words of some resources are cleared one by one
module _ {J : Type 0} (k : Plan J) where
  pub clears_none : (all : List ℕ) (w : Still J) → ClearsTurns k all all w w
  clears_none all w = record { homes = refl; words = λ p s e. (p.turns, e, refl, (λ r z. z), (λ r l. inr l)) }

  pub clears_more : (all left : List ℕ) (r : ℕ) (w w' : Still J) → r < area_count k → ClearsTurns k all (r ∷ left) w w'
      → ClearsTurns k all left w (with_word w' (turn_at k r) 0)
  clears_more all left r w w' low h = record {
    homes = h.homes;
    words = λ p s e.
        let c = h.words p s e in
        let q : Words = record p { turns = c.0 } in
        let sq : IsSized k q = record
        { cells = s.cells; turns = c.2 ∙ s.turns; status = s.status; own = s.own; watch = s.watch; spare = s.spare } in
        let near : r < length c.0 = omega (arith, low, c.2, s.turns) in (
          set c.0 r 0,
          ap (λ ws. set ws (turn_at k r) 0) c.1 ∙ set_turn k q sq r 0 low,
          length-set c.0 r 0 ∙ c.2,
          (λ x z. ⊎_elim (λ y. y.1) (λ y. y.1 ∙ c.3 x z) (put_cases c.0 r 0 x near)),
          (λ x l. ⊎_elim
              (λ y. inl y.1)
              (λ y. ⊎_elim
              (λ z. inl (y.1 ∙ z))
              (λ z. ⊎_elim (λ b. absurd (y.0 (sym (eqb-true r x b)))) (λ b. inr b)
              (or_cases (r == x) (listed left x) z)) (c.4 x l))
              (put_cases c.0 r 0 x near)),
        );
  }

module _ {J : Type 0} (M : Meaning J) (k : Plan J) where
  abbrev left_jobs : List J
  left_jobs = serial_jobs M k.jobs k.cells

  -- one more note is cleared
  pub clears_note : (t : ℕ) (j : J) (w w' : Still J) → slice_get left_jobs t ≡ Some j
      → ClearsTurns k (places_written M k t) [] (with_home w t (Some Vacant)) w'
      → IsClearing M k t w → IsClearing M k (t + 1) w'
  clears_note t j w w' at_ c h =
      let d = c.words h.parts h.sized h.words in record {
        parts = record h.parts { turns = d.0 };
        words = d.1;
        sized = record {
          cells = h.sized.cells;
          turns = d.2 ∙ h.sized.turns;
          status = h.sized.status;
          own = h.sized.own;
          watch = h.sized.watch;
          spare = h.sized.spare;
        };
        cells = h.cells;
        turns = λ r low none. ⊎_elim
            (λ b. ⊎_elim (λ z. z) (λ z. absurd (let y : false ≡ true = z in cc)) (d.4 r b))
            (λ b. d.3 r (h.turns r low (λ u l. ⊎_elim
            (λ (e : u ≡ t). ap (λ z. listed (places_written M k z) r) e ∙ b)
            (λ (n : u ≢ t). none u (omega arith))
            (cases_eq u t))))
            (cases_Bool (listed (places_written M k t) r));
        left = h.left;
        homes = c.homes ∙ ap (λ l. set l t (Some Vacant)) h.homes ∙ row_emptied t left_jobs h.left j at_;
      }

  pub full_next : (t : ℕ) (j : J) (w : Still J) → slice_get left_jobs t ≡ Some j → IsClearing M k t w
      → slice_get w.homes t ≡ Some (Some (Full j))
  full_next t j w at_ h = ap (λ l. slice_get l t) h.homes ∙ row_full t left_jobs h.left j at_

  -- all notes are cleared
  pub all_cleared : (w : Still J) (words_made slots_made : ℕ) → IsClearing M k (length left_jobs) w
      → length k.cells ≡ word_count k.areas → word_total k + k.spare ≡ words_made → length w.homes ≡ slots_made
      → ((u r : ℕ) → length left_jobs ≤ u → listed (places_written M k u) r ≡ false)
      → IsCleared k.areas words_made slots_made w
  all_cleared w words_made slots_made h cells words slots none =
      let turns : h.parts.turns ≡ each_below (λ r. 0) (length k.areas) =
      ext_get_or 0 h.parts.turns (each_below (λ r. 0) (length k.areas))
      (h.sized.turns ∙ sym (length-each_below (λ r. 0) (length k.areas)))
      (λ i l. h.turns i (omega (arith, l, h.sized.turns)) (λ u m. none u i m)
      ∙ sym (at_each_below (λ r. 0) (length k.areas) i (omega (arith, l, h.sized.turns)))) in
      (cleared_of k.areas words_made slots_made w h.parts.cells
      (h.parts.status ++ (h.parts.own ++ (h.parts.watch ++ h.parts.spare)))
      (h.words ∙ ap (λ z. 0 ∷ h.parts.cells
      ++ (z ++ (h.parts.status ++ (h.parts.own ++ (h.parts.watch ++ h.parts.spare))))) turns)
      (h.sized.cells ∙ cells)
      (ap length h.words ∙ sized_long k h.parts h.sized ∙ words)
      (h.homes ∙ row_none left_jobs h.left slots_made
      (omega (
        arith,
        slots,
        ap length h.homes,
        row_long (length left_jobs) (drop (length left_jobs) left_jobs) h.left,
        length-drop (length left_jobs) left_jobs,
      )))).1
