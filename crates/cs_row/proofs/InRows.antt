-- The row of each note, and which notes conflict.
use Rattle.std.proofs.lemmas.{Grind.common_steps, List.Elements.All-head, List.Elements.All-tail}
use Rattle.std.proofs.Common.{◌≡◌, ◌<◌, ◌≤◌, ◌-◌, ◌+◌, ℕ, zero, suc, List, [], ◌∷◌, ◌++◌, length, map, nat_lt, sym, ap}
use Rattle.std.proofs.Common.{◌∙◌, subst, arith, ⊎_elim}
use Rattle.std.specs.List.{All, Contains}
use Rattle.std.proofs.lemmas.Bool.{cases_lt, cond-true, cond-false, lt-ltb, le-ltb}
use Rattle.std.proofs.lemmas.List.{length-append, length-map, map-append, get_or_append_left, get_or-append_right}
use Rattle.cs_cells.specs.{Meaning.Meaning, declared.footprint.Footprint.Footprint}
use Rattle.cs_graph.specs.Conflict.{Clash, foot}
use Rattle.cs_row.specs.Laws.{ConflictByRow}
use Rattle.cs_row.specs.Rows.{IsFree, IsRow, no_foot, notes_in, row_at, row_foot}

module _ {J : Type 0} where
  -- a note is in the first row, or in a later one
  here : (row : List J) (rows : List (List J)) (t : ℕ) → t < length row → row_at (row ∷ rows) t ≡ 0
  here row rows t l =
      cond-true (nat_lt t (length row)) 0 (suc (row_at rows (t - length row))) (lt-ltb t (length row) l)

  beyond : (row : List J) (rows : List (List J)) (t : ℕ) → length row ≤ t
      → row_at (row ∷ rows) t ≡ suc (row_at rows (t - length row))
  beyond row rows t l =
      cond-false (nat_lt t (length row)) 0 (suc (row_at rows (t - length row))) (le-ltb t (length row) l)

  -- a later note is in the same row or a later one
  row_order : (rows : List (List J)) (p t : ℕ) → p ≤ t → row_at rows p ≤ row_at rows t
  row_order [] p t l = omega arith
  row_order (row ∷ rows) p t l = ⊎_elim
      (λ (near : p < length row). let e : row_at (row ∷ rows) p ≡ 0 = here row rows p near in omega (arith, e))
      (λ (far : length row ≤ p).
      let q : length row ≤ t = omega (arith, far, l) in
      let less : p - length row ≤ t - length row = omega (arith, l) in
      let e : row_at (row ∷ rows) p ≡ suc (row_at rows (p - length row)) = beyond row rows p far in
      let f : row_at (row ∷ rows) t ≡ suc (row_at rows (t - length row)) = beyond row rows t q in
      let r : row_at rows (p - length row) ≤ row_at rows (t - length row) =
      row_order rows (p - length row) (t - length row) less in
      omega (arith, e, f, r))
      (cases_lt p (length row))

  row_within : (rows : List (List J)) (t : ℕ) → t < length (notes_in rows) → row_at rows t < length rows
  row_within [] t l = absurd (omega (arith, l))
  row_within (row ∷ rows) t l = ⊎_elim
      (λ (near : t < length row). let e : row_at (row ∷ rows) t ≡ 0 = here row rows t near in omega (arith, e))
      (λ (far : length row ≤ t).
      let long : length (row ++ notes_in rows) ≡ length row + length (notes_in rows) =
      length-append row (notes_in rows) in
      let less : t - length row < length (notes_in rows) = omega (arith, far, l, long) in
      let e : row_at (row ∷ rows) t ≡ suc (row_at rows (t - length row)) = beyond row rows t far in
      let r : row_at rows (t - length row) < length rows = row_within rows (t - length row) less in
      omega (arith, e, r))
      (cases_lt t (length row))

module _ {J : Type 0} (M : Meaning J) where
  feet_alike : (f : Footprint) (js : List J) (t : ℕ) → All (λ j. M.foot j ≡ f) js → t < length js
      → foot (map M.foot js) t ≡ f
  feet_alike f [] t all l = absurd (omega (arith, l))
  feet_alike f (j ∷ js) zero all l = All-head (λ (x : J). M.foot x ≡ f) j js all
  feet_alike f (j ∷ js) (suc t) all l =
      feet_alike f js t (All-tail (λ (x : J). M.foot x ≡ f) j js all) (omega (arith, l))

  -- the footprint of a note is the footprint of its row
  note_foot : (rows : List (List J)) (t : ℕ) → All (IsRow M) rows → t < length (notes_in rows)
      → foot (map M.foot (notes_in rows)) t ≡ foot (map (row_foot M) rows) (row_at rows t)
  note_foot [] t all l = absurd (omega (arith, l))
  note_foot (row ∷ rows) t all l =
      let feet : List Footprint = map M.foot row in
      let others : List Footprint = map M.foot (notes_in rows) in
      let many : length feet ≡ length row = length-map row M.foot in
      let is : IsRow M row = All-head (IsRow M) row rows all in
      ap (λ (fs : List Footprint). foot fs t) (map-append M.foot row (notes_in rows))
      ∙ ⊎_elim
      (λ (near : t < length row).
      get_or_append_left feet others no_foot t (omega (arith, near, many))
      ∙ feet_alike (row_foot M row) row t (λ k d low. (is.alike k d low).foot_is) near
      ∙ ap (foot (map (row_foot M) (row ∷ rows))) (sym (here row rows t near)))
      (λ (far : length row ≤ t).
      let long : length (row ++ notes_in rows) ≡ length row + length (notes_in rows) =
      length-append row (notes_in rows) in
      let less : t - length row < length (notes_in rows) = omega (arith, far, l, long) in
      get_or-append_right feet others (length row) t no_foot many far
      ∙ note_foot rows (t - length row) (All-tail (IsRow M) row rows all) less
      ∙ ap (foot (map (row_foot M) (row ∷ rows))) (sym (beyond row rows t far)))
      (cases_lt t (length row))

  -- two notes of the same row write nothing
  same_row : (rows : List (List J)) (p t : ℕ) → All (IsFree M) rows → p < t → t < length (notes_in rows)
      → row_at rows p ≡ row_at rows t → (foot (map (row_foot M) rows) (row_at rows t)).writes ≡ []
  same_row [] p t all less l same = absurd (omega (arith, l))
  same_row (row ∷ rows) p t all less l same = ⊎_elim
      (λ (near : t < length row).
      ap (λ (k : ℕ). (foot (map (row_foot M) (row ∷ rows)) k).writes) (here row rows t near)
      ∙ All-head (IsFree M) row rows all (omega (arith, near, less)))
      (λ (far : length row ≤ t).
      let f : row_at (row ∷ rows) t ≡ suc (row_at rows (t - length row)) = beyond row rows t far in
      ap (λ (k : ℕ). (foot (map (row_foot M) (row ∷ rows)) k).writes) f
      ∙ ⊎_elim
      (λ (first : p < length row).
      let e : row_at (row ∷ rows) p ≡ 0 = here row rows p first in absurd (omega (arith, e, f, same)))
      (λ (later : length row ≤ p).
      let e : row_at (row ∷ rows) p ≡ suc (row_at rows (p - length row)) = beyond row rows p later in
      let long : length (row ++ notes_in rows) ≡ length row + length (notes_in rows) =
      length-append row (notes_in rows) in
      same_row rows (p - length row) (t - length row) (All-tail (IsFree M) row rows all)
      (omega (arith, less, later)) (omega (arith, far, l, long)) (omega (arith, e, f, same)))
      (cases_lt p (length row)))
      (cases_lt t (length row))

  none_written : (f : Footprint) (r : ℕ) → f.writes ≡ [] → Contains f.writes r → ⊥
  none_written f r e w = let h : Contains [] r = subst (λ (ws : List ℕ). Contains ws r) e w in omega (arith, h.1)

  no_clash : (f g : Footprint) → f ≡ g → g.writes ≡ [] → Clash f g → ⊥
  no_clash f g same e clash = grind (arith, common_steps, none_written)

  pub conflict_by_row : (rows : List (List J)) (p t : ℕ) → All (IsRow M) rows → All (IsFree M) rows → p < t
      → ConflictByRow M rows p t
  conflict_by_row rows p t all free less = record {
    rows_do = λ c.
        let l : t < length (notes_in rows) =
        subst (λ (n : ℕ). t < n) (length-map (notes_in rows) M.foot) c.within in
        let k : p < length (notes_in rows) = omega (arith, less, l) in
        let fp = note_foot rows p all k in
        let ft = note_foot rows t all l in
        let at_most : row_at rows p ≤ row_at rows t = row_order rows p t (omega (arith, less)) in
        let many : length (map (row_foot M) rows) ≡ length rows = length-map rows (row_foot M) in
        let in_rows : row_at rows t < length rows = row_within rows t l in
        record {
          earlier = ⊎_elim
              (λ (before : row_at rows p < row_at rows t). before)
              (λ (not_before : row_at rows t ≤ row_at rows p).
              let same : row_at rows p ≡ row_at rows t = omega (arith, at_most, not_before) in
              absurd (no_clash (foot (map M.foot (notes_in rows)) p) (foot (map M.foot (notes_in rows)) t)
              (fp ∙ ap (foot (map (row_foot M) rows)) same ∙ sym ft)
              (ap (λ (x : Footprint). x.writes) ft ∙ same_row rows p t free less l same) c.clash))
              (cases_lt (row_at rows p) (row_at rows t));
          within = omega (arith, many, in_rows);
          clash = subst (λ (x : Footprint). Clash x (foot (map (row_foot M) rows) (row_at rows t))) fp
              (subst (λ (x : Footprint). Clash (foot (map M.foot (notes_in rows)) p) x) ft c.clash);
        };
    notes_do = λ l c.
        let k : p < length (notes_in rows) = omega (arith, less, l) in
        let fp = note_foot rows p all k in
        let ft = note_foot rows t all l in
        record {
          earlier = less;
          within = subst (λ (n : ℕ). t < n) (sym (length-map (notes_in rows) M.foot)) l;
          clash = subst (λ (x : Footprint). Clash x (foot (map M.foot (notes_in rows)) t)) (sym fp)
              (subst (λ (x : Footprint). Clash (foot (map (row_foot M) rows) (row_at rows p)) x) (sym ft) c.clash);
        };
  }
