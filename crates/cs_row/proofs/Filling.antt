-- Notes are split into rows with the lengths that were cut, one row after another.
use Rattle.std.proofs.lemmas.{Grind.common_steps, List.Elements.All-same, List.Folds.length-flat_map-take}
use Rattle.std.proofs.Common.{◌≡◌, ◌<◌, ◌≤◌, ◌+◌, get_or, ℕ, List, [], ◌∷◌, ◌++◌, length, map, take, drop, reverse}
use Rattle.std.proofs.Common.{refl, sym, ap, ◌∙◌, subst, arith, append-nil, append_assoc}
use Rattle.std.proofs.lemmas.List.{get_or-append-add, get_or_append_left, get_or-map, take-append-drop, length-append}
use Rattle.std.proofs.lemmas.List.{length-map, map-append, take_more, take_all, drop_all, drop_more, reverse-reverse}
use Rattle.std.specs.List.{All}
use Rattle.std.proofs.lemmas.List.Concat.{flat_map-append, get_or-flat_map}
use Rattle.cs_cells.specs.{Meaning.Meaning, declared.footprint.Footprint.Footprint}
use Rattle.cs_row.specs.{Cuts.IsCut, Rows.IsRow, Rows.notes_in, Rows.row_foot}

module _ {A : Type 0} where
  -- if two joined lists are equal and their first parts have the same length, both parts are equal
  pub record AreSameTwo (xs ys us vs : List A) : Type 0 where
    pub first : xs ≡ us
    pub then_same : ys ≡ vs

  pub same_two : (xs ys us vs : List A) → length xs ≡ length us → xs ++ ys ≡ us ++ vs → AreSameTwo xs ys us vs
  same_two [] ys [] vs long e = record { first = refl; then_same = e }
  same_two [] ys (u ∷ us) vs long e = absurd (omega (arith, long))
  same_two (x ∷ xs) ys [] vs long e = absurd (omega (arith, long))
  same_two (x ∷ xs) ys (u ∷ us) vs long e =
      let head : x ≡ u = ap (λ (l : List A). get_or l 0 x) e in
      let rest : xs ++ ys ≡ us ++ vs = ap (λ (l : List A). drop 1 l) e in
      let r = same_two xs ys us vs (omega (arith, long)) rest in
      record { first = (λ i. head i ∷ r.first i); then_same = r.then_same }

  pub nothing_left : (xs : List A) → reverse xs ≡ [] → xs ≡ []
  nothing_left xs e = sym (reverse-reverse xs) ∙ ap reverse e

-- what holds for three joined lists holds for the second
middle_of : {A : Type 0} (P : A → Type 0) (xs ys zs : List A) → All P ((xs ++ ys) ++ zs) → All P ys
middle_of P xs ys zs all = λ k d low.
    let both : length (xs ++ ys) ≡ length xs + length ys = length-append xs ys in
    let whole : length ((xs ++ ys) ++ zs) ≡ length (xs ++ ys) + length zs = length-append (xs ++ ys) zs in
    subst P
    (get_or_append_left (xs ++ ys) zs d (length xs + k) (omega (arith, low, both)) ∙ get_or-append-add xs ys k d)
    (all (length xs + k) d (omega (arith, low, both, whole)))

module _ {J : Type 0} {M : Meaning J} {most : ℕ} {notes : List J} {cuts : List ℕ} (cut : IsCut M most notes cuts) where
  pub many : length cut.rows ≡ length cuts
  many = sym (length-map cut.rows length) ∙ ap length cut.lengths

  module _ (at : ℕ) (low : at < length cuts) where
    abbrev pub row_here : List J
    row_here = get_or cut.rows at []

    pub in_rows : at < length cut.rows
    in_rows = omega (arith, low, many)

    pub is_row : IsRow M row_here
    is_row = cut.of.are at [] in_rows

    pub short : length row_here ≤ most
    short = cut.of.few at [] in_rows

    -- the row has the length that was cut
    pub count : (d : ℕ) → get_or cuts at d ≡ length row_here
    count d = ap (λ (c : List ℕ). get_or c at d) (sym cut.lengths) ∙ get_or-map length cut.rows at [] d in_rows

    pub next_rows : take (at + 1) cut.rows ≡ take at cut.rows ++ row_here ∷ []
    next_rows = take_more cut.rows at [] in_rows

    pub next_length : length (notes_in (take (at + 1) cut.rows)) ≡ length (notes_in
        (take at cut.rows)) + length row_here
    next_length = grind (arith, common_steps, append-nil, flat_map-append, length-append, next_rows)

    pub within : length (notes_in (take at cut.rows)) + length row_here ≤ length notes
    within = subst (λ (js : List J). length (notes_in (take at cut.rows)) + length row_here ≤ length js) cut.of.whole
        (length-flat_map-take (λ (r : List J). r) cut.rows at [] in_rows)

    first_foot : (row : List J) (d : J) → 0 < length row → M.foot (get_or row 0 d) ≡ row_foot M row
    first_foot [] d some = absurd (omega (arith, some))
    first_foot (j ∷ js) d some = refl

    -- the index of its first note is the number of notes in the rows before it
    pub foot_here : (n : ℕ) (j : J) → n ≡ length (notes_in (take at cut.rows)) → j ≡ get_or notes n j
        → M.foot j ≡ row_foot M row_here
    foot_here n j first is =
        let place : n ≡ length (notes_in (take at cut.rows)) + 0 = omega (arith, first) in
        ap M.foot (is ∙ ap (λ (js : List J). get_or js n j) (sym cut.of.whole)
        ∙ ap (λ (k : ℕ). get_or (notes_in cut.rows) k j) place
        ∙ get_or-flat_map (λ (r : List J). r) cut.rows at 0 [] j in_rows is_row.some)
        ∙ first_foot row_here j is_row.some

    pub first_below : (first : ℕ) → first ≡ length (notes_in (take at cut.rows)) → first < length notes
    first_below first e = let some = is_row.some in omega (arith, within, some, e)

    pub next_first : (first n d : ℕ) → first ≡ length (notes_in (take at cut.rows)) → n ≡ get_or cuts at d
        → first + n ≤ length notes
    next_first first n d e is = let many = count d in omega (arith, within, many, e, is)

    -- one more footprint
    pub feet_more : (feet : List Footprint) (first n d : ℕ) (j : J) (f : Footprint)
        → feet ≡ map (row_foot M) (take at cut.rows) → first ≡ length (notes_in (take at cut.rows))
        → j ≡ get_or notes first j
        → f ≡ M.foot j → n ≡ get_or cuts at d
        → (feet ++ f ∷ [] ≡ map (row_foot M) (take (at + 1) cut.rows))
        × (first + n ≡ length (notes_in (take (at + 1) cut.rows)))
    feet_more feet first n d j f so_far e is foot_is n_is =
        grind (arith, common_steps, count, foot_here, many, map-append, next_length, next_rows)

    -- one more row
    pub rows_more : (filled : List (List J)) (r : List J) → filled ≡ take at cut.rows → r ≡ row_here
        → filled ++ r ∷ [] ≡ take (at + 1) cut.rows
    rows_more filled r so_far is = grind (arith, common_steps, next_rows)

    pub left_here : notes_in (drop at cut.rows) ≡ row_here ++ notes_in (drop (at + 1) cut.rows)
    left_here = ap notes_in (drop_more cut.rows at [] in_rows)

    -- what holds for all notes holds for the row's notes
    pub row_shapes : (P : J → Type 0) → All P notes → (r : List J) → r ≡ row_here → All P r
    row_shapes P all r same =
        let whole : notes ≡ (notes_in (take at cut.rows) ++ row_here) ++ notes_in (drop (at + 1) cut.rows) =
        sym cut.of.whole ∙ ap notes_in (sym (take-append-drop at cut.rows))
        ∙ flat_map-append (λ (x : List J). x) (take at cut.rows) (drop at cut.rows)
        ∙ ap (λ (l : List J). notes_in (take at cut.rows) ++ l) left_here
        ∙ sym (append_assoc (notes_in (take at cut.rows)) row_here (notes_in (drop (at + 1) cut.rows))) in
        let parts = All-same P _ _ (sym whole) all in
        All-same P r row_here same
        (middle_of P (notes_in (take at cut.rows)) row_here (notes_in (drop (at + 1) cut.rows)) parts)

    pub longer : length row_here ≤ length (notes_in (drop at cut.rows))
    longer = grind (arith, common_steps, left_here, length-append)

    -- the first of the remaining notes, as many as the row has, are the row's notes
    pub fills : (r rest : List J) (d : ℕ) → length r ≡ get_or cuts at d → r ++ rest ≡ notes_in (drop at cut.rows)
        → AreSameTwo r rest row_here (notes_in (drop (at + 1) cut.rows))
    fills r rest d long e =
        same_two r rest row_here (notes_in (drop (at + 1) cut.rows)) (long ∙ count d) (e ∙ left_here)

  pub none_left : (at : ℕ) → length cuts ≤ at → notes_in (drop at cut.rows) ≡ []
  none_left at high = ap notes_in (drop_all at cut.rows (omega (arith, high, many)))

  pub all_taken : (at : ℕ) → length cuts ≤ at → take at cut.rows ≡ cut.rows
  all_taken at high = take_all at cut.rows (omega (arith, high, many))
