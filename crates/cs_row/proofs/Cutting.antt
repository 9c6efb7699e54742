-- Notes are cut into rows one after another: a note joins the last row, or begins a new one.
use Rattle.std.proofs.lemmas.{Grind.common_steps, List.Concat.flat_map-append}
use Rattle.std.proofs.Common.{◌≡◌, ◌<◌, ◌≤◌, ◌+◌, ◌-◌, get_or, set, ℕ, List, [], ◌∷◌, ◌++◌, length, map, take, refl}
use Rattle.std.proofs.Common.{sym, ap, ◌∙◌, Some, subst, arith, append_assoc, append-nil}
use Rattle.std.specs.List.{All}
use Rattle.std.proofs.lemmas.List.{get_or-append_right, set-append_right, length-append, length-map, map-append}
use Rattle.std.proofs.lemmas.List.{take_more, get_or-take, get_or_default, length-take-le}
use Rattle.std.proofs.lemmas.List.Elements.{All-append, All-cons, All-get_or, All-nil, All-pop}
use Rattle.cs_cells.specs.{Meaning.Meaning, declared.footprint.Area.Area, declared.footprint.Footprint.Footprint}
use Rattle.cs_row.specs.Cuts.{AreRowsOf, IsCut}
use Rattle.cs_row.specs.Rows.{IsFree, IsRow, Touches, notes_in, row_areas, row_foot}

module _ {A : Type 0} where
  -- a list that is not empty has a last element
  pub record HasLast (xs : List A) : Type 0 where
    pub front : List A
    pub last : A
    pub is : xs ≡ front ++ last ∷ []

  pub last_of : (xs : List A) → 0 < length xs → HasLast xs
  last_of [] l = absurd (omega (arith, l))
  last_of (x ∷ []) l = record { front = []; last = x; is = refl }
  last_of (x ∷ y ∷ xs) l =
      let r = last_of (y ∷ xs) (omega arith) in
      record { front = x ∷ r.front; last = r.last; is = ap (λ (zs : List A). x ∷ zs) r.is }

  pub last_read : (xs : List A) (x d : A) (n : ℕ) → n ≡ length (xs ++ x ∷ []) → get_or (xs ++ x ∷ []) (n - 1) d ≡ x
  last_read xs x d n e = grind (arith, common_steps, get_or-append_right, length-append)

  pub last_set : (xs : List A) (x y : A) (n : ℕ) → n ≡ length (xs ++ x ∷ [])
      → set (xs ++ x ∷ []) (n - 1) y ≡ xs ++ y ∷ []
  last_set xs x y n e =
      let long : length (xs ++ x ∷ []) ≡ length xs + 1 = length-append xs (x ∷ []) in
      let low : length xs ≤ n - 1 = omega (arith, e, long) in
      let none : n - 1 - length xs ≡ 0 = omega (arith, e, long) in
      set-append_right xs (x ∷ []) (length xs) (n - 1) y refl low
      ∙ ap (λ (k : ℕ). xs ++ set (x ∷ []) k y) none

module _ {J : Type 0} (M : Meaning J) (most : ℕ) where
  -- a single note is a row
  alone : (j : J) → M.valid j → IsRow M (j ∷ [])
  alone j valid = grind (arith, common_steps)

  alone_free : (j : J) → IsFree M (j ∷ [])
  alone_free j l = absurd (omega (arith, l))

  -- one more row
  more_rows : (notes : List J) (rows : List (List J)) (row : List J) → AreRowsOf M most notes rows → IsRow M row
      → IsFree M row → length row ≤ most → AreRowsOf M most (notes ++ row) (rows ++ row ∷ [])
  more_rows notes rows row c is free few = grind (arith, common_steps, append-nil, flat_map-append)

  -- one more note, which begins a row
  begins : (notes : List J) (cuts : List ℕ) (j : J) → IsCut M most notes cuts → M.valid j → 1 ≤ most
      → IsCut M most (notes ++ j ∷ []) (cuts ++ 1 ∷ [])
  begins notes cuts j c valid room = record {
    rows = c.rows ++ (j ∷ []) ∷ [];
    of = more_rows notes c.rows (j ∷ []) c.of (alone j valid) (alone_free j) room;
    lengths = map-append length c.rows ((j ∷ []) ∷ []) ∙ ap (λ (l : List ℕ). l ++ 1 ∷ []) c.lengths;
  }

  -- the last row, and the rows before it
  record HasLastRow (notes : List J) (cuts : List ℕ) : Type 0 where
    front : List (List J)
    row : List J
    of : AreRowsOf M most (notes_in front) front
    is : IsRow M row
    lengths : cuts ≡ map length front ++ length row ∷ []
    whole : notes ≡ notes_in front ++ row

  some_rows : (rows : List (List J)) → 0 < length (notes_in rows) → 0 < length rows
  some_rows [] l = absurd (omega (arith, l))
  some_rows (row ∷ rows) l = omega arith

  parted : (notes : List J) (cuts : List ℕ) → IsCut M most notes cuts → 0 < length notes → HasLastRow notes cuts
  parted notes cuts c some =
      let few : List J → Type 0 = λ r. length r ≤ most in
      let h = last_of c.rows (some_rows c.rows (subst (λ (l : List J). 0 < length l) (sym c.of.whole) some)) in
      let are = All-pop (IsRow M) c.rows h.front (Some h.last) h.is c.of.are in
      let free = All-pop (IsFree M) c.rows h.front (Some h.last) h.is c.of.free in
      let short = All-pop few c.rows h.front (Some h.last) h.is c.of.few in
      record {
        front = h.front;
        row = h.last;
        of = record { whole = refl; are = are.0; free = free.0; few = short.0 };
        is = are.1;
        lengths = sym c.lengths ∙ ap (map length) h.is ∙ map-append length h.front (h.last ∷ []);
        whole = sym c.of.whole ∙ ap notes_in h.is ∙ flat_map-append (λ (r : List J). r) h.front (h.last ∷ [])
            ∙ ap (λ (l : List J). notes_in h.front ++ l) (append-nil h.last);
      }

  -- a row with one more job that touches the same resources
  grown : (row : List J) (j : J) → IsRow M row → M.areas j ≡ row_areas M row → M.foot j ≡ row_foot M row → M.valid j
      → IsRow M (row ++ j ∷ [])
  grown [] j r areas foot valid = absurd (let l : 0 < 0 = r.some in omega (arith, l))
  grown (x ∷ row) j r areas foot valid = record {
    some = omega arith;
    alike = All-append (Touches M (M.areas x) (M.foot x)) (x ∷ row) (j ∷ []) r.alike
        (All-cons (Touches M (M.areas x) (M.foot x)) j []
        (record { areas_are = areas; foot_is = foot; valid = valid })
        (All-nil (Touches M (M.areas x) (M.foot x))));
  }

  grown_foot : (row : List J) (j : J) → 0 < length row → row_foot M (row ++ j ∷ []) ≡ row_foot M row
  grown_foot [] j some = absurd (omega (arith, some))
  grown_foot (x ∷ row) j some = refl

  -- the last of the notes so far touches what the last row touches
  last_touches : (before row : List J) (x : J) (n : ℕ) → n + 1 ≡ length (before ++ row)
      → x ≡ get_or (before ++ row) n x → IsRow M row → Touches M (row_areas M row) (row_foot M row) x
  last_touches before row x n last is r =
      let some = r.some in
      let long : length (before ++ row) ≡ length before + length row = length-append before row in
      let behind : length before ≤ n = omega (arith, last, some, long) in
      let within : n - length before < length row = omega (arith, last, some, long) in
      subst (Touches M (row_areas M row) (row_foot M row))
      (sym (is ∙ get_or-append_right before row (length before) n x refl behind))
      (r.alike (n - length before) x within)

  -- one more note, which joins the last row
  joins : (notes : List J) (cuts : List ℕ) (j : J) (h : HasLastRow notes cuts) → length h.row < most
      → M.areas j ≡ row_areas M h.row → M.foot j ≡ row_foot M h.row → (M.foot j).writes ≡ [] → M.valid j
      → IsCut M most (notes ++ j ∷ []) (map length h.front ++ (length h.row + 1) ∷ [])
  joins notes cuts j h room areas foot none valid =
      let row = h.row ++ j ∷ [] in
      let long : length row ≡ length h.row + 1 = length-append h.row (j ∷ []) in
      record {
        rows = h.front ++ row ∷ [];
        of = subst (λ (l : List J). AreRowsOf M most l (h.front ++ row ∷ []))
            (sym (append_assoc (notes_in h.front) h.row (j ∷ [])) ∙ ap (λ (l : List J). l ++ j ∷ []) (sym h.whole))
            (more_rows (notes_in h.front) h.front row h.of (grown h.row j h.is areas foot valid)
            (λ _. ap (λ (f : Footprint). f.writes) (grown_foot h.row j h.is.some ∙ sym foot) ∙ none)
            (omega (arith, room, long)));
        lengths = map-append length h.front (row ∷ []) ∙ ap (λ (n : ℕ). map length h.front ++ n ∷ []) long;
      }

  -- the next note, by its index
  module _ (notes : List J) (at : ℕ) (next : J) (cuts : List ℕ) (within : at < length notes)
      (next_is : next ≡ get_or notes at next) (valid : All M.valid notes) (c : IsCut M most (take at notes) cuts) where
    next_valid : M.valid next
    next_valid = subst M.valid (sym next_is) (All-get_or M.valid notes at next within valid)

    more : take at notes ++ next ∷ [] ≡ take (at + 1) notes
    more = sym (take_more notes at next within ∙ ap (λ (j : J). take at notes ++ j ∷ []) (sym next_is))

    begins_at : 1 ≤ most → IsCut M most (take (at + 1) notes) (cuts ++ 1 ∷ [])
    begins_at room = grind (arith, common_steps, begins, more, next_valid)

    module _ (one : J) (one_is : one ≡ get_or notes (at - 1) one) (some : 0 < at)
        (over : (areas : List Area) × All (λ j. M.areas j ≡ areas) notes) where
      taken : length (take at notes) ≡ at
      taken = length-take-le at notes (omega (arith, within))

      there : 0 < length (take at notes)
      there = omega (arith, taken, some)

      last_one : HasLastRow (take at notes) cuts
      last_one = parted (take at notes) cuts c there

      one_touches : Touches M (row_areas M last_one.row) (row_foot M last_one.row) one
      one_touches =
          let h = last_one in
          let long = ap length (sym h.whole) ∙ taken in
          let seen : one ≡ get_or (take at notes) (at - 1) one =
          one_is ∙ sym (get_or-take at notes (at - 1) one (omega (arith, some))) in
          last_touches (notes_in h.front) h.row one (at - 1) (omega (arith, long, some))
          (seen ∙ ap (λ (l : List J). get_or l (at - 1) one) h.whole) h.is

      pub next_joins : (n : ℕ) → n ≡ length cuts → get_or cuts (n - 1) 0 < most → M.foot one ≡ M.foot next
          → (M.foot next).writes ≡ []
          → IsCut M most (take (at + 1) notes) (set cuts (n - 1) (get_or cuts (n - 1) 0 + 1))
      next_joins n rows room same none =
          let h = last_one in
          let front = map length h.front in
          let many : n ≡ length (front ++ length h.row ∷ []) = rows ∙ ap length h.lengths in
          let count : get_or cuts (n - 1) 0 ≡ length h.row =
          ap (λ (l : List ℕ). get_or l (n - 1) 0) h.lengths ∙ last_read front (length h.row) 0 n many in
          let put : set cuts (n - 1) (get_or cuts (n - 1) 0 + 1) ≡ front ++ (length h.row + 1) ∷ [] =
          ap (λ (k : ℕ). set cuts (n - 1) (k + 1)) count
          ∙ ap (λ (l : List ℕ). set l (n - 1) (length h.row + 1)) h.lengths
          ∙ last_set front (length h.row) (length h.row + 1) n many in
          let areas : M.areas next ≡ M.areas one =
          ap M.areas next_is ∙ All-get_or (λ (j : J). M.areas j ≡ over.0) notes at next within over.1
          ∙ sym (All-get_or (λ (j : J). M.areas j ≡ over.0) notes (at - 1) one (omega (arith, within)) over.1)
          ∙ ap M.areas (sym one_is) in
          subst (λ (l : List J). IsCut M most l (set cuts (n - 1) (get_or cuts (n - 1) 0 + 1))) more
          (subst (λ (l : List ℕ). IsCut M most (take at notes ++ next ∷ []) l) (sym put)
          (joins (take at notes) cuts next h (omega (arith, room, count))
          (areas ∙ one_touches.areas_are) (sym same ∙ one_touches.foot_is) none next_valid))

  -- there is a note at the index
  record IsThere (notes : List J) (at : ℕ) : Type 0 where
    note : J
    is : note ≡ get_or notes at note

  there_is : (notes : List J) (at : ℕ) → at < length notes → IsThere notes at
  there_is [] at low = absurd (omega (arith, low))
  there_is (j ∷ js) at low =
      let d = get_or (j ∷ js) at j in
      record { note = d; is = get_or_default (j ∷ js) at j d low }

  pub next_begins : (notes : List J) (at : ℕ) (cuts : List ℕ) → at < length notes → All M.valid notes
      → IsCut M most (take at notes) cuts → 1 ≤ most → IsCut M most (take (at + 1) notes) (cuts ++ 1 ∷ [])
  next_begins notes at cuts within valid c room =
      let h = there_is notes at within in
      begins_at notes at h.note cuts within h.is valid c room

  pub some_cuts : (notes : List J) (at : ℕ) (cuts : List ℕ) → at < length notes → IsCut M most (take at notes) cuts
      → 0 < at → 0 < length cuts
  some_cuts notes at cuts within c some = grind (arith, common_steps, length-map, length-take-le, some_rows)
