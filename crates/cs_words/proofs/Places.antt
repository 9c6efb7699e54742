-- Indices of different names.
use Rattle.std.proofs.Common.{◌≡◌, ◌∙◌, ◌++◌, ◌||◌, ◌+◌, ◌<◌, ℕ, Bool, true, false, List, [], ◌∷◌, not, cond}
use Rattle.std.proofs.Common.{if◌then◌else◌, refl, sym, ap, length, Some, arith, slice_get, get_or}
use Rattle.std.specs.Str.{bytes_eq}
use Rattle.std.proofs.lemmas.{Slice.Eq.bytes_eq-Decides, List.Sums.passes_at_first, Option.slice_get-get_or}
use Rattle.std.proofs.lemmas.List.Folds.{list_any-append}
use Rattle.cs_words.specs.NameSets.{has, place_of, seen}

same : (name : List ℕ) → bytes_eq name name ≡ true
same name = (bytes_eq-Decides name name).1 refl

-- the index of a name that the list contains is less than the length
within : (name : List ℕ) (names : List (List ℕ)) → has names name ≡ true → place_of names name < length names
within name [] e = absurd (cc e)
within name (x ∷ xs) e = by (bytes_eq name x) (within name xs) e
  where
    by : (b : Bool) → (has xs name ≡ true → place_of xs name < length xs) → (b || has xs name) ≡ true
        → cond (not b) (1 + place_of xs name) 0 < length (x ∷ xs)
    by true rest e = omega arith
    by false rest e = let h = rest e in omega arith

pub found_place : (names : List (List ℕ)) (name : List ℕ) → has names name ≡ true
    → slice_get names (place_of names name) ≡ Some name
found_place names name e =
    let lt = within name names e in
    slice_get-get_or names (place_of names name) [] lt
    ∙ ap Some (sym ((bytes_eq-Decides name (get_or names (place_of names name) [])).0
    (passes_at_first (bytes_eq name) names [] lt)))

pub one_place : (names : List (List ℕ)) (m n : List ℕ) → has names m ≡ true → has names n ≡ true
    → place_of names m ≡ place_of names n → m ≡ n
one_place names m n e f same_place = cc (found_place names m e, found_place names n f, ap (slice_get names) same_place)

pub past_all : (names : List (List ℕ)) (name : List ℕ) → has names name ≡ false → place_of names name ≡ length names
past_all [] name e = refl
past_all (x ∷ xs) name e = by (bytes_eq name x) (past_all xs name) e
  where
    by : (b : Bool) → (has xs name ≡ false → place_of xs name ≡ length xs) → (b || has xs name) ≡ false
        → cond (not b) (1 + place_of xs name) 0 ≡ length (x ∷ xs)
    by true rest e = absurd (cc e)
    by false rest e = let h = rest e in omega arith

pub seen_is_there : (names : List (List ℕ)) (name : List ℕ) → has (seen names name) name ≡ true
seen_is_there names name = by (has names name) refl
  where
    by : (b : Bool) → has names name ≡ b → has (if b then names else names ++ name ∷ []) name ≡ true
    by true e = e
    by false e =
        list_any-append (bytes_eq name) names (name ∷ [])
        ∙ ap (λ b. b || (bytes_eq name name || false)) e
        ∙ ap (λ b. b || false) (same name)

pub stays_there : (names : List (List ℕ)) (m n : List ℕ) → has names m ≡ true → has (seen names n) m ≡ true
stays_there names m n e = by (has names n)
  where
    by : (b : Bool) → has (if b then names else names ++ n ∷ []) m ≡ true
    by true = e
    by false = list_any-append (bytes_eq m) names (n ∷ []) ∙ ap (λ b. b || (bytes_eq m n || false)) e

place_before : (name : List ℕ) (names more : List (List ℕ)) → has names name ≡ true
    → place_of (names ++ more) name ≡ place_of names name
place_before name [] more e = absurd (cc e)
place_before name (x ∷ xs) more e = by (bytes_eq name x) (place_before name xs more) e
  where
    by : (b : Bool) → (has xs name ≡ true → place_of (xs ++ more) name ≡ place_of xs name) → (b || has xs name) ≡ true
        → cond (not b) (1 + place_of (xs ++ more) name) 0 ≡ cond (not b) (1 + place_of xs name) 0
    by true rest e = refl
    by false rest e = ap (λ n. 1 + n) (rest e)

pub keeps_place : (names : List (List ℕ)) (m n : List ℕ) → has names m ≡ true
    → place_of (seen names n) m ≡ place_of names m
keeps_place names m n e = by (has names n)
  where
    by : (b : Bool) → place_of (if b then names else names ++ n ∷ []) m ≡ place_of names m
    by true = refl
    by false = place_before m names (n ∷ []) e

place_at_end : (name : List ℕ) (names : List (List ℕ)) → has names name ≡ false
    → place_of (names ++ name ∷ []) name ≡ length names
place_at_end name [] e = ap (λ b. cond (not b) (1 + 0) 0) (same name)
place_at_end name (x ∷ xs) e = by (bytes_eq name x) (place_at_end name xs) e
  where
    by : (b : Bool) → (has xs name ≡ false → place_of (xs ++ name ∷ []) name ≡ length xs) → (b || has xs name) ≡ false
        → cond (not b) (1 + place_of (xs ++ name ∷ []) name) 0 ≡ length (x ∷ xs)
    by true rest e = absurd (cc e)
    by false rest e = let h = rest e in omega arith

pub new_place : (names : List (List ℕ)) (name : List ℕ) → has names name ≡ false
    → place_of (seen names name) name ≡ length names
new_place names name e =
    ap (λ b. place_of (if b then names else names ++ name ∷ []) name) e ∙ place_at_end name names e
