-- Pairs of elements of lists that are joined.
use Rattle.std.proofs.Common.{◌≡◌, zero, suc, ◌+◌, Bool, true, false, not, List, [], ◌∷◌, ◌++◌, length, get_or, refl}
use Rattle.std.proofs.Common.{arith, length-append}
use Rattle.std.specs.Prelude.{All, AllPairs, filter, cond}
use Rattle.std.proofs.lemmas.List.Elements.{All-append, All-cons, All-filter, All-head, All-tail}
use Rattle.std.proofs.lemmas.{List.Filters.length-filter_both, List.Kept.AllPairs-cons, List.Kept.AllPairs-filter}

module _ {A : Type 0} (R : A → A → Type 0) where
  pub head_pairs : (x : A) (xs : List A) → AllPairs R (x ∷ xs) → All (R x) xs
  head_pairs x xs h k d lt = h zero (suc k) d (omega arith) (omega arith)

  pub tail_pairs : (x : A) (xs : List A) → AllPairs R (x ∷ xs) → AllPairs R xs
  tail_pairs x xs h i j d lt within = h (suc i) (suc j) d (omega arith) (omega arith)

  -- two lists in which each element of the first is related to each of the second
  pub AllPairs-append : (xs ys : List A) → AllPairs R xs → AllPairs R ys → All (λ x. All (R x) ys) xs
      → AllPairs R (xs ++ ys)
  AllPairs-append [] ys first last cross = last
  AllPairs-append (x ∷ xs) ys first last cross =
      AllPairs-cons R x (xs ++ ys)
      (All-append (R x) xs ys (head_pairs x xs first) (All-head (λ y. All (R y) ys) x xs cross))
      (AllPairs-append xs ys (tail_pairs x xs first) last (All-tail (λ y. All (R y) ys) x xs cross))

  -- If the relation is symmetric, items that pass a test are related to items that don't.
  module _ (p : A → Bool) (back : (x y : A) → R x y → R y x) where
    all_of : (x : A) (xs : List A) → All (R x) xs → (b : Bool)
        → All (λ y. All (R y) (filter (λ z. not (p z)) xs)) (filter p xs)
        → All (λ y. All (R y) (cond (not b) (x ∷ filter (λ z. not (p z)) xs) (filter (λ z. not (p z)) xs)))
        (cond b (x ∷ filter p xs) (filter p xs))
    all_of x xs head true rest =
        All-cons (λ y. All (R y) (filter (λ z. not (p z)) xs)) x (filter p xs)
        (All-filter (λ z. not (p z)) (R x) xs head) rest
    all_of x xs head false rest = λ k d lt. All-cons (R (get_or (filter p xs) k d)) x (filter (λ z. not (p z)) xs)
        (back x (get_or (filter p xs) k d) (All-filter p (R x) xs head k d lt)) (rest k d lt)

    pub pairs_across : (xs : List A) → AllPairs R xs → All (λ y. All (R y) (filter (λ z. not (p z)) xs)) (filter p xs)
    pairs_across [] h = λ k d lt. absurd (omega arith)
    pairs_across (x ∷ xs) h = all_of x xs (head_pairs x xs h) (p x) (pairs_across xs (tail_pairs x xs h))

module _ {A : Type 0} (p : A → Bool) (n : A) (xs : List A) where
  pub between_all : (P : A → Type 0) → P n → All P xs → All P (filter p xs ++ n ∷ filter (λ z. not (p z)) xs)
  between_all P this all =
      All-append P (filter p xs) (n ∷ filter (λ z. not (p z)) xs) (All-filter p P xs all)
      (All-cons P n (filter (λ z. not (p z)) xs) this (All-filter (λ z. not (p z)) P xs all))

  pub between_long : length (filter p xs ++ n ∷ filter (λ z. not (p z)) xs) ≡ length xs + 1
  between_long =
      let long = length-append (filter p xs) (n ∷ filter (λ z. not (p z)) xs) in
      let both = length-filter_both p (λ z. not (p z)) (λ z. refl) xs in
      omega (arith, long, both)

  -- the new item comes after the items that pass the test and before the items that don't
  pub between_pairs : (R : A → A → Type 0) → All (λ x. R x n) (filter p xs) → All (R n) (filter (λ z. not (p z)) xs)
      → All (λ x. All (R x) (filter (λ z. not (p z)) xs)) (filter p xs) → AllPairs R xs
      → AllPairs R (filter p xs ++ n ∷ filter (λ z. not (p z)) xs)
  between_pairs R low high across pairs =
      AllPairs-append R (filter p xs) (n ∷ filter (λ z. not (p z)) xs) (AllPairs-filter R p xs pairs)
      (AllPairs-cons R n (filter (λ z. not (p z)) xs) high (AllPairs-filter R (λ z. not (p z)) xs pairs))
      (λ k d lt. All-cons (R (get_or (filter p xs) k d)) n (filter (λ z. not (p z)) xs) (low k d lt) (across k d lt))
