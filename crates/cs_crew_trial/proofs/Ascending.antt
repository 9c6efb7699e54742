-- Indexes that ascend below a number.
use Rattle.std.proofs.Common.{◌≡◌, ℕ, ◌+◌, ◌<◌, ◌≤◌, ⊎_elim, List, [], ◌∷◌, ◌++◌, length, get_or, sym, arith}
use Rattle.std.proofs.lemmas.{Bool.cases_lt, List.get_or_append_left, List.get_or_push, List.length_push}
use Rattle.std.specs.List.Sorted.{IsStrictlyIncreasing}
use Rattle.cs_cells.specs.Areas.{IsFootprint}

pub record AscendBelow (places : List ℕ) (n : ℕ) : Type 0 where
  pub up : IsStrictlyIncreasing places
  pub below : (k d : ℕ) → k < length places → get_or places k d < n

pub none : AscendBelow [] 0
none = record { up = λ k l. absurd (omega arith); below = λ k d l. absurd (omega arith) }

pub passed : (places : List ℕ) (n : ℕ) → AscendBelow places n → AscendBelow places (n + 1)
passed places n h = record { up = h.up; below = λ k d l. omega (arith, h.below k d l) }

pub pushed : (places : List ℕ) (n : ℕ) → AscendBelow places n → AscendBelow (places ++ n ∷ []) (n + 1)
pushed places n h = let long = length_push places n in record {
  up = λ k l. ⊎_elim
      (λ (front : k + 1 < length places). omega (
        arith,
        get_or_append_left places (n ∷ []) 0 k (omega arith),
        get_or_append_left places (n ∷ []) 0 (k + 1) front,
        h.up k front,
      ))
      (λ (last : length places ≤ k + 1). omega (
        arith,
        get_or_append_left places (n ∷ []) 0 k (omega (arith, l, long)),
        get_or_push places n 0 (k + 1) (omega (arith, l, long)),
        h.below k 0 (omega (arith, l, long)),
      ))
      (cases_lt (k + 1) (length places));
  below = λ k d l. ⊎_elim
      (λ (front : k < length places). omega (arith, get_or_append_left places (n ∷ []) d k front, h.below k d front))
      (λ (last : length places ≤ k). omega (arith, get_or_push places n d k (omega (arith, l, long))))
      (cases_lt k (length places));
}

pub footprint : (places : List ℕ) (n : ℕ) → AscendBelow places n
    → IsFootprint n (record { uses = places; writes = places })
footprint places n h = record {
  uses = h.up;
  writes = h.up;
  within = λ r c. omega (arith, h.below c.0 r c.1, c.2);
  written = λ r c. c;
}
