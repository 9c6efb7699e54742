-- The walk over a score's sections.
use Rattle.std.proofs.Common.{◌≡◌, ℕ, ◌+◌, List, [], ◌∷◌, ◌++◌, drop, take, map, sum, arith, ap, sym, ◌∙◌, append_assoc}
use Rattle.std.proofs.Common.{append-nil, length, nat_lt, ◌<◌, ◌≤◌, ◌^◌}
use Rattle.std.proofs.lemmas.{Bool.Decides.nat_tests, List.Sums.sum_by-cons, List.take_all}
use Rattle.cs_base.proofs.Tests.{by_test}
use Rattle.cs_base.specs.declared.head.Head.{Head}
use Rattle.cs_score.specs.declared.statement.ScoreStmt.{ScoreStmt}
use Rattle.cs_tempo.specs.{declared.plot.Event.Event, Sections.length_of, Sections.sections_of, Order.in_order}
use Rattle.cs_tempo.specs.Plot.{setting_of, events_along, events_from}

-- the lengths of all remaining sections: the first section's, and the lengths of the sections after it
pub length_first : (head : Head) (left : List ScoreStmt) (end total : ℕ) →
    sections_of left ≡ take end left ∷ sections_of (drop (end + 1) left) →
    total + length_of head (take end left) + sum (map (length_of head) (sections_of (drop (end + 1) left)))
    ≡ total + sum (map (length_of head) (sections_of left))
length_first head left end total h =
    omega (
      arith,
      ap (λ ss. sum (map (length_of head) ss)) h,
      sum_by-cons (λ (n : ℕ). n) (length_of head (take end left))
          (map (length_of head) (sections_of (drop (end + 1) left))),
    )

-- the events of the first remaining section, followed by the events of the sections after it
pub events_first : (head : Head) (offset : ℕ) (left : List ScoreStmt) (end : ℕ) (done : List Event) →
    sections_of left ≡ take end left ∷ sections_of (drop (end + 1) left) →
    (done ++ events_along (setting_of head offset (take end left)) [] (in_order (take end left)))
    ++ events_from head (offset + length_of head (take end left)) (sections_of (drop (end + 1) left))
    ≡ done ++ events_from head offset (sections_of left)
unfolding events_from
events_first head offset left end done h =
    append_assoc done (events_along (setting_of head offset (take end left)) [] (in_order (take end left)))
    (events_from head (offset + length_of head (take end left)) (sections_of (drop (end + 1) left)))
    ∙ ap (λ ss. done ++ events_from head offset ss) (sym h)

-- the events of the last section
pub events_last : (head : Head) (offset : ℕ) (left : List ScoreStmt) (done : List Event) →
    sections_of left ≡ left ∷ [] → done ++ events_along (setting_of head offset left) [] (in_order left)
    ≡ done ++ events_from head offset (sections_of left)
unfolding events_from
events_last head offset left done h =
    ap (λ es. done ++ es) (sym (append-nil (events_along (setting_of head offset left) [] (in_order left))))
    ∙ ap (λ ss. done ++ events_from head offset ss) (sym h)

-- the length of the last section
pub length_last : (head : Head) (left : List ScoreStmt) (end : ℕ) → sections_of left ≡ left ∷ [] → end ≡ length left
    → length_of head (take end left) ≡ sum (map (length_of head) (sections_of left))
length_last head left end last all =
    let one = sum_by-cons (λ (n : ℕ). n) (length_of head left) [] in
    let sums = ap (λ ss. sum (map (length_of head) ss)) last in
    let whole = ap (length_of head) (take_all end left (omega (arith, all))) in omega (arith, one, sums, whole)

-- the first remaining section is at most as long as all remaining ones
pub first_short : (head : Head) (offset : ℕ) (left : List ScoreStmt) (end : ℕ) → end ≤ length left
    → (end < length left → sections_of left ≡ take end left ∷ sections_of (drop (end + 1) left))
    → (end ≡ length left → sections_of left ≡ left ∷ [])
    → offset + sum (map (length_of head) (sections_of left)) ≤ 2 ^ 30 → offset + length_of head (take end left) ≤ 2 ^ 30
first_short head offset left end within ended last short = by_test (nat_lt end (length left))
    (λ t. let some : end < length left = grind (arith, nat_tests) in
    omega (arith, short, length_first head left end offset (ended some)))
    (λ f. let all : end ≡ length left = grind (arith, nat_tests) in
    omega (arith, short, length_last head left end (last all) all))
