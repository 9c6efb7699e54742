-- The list of values that a run represents.
use Rattle.std.proofs.Common.{◌≡◌, ℕ, ℤ, ◌≤◌, List, ◌++◌, length, drop, max, nat_le, Result, Ok, Err, IfOk, arith, ap}
use Rattle.std.proofs.Common.{sym, ◌∙◌, refl, append_assoc}
use Rattle.std.proofs.lemmas.{Bool.Decides.nat_tests, List.drop-append-le, List.drop_all, Slice.drop-append-drop}
use Rattle.cs_base.proofs.Tests.{by_test}

-- the values from a place on: a statement's own values from there, followed by the values visible below them
hidden : (n : ℕ) (own below : List ℤ)
    → drop n (own ++ drop (length own) below) ≡ drop n own ++ drop (max n (length own)) below
hidden n own below = by_test (nat_le n (length own))
    (λ h.
    let low : n ≤ length own = grind (arith, nat_tests) in
    let most : length own ≡ max n (length own) = omega arith in
    drop-append-le n own (drop (length own) below) low ∙ ap (λ k. drop n own ++ drop k below) most)
    (λ h.
    let high : length own ≤ n = grind (arith, nat_tests) in
    let most : n ≡ max n (length own) = omega arith in
    drop-append-drop (length own) below own n high refl ∙ ap (λ t. t ++ drop n below) (sym (drop_all n own high))
    ∙ ap (λ k. drop n own ++ drop k below) most)

pub appended : {T E : Type 0} (r : Result T E) (now mid old rest own below : List ℤ) (from at : ℕ) → mid ≡ old ++ rest
    → rest ≡ drop from own → at ≡ max from (length own) → IfOk r (λ _. now ≡ mid ++ drop at below)
    → IfOk r (λ _. now ≡ old ++ drop from (own ++ drop (length own) below))
appended (Ok x) now mid old rest own below from at m s t h =
    h ∙ ap (λ l. l ++ drop at below) (m ∙ ap (λ l. old ++ l) s) ∙ ap (λ k. (old ++ drop from own) ++ drop k below) t
    ∙ append_assoc old (drop from own) (drop (max from (length own)) below)
    ∙ ap (λ l. old ++ l) (sym (hidden from own below))
appended (Err e) now mid old rest own below from at m s t h = tt
