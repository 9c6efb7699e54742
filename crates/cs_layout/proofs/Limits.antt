-- The limits that areas exceed.
use Rattle.std.proofs.Common.{◌≡◌, ◌<◌, ◌≤◌, true, false, List, length, nat_lt, Option, Some, None, Result, Err, IfSome}
use Rattle.std.proofs.Common.{if◌then◌else◌, sym, subst, ◌∙◌, ap, arith}
use Rattle.std.proofs.lemmas.Bool.Decides.{nat_tests}
use Rattle.cs_base.specs.Limits.{most_resources, most_words}
use Rattle.cs_base.specs.{declared.fault.Or.Or, declared.limit.LimitHit.LimitHit}
use Rattle.cs_cells.specs.{Areas.limit_passed, Areas.word_count, declared.footprint.Area.Area}
use Rattle.cs_base.specs.declared.fault.Or.TheVariants as or
use Rattle.cs_base.specs.declared.limit.Limit.TheVariants as limit

abbrev pub hit_resources : LimitHit
hit_resources = record { limit = limit.Resources; line = 0 }

abbrev pub hit_words : LimitHit
hit_words = record { limit = limit.Words; line = 0 }

pub resources_passed : (areas : List Area) → most_resources < length areas → limit_passed areas ≡ Some hit_resources
resources_passed areas many =
    let test : nat_lt most_resources (length areas) ≡ true = grind (arith, nat_tests) in
    ap (λ a. if a then Some hit_resources else (if nat_lt most_words (word_count areas) then Some hit_words else None))
    test

pub words_passed : (areas : List Area) → length areas ≤ most_resources → most_words < word_count areas
    → limit_passed areas ≡ Some hit_words
words_passed areas few long =
    let a : nat_lt most_resources (length areas) ≡ false = grind (arith, nat_tests) in
    let b : nat_lt most_words (word_count areas) ≡ true = grind (arith, nat_tests) in
    ap (λ x. if x then Some hit_resources else (if nat_lt most_words (word_count areas) then Some hit_words else None))
    a
    ∙ ap (λ x. if x then Some hit_words else None) b

pub none_passed : (areas : List Area) → length areas ≤ most_resources → word_count areas ≤ most_words
    → limit_passed areas ≡ None
none_passed areas few short =
    let a : nat_lt most_resources (length areas) ≡ false = grind (arith, nat_tests) in
    let b : nat_lt most_words (word_count areas) ≡ false = grind (arith, nat_tests) in
    ap (λ x. if x then Some hit_resources else (if nat_lt most_words (word_count areas) then Some hit_words else None))
    a
    ∙ ap (λ x. if x then Some hit_words else None) b

-- the result contains the limit
pub limit_told : (T : Type 0) (o : Option LimitHit) (h : LimitHit) (r : Or LimitHit) → o ≡ Some h → r ≡ or.Fault h
    → IfSome o (λ k. ◌≡◌ {A = Result T (Or LimitHit)} (Err r) (Err (or.Fault k)))
limit_told T o h r is told =
    let fail : Or LimitHit → Result T (Or LimitHit) = λ e. Err e in
    subst (λ p. IfSome p (λ k. ◌≡◌ {A = Result T (Or LimitHit)} (Err r) (Err (or.Fault k)))) (sym is) (ap fail told)
