-- Counts, one after another.
use Rattle.std.proofs.lemmas.{Grind.common_steps, Bool.Decides.nat_tests, Option.none-some}
use Rattle.std.proofs.Common.{◌≡◌, ◌∙◌, ◌+◌, ◌≤◌, ℕ, Bool, true, false, nat_lt, if◌then◌else◌, List, [], ◌∷◌, ◌++◌}
use Rattle.std.proofs.Common.{Some, None, arith, refl, ap}
use Rattle.std.specs.Option.{option_or}
use Rattle.cs_base.specs.Limits.{most_statements}
use Rattle.cs_udo.specs.{Counted.line_passing, declared.tally.RunningCount.RunningCount}
use Rattle.cs_udo.specs.inner.Tallies.{capped, total, passed_at, after_count, after_counts}

-- the counts of two lists, one after the other
pub after_both : (t : RunningCount) (xs ys : List (ℕ × ℕ))
    → after_counts t (xs ++ ys) ≡ after_counts (after_counts t xs) ys
after_both t [] ys = refl
after_both t (c ∷ xs) ys = after_both (after_count t c) xs ys

pub total_both : (xs ys : List (ℕ × ℕ)) → total (xs ++ ys) ≡ total xs + total ys
total_both [] ys = omega arith
total_both (c ∷ xs) ys = omega (arith, total_both xs ys)

-- the sum of all counts
pub sum_after : (t : RunningCount) (s : ℕ) (xs : List (ℕ × ℕ)) → t.sum ≡ capped s
    → (after_counts t xs).sum ≡ capped (s + total xs)
sum_after t s [] e = omega (arith, e)
sum_after t s (c ∷ rest) e = omega (arith, sum_after (after_count t c) (s + c.1) rest (omega (arith, e)))

stays : (t : RunningCount) (line : ℕ) (xs : List (ℕ × ℕ)) → t.passed ≡ Some line
    → (after_counts t xs).passed ≡ Some line
stays t line [] e = e
stays t line (c ∷ rest) e = stays (after_count t c) line rest (ap (λ o. option_or o (passed_at t.sum c)) e)

not_past : (n : ℕ) → nat_lt 2000 n ≡ false → n ≤ 2000
not_past n e = grind (arith, nat_tests)

-- the line at which the sum exceeds the limit
pub passed_after : (t : RunningCount) (xs : List (ℕ × ℕ)) → t.passed ≡ None → t.sum ≤ 2000
    → (after_counts t xs).passed ≡ line_passing most_statements t.sum xs
passed_after t [] none le = none
passed_after t (c ∷ rest) none le = by (nat_lt 2000 (t.sum + c.1)) refl (passed_after (after_count t c) rest)
  where
    by : (b : Bool) → nat_lt 2000 (t.sum + c.1) ≡ b
        → ((after_count t c).passed ≡ None → (after_count t c).sum ≤ 2000
        → (after_counts (after_count t c) rest).passed ≡ line_passing most_statements (after_count t c).sum rest)
        → (after_counts (after_count t c) rest).passed
        ≡ (if b then Some c.0 else line_passing most_statements (t.sum + c.1) rest)
    by true e more =
        stays (after_count t c) c.0 rest
        (ap (λ o. option_or o (passed_at t.sum c)) none ∙ ap (λ b. if b then Some c.0 else None) e)
    by false e more =
        let few : t.sum + c.1 ≤ 2000 = not_past (t.sum + c.1) e in
        let within : (after_count t c).sum ≡ t.sum + c.1 = omega (arith, few) in
        more (ap (λ o. option_or o (passed_at t.sum c)) none ∙ ap (λ b. if b then Some c.0 else None) e)
        (omega (arith, within, few))
        ∙ ap (λ n. line_passing most_statements n rest) within

-- if no line exceeds the limit, the sum is within it
pub within_all : (s : ℕ) (xs : List (ℕ × ℕ)) → s ≤ 2000 → line_passing most_statements s xs ≡ None → s + total xs ≤ 2000
within_all s [] le e = omega (arith, le)
within_all s (c ∷ rest) le e = grind (arith, common_steps, nat_lt, none-some, not_past, within_all (s + c.1) rest)
