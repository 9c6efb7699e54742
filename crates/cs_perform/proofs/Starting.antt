-- The counts of starts, which fit into 64 bits.
use Rattle.std.proofs.Common.{◌≡◌, ◌≤◌, ◌+◌, ◌*◌, ◌∙◌, ℕ, ap, arith}
use Rattle.cs_base.specs.Limits.{most_asks, most_events, most_statements}
use Rattle.cs_life.specs.Standing.{kept_count}
use Rattle.cs_piece_meaning.specs.{Course.begins, Course.closing, Course.moment_at, Moments.Composition}
use Rattle.cs_perform.specs.{declared.stand.Starts.Starts, inner.Ends.AreStartsOf}

abbrev most : ℕ
most = (most_events + most_asks) * (most_statements + 1)

kept_whole : (n : ℕ) → n ≤ most → kept_count n ≡ n
kept_whole n few = omega (arith, few)

pub starts_of : (c : Composition) (starts : Starts) (last : ℕ) → last ≡ c.cycles
    → (closing c).started + (closing c).not_started ≤ most
    → starts.started ≡ kept_count (begins c last (moment_at c c.cycles)).started
    → starts.not_started ≡ kept_count (begins c last (moment_at c c.cycles)).not_started → AreStartsOf c starts
starts_of c starts last is few started not_started =
    let a : ℕ = (closing c).started in
    let b : ℕ = (closing c).not_started in
    record {
      started = started ∙ ap (λ (k : ℕ). kept_count (begins c k (moment_at c c.cycles)).started) is
          ∙ kept_whole a (first a b few);
      not_started = not_started ∙ ap (λ (k : ℕ). kept_count (begins c k (moment_at c c.cycles)).not_started) is
          ∙ kept_whole b (second a b few);
    }
  where
    first : (a b : ℕ) → a + b ≤ most → a ≤ most
    first a b few = omega (arith, few)

    second : (a b : ℕ) → a + b ≤ most → b ≤ most
    second a b few = omega (arith, few)
