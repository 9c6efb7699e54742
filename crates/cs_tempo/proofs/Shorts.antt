-- A score within all limits is short.
use Rattle.std.proofs.Common.{◌≡◌, ℕ, ◌*◌, ◌^◌, ◌≤◌, Bool, true, false, nat_lt, Option, Some, None, List, [], map, sum}
use Rattle.std.proofs.Common.{arith, refl, if◌then◌else◌}
use Rattle.std.proofs.lemmas.{Bool.Decides.nat_tests, Nat.mul-le}
use Rattle.cs_base.specs.{Limits.most_wav_bytes, declared.head.Head.Head}
use Rattle.cs_base.proofs.Tests.{both_none}
use Rattle.cs_score.specs.{declared.statement.ScoreStmt.ScoreStmt, Limits.first_at, Limits.limit_of_score}
use Rattle.cs_tempo.specs.{declared.plot.Event.Event, Sections.sections_of, Sections.length_of, Plot.events_from}
use Rattle.cs_tempo.specs.Limits.{at_event, bytes_hit, limit_of, limit_of_sections, passes_bytes, passes_notes}

not_passed : (b : Bool) → (if b then bytes_hit else None) ≡ None → b ≡ false
not_passed true h = absurd (cc)
not_passed false h = refl

few_bytes : (n : ℕ) → nat_lt most_wav_bytes n ≡ false → n ≤ most_wav_bytes
few_bytes n h = grind (arith, nat_tests)

few_cycles : (n k m : ℕ) → 1 ≤ k → 1 ≤ m → n * k * m * 2 ≤ most_wav_bytes → n ≤ 2 ^ 30
few_cycles n k m a b r =
    let p : n * 1 ≤ n * k = mul-le n 1 n k (omega arith) a in
    let q : n * k * 1 ≤ n * k * m = mul-le (n * k) 1 (n * k) m (omega arith) b in omega (arith, p, q, r)

no_event : (o : Option Event) → at_event o ≡ None → o ≡ None
no_event None e = refl
no_event (Some x) e = absurd (cc)

module _ (head : Head) (score : List ScoreStmt) (h : limit_of head score ≡ None) where
  abbrev pub cycles : ℕ
  cycles = sum (map (length_of head) (sections_of score))

  -- the score exceeds none of the limits on its statements
  pub counts_within : limit_of_score score ≡ None
  counts_within = (both_none (limit_of_score score) _ h).0

  after : limit_of_sections head (sections_of score) ≡ None
  after = (both_none (limit_of_score score) _ h).1

  pub bytes_within : cycles * head.ksmps * head.nchnls * 2 ≤ most_wav_bytes
  bytes_within = few_bytes (cycles * head.ksmps * head.nchnls * 2) (not_passed (passes_bytes head cycles)
      (both_none (if passes_bytes head cycles then bytes_hit else None) _ after).0)

  pub notes_within : first_at passes_notes [] (events_from head 0 (sections_of score)) ≡ None
  notes_within = no_event _ (both_none (if passes_bytes head cycles then bytes_hit else None) _ after).1

  pub plot_short : cycles ≤ 2 ^ 30
  plot_short = few_cycles cycles head.ksmps head.nchnls head.ksmps_in_range.0 head.nchnls_in_range.0 bytes_within
