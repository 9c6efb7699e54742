-- Each note that waits for a cycle is started in it.
use Rattle.std.proofs.Common.{◌≡◌, ◌≢◌, ⊎_elim, ℕ, zero, suc, ◌+◌, ◌<◌, ◌≤◌, ◌==◌, Bool, true, false, nat_le, List, []}
use Rattle.std.proofs.Common.{◌∷◌, ◌++◌, length, refl, ap, subst, arith, length-append, if◌then◌else◌}
use Rattle.std.specs.Int.{is_negative}
use Rattle.std.proofs.lemmas.{Bool.cases_lt, Bool.Decides.nat_tests}
use Rattle.cs_base.specs.Limits.{most_asks}
use Rattle.cs_ir.specs.declared.ask.Ask.{Ask}
use Rattle.cs_sched.specs.{Times.Clock, Times.begins_in, Times.due_of, Waiting.Waiting, Waiting.answer_to}
use Rattle.cs_sched.specs.{Waiting.with_answer, declared.due.Due.Due, declared.pending.Added.Added}
use Rattle.cs_piece_meaning.specs.{Course.begins, Course.moment_at, Starts.taken}
use Rattle.cs_piece_meaning.specs.Moments.{Composition, Moment, clock_of}
use Rattle.cs_piece_meaning.proofs.Steps.{Fact, Keeps, begins_keeps}
use Rattle.cs_sched.specs.declared.pending.Added.TheVariants as added

-- No note waits for a cycle before this one. For each cycle, at most as many notes wait as were added; for
-- this cycle, fewer by the number that were taken out.
record Waits (now x : ℕ) (w : Waiting) : Type 0 where
  pub past : (k : ℕ) → k < now → w.due k ≡ []
  pub few : (k : ℕ) → length (w.due k) ≤ w.kept
  pub left : length (w.due now) + x ≤ w.kept
  pub most : w.kept ≤ most_asks

room_of : (clock : Clock) (now : ℕ) (a : Ask) (kept : ℕ) → answer_to clock now a kept ≡ added.Kept → kept < most_asks
room_of clock now a kept h =
    by (is_negative a.dur) (nat_le most_asks kept) (nat_le clock.cycles (begins_in clock now a)) refl h
  where
    by : (b1 b2 b3 : Bool) → nat_le most_asks kept ≡ b2
        → (if b1 then added.Negative else (if b2 then added.TooMany else (if b3 then added.PastEnd else added.Kept)))
        ≡ added.Kept → kept < most_asks
    by false false b3 e h = grind (arith, nat_tests)
    by _ _ b3 e h = absurd cc

module _ (now x : ℕ) (w : Waiting) (d : Due) (h : Waits now x w) where
  kept_waits : now ≤ d.cycle → w.kept < most_asks → Waits now x (with_answer added.Kept d w)
  kept_waits late room = record {
    past = λ k lt. old k lt (k == d.cycle) refl;
    few = λ k. plain_longer (w.due k) (k == d.cycle) (h.few k);
    left = longer (w.due now) (now == d.cycle) x h.left;
    most = omega (arith, room);
  }
    where
      old : (k : ℕ) → k < now → (b : Bool) → (k == d.cycle) ≡ b → (if b then w.due k ++ d ∷ [] else w.due k) ≡ []
      old k lt true e = absurd (let same : k ≡ d.cycle = grind (arith, nat_tests) in omega (arith, same, lt, late))
      old k lt false e = h.past k lt

      longer : (ds : List Due) (b : Bool) (y : ℕ) → length ds + y ≤ w.kept
          → length (if b then ds ++ d ∷ [] else ds) + y ≤ w.kept + 1
      longer ds true y l = let long = length-append ds (d ∷ []) in omega (arith, long, l)
      longer ds false y l = omega (arith, l)

      plain_longer : (ds : List Due) (b : Bool) → length ds ≤ w.kept
          → length (if b then ds ++ d ∷ [] else ds) ≤ w.kept + 1
      plain_longer ds true l = let long = length-append ds (d ∷ []) in omega (arith, long, l)
      plain_longer ds false l = omega (arith, l)

  answered_waits : (answer : Added) → now ≤ d.cycle → (answer ≡ added.Kept → w.kept < most_asks)
      → Waits now x (with_answer answer d w)
  answered_waits added.Kept late room = kept_waits late (room refl)
  answered_waits _ late room = h

  taken_waits : (rest : List Due) → w.due now ≡ d ∷ rest → Waits now (x + 1) (taken now rest w)
  taken_waits rest is =
      let longer : length (w.due now) ≡ suc (length rest) = ap length is in
      let long : length (w.due now) ≡ length rest + 1 = omega (arith, longer) in
      record {
        past = λ k lt. old k lt (k == now) refl;
        few = λ k. shorter k (k == now) refl long;
        left = here (now == now) refl long;
        most = h.most;
      }
    where
      old : (k : ℕ) → k < now → (b : Bool) → (k == now) ≡ b → (if b then rest else w.due k) ≡ []
      old k lt true e = absurd (let same : k ≡ now = grind (arith, nat_tests) in omega (arith, same, lt))
      old k lt false e = h.past k lt

      shorter : (k : ℕ) (b : Bool) → (k == now) ≡ b → length (w.due now) ≡ length rest + 1
          → length (if b then rest else w.due k) ≤ w.kept
      shorter k true e long = let l = h.few now in omega (arith, l, long)
      shorter k false e long = h.few k

      here : (b : Bool) → (now == now) ≡ b → length (w.due now) ≡ length rest + 1
          → length (if b then rest else w.due now) + (x + 1) ≤ w.kept
      here true e long = let l = h.left in omega (arith, l, long)
      here false e long = absurd (let no : now ≢ now = grind (arith, nat_tests) in no refl)

module _ (c : Composition) where
  abbrev Waiters : ℕ → Fact
  Waiters now x active count w = Waits now x w

  waiters : (now : ℕ) → Keeps c now (Waiters now)
  waiters now = record {
    join = λ x s body t active age w there on room h. h;
    add = λ x active count w time a h. answered_waits now x w (due_of (clock_of c) now time a) h
        (answer_to (clock_of c) now a w.kept) (omega arith) (room_of (clock_of c) now a w.kept);
    take = λ x active count w d rest is h. taken_waits now x w d h rest is;
  }

  none : (ds : List Due) (y kept : ℕ) → length ds + y ≤ kept → kept ≤ most_asks → most_asks ≤ y → ds ≡ []
  none [] y kept a b m = refl
  none (d ∷ ds) y kept a b m = absurd (omega (arith, a, b, m))

  begins_waits : (n : ℕ) (m : Moment) → Waits n 0 m.waiting → Waits (suc n) 0 (begins c n m).waiting
  begins_waits n m h =
      let r = begins_keeps c n (Waiters n) (waiters n) m h in
      let w : Waiting = (begins c n m).waiting in
      let k : Waits n r.0 w = r.1 in
      let empty : w.due n ≡ [] = ⊎_elim (λ l. none (w.due n) r.0 w.kept k.left k.most l) (λ e. e) r.2 in
      record {
        past = λ j lt. ⊎_elim (λ l. k.past j l)
            (λ ge. let same : n ≡ j = omega (arith, lt, ge) in subst (λ i. w.due i ≡ []) same empty) (cases_lt j n);
        few = k.few;
        left = (let l = k.few (suc n) in omega (arith, l));
        most = k.most;
      }

  moment_waits : (n : ℕ) → Waits n 0 (moment_at c n).waiting
  moment_waits zero = record { past = λ k lt. refl; few = λ k. omega arith; left = omega arith; most = omega arith }
  moment_waits (suc n) = begins_waits n (moment_at c n) (moment_waits n)

  pub none_waits : (n k : ℕ) → k ≤ n → (begins c n (moment_at c n)).waiting.due k ≡ []
  none_waits n k le = (begins_waits n (moment_at c n) (moment_waits n)).past k (omega (arith, le))

  pub few_kept : (n : ℕ) → (begins c n (moment_at c n)).waiting.kept ≤ most_asks
  few_kept n = (begins_waits n (moment_at c n) (moment_waits n)).most
