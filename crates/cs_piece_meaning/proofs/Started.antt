-- The notes that wait for a cycle start by the rule that counts no steps, and the rule leads to exactly one
-- moment.
use Rattle.std.proofs.Common.{◌≡◌, ◌∙◌, ℕ, zero, suc, ◌≤◌, List, [], ◌∷◌, refl, sym, subst, arith}
use Rattle.cs_base.specs.Limits.{most_asks}
use Rattle.cs_sched.specs.declared.due.Due.{Due}
use Rattle.cs_piece_meaning.specs.{Course.begins, Course.events_in, Course.moment_at, Course.still, Moments.Composition}
use Rattle.cs_piece_meaning.specs.{Moments.Moment, Started.AreStarted, Started.nothing_due, Started.first_due}
use Rattle.cs_piece_meaning.specs.Starts.{all_done, first_started, unless_none, waited}
use Rattle.cs_piece_meaning.proofs.Waits.{none_waits}

-- if no note is due after some steps, these steps followed the rule
steps_are : (c : Composition) (now n : ℕ) (m : Moment) → (waited n c now m).waiting.due now ≡ []
    → AreStarted c now m (waited n c now m)
steps_are c now zero m e = nothing_due m e
steps_are c now (suc n) m e =
    by (m.waiting.due now) refl e (λ d rest k. steps_are c now n (first_started c now (d ∷ rest) m) k)
  where
    by : (ds : List Due) → m.waiting.due now ≡ ds
        → (unless_none ds m (waited n c now (first_started c now ds m))).waiting.due now ≡ []
        → ((d : Due) (rest : List Due) → (waited n c now (first_started c now (d ∷ rest) m)).waiting.due now ≡ []
        → AreStarted c now (first_started c now (d ∷ rest) m) (waited n c now (first_started c now (d ∷ rest) m)))
        → AreStarted c now m (unless_none ds m (waited n c now (first_started c now ds m)))
    by [] is k more = nothing_due m is
    by (d ∷ rest) is k more = first_due m (waited n c now (first_started c now (d ∷ rest) m)) d rest is (more d rest k)

pub cycle_starts : (c : Composition) (n : ℕ)
    → AreStarted c n (all_done c (events_in c n) (still n (moment_at c n))) (begins c n (moment_at c n))
cycle_starts c n =
    let least : n ≤ n = omega arith in
    steps_are c n most_asks (all_done c (events_in c n) (still n (moment_at c n))) (none_waits c n n least)

-- the rule leads to exactly one moment
no_first : {A : Type 0} (d : Due) (rest : List Due) → d ∷ rest ≡ [] → A
no_first d rest e = absurd (cc)

pub one_moment : (c : Composition) (now : ℕ) {m a b : Moment} → AreStarted c now m a → AreStarted c now m b → a ≡ b
one_moment c now (nothing_due m e) (nothing_due _ g) = refl
one_moment c now (nothing_due m e) (first_due _ b d rest g y) = no_first d rest (sym g ∙ e)
one_moment c now (first_due m a d rest e x) (nothing_due _ g) = no_first d rest (sym e ∙ g)
one_moment c now (first_due m a d rest e x) (first_due _ b f others g y) =
    one_moment c now x (subst (λ (ds : List Due). AreStarted c now (first_started c now ds m) b) (sym g ∙ e) y)
