-- The notes that wait after one was scheduled, and after all that a note schedules.
use Rattle.std.proofs.Common.{◌≡◌, ◌∙◌, ℕ, ℤ, ◌+◌, ◌-◌, ◌^◌, ◌==◌, List, ◌∷◌, ◌++◌, sym, ap, refl, subst, arith, []}
use Rattle.std.specs.Prelude.{map, min, if◌then◌else◌}
use Rattle.cs_piece_meaning.specs.Moments.{Composition, Moment, clock_of}
use Rattle.cs_piece_meaning.specs.Starts.{all_asked, asked, counted}
use Rattle.cs_ir.specs.{Asks.ask_of, declared.ask.Ask.Ask}
use Rattle.cs_life.specs.Standing.{kept_count}
use Rattle.cs_life.specs.inner.Starting.{Wait, all_wanted, count_after}
use Rattle.cs_sched.specs.{Times.due_of, declared.due.Due.Due, declared.pending.Added.Added}
use Rattle.cs_sched.specs.Waiting.{Queue, Waiting, answer_to, waiting, with_answer}
use Rattle.cs_sched.specs.declared.pending.Added.TheVariants as added

-- the notes that a machine's values schedule
pub wanted_is : (c : Composition) (now : ℕ) (time : ℤ) (values : List (List ℤ)) (m : Moment)
    → all_wanted c now time (map ask_of values) m ≡ all_asked c now time values m
wanted_is c now time [] m = refl
wanted_is c now time (v ∷ values) m = wanted_is c now time values (asked c now time (ask_of v) m)

-- one more note
pub wanted_more : (c : Composition) (now : ℕ) (time : ℤ) (asks : List Ask) (a : Ask) (m : Moment)
    → all_wanted c now time (asks ++ a ∷ []) m ≡ asked c now time a (all_wanted c now time asks m)
wanted_more c now time [] a m = refl
wanted_more c now time (b ∷ asks) a m = wanted_more c now time asks a (asked c now time b m)

-- only the notes that wait and the count of starts that started nothing have changed
pub record SameOthers (m n : Moment) : Type 0 where
  pub shared : n.shared ≡ m.shared
  pub made : n.made ≡ m.made
  pub active : n.active ≡ m.active
  pub started : n.started ≡ m.started

counted_same : (answer : Added) (m n : Moment) → SameOthers m n → SameOthers m (counted answer n)
counted_same added.Kept m n s = s
counted_same _ m n s = record { shared = s.shared; made = s.made; active = s.active; started = s.started }

asked_same : (c : Composition) (now : ℕ) (time : ℤ) (a : Ask) (m n : Moment) → SameOthers m n
    → SameOthers m (asked c now time a n)
asked_same c now time a m n s =
    let answer = answer_to (clock_of c) now a n.waiting.kept in
    counted_same answer m (record n { waiting = with_answer answer (due_of (clock_of c) now time a) n.waiting })
    (record { shared = s.shared; made = s.made; active = s.active; started = s.started })

pub wanted_same : (c : Composition) (now : ℕ) (time : ℤ) (asks : List Ask) (m n : Moment) → SameOthers m n
    → SameOthers m (all_wanted c now time asks n)
wanted_same c now time [] m n s = s
wanted_same c now time (a ∷ asks) m n s =
    wanted_same c now time asks m (asked c now time a n) (asked_same c now time a m n s)

-- a count in 64 bits increases
pub count_up : (n : ℕ) → kept_count (n + 1) ≡ min (kept_count n + 1) (2 ^ 64 - 1)
count_up n = omega arith

after_answer : (answer : Added) (d : Due) (old new : Queue) (n : ℕ) (m : Moment) → Wait old n m
    → waiting new ≡ with_answer answer d (waiting old)
    → Wait new (count_after answer n) (counted answer (record m { waiting = with_answer answer d m.waiting }))
after_answer added.Kept d old new n m w e = record {
  due = λ cycle. ap (λ (x : Waiting). x.due cycle) e
      ∙ ap (λ l. if cycle == d.cycle then l ++ d ∷ [] else l) (w.due cycle);
  kept = ap (λ (x : Waiting). x.kept) e ∙ ap (λ k. k + 1) w.kept;
  count = w.count;
}
after_answer added.Negative d old new n m w e = record {
  due = λ cycle. ap (λ (x : Waiting). x.due cycle) e ∙ w.due cycle;
  kept = ap (λ (x : Waiting). x.kept) e ∙ w.kept;
  count = ap (λ k. min (k + 1) (2 ^ 64 - 1)) w.count ∙ sym (count_up m.not_started);
}
after_answer added.PastEnd d old new n m w e = record {
  due = λ cycle. ap (λ (x : Waiting). x.due cycle) e ∙ w.due cycle;
  kept = ap (λ (x : Waiting). x.kept) e ∙ w.kept;
  count = ap (λ k. min (k + 1) (2 ^ 64 - 1)) w.count ∙ sym (count_up m.not_started);
}
after_answer added.TooMany d old new n m w e = record {
  due = λ cycle. ap (λ (x : Waiting). x.due cycle) e ∙ w.due cycle;
  kept = ap (λ (x : Waiting). x.kept) e ∙ w.kept;
  count = ap (λ k. min (k + 1) (2 ^ 64 - 1)) w.count ∙ sym (count_up m.not_started);
}

-- a note was scheduled: by the result, and by the notes that wait afterwards
pub asked_waits : (c : Composition) (now : ℕ) (time : ℤ) (a : Ask) (answer : Added) (old new : Queue) (n : ℕ)
    (m : Moment)
    → answer ≡ answer_to (clock_of c) now a (waiting old).kept
    → waiting new ≡ with_answer answer (due_of (clock_of c) now time a) (waiting old) → Wait old n m
    → Wait new (count_after answer n) (asked c now time a m)
asked_waits c now time a answer old new n m is e w =
    let same : answer ≡ answer_to (clock_of c) now a m.waiting.kept = is ∙ ap (answer_to (clock_of c) now a) w.kept in
    subst (λ x. Wait new (count_after answer n)
    (counted x (record m { waiting = with_answer x (due_of (clock_of c) now time a) m.waiting })))
    same (after_answer answer (due_of (clock_of c) now time a) old new n m w e)
