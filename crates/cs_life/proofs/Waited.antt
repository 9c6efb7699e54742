-- Notes that wait are started one by one.
use Rattle.std.proofs.Common.{◌≡◌, ◌≢◌, ℕ, zero, suc, ◌+◌, ◌-◌, ◌<◌, ◌≤◌, ◌==◌, true, false, List, ◌∷◌, Some, None, []}
use Rattle.std.proofs.Common.{cond, get_or, length, if◌then◌else◌, refl, sym, ◌∙◌, ap, subst, arith}
use Rattle.std.proofs.lemmas.Bool.Decides.{nat_tests}
use Rattle.cs_base.proofs.Tests.{by_test}
use Rattle.cs_cells.specs.Cells.{Cells}
use Rattle.cs_piece_meaning.specs.Moments.{Composition, Moment}
use Rattle.cs_piece_meaning.specs.Starts.{first_started, start_in, start_of, taken, unless_none, waited}
use Rattle.cs_sched.specs.{Waiting.IsTaken, Waiting.Queue, Waiting.those_in, Waiting.waiting, declared.due.Due.Due}
use Rattle.cs_voice.specs.VoiceData.{VoiceData}
use Rattle.cs_life.specs.{Standing.StandsFor, declared.life.Life.Life}

-- ---- the notes that are taken from the queue

equal : (m n : ℕ) → (m == n) ≡ true → m ≡ n
equal m n h = grind (arith, nat_tests)

unequal : (m n : ℕ) → (m == n) ≡ false → m ≢ n
unequal m n h = grind (arith, nat_tests)

-- the first note is taken: the state represents the moment from which it is started
pub taken_out : {c : Composition} {life : Life} {q : Queue} {voices : List VoiceData} {cells : Cells} {m : Moment}
    {now : ℕ} {due : Due} → IsTaken now (waiting life.pending) (Some due) (waiting q) → StandsFor c life voices cells m
    → StandsFor c (record life { pending = q }) voices cells
    (record m { waiting = taken now ((waiting q).due now) m.waiting })
taken_out {q = q} {m = m} {now = now} is h = record {
  stand = record {
    stage_is = h.stand.stage_is;
    made = h.stand.made;
    hold = h.stand.hold;
    long = h.stand.long;
    play = h.stand.play;
    in_order = h.stand.in_order;
    few = h.stand.few;
  };
  layout = h.layout;
  zones = h.zones;
  due = λ cycle. by_test (cycle == now)
      (λ yes. ap (λ k. (waiting q).due k) (equal cycle now yes)
      ∙ sym (ap (λ b. if b then (waiting q).due now else m.waiting.due cycle) yes))
      (λ no. is.others cycle (unequal cycle now no) ∙ h.due cycle
      ∙ sym (ap (λ b. if b then (waiting q).due now else m.waiting.due cycle) no));
  kept = is.kept ∙ h.kept;
  started = h.started;
  not_started = h.not_started;
}

-- the first of the notes that begin in a cycle begins in it
first_of : (dues : List Due) (now : ℕ) (due : Due) (rest : List Due) → those_in dues now ≡ due ∷ rest → due.cycle ≡ now
first_of [] now due rest e = let h : 0 ≡ suc (length rest) = ap length e in absurd (omega (arith, h))
first_of (d ∷ dues) now due rest e =
    by_test (d.cycle == now)
    (λ yes. ap (λ (l : List Due). (get_or l 0 due).cycle)
    (sym e ∙ ap (λ b. cond b (d ∷ those_in dues now) (those_in dues now)) yes) ∙ equal d.cycle now yes)
    (λ no. first_of dues now due rest (sym (ap (λ b. cond b (d ∷ those_in dues now) (those_in dues now)) no) ∙ e))

pub begins_now : (q p : Queue) {now : ℕ} {due : Due} → IsTaken now (waiting q) (Some due) (waiting p) → due.cycle ≡ now
begins_now q p {now} {due} is = first_of q.dues now due ((waiting p).due now) is.first

-- if no note was taken, nothing changed
none_out : {c : Composition} {life : Life} {q : Queue} {voices : List VoiceData} {cells : Cells} {m : Moment} {now : ℕ}
    → IsTaken now (waiting life.pending) None (waiting q) → StandsFor c life voices cells m
    → StandsFor c (record life { pending = q }) voices cells m
none_out {life = life} {q = q} {now = now} is h = record {
  stand = h.stand;
  layout = h.layout;
  zones = h.zones;
  due = λ cycle. by_test (cycle == now)
      (λ yes. let e = equal cycle now yes in ap (λ k. (waiting q).due k) e ∙ sym is.first
      ∙ ap (λ k. (waiting life.pending).due k) (sym e) ∙ h.due cycle)
      (λ no. is.others cycle (unequal cycle now no) ∙ h.due cycle);
  kept = is.kept ∙ h.kept;
  started = h.started;
  not_started = h.not_started;
}

-- ---- some of the waiting notes have been started

-- From the current moment, with the remaining number of starts, one reaches the moment at which the waiting
-- notes have been started.
pub record Waits (all done : ℕ) (c : Composition) (now : ℕ) (life : Life) (voices : List VoiceData) (cells : Cells)
    (m : Moment) : Type 0 where
  pub at : Moment
  pub stands : StandsFor c life voices cells at
  pub left : waited all c now m ≡ waited (all - done) c now at

pub none_started : (all : ℕ) {c : Composition} {now : ℕ} {life : Life} {voices : List VoiceData} {cells : Cells}
    {m : Moment} → StandsFor c life voices cells m → Waits all 0 c now life voices cells m
none_started all {c} {now} {m = m} h =
    let whole : all ≡ all - 0 = omega arith in record { at = m; stands = h; left = ap (λ n. waited n c now m) whole }

one_waited : (n : ℕ) (c : Composition) (now : ℕ) (m : Moment) (due : Due) (rest : List Due)
    → m.waiting.due now ≡ due ∷ rest
    → waited (suc n) c now m ≡ waited n c now
    (start_in c now (start_of due) (record m { waiting = taken now rest m.waiting }))
one_waited n c now m due rest e = λ i. unless_none (e i) m (waited n c now (first_started c now (e i) m))

no_more : (n : ℕ) (c : Composition) (now : ℕ) (m : Moment) → m.waiting.due now ≡ [] → waited n c now m ≡ m
no_more zero c now m e = refl
no_more (suc n) c now m e = λ i. unless_none (e i) m (waited n c now (first_started c now (e i) m))

-- one more note has been started
pub one_started : {all done : ℕ} {c : Composition} {now : ℕ} {life new : Life} {q : Queue}
    {voices after : List VoiceData} {cells left : Cells} {m : Moment} {due : Due}
    → done < all → IsTaken now (waiting life.pending) (Some due) (waiting q)
    → ((n : Moment) → StandsFor c (record life { pending = q }) voices cells n
    → StandsFor c new after left (start_in c now (start_of due) n))
    → Waits all done c now life voices cells m → Waits all (done + 1) c now new after left m
one_started {all} {done} {c} {now} {q = q} {due = due} below is starts w =
    let more : all - done ≡ suc (all - (done + 1)) = omega arith in
    let n : Moment = record w.at { waiting = taken now ((waiting q).due now) w.at.waiting } in
    record {
      at = start_in c now (start_of due) n;
      stands = starts n (taken_out {q = q} is w.stands);
      left = w.left ∙ ap (λ k. waited k c now w.at) more
          ∙ one_waited (all - (done + 1)) c now w.at due ((waiting q).due now) (sym (w.stands.due now) ∙ is.first);
    }

-- no note waits any more
pub all_started : {all done : ℕ} {c : Composition} {now : ℕ} {life : Life} {q : Queue} {voices : List VoiceData}
    {cells : Cells} {m : Moment}
    → IsTaken now (waiting life.pending) None (waiting q) → Waits all done c now life voices cells m
    → StandsFor c (record life { pending = q }) voices cells (waited all c now m)
all_started {all} {done} {c} {now} {life} {q} {voices} {cells} {m} is w =
    let end : waited all c now m ≡ w.at =
    w.left ∙ no_more (all - done) c now w.at (sym (w.stands.due now) ∙ is.none refl) in
    subst (λ n. StandsFor c (record life { pending = q }) voices cells n) (sym end) (none_out {q = q} is w.stands)

-- as many notes as may be started have been started
pub most_started : {all done : ℕ} {c : Composition} {now : ℕ} {life : Life} {voices : List VoiceData} {cells : Cells}
    {m : Moment}
    → all ≤ done → Waits all done c now life voices cells m → StandsFor c life voices cells (waited all c now m)
most_started {all} {done} {c} {now} {life} {voices} {cells} {m} h w =
    let none : all - done ≡ 0 = omega arith in
    let end : waited all c now m ≡ w.at = w.left ∙ ap (λ k. waited k c now w.at) none in
    subst (λ n. StandsFor c life voices cells n) (sym end) w.stands
