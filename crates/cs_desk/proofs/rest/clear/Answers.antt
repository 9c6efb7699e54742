use Rattle.std.proofs.lemmas.{Grind.common_steps, List.length-set}
use Rattle.std.proofs.Common.{ℕ, ◌<◌, ◌≡◌, List, [], ◌∷◌, ◌++◌, length, Option, Some, sym, ap, ◌∙◌, subst, arith}
use Rattle.std.proofs.{Common.slice_get, Math.Seq.take-length}
use Rattle.cs_board.specs.{Board.plan, Resting.known_in, Plans.places_written, declared.view.Berth.Berth}
use Rattle.cs_desk.specs.inner.Resting.{ClearsTurns}
use Rattle.cs_desk.proofs.Ending.{there, took, left_long, left_low, left_writes}
use Rattle.cs_desk.proofs.Laying.{full_next, clears_note}
use Rattle.cs_cells.specs.Serial.{serial_jobs}
use Rattle.cs_board.specs.declared.view.Berth.TheVariants.{Vacant, Full}
use Rattle.cs_desk.proofs.rest.clear.Goals as goal

same_full : {J : Type 0} (a b : J) → Some (Some (Full a)) ≡ Some (Some (Full b)) → a ≡ b
same_full a b e = cc

pub fetch-job-requires-clause-full : goal.fetch-job-requires-clause-full
fetch-job-requires-clause-full g c =
    let k = plan c.args.board.now in
    let js : List g.row.J.Denot = serial_jobs g.J.Job.means k.jobs k.cells in
    let j = there js c.loop-note.note
    (left_low g.J.Job.means g.met.J.Job.frames k c.requires.whole c.loop-note.note _ c.loop-note-test.true
    c.notes-note-end.ensures) in
    (j.0, full_next g.J.Job.means k c.loop-note.note j.0 (known_in c.loop-note.seat) j.1 c.loop-note.invariant.clearing)

-- the job that was fetched is the job that the serial run leaves
fetched : {J : Type 0} (js : List J) (t : ℕ) (l : t < length js) (homes : List (Option (Berth J))) (job : J)
    → slice_get homes t ≡ Some (Some (Full ((there js t l).0)))
    → slice_get homes t ≡ Some (Some (Full job)) → slice_get js t ≡ Some job
fetched js t l homes job full found = (there js t l).1 ∙ ap Some (same_full (there js t l).0 job (sym full ∙ found))

pub clear_turns-requires-clause-note : goal.clear_turns-requires-clause-note
clear_turns-requires-clause-note g c =
    let k = plan c.args.board.now in
    let js : List g.row.J.Denot = serial_jobs g.J.Job.means k.jobs k.cells in
    let t : ℕ = c.loop-note.note in
    let low = left_low g.J.Job.means g.met.J.Job.frames k c.requires.whole t _ c.loop-note-test.true
    c.notes-note-end.ensures in
    left_writes g.J.Job.means g.met.J.Job.frames k c.requires.whole t c.fetch-job.result
    (fetched js t low (known_in c.loop-note.seat).homes c.fetch-job.result
    (full_next g.J.Job.means k t (there js t low).0 (known_in c.loop-note.seat) (there js t low).1
    c.loop-note.invariant.clearing) c.fetch-job.ensures.job)

pub loop-note-preserved : goal.loop-note-preserved
loop-note-preserved g c =
    let k = plan c.args.board.now in
    let js : List g.row.J.Denot = serial_jobs g.J.Job.means k.jobs k.cells in
    let t : ℕ = c.loop-note.note in
    let w = known_in c.loop-note.seat in
    let inv = c.loop-note.invariant in
    let low = left_low g.J.Job.means g.met.J.Job.frames k c.requires.whole t _ c.loop-note-test.true
    c.notes-note-end.ensures in
    let at_ : slice_get js t ≡ Some c.fetch-job.result =
    fetched js t low w.homes c.fetch-job.result
    (full_next g.J.Job.means k t (there js t low).0 w (there js t low).1 inv.clearing) c.fetch-job.ensures.job in
    record {
      low = omega (arith, low, left_long g.J.Job.means g.met.J.Job.frames k c.requires.whole);
      jobs = c.push_reserved.ensures.items ∙ ap (λ l. l ++ c.fetch-job.result ∷ []) inv.jobs
          ∙ sym (took js t c.fetch-job.result at_);
      room = omega (arith, inv.room, c.push_reserved.ensures.capacity);
      sole = c.clear_turns.ensures.sole;
      areas = c.clear_turns.ensures.areas ∙ c.fetch-job.ensures.areas ∙ inv.areas;
      clearing = clears_note g.J.Job.means k t c.fetch-job.result w (known_in c.clear_turns.new.seat) at_
          (subst (λ z. ClearsTurns k (places_written g.J.Job.means k t) [] z (known_in c.clear_turns.new.seat))
          c.fetch-job.ensures.known c.clear_turns.ensures.cleared) inv.clearing;
      slots = ap length c.clear_turns.ensures.cleared.homes ∙ ap (λ z. length z.homes) c.fetch-job.ensures.known
          ∙ length-set w.homes t (Some Vacant) ∙ inv.slots;
    }

pub returns-clause-jobs : goal.returns-clause-jobs
returns-clause-jobs g c = grind (arith, common_steps, left_long, take-length)
