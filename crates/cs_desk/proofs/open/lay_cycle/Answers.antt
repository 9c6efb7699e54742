use Rattle.std.proofs.lemmas.{Grind.common_steps, List.append-nil, Option.slice_get_within}
use Rattle.std.proofs.Common.{ℕ, ◌+◌, ◌<◌, ◌≡◌, [], ◌∷◌, ◌++◌, length, drop, Some, refl, sym, ap, ◌∙◌, subst, arith}
use Rattle.std.proofs.{Common.length-append, Common.slice_get, Math.Seq.drop-length}
use Rattle.cs_board.specs.{Opening.first_status, Views.slot_row, Views.with_word, Views.with_home}
use Rattle.cs_board.specs.{declared.view.Berth.TheVariants.Full, declared.view.Plan.Plan, Words.status_at}
use Rattle.cs_board.specs.Resting.{IsLaying, areas_in, known_in}
use Rattle.cs_desk.specs.inner.Resting.{plan_over}
use Rattle.cs_desk.proofs.{Laying.laying_watch, Laying.laying_note, Laying.row_vacant, Opening.popped}
use Rattle.cs_desk.proofs.open.lay_cycle.Goals as goal

pub loop-edge-init : goal.loop-edge-init
loop-edge-init g c = record { low = omega arith; sole = c.requires.sole; areas = refl; laying = c.requires.laying }

pub loop-edge-preserved : goal.loop-edge-preserved
loop-edge-preserved g c =
    let s = c.args.seat.now in
    let k : Plan g.row.J.Denot = plan_over (areas_in s) (known_in s) c.args.graph.now c.args.jobs.items in
    let e : ℕ = c.loop-edge.edge in
    let n : ℕ = length c.args.jobs.items in
    let inv = c.loop-edge.invariant in
    let w = known_in c.loop-edge.seat in
    let x : ℕ = c.opening_watch.result in
    let low = c.loop-edge-test.true in
    record {
      low = omega (arith, low, c.edge_count-edge-end.ensures.count);
      sole = c.lay.ensures.sole;
      areas = c.lay.ensures.areas ∙ inv.areas;
      laying = subst (IsLaying k n (e + 1))
          (sym (c.lay.ensures.known
          ∙ ap (λ i. with_word w i x)
          (omega (arith, c.requires.first, c.requires.cells, c.requires.notes, c.len-notes.ensures.notes))))
          (laying_watch k n e x w (omega (arith, low, c.edge_count-edge-end.ensures.count)) c.opening_watch.ensures
          inv.laying);
    }

pub loop-job-init : goal.loop-job-init
loop-job-init g c = grind (arith, common_steps, append-nil, drop-length)

pub lay_note-requires-clause-vacant : goal.lay_note-requires-clause-vacant
lay_note-requires-clause-vacant g c =
    let js = c.args.jobs.items in
    let jn = c.pop.new.self.items in
    let w = known_in c.loop-job.seat in
    let i = c.loop-job.invariant in
    let long : length c.loop-job.jobs.items ≡ length jn + 1 =
    omega (arith, ap length c.in-Some.ensures.items, length-append jn (c.in-Some.job ∷ [])) in
    let nt : c.len-note.result ≡ length jn = omega (arith, c.len-note.ensures, c.pop.new.self.ok.0) in
    ap (slice_get w.homes) nt ∙ ap (λ hs. slice_get hs (length jn)) i.laying.homes
    ∙ ap (λ n. slice_get (slot_row n (drop n js) i.laying.left) (length jn)) long
    ∙ row_vacant (length jn) (drop (length jn + 1) js) i.laying.left

pub loop-job-preserved : goal.loop-job-preserved
loop-job-preserved g c =
    let s = c.args.seat.now in
    let k : Plan g.row.J.Denot = plan_over (areas_in s) (known_in s) c.args.graph.now c.args.jobs.items in
    let js = c.args.jobs.items in
    let jn = c.pop.new.self.items in
    let job = c.in-Some.job in
    let t : ℕ = length c.pop.new.self.items in
    let e : ℕ = length c.args.graph.now.edges in
    let edges = c.args.graph.now.edges in
    let x : ℕ = first_status edges t in
    let first : ℕ = c.args.first in
    let notes : ℕ = length c.args.graph.now.levels in
    let inv = c.loop-job.invariant in
    let w = known_in c.loop-job.seat in
    let old = c.loop-job.jobs.items in
    let p = popped js jn (drop (length old) js) job
    (ap (λ l. l ++ drop (length old) js) (sym c.in-Some.ensures.items) ∙ inv.jobs) in
    let low : t < length js = slice_get_within js t job p.1 in
    let long : length old ≡ t + 1 = omega (arith, ap length c.in-Some.ensures.items, length-append jn (job ∷ [])) in
    let nt : c.len-note.result ≡ t = omega (arith, c.len-note.ensures, c.pop.new.self.ok.0) in
    let known = c.lay_note.ensures.known
    ∙ ap (λ i. with_word (with_word (with_home w i (Some (Full job))) (first + i) (first_status edges i))
    (first + (notes + i)) 0) nt
    ∙ ap (λ i. with_word (with_word (with_home w t (Some (Full job))) i x) (first + (notes + t)) 0)
    (omega (arith, c.requires.first, c.requires.cells))
    ∙ ap (λ i. with_word (with_word (with_home w t (Some (Full job))) (status_at k t) x) i 0)
    (omega (arith, c.requires.first, c.requires.cells, c.requires.notes)) in
    record {
      jobs = p.0;
      room = omega (arith, inv.room, c.pop.ensures.capacity);
      sole = c.lay_note.ensures.sole;
      areas = c.lay_note.ensures.areas ∙ inv.areas;
      laying = subst (IsLaying k t e) (sym known)
          (laying_note k t e x job w low p.1 refl (subst (λ n. IsLaying k n e w) long inv.laying));
    }

pub lay-requires-clause-sole : goal.lay-requires-clause-sole
lay-requires-clause-sole g c = c.loop-edge.invariant.sole

pub lay-requires-clause-word : goal.lay-requires-clause-word
lay-requires-clause-word g c =
    omega (
      arith,
      c.requires.words,
      c.requires.notes,
      c.len-notes.ensures.notes,
      c.loop-edge-test.true,
      c.edge_count-edge-end.ensures.count,
    )

pub lay_note-requires-clause-sole : goal.lay_note-requires-clause-sole
lay_note-requires-clause-sole g c = c.loop-job.invariant.sole

pub lay_note-requires-clause-words : goal.lay_note-requires-clause-words
lay_note-requires-clause-words g c = omega (arith, c.requires.words, c.requires.notes)

pub lay_note-requires-clause-note : goal.lay_note-requires-clause-note
lay_note-requires-clause-note g c =
    let js = c.args.jobs.items in
    let jn = c.pop.new.self.items in
    let old = c.loop-job.jobs.items in
    let p = popped js jn (drop (length old) js) c.in-Some.job
    (ap (λ l. l ++ drop (length old) js) (sym c.in-Some.ensures.items) ∙ c.loop-job.invariant.jobs) in
    let low : length jn < length js = slice_get_within js (length jn) c.in-Some.job p.1 in
    omega (arith, low, c.len-note.ensures, c.pop.new.self.ok.0, c.requires.notes)
