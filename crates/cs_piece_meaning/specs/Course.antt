-- The course of a performance, cycle by cycle.
use Rattle.std.specs.Prelude.{ℕ, zero, suc, not, ◌==◌, List, [], ◌∷◌, filter, nat_lt}
use Rattle.cs_base.specs.declared.resource.Res.{Res}
use Rattle.cs_ir.specs.Waves.{Wave, silence}
use Rattle.cs_meaning.specs.{Initialising.init_block, Notes.Note, Notes.moved_to, Notes.new_note, Notes.start}
use Rattle.cs_meaning.specs.{Performing.perf_block, Plain.Plain, Plain.fresh, Plain.next_cycle, Plain.plain}
use Rattle.cs_sched.specs.Waiting.{nothing_waits}
use Rattle.cs_tempo.specs.declared.plot.Event.{Event}
use Rattle.cs_piece_meaning.specs.Moments.{Composition, Active, Moment, piece_with}
use Rattle.cs_piece_meaning.specs.Starts.{all_done, all_waited}

-- the state before the first cycle: the code outside instruments has run once
abbrev pub outside_done : Composition → Note Plain
outside_done c = init_block (plain (piece_with c [] [])) start c.outside (new_note (fresh (λ g. silence)))

-- the moment before the first cycle
abbrev pub opening : Composition → Moment
opening c = record {
  shared = (outside_done c).world.shared;
  made = [];
  active = [];
  waiting = nothing_waits;
  started = 0;
  not_started = 0;
}

-- The moment after the notes have left that have ended.
abbrev pub still : ℕ → Moment → Moment
still now m = record m { active = filter (λ a. nat_lt now a.ends) m.active }

-- the events of a cycle, in order
abbrev pub events_in : Composition → ℕ → List Event
events_in c now = filter (λ e. e.cycle == now) c.events

-- the moment in which the notes of a cycle are about to be performed
abbrev pub begins : Composition → ℕ → Moment → Moment
begins c now m = all_waited c now (all_done c (events_in c now) (still now m))

-- A note after it was performed in a cycle, with these shared resources.
abbrev pub next : Composition → List ℕ → (Res → Wave) → Active → Active
next c made shared a =
    record a {
      note = perf_block (plain (piece_with c made a.fields)) start a.body
          (moved_to (next_cycle shared a.note.world) a.note);
    }

-- the notes after they were performed one after another, and the shared resources they leave
abbrev pub serial : Composition → List ℕ → (Res → Wave) → List Active → List Active × (Res → Wave)
serial c made shared [] = ([], shared)
serial c made shared (a ∷ rest) =
    let now = next c made shared a in
    let others = serial c made now.note.world.shared rest in (now ∷ others.0, others.1)

-- the moment after the notes of a cycle were performed
abbrev pub performed : Composition → Moment → Moment
performed c m =
    let r = serial c m.made m.shared m.active in record m { active = r.0; shared = r.1 }

-- Last the notes leave that were turned off.
abbrev pub turned_off : Moment → Moment
turned_off m = record m { active = filter (λ a. not a.note.world.ended) m.active }

-- the moment before a cycle
abbrev pub moment_at : Composition → ℕ → Moment
moment_at c zero = opening c
moment_at c (suc n) = turned_off (performed c (begins c n (moment_at c n)))

-- the notes of a cycle after they were performed in it
abbrev pub played_in : Composition → ℕ → List Active
played_in c n = (performed c (begins c n (moment_at c n))).active

-- the moment after the last cycle, when the events at the very end have been performed
abbrev pub closing : Composition → Moment
closing c = begins c c.cycles (moment_at c c.cycles)
