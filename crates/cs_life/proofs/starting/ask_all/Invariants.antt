use Rattle.std.proofs.Common.{◌≡◌, ◌++◌, length}
use Rattle.std.specs.Vec.Iter.{into_iter_items, into_iter_len}
use Rattle.cs_piece_meaning.specs.Moments.{Composition, Moment, clock_of}
use Rattle.cs_life.specs.inner.Starting.{Wait, all_wanted}
use Rattle.cs_sched.specs.Times as times
use Rattle.cs_life.proofs.starting.ask_all.Given as goal

abbrev pub invariant-loop-ask : goal.invariant-loop-ask
invariant-loop-ask l = record {
  items : l.yielded ++ into_iter_items l.ask-iterator ≡ into_iter_items l.initial.ask-iterator;
  waits : (c : Composition) (m : Moment) → clock_of c ≡ times.clock_of l.at.head l.at.total
      → Wait l.initial.pending l.initial.not_started m
      → Wait l.pending l.not_started (all_wanted c l.at.cycle l.at.time l.yielded m);
  long : into_iter_len l.ask-iterator ≡ length (into_iter_items l.ask-iterator);
}
