use Rattle.std.proofs.Common.{◌≡◌, ◌≢◌, ◌==◌, ◌&&◌, ◌||◌, ℕ, take}
use Rattle.std.specs.List.{list_any}
use Rattle.cs_graph.specs.inner.Sets.{has}
use Rattle.cs_graph.specs.inner.Touched.{uses_so_far, writes_so_far, meets_so_far}
use Rattle.cs_graph.proofs.touched.touch_places.Given as goal

abbrev pub invariant-loop-place : goal.invariant-loop-place
invariant-loop-place l = record {
  users : (r p : ℕ) → uses_so_far l.by_place r p
      ≡ (uses_so_far l.initial.by_place r p || (list_any (λ y. r == y) (take l.place-index l.places) && p == l.note));
  writers : (r p : ℕ) → writes_so_far l.by_place r p
      ≡ (writes_so_far l.initial.by_place r p
      || (l.writes && (list_any (λ y. r == y) (take l.place-index l.places) && p == l.note)));
  met : (p : ℕ) → p ≢ l.note → has l.met p
      ≡ (has l.initial.met p || list_any (λ y. meets_so_far l.writes l.initial.by_place y p)
      (take l.place-index l.places));
}
