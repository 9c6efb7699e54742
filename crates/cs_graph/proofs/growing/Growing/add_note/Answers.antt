use Rattle.std.proofs.Common.{◌≡◌, ◌∙◌, ◌<◌, ℕ, ap, length, length-append, ◌∷◌, [], subst, arith}
use Rattle.cs_graph.proofs.ConflictLemmas.{IsClosed-known, known_push, level_push, drawn_more}
use Rattle.cs_graph.proofs.EdgeLemmas.{all_before, ranges_more}
use Rattle.cs_graph.specs.{inner.Growing.AreDrawnTo, inner.Nearest.IsFound}
use Rattle.cs_graph.proofs.growing.Growing.add_note.Goals as goal

pub nearest-found-requires-clause-closed : goal.nearest-found-requires-clause-closed
nearest-found-requires-clause-closed c =
    rw c.deref.ensures.value
    (IsClosed-known c.args.feet.now c.args.note c.args.self.now.known.items
    c.requires.grown.known)

pub add_edges-requires-clause-before : goal.add_edges-requires-clause-before
add_edges-requires-clause-before c =
    all_before c.args.self.now.edges.items c.args.note (λ e a b h. (c.requires.grown.drawn.each a b (e, h)).0)

pub returns : goal.returns
returns c =
    let r = c.requires.grown in
    let feet = c.args.feet.now in
    let t : ℕ = c.args.note in
    let within : t < length feet = c.requires.within in
    let known = c.args.self.now.known.items in
    let levels = c.args.self.now.levels.items in
    let into = c.args.self.now.into.items in
    let old = c.args.self.now.edges.items in
    let edges = c.add_edges.new.edges.items in
    let met = c.in_ok-met.met in
    let found = c.nearest-found.result in
    let f : IsFound met known 0 t found =
    subst (λ l. IsFound met l 0 t found) c.deref.ensures.value c.nearest-found.ensures in
    let d : AreDrawnTo old found.near t t edges = c.in_ok-add_edges.ensures in
    let range : ℕ × ℕ = (c.len-first.result, c.len.result) in
    let first : c.len-first.result ≡ length old = omega (arith, c.len-first.ensures) in
    let last : c.len.result ≡ length edges = omega (arith, c.len.ensures) in
    let is : range ≡ (length old, length edges) = ap (λ n. (n, c.len.result)) first ∙ ap (λ n. (length old, n)) last in
    record {
      touched = c.in_ok-met.ensures.by_place;
      known = rw c.in_ok-push-3.ensures.items
          (known_push feet t within met known found c.in_ok-met.ensures.met r.known f);
      levels = rw c.in_ok-push-2.ensures.items (omega (arith, r.levels, length-append levels (found.known.level ∷ [])));
      level = rw (c.in_ok-push-2.ensures.items, c.in_ok-push-3.ensures.items)
          (level_push feet t within met known found c.in_ok-met.ensures.met r.known f levels r.levels r.level);
      into = rw c.in_ok-push.ensures.items (omega (arith, r.into, length-append into (range ∷ [])));
      ranges = rw c.in_ok-push.ensures.items
          (ranges_more old edges found.near t d (λ e a b h. (r.drawn.each a b (e, h)).0) into range r.into is r.ranges);
      ordered = d.ordered;
      drawn = drawn_more feet t within met known found c.in_ok-met.ensures.met r.known f old edges r.drawn d.ends;
      few = omega (arith, d.few, r.few, c.requires.small);
    }
