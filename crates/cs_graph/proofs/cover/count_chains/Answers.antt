use Rattle.std.proofs.lemmas.{Grind.common_steps, List.length-set, Option.slice_get_within}
use Rattle.std.proofs.Common.{rules, ℕ, length, true, sym, ◌∙◌, subst, arith}
use Rattle.cs_graph.proofs.CoverLemmas.{covered_none, parted_free, parted_taken, covers}
use Rattle.cs_graph.specs.{Graph.LeadsForward, inner.Index.AreInto, inner.Index.range_at}
use Rattle.cs_graph.specs.inner.Covering.{IsCoveredTo, IsFree, AreTaken}
use Rattle.cs_graph.proofs.cover.count_chains.Goals.{in-Some, in-None}
use Rattle.cs_graph.proofs.cover.count_chains.Goals as goal

pub loop-note-init : goal.loop-note-init
loop-note-init c = (
  search rules,
  omega arith,
  (
    λ t. t,
    subst (λ xs. IsCoveredTo c.args.edges.now 0 xs 0 (λ t. t))
        (sym (c.in_ok-continued.ensures.items_if_clones_equal (λ y e. e))) (covered_none c.args.edges.now _),
  ),
)

pub free_before-requires-clause-within : goal.free_before-requires-clause-within
free_before-requires-clause-within c = λ e low high.
    let m : ℕ = c.loop-note.note in
    let at_ = (c.requires.ranges m (omega (arith, c.loop-note-test.true)) e).0 (low, high) in
    slice_get_within c.args.edges.now e (at_.0, m) at_.1

pub loop-note-preserved : goal.loop-note-preserved
loop-note-preserved c =
    let edges = c.args.edges.now in
    let m : ℕ = c.loop-note.note in
    let into = c.args.into.now in
    let xs = c.loop-note.continued.items in
    let inv = c.loop-note.invariant in
    let first : ℕ = (range_at into m).0 in
    let end_ : ℕ = (range_at into m).1 in
    let range : AreInto edges m first end_ = c.requires.ranges m (omega (arith, c.loop-note-test.true)) in
    let forward : LeadsForward edges (length xs) = subst (LeadsForward edges) (sym inv.0) c.requires.forward in
    elim c.match-free_before.branch [
      | in-Some w ↦
          let p : ℕ = w.in-Some.earlier in
          let f : IsFree edges xs first end_ p =
          subst (λ ys. IsFree edges ys first end_ p) c.deref.ensures.value w.in-Some.ensures.some in
          rw (w.continued-is, w.count-is) (
            length-set xs p true ∙ inv.0,
            omega (arith, inv.1),
            parted_free edges m c.loop-note.count first end_ range xs
                inv.2 p forward f,
          )
      | in-None w ↦
          let t : AreTaken edges xs first end_ =
          subst (λ ys. AreTaken edges ys first end_) c.deref.ensures.value w.in-None.ensures.none in
          rw (w.continued-is, w.count-is)
          (inv.0, omega (arith, inv.1), parted_taken edges m c.loop-note.count first end_ range xs inv.2 t)
    ]

pub returns : goal.returns
returns c = grind (arith, common_steps, covers)
