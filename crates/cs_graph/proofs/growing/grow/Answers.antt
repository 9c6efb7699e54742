use Rattle.std.proofs.Common.{◌≡◌, length, subst, arith}
use Rattle.cs_graph.specs.inner.Growing.{IsGrown}
use Rattle.cs_graph.proofs.growing.grow.Goals as goal

pub loop-note-preserved : goal.loop-note-preserved
loop-note-preserved c = c.in_ok-add_note.ensures

pub returns : goal.returns
returns c =
    let all : c.loop-note.note ≡ length c.args.feet.now =
    omega (arith, c.loop-note-test.false, c.loop-note.auto.note-end) in
    subst (λ n. IsGrown c.args.feet.now n c.loop-note.growing) all c.loop-note.invariant
