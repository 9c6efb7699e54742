use Rattle.std.proofs.Common.{◌≡◌, ℕ, ◌+◌, ◌-◌, ◌<◌, max, false, length, sym, ◌∙◌, subst, arith}
use Rattle.cs_graph.specs.{inner.Sets.has, inner.Nearest.IsFound, inner.Nearest.Has, inner.Nearest.known_at}
use Rattle.cs_base.proofs.Tests.{by_test}
use Rattle.cs_graph.proofs.{ReadAt.read_at, NearestLemmas.found_past, NearestLemmas.found_reached}
use Rattle.cs_graph.proofs.NearestLemmas.{found_nearest}
use Rattle.cs_graph.proofs.nearest.sort_block.Goals as goal

pub loop-q-preserved-then-contains : goal.loop-q-preserved-then-contains
loop-q-preserved-then-contains c =
    let q : ℕ = c.loop-q.q - 1 in
    let known = c.args.known.now in
    let up : c.loop-q.q ≡ q + 1 = omega arith in
    let within : q < length known = omega arith in
    let read : known_at known q ≡ c.index-known-q.result = read_at known q _ _ within c.index-known-q.is in
    let f : IsFound c.args.met.now known (q + 1) (length c.args.known.now) c.loop-q.found =
    subst (λ n. IsFound c.args.met.now known n (length c.args.known.now) c.loop-q.found) up c.loop-q.invariant.1 in
    let is_met : Has c.args.met.now q = sym c.contains.ensures ∙ c.if-contains.true in
    let level : c.take_in.new.self.known.level ≡ max c.loop-q.found.known.level ((known_at known q).level + 1) =
    rw read c.take_in.ensures.level in (
      omega (arith, c.loop-q-test.true),
      by_test (has c.loop-q.found.known.reach q)
          (λ yes_. found_reached c.args.met.now known (length c.args.known.now) c.requires.closed q c.loop-q.found
          c.take_in.new.self (omega arith) is_met f c.take_in.ensures.near level yes_ (c.take_in.ensures.reached yes_))
          (λ no_. found_nearest c.args.met.now known (length c.args.known.now) c.requires.closed q c.loop-q.found
          c.take_in.new.self (omega arith) is_met f c.take_in.ensures.near level no_
          (λ p. rw read (c.take_in.ensures.reaches no_ p))),
    )

pub loop-q-preserved : goal.loop-q-preserved
loop-q-preserved c =
    let q : ℕ = c.loop-q.q - 1 in
    let tested : has c.args.met.now q ≡ false = sym c.contains.ensures ∙ c.if-contains.false in (
      omega (arith, c.loop-q-test.true),
      found_past c.args.met.now c.args.known.now (length c.args.known.now) q c.loop-q.q c.loop-q.found (omega arith)
          (λ p above below. let here : p ≡ q = omega (arith, above, below) in rw here tested) c.loop-q.invariant.1,
    )

pub returns : goal.returns
returns c =
    let all : c.loop-q.q ≡ c.args.from = omega (arith, c.loop-q-test.false, c.loop-q.invariant.0) in
    subst (λ n. IsFound c.args.met.now c.args.known.now n (length c.args.known.now) c.loop-q.found) all
    c.loop-q.invariant.1
