use Rattle.std.proofs.Common.{ℕ, ◌-◌, ◌*◌, ◌/◌, ◌≡◌, min, subst, sym, arith}
use Rattle.cs_graph.specs.inner.Nearest.{IsClosed, IsFound}
use Rattle.cs_graph.proofs.NearestLemmas.{found_none, found_past}
use Rattle.cs_graph.proofs.nearest.nearest.Goals as goal

pub loop-block-init : goal.loop-block-init
loop-block-init c =
    let t : ℕ = c.args.note in
    let e : min t (c.div_ceil-block.result * 64) ≡ t = omega (arith, c.div_ceil-block.ensures) in
    subst (λ n. IsFound c.args.met.now c.args.known.now n t c.new-found.result) (sym e)
    (found_none c.args.met.now c.args.known.now t c.new-found.result c.new-found.ensures.near c.new-found.ensures.reach
    c.new-found.ensures.level)

pub sort_block-requires-clause-closed : goal.sort_block-requires-clause-closed
sort_block-requires-clause-closed c =
    subst (IsClosed c.args.known.now) (sym c.requires.known) c.requires.closed

pub sort_block-requires-clause-found : goal.sort_block-requires-clause-found
sort_block-requires-clause-found c =
    let t : ℕ = c.args.note in
    let to : min t (c.loop-block.block * 64) ≡ c.min.result = omega (arith, c.min.ensures, c.loop-block-test.true) in
    subst (λ n. IsFound c.args.met.now c.args.known.now c.min.result n c.loop-block.found) (sym c.requires.known)
    (subst (λ n. IsFound c.args.met.now c.args.known.now n t c.loop-block.found) to c.loop-block.invariant)

pub loop-block-preserved-then-not-is_clear : goal.loop-block-preserved-then-not-is_clear
loop-block-preserved-then-not-is_clear c =
    let t : ℕ = c.args.note in
    let b : ℕ = c.loop-block.block - 1 in
    let from : min t (b * 64) ≡ b * 64 =
    omega (arith, c.loop-block-test.true, c.loop-block.auto.block, c.div_ceil-block.ensures) in
    subst (λ n. IsFound c.args.met.now c.args.known.now n t c.sort_block.new.found) (sym from)
    (subst (λ n. IsFound c.args.met.now c.args.known.now (b * 64) n c.sort_block.new.found) c.requires.known
    c.sort_block.ensures)

pub loop-block-preserved : goal.loop-block-preserved
loop-block-preserved c =
    let t : ℕ = c.args.note in
    let b : ℕ = c.loop-block.block - 1 in
    found_past c.args.met.now c.args.known.now t (min t (b * 64)) (min t (c.loop-block.block * 64)) c.loop-block.found
    (omega arith)
    (λ p above below. c.is_clear.ensures c.if-not-is_clear.false p
    (let q : p / 64 ≡ b = omega
    (arith, above, below, c.loop-block-test.true, c.loop-block.auto.block, c.div_ceil-block.ensures) in q))
    c.loop-block.invariant

pub returns : goal.returns
returns c =
    let t : ℕ = c.args.note in
    let all : min t (c.loop-block.block * 64) ≡ 0 = omega (arith, c.loop-block-test.false) in
    subst (λ n. IsFound c.args.met.now c.args.known.now n t c.loop-block.found) all c.loop-block.invariant
