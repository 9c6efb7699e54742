use Rattle.std.proofs.Common.{◌≡◌, ◌∷◌, [], ◌<◌, List, ℕ, ℤ, length, vec_capacity, refl, ap, sym, ◌∙◌, subst, arith}
use Rattle.cs_signal.specs.{Delay.delay_step, Operands.operand_at, Steps.run, Walk.HasRun}
use Rattle.cs_signal.specs.inner.Ring.{in_order, line_in}
use Rattle.cs_signal.proofs.Rings.{being_filled, round, written}
use Rattle.cs_signal.proofs.delay.pass.Goals as goal

pub filled_on-requires-clause-memory : goal.filled_on-requires-clause-memory
filled_on-requires-clause-memory c =
    let test = c.if-len-count.true in
    let below : length c.args.ring.now.items < c.args.count = omega (arith, test) in
    (being_filled c.args.count (length c.args.ring.now.items) (vec_capacity c.args.ring.now) c.args.oldest
    c.requires.ring.2 below).1

pub turned-requires-clause-oldest : goal.turned-requires-clause-oldest
turned-requires-clause-oldest c =
    let test = c.if-len-count.false in
    let inside = c.requires.ring.0 in
    let same = c.deref_mut.ensures.len in
    omega (arith, test, inside, same)

pub returns-else-len-count-clause-value : goal.returns-else-len-count-clause-value
returns-else-len-count-clause-value c =
    let test = c.if-len-count.false in
    let at : ℕ → List ℤ = λ j. operand_at c.args.x.now j ∷ [] in
    let items = c.args.ring.now.items in
    let n : ℕ = length c.args.out.now in
    let value = c.deref_mut.ensures.value in
    let long : length c.turned.new.ring ≡ length items = c.turned.ensures.long ∙ ap length value in
    let all : length items ≡ c.args.ring.now.len = ap length (sym value) ∙ c.deref_mut.ensures.len in
    let runs = subst (λ l. (first : List ℤ) → HasRun delay_step at first n 0 (in_order l c.args.oldest) c.args.out.now
    → (in_order c.turned.new.ring c.turned.result, c.turned.new.out) ≡ run delay_step at first 0 n)
    value c.turned.ensures.run in
    ap (λ l. (line_in c.args.count l c.turned.result, c.turned.new.out))
    (written c.args.ring.now.len c.turned.new.ring items (long ∙ all) all)
    ∙ round at c.args.count c.args.oldest n c.turned.result
    items c.turned.new.ring c.args.out.now c.turned.new.out refl (omega (arith, test)) long runs
