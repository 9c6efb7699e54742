use Rattle.std.proofs.Common.{◌≡◌, ◌∷◌, [], List, ℕ, ℤ, length, inl, refl, ap, sym, ◌∙◌, subst, arith}
use Rattle.cs_signal.specs.{Delay.delay_step, Operands.operand_at, Steps.run, Walk.HasRun}
use Rattle.cs_signal.specs.inner.Ring.{in_order, line_in}
use Rattle.cs_signal.proofs.Rings.{goes_round, written}
use Rattle.cs_signal.proofs.delay.filled_on.Goals as goal

pub returns-then-filled-out-clause-value : goal.returns-then-filled-out-clause-value
returns-then-filled-out-clause-value c =
    let filled = c.fill-filled.ensures in
    let long = filled.run.long in
    let test = c.if-filled-out.true in
    let at : ℕ → List ℤ = λ j. operand_at c.args.x.now j ∷ [] in
    let items = c.fill-filled.new.ring.items in
    let n : ℕ = length c.fill-filled.new.out in
    let value = c.deref_mut.ensures.value in
    let same : length c.turned.new.ring ≡ length items = c.turned.ensures.long ∙ ap length value in
    let all : length items ≡ c.fill-filled.new.ring.len = ap length (sym value) ∙ c.deref_mut.ensures.len in
    let runs = subst (λ l. (first : List ℤ)
    → HasRun delay_step at first n c.fill-filled.result (in_order l 0) c.fill-filled.new.out
    → (in_order c.turned.new.ring c.turned.result, c.turned.new.out) ≡ run delay_step at first 0 n)
    value c.turned.ensures.run in
    ap (λ l. (line_in c.args.count l c.turned.result, c.turned.new.out))
    (written c.fill-filled.new.ring.len c.turned.new.ring items (same ∙ all) all)
    ∙ goes_round at c.args.count 0 c.fill-filled.result (length c.args.out.now) c.turned.result
    c.args.ring.now.items items c.turned.new.ring c.fill-filled.new.out c.turned.new.out
    refl (filled.full (omega (arith, long, test))) same filled.run runs

pub returns-then-filled-out-clause-kept : goal.returns-then-filled-out-clause-kept
returns-then-filled-out-clause-kept c =
    let filled = c.fill-filled.ensures in
    let long = filled.run.long in
    let test = c.if-filled-out.true in
    let full = filled.full (omega (arith, long, test)) in
    let fits = filled.fits in
    let items = c.fill-filled.new.ring.items in
    let value = c.deref_mut.ensures.value in
    let same : length c.turned.new.ring ≡ length items = c.turned.ensures.long ∙ ap length value in
    let all : length items ≡ c.fill-filled.new.ring.len = ap length (sym value) ∙ c.deref_mut.ensures.len in
    let inside = c.turned.ensures.inside in
    let size = ap length (written c.fill-filled.new.ring.len c.turned.new.ring items (same ∙ all) all) in (
      omega (arith, inside, same, fits),
      omega (arith, size, same, fits),
      inl (omega (arith, size, same, full)),
    )

pub turned-requires-clause-oldest : goal.turned-requires-clause-oldest
turned-requires-clause-oldest c =
    let filled = c.fill-filled.ensures in
    let long = filled.run.long in
    let test = c.if-filled-out.true in
    let full = filled.full (omega (arith, long, test)) in
    let some = c.requires.some in
    let same = c.deref_mut.ensures.len in
    omega (arith, full, some, same)
