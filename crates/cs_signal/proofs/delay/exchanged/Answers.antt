use Rattle.std.proofs.Common.{◌≡◌, ◌+◌, ◌-◌, ◌++◌, length, map, take, drop, ap, sym, ◌∙◌, subst, arith}
use Rattle.std.specs.List.{range_with_len}
use Rattle.cs_signal.specs.Operands.{Lasts, operand_at}
use Rattle.cs_signal.proofs.Rings.{held_run, row_run}
use Rattle.cs_signal.proofs.delay.exchanged.Goals as goal

pub returns-in-Held-clause-ring : goal.returns-in-Held-clause-ring
returns-in-Held-clause-ring c =
    let ring = c.args.ring.now in
    c.hold.ensures ∙ ap (λ l. take c.args.place ring ++ (l ++ drop (c.args.place + c.args.count) ring))
    (held_run c.in-Held.value c.args.from c.args.count
    ∙ ap (λ x. map (operand_at x) (range_with_len c.args.from c.args.count)) (sym c.in-Held.is))

pub returns-in-Row-clause-ring : goal.returns-in-Row-clause-ring
returns-in-Row-clause-ring c =
    let ring = c.args.ring.now in
    let values = c.in-Row.values.now in
    let long = subst (Lasts (length c.args.out.now)) c.in-Row.is c.requires.last in
    let fits = c.requires.out in
    let same : c.args.from + c.args.count - c.args.from ≡ c.args.count = omega arith in
    c.put.ensures
    ∙ ap (λ n. take c.args.place ring ++ (take n (drop c.args.from values) ++ drop (c.args.place + c.args.count) ring))
    same ∙ ap (λ l. take c.args.place ring ++ (l ++ drop (c.args.place + c.args.count) ring))
    (row_run values c.args.from c.args.count (omega (arith, long, fits))
    ∙ ap (λ x. map (operand_at x) (range_with_len c.args.from c.args.count)) (sym c.in-Row.is))
