use Rattle.std.proofs.Common.{◌∙◌, length, subst, sym}
use Rattle.cs_ir.specs.Waves.{both}
use Rattle.cs_machine.proofs.pairs.combine_row.Goals as goal
use Rattle.cs_signal.specs.Operands.{Lasts, operand_at}

pub by_operator-requires-clause-y : goal.by_operator-requires-clause-y
by_operator-requires-clause-y c =
    subst (Lasts (length c.args.out.now)) c.in-Held-Row.is-1 c.requires.y

pub by_operator-requires-in-Row-Held-clause-x : goal.by_operator-requires-in-Row-Held-clause-x
by_operator-requires-in-Row-Held-clause-x c =
    subst (Lasts (length c.args.out.now)) c.in-Row-Held.is-0 c.requires.x

pub by_operator-requires-in-Row-Row-clause-x : goal.by_operator-requires-in-Row-Row-clause-x
by_operator-requires-in-Row-Row-clause-x c =
    subst (Lasts (length c.args.out.now)) c.in-Row-Row.is-0 c.requires.x

pub by_operator-requires-in-Row-Row-clause-y : goal.by_operator-requires-in-Row-Row-clause-y
by_operator-requires-in-Row-Row-clause-y c =
    subst (Lasts (length c.args.out.now)) c.in-Row-Row.is-1 c.requires.y

pub returns-in-Held-Held-clause-frames : goal.returns-in-Held-Held-clause-frames
returns-in-Held-Held-clause-frames c = λ j low. c.fill.ensures.frames j low ∙ c.combine.ensures
    ∙ (λ i. both c.args.operator (operand_at (sym c.in-Held-Held.is-0 i)) (operand_at (sym c.in-Held-Held.is-1 i)) j)

pub returns-in-Held-Held-clause-long : goal.returns-in-Held-Held-clause-long
returns-in-Held-Held-clause-long c = c.fill.ensures.long

pub returns-in-Held-Row-clause-frames : goal.returns-in-Held-Row-clause-frames
returns-in-Held-Row-clause-frames c = λ j low. c.by_operator.ensures.frames j low
    ∙ (λ i. both c.args.operator (operand_at (sym c.in-Held-Row.is-0 i)) (operand_at (sym c.in-Held-Row.is-1 i)) j)

pub returns-in-Held-Row-clause-long : goal.returns-in-Held-Row-clause-long
returns-in-Held-Row-clause-long c = c.by_operator.ensures.long

pub returns-in-Row-Held-clause-frames : goal.returns-in-Row-Held-clause-frames
returns-in-Row-Held-clause-frames c = λ j low. c.by_operator-in-Row-Held.ensures.frames j low
    ∙ (λ i. both c.args.operator (operand_at (sym c.in-Row-Held.is-0 i)) (operand_at (sym c.in-Row-Held.is-1 i)) j)

pub returns-in-Row-Held-clause-long : goal.returns-in-Row-Held-clause-long
returns-in-Row-Held-clause-long c = c.by_operator-in-Row-Held.ensures.long

pub returns-in-Row-Row-clause-frames : goal.returns-in-Row-Row-clause-frames
returns-in-Row-Row-clause-frames c = λ j low. c.by_operator-in-Row-Row.ensures.frames j low
    ∙ (λ i. both c.args.operator (operand_at (sym c.in-Row-Row.is-0 i)) (operand_at (sym c.in-Row-Row.is-1 i)) j)

pub returns-in-Row-Row-clause-long : goal.returns-in-Row-Row-clause-long
returns-in-Row-Row-clause-long c = c.by_operator-in-Row-Row.ensures.long
