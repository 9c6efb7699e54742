use Rattle.std.proofs.Common.{◌++◌, Ok, Err, None, arith, ap, sym, ◌∙◌, subst}
use Rattle.std.proofs.lemmas.List.{append-nil, drop_all}
use Rattle.cs_score.specs.{Carry.and_then, Statements.points_of, inner.State.Answers}
use Rattle.cs_score.proofs.Pairs.{all_points, and_then_by, and_then_fault, beat_fault_read, kind_is, number_fault_read}
use Rattle.cs_score.proofs.Pairs.{odd_read, pair_read, tempo_fault_read}
use Rattle.cs_score.proofs.tempo.points.Goals as goal

pub returns-in_err-number-clause-value : goal.returns-in_err-number-clause-value
returns-in_err-number-clause-value c =
    kind_is _ _ _ c.from_residual.ensures.1
    (number_fault_read c.args.fields.now c.loop-at.at c.loop-at.last c.loop-at.points _ _ c.loop-at-test.true
    (sym c.in_err-number.ensures) c.loop-at.invariant)

pub returns-in_err-beat-clause-value : goal.returns-in_err-beat-clause-value
returns-in_err-beat-clause-value c =
    kind_is _ _ _ c.from_residual-in_err-beat.ensures.1
    (beat_fault_read c.args.fields.now c.loop-at.at c.loop-at.last c.loop-at.points c.in_ok-number.field-0 _ _
    c.loop-at-test.true (sym c.in_ok-number.ensures) (sym c.in_err-beat.ensures) c.loop-at.invariant)

pub returns-then-at-fields-clause-value : goal.returns-then-at-fields-clause-value
returns-then-at-fields-clause-value c =
    subst (λ e. Answers (Err e) (points_of None c.args.fields.now)) (sym c.into.ensures)
    (odd_read c.args.fields.now c.loop-at.at c.loop-at.last c.loop-at.points c.in_ok-number.field-0 c.in_ok-beat.beat _
    c.loop-at-test.true (omega arith) (sym c.in_ok-number.ensures) (sym c.in_ok-beat.ensures) c.loop-at.invariant)

pub returns-in_err-number-2-clause-value : goal.returns-in_err-number-2-clause-value
returns-in_err-number-2-clause-value c =
    kind_is _ _ _ c.from_residual-in_err-number-2.ensures.1
    (tempo_fault_read c.args.fields.now c.loop-at.at c.loop-at.last c.loop-at.points c.in_ok-number.field-0
    c.in_ok-beat.beat _ _ (omega arith) (sym c.in_ok-number.ensures) (sym c.in_ok-beat.ensures)
    (and_then_fault _ _ _ (sym c.in_err-number-2.ensures)) c.loop-at.invariant)

pub returns-in_err-tempo-clause-value : goal.returns-in_err-tempo-clause-value
returns-in_err-tempo-clause-value c =
    kind_is _ _ _ c.from_residual-in_err-tempo.ensures.1
    (tempo_fault_read c.args.fields.now c.loop-at.at c.loop-at.last c.loop-at.points c.in_ok-number.field-0
    c.in_ok-beat.beat _ _ (omega arith) (sym c.in_ok-number.ensures) (sym c.in_ok-beat.ensures)
    (and_then_by _ _ _ (sym c.in_ok-number-2.ensures) ∙ and_then_fault _ _ _ (sym c.in_err-tempo.ensures))
    c.loop-at.invariant)

pub returns-clause-value : goal.returns-clause-value
returns-clause-value c =
    let fs = c.args.fields.now in
    c.loop-at.invariant ∙ ap (λ t. and_then (points_of c.loop-at.last t) (λ ps. Ok (c.loop-at.points ++ ps)))
    (drop_all c.loop-at.at fs c.loop-at-test.false) ∙ ap Ok (append-nil c.loop-at.points)

pub loop-at-preserved : goal.loop-at-preserved
loop-at-preserved c =
    pair_read c.args.fields.now c.loop-at.at c.loop-at.last c.loop-at.points c.push.new.self c.in_ok-number.field-0
    c.in_ok-number-2.field-0 c.in_ok-beat.beat c.in_ok-tempo.tempo (points_of None c.args.fields.now)
    (omega arith) (sym c.in_ok-number.ensures) (sym c.in_ok-beat.ensures) (sym c.in_ok-number-2.ensures)
    (sym c.in_ok-tempo.ensures) c.in_ok-push.ensures.ok c.loop-at.invariant

pub returns-clause-range : goal.returns-clause-range
returns-clause-range c =
    all_points c.args.fields.now c.loop-at.at c.loop-at.last c.loop-at.points c.requires c.loop-at-test.false
    c.loop-at.invariant
