use Rattle.std.proofs.Common.{Err, ap, arith}
use Rattle.cs_source.proofs.Loads.{fault_left, long_left, long_read, pair_left, pair_read, second_read, second_unread}
use Rattle.cs_source.proofs.{Loads.unread_as, Moves.first_read}
use Rattle.cs_source.proofs.source.read_files.Goals as goal

pub returns-in_err-orchestra-clause-shelf : goal.returns-in_err-orchestra-clause-shelf
returns-in_err-orchestra-clause-shelf g c =
    first_read _ _ c.args.orc.now c.args.sco.now c.read_text.ensures.later c.read_text.ensures.moves

pub returns-then-len-gt-MOST_ORCHESTRA_BYTES-clause-read : goal.returns-then-len-gt-MOST_ORCHESTRA_BYTES-clause-read
returns-then-len-gt-MOST_ORCHESTRA_BYTES-clause-read g c =
    long_read _ c.args.orc.now c.args.sco.now c.in_ok-orchestra.orchestra c.new-score.result
    c.in_ok-orchestra.ensures.text c.in_ok-orchestra.ensures.most (omega (arith, c.len.ensures))
    c.new-score.ensures.items

pub returns-then-len-gt-MOST_ORCHESTRA_BYTES-clause-rest : goal.returns-then-len-gt-MOST_ORCHESTRA_BYTES-clause-rest
returns-then-len-gt-MOST_ORCHESTRA_BYTES-clause-rest g c =
    long_left (g.F.Shelf.tells c.args.shelf.now).files (g.F.Shelf.tells c.args.shelf.now).left _ c.args.orc.now
    c.args.sco.now c.in_ok-orchestra.orchestra.items
    c.in_ok-orchestra.ensures.text (omega (arith, c.len.ensures)) c.in_ok-orchestra.ensures.rest

pub returns-then-len-gt-MOST_ORCHESTRA_BYTES-clause-shelf : goal.returns-then-len-gt-MOST_ORCHESTRA_BYTES-clause-shelf
returns-then-len-gt-MOST_ORCHESTRA_BYTES-clause-shelf g c =
    first_read _ _ c.args.orc.now c.args.sco.now c.read_text.ensures.later c.read_text.ensures.moves

pub returns-clause-read : goal.returns-clause-read
returns-clause-read g c =
    pair_read _ (g.F.Shelf.tells c.read_text.new.shelf).files c.args.orc.now c.args.sco.now c.in_ok-orchestra.orchestra
    c.in_ok-score.score c.read_text.ensures.files c.in_ok-orchestra.ensures.text
    c.in_ok-orchestra.ensures.most (omega (arith, c.len.ensures)) c.in_ok-score.ensures.text c.in_ok-score.ensures.most

pub returns-clause-rest : goal.returns-clause-rest
returns-clause-rest g c =
    pair_left (g.F.Shelf.tells c.args.shelf.now).files (g.F.Shelf.tells c.read_text.new.shelf).files
    (g.F.Shelf.tells c.args.shelf.now).left _
    c.args.orc.now c.args.sco.now c.in_ok-orchestra.orchestra.items c.in_ok-score.score.items c.read_text.ensures.files
    c.in_ok-orchestra.ensures.text (omega (arith, c.len.ensures))
    c.in_ok-score.ensures.text c.in_ok-score.ensures.rest

pub returns-clause-shelf : goal.returns-clause-shelf
returns-clause-shelf g c =
    second_read _ (g.F.Shelf.tells c.read_text.new.shelf) _ _ _ c.in_ok-orchestra.orchestra.items
    c.read_text.ensures.later c.read_text-2.ensures.later
    c.read_text.ensures.moves c.read_text-2.ensures.moves c.in_ok-orchestra.ensures.text (omega (arith, c.len.ensures))

pub returns-in_err-score-clause-unread : goal.returns-in_err-score-clause-unread
returns-in_err-score-clause-unread g c =
    fault_left _ c.from_residual-in_err-score.result c.in_err-score.field-0.0 c.from_residual-in_err-score.ensures.1
    (λ f is.
    let u = c.in_err-score.ensures.fault f (ap (λ (z : _). Err z) is) in
    unread_as _ _ _ _ _ u.0
    (second_unread (g.F.Shelf.tells c.args.shelf.now) (g.F.Shelf.tells c.read_text.new.shelf) _ c.args.orc.now
    c.args.sco.now c.in_ok-orchestra.orchestra.items c.read_text.ensures.later c.read_text.ensures.files
    c.read_text-2.ensures.moves c.in_ok-orchestra.ensures.text (omega (arith, c.len.ensures)) u.1))

pub returns-in_err-score-clause-shelf : goal.returns-in_err-score-clause-shelf
returns-in_err-score-clause-shelf g c =
    second_read _ (g.F.Shelf.tells c.read_text.new.shelf) _ _ _ c.in_ok-orchestra.orchestra.items
    c.read_text.ensures.later c.read_text-2.ensures.later
    c.read_text.ensures.moves c.read_text-2.ensures.moves c.in_ok-orchestra.ensures.text (omega (arith, c.len.ensures))
