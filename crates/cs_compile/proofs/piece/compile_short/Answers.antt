use Rattle.std.proofs.Common.{◌≡◌, Ok, Err, refl}
use Rattle.cs_piece.specs.Setups.{composition_of}
use Rattle.cs_typed.specs.TypedTree as typed
use Rattle.cs_compile.specs.Meaning.{piece_of, short_texts_mean}
use Rattle.cs_compile.proofs.Parts.{if_ok, left_with, not_plotted_plays, played, plotted_plays}
use Rattle.cs_compile.proofs.piece.compile_short.Goals as goal

pub returns-in_err-plot-clause-refused : goal.returns-in_err-plot-clause-refused
returns-in_err-plot-clause-refused c = λ r e.
    let o = c.in_ok-typed.typed in
    played c.args.width c.args.orchestra.now c.args.score.now (typed.orchestra o) o.head (Err r)
    c.in_ok-typed.ensures.orchestra refl
    (not_plotted_plays c.args.width c.args.score.now (typed.orchestra o) o.head r
    (c.in_err-plot.ensures.refused r
    (left_with c.from_residual-in_err-plot.result c.in_err-plot.field-0.0 r c.from_residual-in_err-plot.ensures.1 e)))

pub returns-clause-accepted : goal.returns-clause-accepted
returns-clause-accepted c =
    let o = c.in_ok-typed.typed in
    let plot = c.in_ok-plot.plot in
    if_ok (λ s. piece_of c.args.width (typed.orchestra o) o.head plot ≡ Ok (composition_of s))
    (λ s. short_texts_mean c.args.width c.args.orchestra.now c.args.score.now (Ok (composition_of s)))
    (λ s is. played c.args.width c.args.orchestra.now c.args.score.now (typed.orchestra o) o.head
    (Ok (composition_of s)) c.in_ok-typed.ensures.orchestra refl
    (plotted_plays c.args.width c.args.score.now (typed.orchestra o) o.head plot (Ok (composition_of s))
    c.in_ok-plot.ensures.plot is))
    c.prepared.result c.prepared.ensures.accepted

pub returns-clause-refused : goal.returns-clause-refused
returns-clause-refused c = λ r e.
    let o = c.in_ok-typed.typed in
    played c.args.width c.args.orchestra.now c.args.score.now (typed.orchestra o) o.head (Err r)
    c.in_ok-typed.ensures.orchestra refl
    (plotted_plays c.args.width c.args.score.now (typed.orchestra o) o.head c.in_ok-plot.plot (Err r)
    c.in_ok-plot.ensures.plot (c.prepared.ensures.refused r e))
