use Rattle.std.proofs.Common.{Ok, Err, ap, subst, sym}
use Rattle.cs_piece.specs.Setups.{AreOfOneSize}
use Rattle.cs_tempo.specs.declared.plot.Plot.{Plot}
use Rattle.cs_compile.specs.Meaning.{score_means}
use Rattle.cs_compile.proofs.Parts.{left_with, not_plotted, plotted_as, score_plotted, score_refused_for}
use Rattle.cs_compile.proofs.{Sizes.sizes_kept, Told.told}
use Rattle.cs_base.specs.declared.refusal.Refusal.TheVariants as why
use Rattle.cs_compile.proofs.score.read_plot.Goals as goal

pub returns-in_err-statements-clause-refused : goal.returns-in_err-statements-clause-refused
returns-in_err-statements-clause-refused c = λ r e.
    score_refused_for c.args.head.now c.args.text.now r
    (c.in_err-statements.ensures.refused r
    (left_with c.from_residual.result c.in_err-statements.field-0.0 r c.from_residual.ensures.1 e))

pub returns-in_err-plot-clause-refused : goal.returns-in_err-plot-clause-refused
returns-in_err-plot-clause-refused c =
    let head = c.args.head.now in
    let score = c.in_ok-statements.statements in
    told why.Limit (λ w. score_means head c.args.text.now (Err w)) c.from_residual-in_err-plot.result
    c.in_err-plot.field-0.0 c.from_residual-in_err-plot.ensures.1
    (λ hit is. score_plotted head c.args.text.now score (Err (why.Limit hit)) c.in_ok-statements.ensures.statements
    (not_plotted head score hit (c.in_err-plot.ensures.limit hit (ap (λ (z : _). Err z) is))))

pub returns-clause-plot : goal.returns-clause-plot
returns-clause-plot c =
    let score = c.in_ok-statements.statements in
    score_plotted c.args.head.now c.args.text.now score (Ok c.in_ok-plot.plot) c.in_ok-statements.ensures.statements
    (plotted_as c.args.head.now score c.in_ok-plot.plot c.in_ok-plot.ensures.within c.in_ok-plot.ensures.plot)

pub returns-clause-sizes : goal.returns-clause-sizes
returns-clause-sizes c =
    let score = c.in_ok-statements.statements in
    subst (λ (p : Plot). AreOfOneSize p.events) (sym c.in_ok-plot.ensures.plot)
    (sizes_kept c.args.head.now score
    (c.tables_keep_one_size.ensures c.args.text.now score c.in_ok-statements.ensures.statements))
