use Rattle.std.proofs.Common.{◌∙◌, ◌-◌, ap, arith}
use Rattle.cs_ir.specs.Touched.{covers}
use Rattle.cs_rwset.proofs.Spans.{marked_run, set_from}
use Rattle.cs_rwset.proofs.marks.mark.Goals as goal

pub mark_run-requires-clause-ordered : goal.mark_run-requires-clause-ordered
mark_run-requires-clause-ordered c = (c.in-Some.ensures.run c.args.layout.now c.requires.laid c.requires.runs).ordered

pub mark_run-requires-clause-within : goal.mark_run-requires-clause-within
mark_run-requires-clause-within c =
    let within = (c.in-Some.ensures.run c.args.layout.now c.requires.laid c.requires.runs).within in
    omega (arith, within, c.requires.long)

pub returns-in-Some : goal.returns-in-Some
returns-in-Some c P e =
    let areas = c.args.layout.now in
    let run = c.in-Some.run' in
    c.mark_run.ensures ∙ ap (set_from run.from (run.to - run.from) run.to) e
    ∙ marked_run P (covers c.args.runs.now.spaces c.args.touch) areas run
    (c.in-Some.ensures.run areas c.requires.laid c.requires.runs)
