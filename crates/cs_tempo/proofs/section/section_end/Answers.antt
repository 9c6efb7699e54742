use Rattle.cs_tempo.proofs.Parts.{read_on, read_to, read_all}
use Rattle.cs_tempo.proofs.section.section_end.Goals as goal

pub returns-in-Section-clause-ended : goal.returns-in-Section-clause-ended
returns-in-Section-clause-ended c =
    λ some. read_to c.args.score.now c.loop-k.k c.index-score-k.result c.loop-k-test.true c.index-score-k.is
    c.in-Section.is c.loop-k.invariant

pub loop-k-preserved : goal.loop-k-preserved
loop-k-preserved c = read_on c.args.score.now c.loop-k.k c.index-score-k.result c.loop-k-test.true c.index-score-k.is
    c.in_default.not-Section c.loop-k.invariant

pub returns-clause-last : goal.returns-clause-last
returns-clause-last c = λ e. read_all c.args.score.now c.loop-k.k c.loop-k-test.false c.loop-k.invariant
