use Rattle.std.proofs.Common.{◌∙◌, ap, sym, Err}
use Rattle.cs_score.proofs.History.{nothing_kept}
use Rattle.cs_score.specs.Plain.{plain_of}
use Rattle.cs_score.proofs.read.read_all.Goals as goal

pub read_lines-requires-clause-plain : goal.read_lines-requires-clause-plain
read_lines-requires-clause-plain c = c.deref.ensures.value ∙ c.in_ok-plain.ensures ∙ ap plain_of c.bytes.ensures

pub read_lines-requires-clause-keeps : goal.read_lines-requires-clause-keeps
read_lines-requires-clause-keeps c =
    nothing_kept c.new-past.result c.new-past.ensures.base c.new-past.ensures.sizes c.new-past.ensures.last

pub returns-in_err-read_lines-clause-fault : goal.returns-in_err-read_lines-clause-fault
returns-in_err-read_lines-clause-fault c = λ f e.
    let same = rw e at c.from_residual-in_err-read_lines.ensures.1 in
    c.read_lines.ensures.fault f (c.in_err-read_lines.was ∙ ap Err (sym same))
