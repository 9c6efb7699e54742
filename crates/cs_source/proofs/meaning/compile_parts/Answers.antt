use Rattle.std.proofs.Common.{Err}
use Rattle.cs_source.proofs.Meanings.{means_as}
use Rattle.cs_source.proofs.meaning.compile_parts.Goals as goal

pub returns-clause-refused : goal.returns-clause-refused
returns-clause-refused c =
    λ r h. means_as c.args.width _ _ _ _ (Err r) c.excerpt_of-orchestra.ensures c.excerpt_of-score.ensures
    (c.compile.ensures.refused r h)
