use Rattle.std.proofs.Common.{Err, ap, sym, subst, ◌∙◌}
use Rattle.cs_base.specs.Lines.{whole_file}
use Rattle.cs_source.proofs.Meanings.{means_as}
use Rattle.cs_source.specs.{declared.source.SourceText.SourceText, inner.Read.MeansAsRead}
use Rattle.cs_source.proofs.meaning.compile_source.Goals as goal

pub returns-in-Pair-clause-refused : goal.returns-in-Pair-clause-refused
returns-in-Pair-clause-refused c =
    λ r h. subst (λ (s : SourceText). MeansAsRead c.args.width s (Err r)) (sym c.in-Pair.is)
    (means_as c.args.width _ _ _ _ (Err r) (c.whole_file-orchestra.ensures ∙ ap whole_file c.deref.ensures.value)
    (c.whole_file-score.ensures ∙ ap whole_file c.deref-in-Pair.ensures.value) (c.compile.ensures.refused r h))
