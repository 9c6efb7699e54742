use Rattle.cs_source.proofs.Pairs.{never_both, texts_or_none}
use Rattle.cs_source.proofs.laws.told_files_have_texts_or_lack_a_name.Goals as goal

pub returns-clause-some : goal.returns-clause-some
returns-clause-some c = texts_or_none

pub returns-clause-none : goal.returns-clause-none
returns-clause-none c = never_both
