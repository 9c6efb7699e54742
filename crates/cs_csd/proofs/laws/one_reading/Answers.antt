use Rattle.std.proofs.Common.{◌∙◌, sym}
use Rattle.cs_csd.proofs.Readings.{reading_is, scan_reads}
use Rattle.cs_csd.proofs.laws.one_reading.Goals as goal

pub returns-clause-some : goal.returns-clause-some
returns-clause-some c = λ text. (_, scan_reads text)

pub returns-clause-one : goal.returns-clause-one
returns-clause-one c = λ text r s a b. reading_is text r a ∙ sym (reading_is text s b)
