use Rattle.cs_csd.proofs.Readings.{scan_reads}
use Rattle.cs_csd.proofs.laws.files_worked_by_hand.Goals as goal

pub returns-clause-parts : goal.returns-clause-parts
returns-clause-parts c = scan_reads _

pub returns-clause-no_score : goal.returns-clause-no_score
returns-clause-no_score c = scan_reads _

pub returns-clause-cut : goal.returns-clause-cut
returns-clause-cut c = scan_reads _

pub returns-clause-no_orchestra : goal.returns-clause-no_orchestra
returns-clause-no_orchestra c = scan_reads _

pub returns-clause-empty : goal.returns-clause-empty
returns-clause-empty c = scan_reads _

pub returns-clause-twice : goal.returns-clause-twice
returns-clause-twice c = scan_reads _

pub returns-clause-stray : goal.returns-clause-stray
returns-clause-stray c = scan_reads _

pub returns-clause-other_case : goal.returns-clause-other_case
returns-clause-other_case c = scan_reads _
