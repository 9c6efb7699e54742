-- The exit statuses, and the status of each refusal of a piece's texts.
use Rattle.std.specs.Prelude.{ℕ}
use Rattle.cs_report.specs.declared.status.Status.{Status}
use Rattle.cs_report.specs.declared.status.Status.TheVariants.{Ok, Usage, ShelfFault, OrcRefused, ScoreRefused, Limit}
use Rattle.cs_report.specs.declared.status.Status.TheVariants.{SinkFault, OutOfMemory, TalkFault, CsdRefused}
use Rattle.cs_base.specs.declared.refusal.Refusal.TheVariants as why
use Rattle.cs_base.specs.declared.refusal.Refusal.{Refusal}

-- the exit status
abbrev pub status_number : Status → ℕ
status_number Ok = 0
status_number Usage = 2
status_number ShelfFault = 3
status_number (OrcRefused fault) = 4
status_number (ScoreRefused fault) = 5
status_number (Limit hit) = 6
status_number SinkFault = 7
status_number OutOfMemory = 8
status_number TalkFault = 9
status_number (CsdRefused fault) = 11

-- the status of a refusal
abbrev pub refusal : Refusal → Status
refusal (why.Csd f) = CsdRefused f
refusal (why.Orc f) = OrcRefused f
refusal (why.Score f) = ScoreRefused f
refusal (why.Limit h) = Limit h
