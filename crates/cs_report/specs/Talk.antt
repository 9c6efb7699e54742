-- What the program prints about its end.
use Rattle.std.specs.Prelude.{ℕ, ◌⊎◌, List, [], ◌∷◌, ◌++◌, codes, decimal}
use Rattle.cs_base.specs.Faults.{csd_kind_number, csd_kind_name, orc_kind_number, orc_kind_name, score_kind_number}
use Rattle.cs_base.specs.{Faults.score_kind_name, Limits.limit_number, declared.limit.LimitHit.LimitHit}
use Rattle.cs_edge.specs.Moves.{SinkTold, WroteMore, WrotePart}
use Rattle.cs_report.specs.declared.status.Status.{Status}
use Rattle.cs_report.specs.declared.status.Status.TheVariants.{Ok, Usage, ShelfFault, OrcRefused, ScoreRefused, Limit}
use Rattle.cs_report.specs.declared.status.Status.TheVariants.{SinkFault, OutOfMemory, TalkFault, CsdRefused}
use Rattle.cs_arguments.specs.Usage.{usage_text}

-- one text after another
abbrev pub joined : List (List ℕ) → List ℕ
joined [] = []
joined (text ∷ texts) = text ++ joined texts

-- the line of a text's first fault: which text, its line, and the kind by its number and its name
unfoldable pub fault_message : List ℕ → ℕ → ℕ → List ℕ → List ℕ
fault_message text line kind name =
    joined (text ∷ codes " line " ∷ decimal line ∷ codes ": " ∷ decimal kind ∷ codes " " ∷ name ∷ codes "\n" ∷ [])

-- the line of a limit that was exceeded
unfoldable pub limit_message : LimitHit → List ℕ
limit_message hit =
    joined (codes "limit L" ∷ decimal (limit_number hit.limit) ∷ codes " passed at line " ∷ decimal hit.line
    ∷ codes "\n" ∷ [])

-- the line of a status, with the name of the text that can't be read; Ok and TalkFault have none
abbrev pub message_of : Status → List ℕ → List ℕ
message_of Ok name = []
message_of Usage name = usage_text ++ codes "\n"
message_of ShelfFault name = joined (codes "cannot read " ∷ name ∷ codes "\n" ∷ [])
message_of (OrcRefused fault) name =
    fault_message (codes "orchestra") fault.line (orc_kind_number fault.kind) (orc_kind_name fault.kind)
message_of (ScoreRefused fault) name =
    fault_message (codes "score") fault.line (score_kind_number fault.kind) (score_kind_name fault.kind)
message_of (Limit hit) name = limit_message hit
message_of SinkFault name = codes "cannot write the sound file\n"
message_of OutOfMemory name = codes "out of memory\n"
message_of TalkFault name = []
message_of (CsdRefused fault) name =
    fault_message (codes "csd") fault.line (csd_kind_number fault.kind) (csd_kind_name fault.kind)

-- A sink has received this text, or failed after a prefix of it; there were only writes.
abbrev pub Says : SinkTold → SinkTold → List ℕ → Type 0
Says before now text = WroteMore before now text ⊎ WrotePart before now text
