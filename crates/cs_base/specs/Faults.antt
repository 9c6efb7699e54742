-- The numbers and names of the kinds of fault, and how faults become refusals.
use Rattle.std.specs.Prelude.{ℕ, List, Result, Ok, Err, codes}
use Rattle.cs_base.specs.{declared.fault.Or.Or, declared.limit.Limit.Limit, declared.refusal.Refusal.Refusal}
use Rattle.cs_base.specs.{declared.fault.CsdKind.CsdKind, declared.fault.OrcKind.OrcKind}
use Rattle.cs_base.specs.declared.fault.ScoreKind.{ScoreKind}
use Rattle.cs_base.specs.declared.fault.Or.TheVariants as or
use Rattle.cs_base.specs.declared.refusal.Refusal.TheVariants as refusal
use Rattle.cs_base.specs.declared.fault.CsdKind.TheVariants as csd
use Rattle.cs_base.specs.declared.fault.OrcKind.TheVariants as orc
use Rattle.cs_base.specs.declared.fault.ScoreKind.TheVariants as score

-- the number of a kind of fault of an orchestra, which is printed in a refusal
abbrev pub orc_kind_number : OrcKind → ℕ
orc_kind_number orc.BadByte = 1
orc_kind_number orc.BadToken = 2
orc_kind_number orc.BadNumber = 3
orc_kind_number orc.OpenComment = 4
orc_kind_number orc.Unexpected = 5
orc_kind_number orc.MissingEndin = 6
orc_kind_number orc.NestedInstr = 7
orc_kind_number orc.InstrNumber = 8
orc_kind_number orc.InstrTwice = 9
orc_kind_number orc.MissingEndif = 10
orc_kind_number orc.NotInProfile = 11
orc_kind_number orc.UnknownOpcode = 12
orc_kind_number orc.Undefined = 13
orc_kind_number orc.RateMismatch = 14
orc_kind_number orc.ArgCount = 15
orc_kind_number orc.HeaderValue = 16
orc_kind_number orc.HeaderTwice = 17
orc_kind_number orc.ChannelRate = 18
orc_kind_number orc.OutCount = 19
orc_kind_number orc.Recursion = 20
orc_kind_number orc.OpcodeTwice = 21
orc_kind_number orc.XinXout = 22
orc_kind_number orc.MissingEndop = 23

-- the name of a kind of fault of an orchestra, which is printed in a refusal
abbrev pub orc_kind_name : OrcKind → List ℕ
orc_kind_name orc.BadByte = codes "BadByte"
orc_kind_name orc.BadToken = codes "BadToken"
orc_kind_name orc.BadNumber = codes "BadNumber"
orc_kind_name orc.OpenComment = codes "OpenComment"
orc_kind_name orc.Unexpected = codes "Unexpected"
orc_kind_name orc.MissingEndin = codes "MissingEndin"
orc_kind_name orc.NestedInstr = codes "NestedInstr"
orc_kind_name orc.InstrNumber = codes "InstrNumber"
orc_kind_name orc.InstrTwice = codes "InstrTwice"
orc_kind_name orc.MissingEndif = codes "MissingEndif"
orc_kind_name orc.NotInProfile = codes "NotInProfile"
orc_kind_name orc.UnknownOpcode = codes "UnknownOpcode"
orc_kind_name orc.Undefined = codes "Undefined"
orc_kind_name orc.RateMismatch = codes "RateMismatch"
orc_kind_name orc.ArgCount = codes "ArgCount"
orc_kind_name orc.HeaderValue = codes "HeaderValue"
orc_kind_name orc.HeaderTwice = codes "HeaderTwice"
orc_kind_name orc.ChannelRate = codes "ChannelRate"
orc_kind_name orc.OutCount = codes "OutCount"
orc_kind_name orc.Recursion = codes "Recursion"
orc_kind_name orc.OpcodeTwice = codes "OpcodeTwice"
orc_kind_name orc.XinXout = codes "XinXout"
orc_kind_name orc.MissingEndop = codes "MissingEndop"

-- the number of a kind of fault of a score
abbrev pub score_kind_number : ScoreKind → ℕ
score_kind_number score.BadStatement = 1
score_kind_number score.BadNumber = 2
score_kind_number score.MissingField = 3
score_kind_number score.NothingToCarry = 4
score_kind_number score.BadTempo = 5
score_kind_number score.BadGen = 6
score_kind_number score.BadTableSize = 7
score_kind_number score.TableResized = 8
score_kind_number score.NegativeTime = 9
score_kind_number score.NotInProfile = 10

-- the name of a kind of fault of a score
abbrev pub score_kind_name : ScoreKind → List ℕ
score_kind_name score.BadStatement = codes "BadStatement"
score_kind_name score.BadNumber = codes "BadNumber"
score_kind_name score.MissingField = codes "MissingField"
score_kind_name score.NothingToCarry = codes "NothingToCarry"
score_kind_name score.BadTempo = codes "BadTempo"
score_kind_name score.BadGen = codes "BadGen"
score_kind_name score.BadTableSize = codes "BadTableSize"
score_kind_name score.TableResized = codes "TableResized"
score_kind_name score.NegativeTime = codes "NegativeTime"
score_kind_name score.NotInProfile = codes "NotInProfile"

-- the number of a kind of fault in the tags of a file that contains both texts
abbrev pub csd_kind_number : CsdKind → ℕ
csd_kind_number csd.MissingTag = 1
csd_kind_number csd.SectionTwice = 2
csd_kind_number csd.NotInProfile = 3

-- the name of a kind of fault in the tags of a file that contains both texts
abbrev pub csd_kind_name : CsdKind → List ℕ
csd_kind_name csd.MissingTag = codes "MissingTag"
csd_kind_name csd.SectionTwice = codes "SectionTwice"
csd_kind_name csd.NotInProfile = codes "NotInProfile"

-- the refusal for a limit that no line of a text exceeds
abbrev pub passed : Limit → Refusal
passed limit = refusal.Limit (record { limit = limit; line = 0 })

-- converts the fault with `told`; out of memory is unchanged
abbrev pub or_by : {F G : Type 0} → (F → G) → Or F → Or G
or_by told (or.Fault f) = or.Fault (told f)
or_by told or.OutOfMemory = or.OutOfMemory
