-- The settings of an entire piece: header lines and `zakinit`s, the first rule that they break, and the
-- resulting settings.
use Rattle.std.specs.Prelude.{ℕ, ℤ, pos, negsuc, Bool, true, false, not, List, [], ◌∷◌, ◌++◌, ◌&&◌, ◌==◌, ◌+◌, ◌*◌, ◌/◌}
use Rattle.std.specs.Prelude.{◌%◌, nat_le, nat_lt, Option, Some, None, if◌then◌else◌}
use Rattle.std.specs.{List.list_any, List.list_all, Option.option_or}
use Rattle.cs_base.specs.Limits.{greatest_sr, greatest_ksmps, most_channels, greatest_zak_size}
use Rattle.cs_base.specs.declared.fault.OrcFault.{OrcFault}
use Rattle.cs_base.specs.{declared.fault.OrcKind.OrcKind, declared.spaces.Spaces.Spaces, Heads.Header}
use Rattle.cs_words.specs.declared.word.HeadName.{HeadName}
use Rattle.cs_grammar.specs.{declared.tree.Callee.Callee, declared.tree.HeadLine.HeadLine}
use Rattle.cs_grammar.specs.Tree.{number, Argument, value, text, Statement, set, call, choose, Block, no_stmt, andthen}
use Rattle.cs_grammar.specs.Tree.{Arms, otherwise, arm}
use Rattle.cs_base.specs.declared.fault.OrcKind.TheVariants as orc
use Rattle.cs_words.specs.declared.catalogue.Opcode.TheVariants as op
use Rattle.cs_words.specs.declared.word.HeadName.TheVariants as head
use Rattle.cs_grammar.specs.declared.tree.Callee.TheVariants as callee

-- a fault on a line, if there is a kind
abbrev pub at : ℕ → Option OrcKind → Option OrcFault
at line None = None
at line (Some kind) = Some (record { line = line; kind = kind })

-- the integer part of a number from a text, or 0 if it is negative
abbrev pub whole : ℤ → ℕ
whole (pos raw) = raw / 65536
whole (negsuc m) = 0

-- an integer from 1 to `most`
abbrev pub is_whole_to : ℕ → ℤ → Bool
is_whole_to most (pos raw) = raw % 65536 == 0 && nat_le 1 (raw / 65536) && nat_le (raw / 65536) most
is_whole_to most (negsuc m) = false

-- a positive number
abbrev pub is_above_zero : ℤ → Bool
is_above_zero (pos raw) = nat_lt 0 raw
is_above_zero (negsuc m) = false

-- a value that a header line may have; `kr` is checked later, against the other settings
abbrev pub in_range : HeadName → ℤ → Bool
in_range head.Sr v = is_whole_to greatest_sr v
in_range head.Kr v = true
in_range head.Ksmps v = is_whole_to greatest_ksmps v
in_range head.Nchnls v = is_whole_to most_channels v
in_range head.Dbfs v = is_above_zero v

-- whether two header names are the same
abbrev pub same_head : HeadName → HeadName → Bool
same_head head.Sr head.Sr = true
same_head head.Kr head.Kr = true
same_head head.Ksmps head.Ksmps = true
same_head head.Nchnls head.Nchnls = true
same_head head.Dbfs head.Dbfs = true
same_head _ _ = false

-- the first rule that a header line breaks, given the earlier header lines
abbrev pub header_fault : List HeadLine → HeadLine → Option OrcKind
header_fault before h =
    if not (in_range h.name h.value) then Some orc.HeaderValue
    else (if list_any (λ b. same_head h.name b.name) before then Some orc.HeaderTwice else None)

-- the first rule that header lines break
abbrev pub headers_fault : List HeadLine → List HeadLine → Option OrcFault
headers_fault before [] = None
headers_fault before (h ∷ rest) =
    option_or (at h.line (header_fault before h)) (headers_fault (before ++ h ∷ []) rest)

-- the first header line with a name
abbrev pub header_of : HeadName → List HeadLine → Option HeadLine
header_of name [] = None
header_of name (h ∷ rest) = if same_head name h.name then Some h else header_of name rest

-- the integer in a header line, or another number if there is none
abbrev pub whole_or : ℕ → Option HeadLine → ℕ
whole_or other None = other
whole_or other (Some h) = whole h.value

-- the value in a header line, or another value if there is none
abbrev pub value_or : ℤ → Option HeadLine → ℤ
value_or other None = other
value_or other (Some h) = h.value

-- the raw value of a number in 65,536ths, or 0 if it is negative
abbrev pub raw_of : ℤ → ℕ
raw_of (pos raw) = raw
raw_of (negsuc m) = 0

-- Frames per control cycle: the value of `ksmps`; without one, sr / kr; without either, 10.
abbrev pub ksmps_of : ℕ → Option HeadLine → Option HeadLine → ℕ
ksmps_of sr kr (Some ksmps) = whole ksmps.value
ksmps_of sr (Some kr) None = sr * 65536 / raw_of kr.value
ksmps_of sr None None = 10

-- frames per second: the value of `sr`; without one, 44,100
abbrev pub rate_of_frames : List HeadLine → ℕ
rate_of_frames hs = whole_or 44100 (header_of head.Sr hs)

-- the header that results from all header lines
abbrev pub header : List HeadLine → Header
header hs = record {
  sr = rate_of_frames hs;
  ksmps = ksmps_of (rate_of_frames hs) (header_of head.Kr hs) (header_of head.Ksmps hs);
  nchnls = whole_or 1 (header_of head.Nchnls hs);
  dbfs = value_or (pos (32768 * 65536)) (header_of head.Dbfs hs);
}

-- kr * ksmps = sr exactly
abbrev pub is_product : ℕ → ℕ → ℤ → Bool
is_product sr ksmps kr = raw_of kr * ksmps == sr * 65536

-- kr * ksmps = sr exactly, and a cycle has an allowed length
abbrev pub kr_agrees : ℕ → ℕ → ℤ → Bool
kr_agrees sr ksmps kr = nat_le 1 ksmps && nat_le ksmps greatest_ksmps && is_product sr ksmps kr

-- the fault if `kr` doesn't agree with the other settings
abbrev pub kr_fault : Header → Option HeadLine → Option OrcFault
kr_fault h None = None
kr_fault h (Some kr) =
    if kr_agrees h.sr h.ksmps kr.value then None else Some (record { line = kr.line; kind = orc.HeaderValue })

-- a `zakinit`: its line and its arguments
pub record Zak : Type 0 where
  pub line : ℕ
  pub args : List Argument

-- whether a callee is `zakinit`
abbrev pub is_zakinit : Callee → Bool
is_zakinit (callee.Opcode op.Zakinit) = true
is_zakinit _ = false

-- a call as a list of `zakinit`s: one or none
abbrev pub zak_of : ℕ → Callee → List Argument → List Zak
zak_of line callee args = if is_zakinit callee then record { line = line; args = args } ∷ [] else []

-- every `zakinit` among statements, in the order of the text, including those in any arm of an `if`
abbrev mutual
  pub zaks : Statement → List Zak
  zaks (set line name e) = []
  zaks (call line results callee args) = zak_of line callee args
  zaks (choose line list) = zaks_of_arms list

  pub zaks_of_block : Block → List Zak
  zaks_of_block no_stmt = []
  zaks_of_block (andthen x rest) = zaks x ++ zaks_of_block rest

  pub zaks_of_arms : Arms → List Zak
  zaks_of_arms (otherwise b) = zaks_of_block b
  zaks_of_arms (arm c b rest) = zaks_of_block b ++ zaks_of_arms rest

-- a literal integer from 1 to 1,000; a text is checked with its statement
abbrev pub is_size : Argument → Bool
is_size (value (number v)) = is_whole_to greatest_zak_size v
is_size (value _) = false
is_size (text name) = true

-- the first rule that a `zakinit` breaks; `before` is true if there is an earlier one
abbrev pub zak_fault : Bool → Zak → Option OrcKind
zak_fault before z =
    if not (list_all is_size z.args) then Some orc.HeaderValue
    else (if before then Some orc.HeaderTwice else None)

-- the first rule that `zakinit`s break
abbrev pub zaks_fault : Bool → List Zak → Option OrcFault
zaks_fault before [] = None
zaks_fault before (z ∷ rest) = option_or (at z.line (zak_fault before z)) (zaks_fault true rest)

-- the earlier of two faults in the text
abbrev pub earlier : Option OrcFault → Option OrcFault → Option OrcFault
earlier None g = g
earlier (Some f) None = Some f
earlier (Some f) (Some g) = if nat_le f.line g.line then Some f else Some g

-- The first fault: header lines and `zakinit`s in the order of the text, and then `kr`.
abbrev pub settings_fault : List HeadLine → Block → Option OrcFault
settings_fault hs outside =
    option_or (earlier (headers_fault [] hs) (zaks_fault false (zaks_of_block outside)))
    (kr_fault (header hs) (header_of head.Kr hs))

-- the number of places for a size: places 0 to the size
abbrev pub places : Argument → ℕ
places (value (number v)) = whole v + 1
places _ = 0

-- no places
abbrev pub no_spaces : Spaces
no_spaces = record { control = 0; audio = 0 }

-- the zak spaces for two sizes; the first size is for the a-rate space
abbrev pub sizes : List Argument → Spaces
sizes (a ∷ b ∷ rest) = record { control = places b; audio = places a }
sizes _ = no_spaces

-- the zak spaces that the first `zakinit` sets
abbrev pub zak_spaces : List Zak → Spaces
zak_spaces [] = no_spaces
zak_spaces (z ∷ rest) = sizes z.args
