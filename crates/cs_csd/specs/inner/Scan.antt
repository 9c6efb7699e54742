-- A file line by line: the reader's state after each.
use Rattle.std.specs.Prelude.{ℕ, List, [], ◌∷◌, ◌+◌, length, Option, Some, None, unwrap_or, Result, Ok, Err}
use Rattle.std.specs.Prelude.{if◌then◌else◌}
use Rattle.cs_csd.specs.{declared.line.LineMark.LineMark, declared.line.Section.Section, declared.part.Part.Part}
use Rattle.cs_csd.specs.{declared.part.Parts.Parts, declared.scan.SectionsFound.SectionsFound}
use Rattle.cs_csd.specs.{declared.scan.ScanState.ScanState, Lines.mark_of, Lines.closes, Lines.is_start}
use Rattle.cs_base.specs.{declared.fault.CsdFault.CsdFault, Lines.Line}
use Rattle.cs_csd.specs.Sections.{fault, no_text, nothing_found, stood, with_section}
use Rattle.cs_csd.specs.declared.line.LineMark.TheVariants as mark
use Rattle.cs_base.specs.declared.fault.CsdKind.TheVariants as kind
use Rattle.cs_csd.specs.declared.scan.ScanState.TheVariants as state

-- the state after a line that opens a section, whose text begins on the next line
abbrev pub opened : Section → ℕ → ℕ → SectionsFound → Result ScanState CsdFault
opened s number from f =
    if stood s f then Err (fault kind.SectionTwice number)
    else Ok (state.Inside f s (record { from = from; to = from; line = number + 1 }))

-- the state after the last line that is read
abbrev pub stopped : ℕ → SectionsFound → Option Part → Result ScanState CsdFault
stopped number f None = Err (fault kind.MissingTag number)
stopped number f (Some orc) = Ok (state.Done (record { orc = orc; sco = unwrap_or f.sco no_text }))

-- the state after a line between sections, by the line's kind
abbrev pub marked : Line → SectionsFound → LineMark → Result ScanState CsdFault
marked l f mark.Idle = Ok (state.Between f)
marked l f (mark.Opens s) = opened s l.number (l.at + length l.bytes + 1) f
marked l f mark.Stop = stopped l.number f f.orc
marked l f mark.Other = Err (fault kind.NotInProfile l.number)

-- the state after a line before the first tag
abbrev pub begun : List ℕ → ScanState
begun bytes = if is_start bytes then state.Between nothing_found else state.Before

-- the state after a line of a section
abbrev pub inside : SectionsFound → Section → Part → ℕ → List ℕ → ScanState
inside f s p at bytes =
    if closes s bytes then state.Between (with_section s (record p { to = at }) f) else state.Inside f s p

-- the state after one more line
abbrev pub step : ScanState → Line → Result ScanState CsdFault
step state.Before l = Ok (begun l.bytes)
step (state.Between f) l = marked l f (mark_of l.bytes)
step (state.Inside f s p) l = Ok (inside f s p l.at l.bytes)
step (state.Done parts) l = Ok (state.Done parts)

-- the result of a file that ends here
abbrev pub finish : ℕ → ScanState → Result Parts CsdFault
finish last (state.Done parts) = Ok parts
finish last _ = Err (fault kind.MissingTag last)

-- goes on if there is no fault
abbrev pub onward : Result ScanState CsdFault → (ScanState → Result Parts CsdFault) → Result Parts CsdFault
onward (Err f) more = Err f
onward (Ok s) more = more s

-- the result of the remaining lines
abbrev pub scan : ℕ → ScanState → List Line → Result Parts CsdFault
scan last s [] = finish last s
scan last s (l ∷ ls) = onward (step s l) (λ t. scan last t ls)
