-- How a file is read: as its sections, or as its first fault. Each file has exactly one reading.
use Rattle.std.specs.Prelude.{◌≡◌, ℕ, Bool, true, false, List, [], ◌∷◌, ◌+◌, ◌++◌, length, Some, None, unwrap_or, take}
use Rattle.std.specs.{Prelude.Result, Prelude.Ok, Prelude.Err, List.All, Option.is_some}
use Rattle.cs_csd.specs.{declared.line.Section.Section, declared.part.Part.Part, declared.part.Parts.Parts}
use Rattle.cs_base.specs.{declared.fault.CsdFault.CsdFault, declared.fault.CsdKind.CsdKind}
use Rattle.cs_csd.specs.declared.scan.SectionsFound.{SectionsFound}
use Rattle.cs_base.specs.Lines.{Line, line_after, lines_of}
use Rattle.cs_csd.specs.Lines.{last_line, mark_of, closes, is_start}
use Rattle.cs_csd.specs.declared.line.LineMark.TheVariants as mark
use Rattle.cs_csd.specs.declared.line.Section.TheVariants as section
use Rattle.cs_base.specs.declared.fault.CsdKind.TheVariants as kind

-- a fault of this kind on a line
abbrev pub fault : CsdKind → ℕ → CsdFault
fault k line = record { line = line; kind = k }

-- the part between the line that opens a section and the line that closes it
abbrev pub part_between : Line → Line → Part
part_between opener closer =
    record { from = opener.at + length opener.bytes + 1; to = closer.at; line = opener.number + 1 }

-- the line of a part is the line on which the part begins in the file
abbrev pub BeginsOnItsLine : List ℕ → Part → Type 0
BeginsOnItsLine text p = p.line ≡ line_after 1 (take p.from text)

-- the part of a missing score
abbrev pub no_text : Part
no_text = record { from = 0; to = 0; line = 1 }

-- no section was found; the text of the options isn't stored
abbrev pub nothing_found : SectionsFound
nothing_found = record { options = false; orc = None; sco = None }

-- whether a section was found before
abbrev pub stood : Section → SectionsFound → Bool
stood section.Options f = f.options
stood section.Instruments f = is_some f.orc
stood section.Score f = is_some f.sco

-- one more section was found
abbrev pub with_section : Section → Part → SectionsFound → SectionsFound
with_section section.Options p f = record f { options = true }
with_section section.Instruments p f = record f { orc = Some p }
with_section section.Score p f = record f { sco = Some p }

-- The result of the lines after the first tag, if these sections were found before them and the file's last
-- line has this number.
pub data Between (last : ℕ) : SectionsFound → List Line → Result Parts CsdFault → Type 0 where
  idle : (f : SectionsFound) (l : Line) (ls : List Line) (r : Result Parts CsdFault)
      → mark_of l.bytes ≡ mark.Idle → Between last f ls r → Between last f (l ∷ ls) r
  whole : (s : Section) (f : SectionsFound) (opener : Line) (inside : List Line) (closer : Line) (ls : List Line)
      (r : Result Parts CsdFault)
      → mark_of opener.bytes ≡ mark.Opens s → stood s f ≡ false
      → All (λ l. closes s l.bytes ≡ false) inside → closes s closer.bytes ≡ true
      → Between last (with_section s (part_between opener closer) f) ls r
      → Between last f (opener ∷ inside ++ closer ∷ ls) r
  stop : (f : SectionsFound) (orc : Part) (l : Line) (ls : List Line)
      → mark_of l.bytes ≡ mark.Stop → f.orc ≡ Some orc
      → Between last f (l ∷ ls) (Ok (record { orc = orc; sco = unwrap_or f.sco no_text }))
  no_orchestra : (f : SectionsFound) (l : Line) (ls : List Line)
      → mark_of l.bytes ≡ mark.Stop → f.orc ≡ None → Between last f (l ∷ ls) (Err (fault kind.MissingTag l.number))
  twice : (s : Section) (f : SectionsFound) (l : Line) (ls : List Line)
      → mark_of l.bytes ≡ mark.Opens s → stood s f ≡ true
      → Between last f (l ∷ ls) (Err (fault kind.SectionTwice l.number))
  stray : (f : SectionsFound) (l : Line) (ls : List Line)
      → mark_of l.bytes ≡ mark.Other → Between last f (l ∷ ls) (Err (fault kind.NotInProfile l.number))
  unclosed : (s : Section) (f : SectionsFound) (opener : Line) (inside : List Line)
      → mark_of opener.bytes ≡ mark.Opens s → stood s f ≡ false → All (λ l. closes s l.bytes ≡ false) inside
      → Between last f (opener ∷ inside) (Err (fault kind.MissingTag last))
  cut : (f : SectionsFound) → Between last f [] (Err (fault kind.MissingTag last))

-- The result of a file: the text before its first tag doesn't count.
pub data Reading (text : List ℕ) : Result Parts CsdFault → Type 0 where
  begun : (before : List Line) (start : Line) (rest : List Line) (r : Result Parts CsdFault)
      → lines_of 1 text ≡ before ++ start ∷ rest → All (λ l. is_start l.bytes ≡ false) before
      → is_start start.bytes ≡ true
      → Between (last_line text) nothing_found rest r → Reading text r
  never : All (λ l. is_start l.bytes ≡ false) (lines_of 1 text)
      → Reading text (Err (fault kind.MissingTag (last_line text)))
