-- The kinds of a file's lines.
use Rattle.std.specs.Prelude.{ℕ, Bool, List, ◌&&◌, ◌||◌, codes, drop, length, max, if◌then◌else◌}
use Rattle.std.specs.List.{list_all, prefix_len}
use Rattle.cs_base.specs.Lines.{begins_with, is_blank, lines_of}
use Rattle.cs_csd.specs.{declared.line.LineMark.LineMark, declared.line.Section.Section}
use Rattle.cs_csd.specs.declared.line.LineMark.TheVariants as mark
use Rattle.cs_csd.specs.declared.line.Section.TheVariants as section

-- the number of a text's last line; an empty text has one line
abbrev pub last_line : List ℕ → ℕ
last_line text = max 1 (length (lines_of 1 text))

-- a line's bytes from the first one that isn't a blank
abbrev pub after_blanks : List ℕ → List ℕ
after_blanks bytes = drop (prefix_len is_blank bytes) bytes

-- a line that is a tag, with only blanks before and after it
abbrev pub is_tag : List ℕ → List ℕ → Bool
is_tag tag bytes =
    begins_with tag (after_blanks bytes) && list_all is_blank (drop (length tag) (after_blanks bytes))

-- a line of blanks, or a comment
abbrev pub is_idle : List ℕ → Bool
is_idle bytes = list_all is_blank bytes || begins_with (codes ";") (after_blanks bytes)

-- the tag that opens a section
abbrev pub opening : Section → List ℕ
opening section.Options = codes "<CsOptions>"
opening section.Instruments = codes "<CsInstruments>"
opening section.Score = codes "<CsScore>"

-- the tag that closes a section
abbrev pub closing : Section → List ℕ
closing section.Options = codes "</CsOptions>"
closing section.Instruments = codes "</CsInstruments>"
closing section.Score = codes "</CsScore>"

-- the first line that is read
abbrev pub is_start : List ℕ → Bool
is_start bytes = is_tag (codes "<CsoundSynthesizer>") bytes

-- the last line that is read
abbrev pub is_stop : List ℕ → Bool
is_stop bytes = is_tag (codes "</CsoundSynthesizer>") bytes

-- the kind of a line between sections
abbrev pub mark_of : List ℕ → LineMark
mark_of bytes =
    if is_idle bytes then mark.Idle
    else if is_tag (opening section.Options) bytes then mark.Opens section.Options
    else if is_tag (opening section.Instruments) bytes then mark.Opens section.Instruments
    else if is_tag (opening section.Score) bytes then mark.Opens section.Score
    else if is_stop bytes then mark.Stop
    else mark.Other

-- a line that closes a section
abbrev pub closes : Section → List ℕ → Bool
closes s bytes = is_tag (closing s) bytes
