-- What texts mean, wherever they come from: what is performed, or the first refusal.
use Rattle.std.specs.Prelude.{ℕ, ◌≡◌, ◌-◌, Bool, true, false, List, drop, length, nat_lt, take, Result, Ok, Err}
use Rattle.cs_base.specs.{Faults.passed, Limits.most_csd_bytes, declared.width.SampleWidth.SampleWidth}
use Rattle.cs_base.specs.{declared.refusal.Refusal.Refusal, declared.fault.CsdFault.CsdFault}
use Rattle.cs_base.specs.Lines.{Excerpt, excerpt, whole_file}
use Rattle.cs_compile.specs.Meaning.{means}
use Rattle.cs_piece_meaning.specs.Moments.{Composition}
use Rattle.cs_csd.specs.{Sections.Reading, declared.part.Part.Part, declared.part.Parts.Parts}
use Rattle.cs_source.specs.Texts.{Texts, both, csd, demo_notes}
use Rattle.cs_base.specs.declared.limit.Limit.TheVariants as limit
use Rattle.cs_base.specs.declared.refusal.Refusal.TheVariants as why
use Rattle.cs_source.specs.DemoTexts as demo

-- the text of a part
abbrev pub part_of : List ℕ → Part → List ℕ
part_of text p = take (p.to - p.from) (drop p.from text)

-- the text of a part, which begins on the part's line of the file
abbrev pub excerpt_of : List ℕ → Part → Excerpt
excerpt_of text p = excerpt p.line (part_of text p)

-- two texts in separate files
abbrev pub FilesMean : SampleWidth → List ℕ → List ℕ → Result Composition Refusal → Type 0
FilesMean width orchestra score r = means width (whole_file orchestra) (whole_file score) r

-- a file whose tags were read
abbrev pub PartsMean : SampleWidth → List ℕ → Result Parts CsdFault → Result Composition Refusal → Type 0
PartsMean width text (Err f) r = r ≡ Err (why.Csd f)
PartsMean width text (Ok p) r = means width (excerpt_of text p.orc) (excerpt_of text p.sco) r

-- a file, too long or not: the tags of a file that is too long aren't read
abbrev pub FileMeans : Bool → SampleWidth → List ℕ → Result Composition Refusal → Type 0
FileMeans true width text r = r ≡ Err (passed limit.CsdBytes)
FileMeans false width text r = (p : Result Parts CsdFault) × Reading text p × PartsMean width text p r

-- What texts mean. The demo's texts count as two separate files.
abbrev pub Mean : SampleWidth → Texts → Result Composition Refusal → Type 0
Mean width (both orchestra score) r = FilesMean width orchestra score r
Mean width (csd text) r = FileMeans (nat_lt most_csd_bytes (length text)) width text r
Mean width (demo_notes n) r = FilesMean width demo.orchestra (demo.score n) r
