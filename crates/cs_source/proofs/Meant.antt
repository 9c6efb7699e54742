-- The texts of a source have a meaning, and a composition that they mean has a head.
use Rattle.std.proofs.Common.{◌≡◌, Bool, true, false, ℕ, List, Result, Ok, Err, length, nat_lt, refl}
use Rattle.cs_base.specs.{Faults.passed, Limits.most_csd_bytes, Lines.Excerpt, Lines.whole_file}
use Rattle.cs_base.specs.{declared.head.Head.Head, declared.refusal.Refusal.Refusal, declared.fault.CsdFault.CsdFault}
use Rattle.cs_base.specs.declared.width.SampleWidth.{SampleWidth}
use Rattle.cs_compile.specs.Meaning.{means}
use Rattle.cs_csd.specs.{Sections.Reading, declared.part.Parts.Parts}
use Rattle.cs_piece_meaning.specs.Moments.{Composition}
use Rattle.cs_typed.specs.TypedTree.{header_of_head}
use Rattle.cs_source.specs.Meaning.{FileMeans, FilesMean, Mean, PartsMean, excerpt_of}
use Rattle.cs_source.specs.Texts.{Texts, both, csd, demo_notes}
use Rattle.cs_base.specs.declared.limit.Limit.TheVariants as limit
use Rattle.cs_base.specs.declared.refusal.Refusal.TheVariants as why
use Rattle.cs_source.specs.DemoTexts as demo_texts

-- something is meant
abbrev IsMeant : (Result Composition Refusal → Type 0) → Type 0
IsMeant P = (r : Result Composition Refusal) × P r

module _ (meaning : (width : SampleWidth) (orchestra score : Excerpt)
    → (r : Result Composition Refusal) × means width orchestra score r)
    (reading : (text : List ℕ) → (r : Result Parts CsdFault) × Reading text r) where
  files_some : (width : SampleWidth) (orchestra score : List ℕ) → IsMeant (FilesMean width orchestra score)
  files_some width orchestra score = meaning width (whole_file orchestra) (whole_file score)

  parts_some : (width : SampleWidth) (text : List ℕ) (p : Result Parts CsdFault) → IsMeant (PartsMean width text p)
  parts_some width text (Err f) = (Err (why.Csd f), refl)
  parts_some width text (Ok p) = meaning width (excerpt_of text p.orc) (excerpt_of text p.sco)

  file_some : (long : Bool) (width : SampleWidth) (text : List ℕ) → IsMeant (FileMeans long width text)
  file_some true width text = (Err (passed limit.CsdBytes), refl)
  file_some false width text = let p = reading text in let r = parts_some width text p.0 in (r.0, (p.0, p.1, r.1))

  pub mean_some : (width : SampleWidth) (t : Texts) → IsMeant (Mean width t)
  mean_some width (both orchestra score) = files_some width orchestra score
  mean_some width (csd text) = file_some (nat_lt most_csd_bytes (length text)) width text
  mean_some width (demo_notes n) = files_some width demo_texts.orchestra (demo_texts.score n)

abbrev HasHead : Composition → Type 0
HasHead c = (head : Head) × (header_of_head head ≡ c.head)

module _ (heads : (width : SampleWidth) (orchestra score : Excerpt) (c : Composition)
    → means width orchestra score (Ok c) → HasHead c) where
  parts_head : (width : SampleWidth) (text : List ℕ) (p : Result Parts CsdFault) (c : Composition)
      → PartsMean width text p (Ok c) → HasHead c
  parts_head width text (Err f) c m = absurd (cc)
  parts_head width text (Ok p) c m = heads width (excerpt_of text p.orc) (excerpt_of text p.sco) c m

  file_head : (long : Bool) (width : SampleWidth) (text : List ℕ) (c : Composition) → FileMeans long width text (Ok c)
      → HasHead c
  file_head true width text c m = absurd (cc)
  file_head false width text c m = parts_head width text m.0 c m.2

  pub mean_head : (width : SampleWidth) (t : Texts) (c : Composition) → Mean width t (Ok c) → HasHead c
  mean_head width (both orchestra score) c m = heads width (whole_file orchestra) (whole_file score) c m
  mean_head width (csd text) c m = file_head (nat_lt most_csd_bytes (length text)) width text c m
  mean_head width (demo_notes n) c m =
      heads width (whole_file demo_texts.orchestra) (whole_file (demo_texts.score n)) c m
