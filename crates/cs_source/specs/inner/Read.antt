-- What was read of a source, and what it means.
use Rattle.std.specs.Prelude.{◌≡◌, ◌+◌, List, length, nat_lt, take, Option, Result, ⊤}
use Rattle.cs_base.specs.Limits.{most_csd_bytes, most_orchestra_bytes, most_score_bytes}
use Rattle.cs_base.specs.{declared.fault.Or.Or, declared.refusal.Refusal.Refusal}
use Rattle.cs_base.specs.declared.width.SampleWidth.{SampleWidth}
use Rattle.cs_piece_meaning.specs.Moments.{Composition}
use Rattle.cs_edge.specs.declared.files.NamedBytes.{NamedBytes}
use Rattle.cs_arguments.specs.Reading.{AskedPiece}
use Rattle.cs_source.specs.{Meaning.FileMeans, Meaning.FilesMean, declared.source.SourceText.SourceText}
use Rattle.cs_source.specs.Texts.{Texts, both, csd, demo_notes, Fit, HaveWhereTold}
use Rattle.cs_base.specs.declared.fault.Or.TheVariants as or
use Rattle.cs_source.specs.DemoTexts as demo_texts
use Rattle.cs_source.specs.declared.source.SourceText.TheVariants as read

-- a fault for which P holds, or out of memory
abbrev pub IfFault : {F : Type 0} → Or F → (F → Type 0) → Type 0
IfFault (or.Fault f) P = P f
IfFault or.OutOfMemory P = ⊤

-- each text was read up to one byte past its limit, or to its end
abbrev pub IsReadOf : Texts → SourceText → Type 0
IsReadOf (both orchestra score) (read.Pair x y) =
    (x.items ≡ take (most_orchestra_bytes + 1) orchestra) × (y.items ≡ take (most_score_bytes + 1) score)
IsReadOf (csd text) (read.Csd x) = x.items ≡ take (most_csd_bytes + 1) text
IsReadOf (demo_notes n) (read.Pair x y) = (x.items ≡ demo_texts.orchestra) × (y.items ≡ demo_texts.score n)
IsReadOf _ _ = ⊥

-- Texts of a source were read; the files contain them if the shelf tells its files.
pub record AreRead (files : Option (List NamedBytes)) (piece : AskedPiece) (text : SourceText) : Type 0 where
  pub texts : Texts
  pub fit : Fit piece texts
  pub have : HaveWhereTold files piece texts
  pub read_of : IsReadOf texts text

-- the meaning of what was read
abbrev pub MeansAsRead : SampleWidth → SourceText → Result Composition Refusal → Type 0
MeansAsRead width (read.Pair x y) r = FilesMean width x.items y.items r
MeansAsRead width (read.Csd x) r = FileMeans (nat_lt most_csd_bytes (length x.items)) width x.items r
