-- Texts have exactly one meaning, and what was read of them means the same.
use Rattle.std.proofs.Common.{◌≡◌, ◌≤◌, ◌<◌, ◌+◌, Bool, true, false, ℕ, List, Result, Ok, Err, length, nat_lt, take}
use Rattle.std.proofs.Common.{refl, ap, sym, subst, ◌∙◌, arith}
use Rattle.std.proofs.lemmas.{Bool.Decides.nat_tests, List.take_all, List.length-take}
use Rattle.cs_base.specs.Limits.{most_csd_bytes, most_of, most_orchestra_bytes, most_score_bytes}
use Rattle.cs_base.specs.{Lines.Excerpt, Lines.whole_file, declared.limit.Limit.Limit, declared.refusal.Refusal.Refusal}
use Rattle.cs_base.specs.declared.width.SampleWidth.{SampleWidth}
use Rattle.cs_compile.specs.Meaning.{means, no_longer_than, passed_if, short_texts_mean, unless_passed}
use Rattle.cs_compile.specs.Then.{Is, Then}
use Rattle.cs_piece_meaning.specs.Moments.{Composition}
use Rattle.cs_csd.specs.{Sections.Reading, declared.part.Parts.Parts}
use Rattle.cs_base.specs.declared.fault.CsdFault.{CsdFault}
use Rattle.cs_edge.specs.Files.{ShelfTold}
use Rattle.cs_arguments.specs.Reading.{AskedPiece}
use Rattle.cs_source.specs.Loaded.{IsLoaded, LeavesUnread, SourceMeans}
use Rattle.cs_source.specs.Meaning.{FileMeans, FilesMean, Mean, PartsMean, excerpt_of}
use Rattle.cs_source.specs.{Texts.Texts, Texts.both, Texts.csd, Texts.demo_notes, declared.source.SourceText.SourceText}
use Rattle.cs_source.specs.inner.Read.{AreRead, IsReadOf, MeansAsRead}
use Rattle.cs_base.specs.declared.limit.Limit.TheVariants as limit
use Rattle.cs_source.specs.DemoTexts as demo_texts
use Rattle.cs_source.specs.declared.source.SourceText.TheVariants as read

-- ONE MEANING

module _ (meaning : (width : SampleWidth) (orchestra score : Excerpt) (r s : Result Composition Refusal)
    → means width orchestra score r → means width orchestra score s → r ≡ s)
    (reading : (text : List ℕ) (r s : Result Parts CsdFault) → Reading text r → Reading text s → r ≡ s) where
  parts_one : (width : SampleWidth) (text : List ℕ) (p : Result Parts CsdFault) (r s : Result Composition Refusal)
      → PartsMean width text p r → PartsMean width text p s → r ≡ s
  parts_one width text (Err f) r s m n = m ∙ sym n
  parts_one width text (Ok p) r s m n = meaning width (excerpt_of text p.orc) (excerpt_of text p.sco) r s m n

  file_one : (long : Bool) (width : SampleWidth) (text : List ℕ) (r s : Result Composition Refusal)
      → FileMeans long width text r → FileMeans long width text s → r ≡ s
  file_one true width text r s m n = m ∙ sym n
  file_one false width text r s m n =
      let P : Result Parts CsdFault → Type 0 = λ p. PartsMean width text p s in
      parts_one width text m.0 r s m.2 (subst P (reading text n.0 m.0 n.1 m.1) n.2)

  pub mean_one : (width : SampleWidth) (t : Texts) (r s : Result Composition Refusal) → Mean width t r → Mean width t s
      → r ≡ s
  mean_one width (both orchestra score) r s m n =
      meaning width (whole_file orchestra) (whole_file score) r s m n
  mean_one width (csd text) r s m n = file_one (nat_lt most_csd_bytes (length text)) width text r s m n
  mean_one width (demo_notes k) r s m n =
      meaning width (whole_file demo_texts.orchestra) (whole_file (demo_texts.score k)) r s m n

-- excerpts mean the same as equal excerpts
pub means_as : (width : SampleWidth) (a b x y : Excerpt) (r : Result Composition Refusal) → a ≡ x → b ≡ y
    → means width a b r → means width x y r
means_as width a b x y r e h m =
    subst (λ (s : Excerpt). means width x s r) h (subst (λ (o : Excerpt). means width o b r) e m)

-- a file that isn't too long means the same as its parts
pub parts_mean : (width : SampleWidth) (text : List ℕ) (p : Parts) (r : Result Composition Refusal)
    → length text ≤ most_csd_bytes → Reading text (Ok p) → PartsMean width text (Ok p) r
    → FileMeans (nat_lt most_csd_bytes (length text)) width text r
parts_mean width text p r short read m = by (nat_lt most_csd_bytes (length text)) refl
  where
    by : (long : Bool) → nat_lt most_csd_bytes (length text) ≡ long → FileMeans long width text r
    by true e = absurd (let h : most_csd_bytes < length text = grind (arith, nat_tests) in omega (arith, h, short))
    by false e = (Ok p, read, m)

-- ONE BYTE MORE than the limit of a text: what was read is too long, or is the complete text

front_short : (m : ℕ) (text : List ℕ) → nat_lt m (length text) ≡ false → take (m + 1) text ≡ text
front_short m text e = take_all (m + 1) text (let h : length text ≤ m + 1 = grind (arith, nat_tests) in h)

front_long : (m : ℕ) (text : List ℕ) → nat_lt m (length text) ≡ true → nat_lt m (length (take (m + 1) text)) ≡ true
front_long m text e =
    let h : m < length text = grind (arith, nat_tests) in
    let l = length-take (m + 1) text in
    let k : m < length (take (m + 1) text) = omega (arith, h, l) in grind (arith, nat_tests)

answer_by : (which : Limit) (m : ℕ) (text : List ℕ) (long : Bool) → nat_lt m (length text) ≡ long
    → ◌≡◌ {A = Result Excerpt Refusal}
    (unless_passed (passed_if which (nat_lt m (length (take (m + 1) text)))) (whole_file (take (m + 1) text)))
    (unless_passed (passed_if which (nat_lt m (length text))) (whole_file text))
answer_by which m text false e =
    let P : List ℕ → Result Excerpt Refusal =
    λ t. unless_passed (passed_if which (nat_lt m (length t))) (whole_file t) in ap P (front_short m text e)
answer_by which m text true e =
    let P : List ℕ → Bool → Result Excerpt Refusal = λ t b. unless_passed (passed_if which b) (whole_file t) in
    ap (P (take (m + 1) text)) (front_long m text e) ∙ sym (ap (P text) e)

same_answer : (which : Limit) (text : List ℕ)
    → no_longer_than which (whole_file (take (most_of which + 1) text)) ≡ no_longer_than which (whole_file text)
same_answer which text = answer_by which (most_of which) text (nat_lt (most_of which) (length text)) refl

-- the prefixes of two texts mean the same as the texts
means_whole : (width : SampleWidth) (orchestra score : List ℕ) (r : Result Composition Refusal)
    → means width (whole_file (take (most_orchestra_bytes + 1) orchestra))
    (whole_file (take (most_score_bytes + 1) score)) r
    → means width (whole_file orchestra) (whole_file score) r
means_whole width orchestra score r m =
    let P : Result Excerpt Refusal → Result Excerpt Refusal → Type 0 =
    λ a b. Then (Is a) (λ orc. Then (Is b) (λ sco. short_texts_mean width orc sco)) r in
    let front = no_longer_than limit.ScoreBytes (whole_file (take (most_score_bytes + 1) score)) in
    let first = subst (λ (a : Result Excerpt Refusal). P a front) (same_answer limit.OrchestraBytes orchestra) m in
    subst (P (no_longer_than limit.OrchestraBytes (whole_file orchestra))) (same_answer limit.ScoreBytes score) first

files_whole : (width : SampleWidth) (x y orchestra score : List ℕ) (r : Result Composition Refusal)
    → x ≡ take (most_orchestra_bytes + 1) orchestra → y ≡ take (most_score_bytes + 1) score
    → FilesMean width x y r → FilesMean width orchestra score r
files_whole width x y orchestra score r e h m =
    let P : List ℕ → List ℕ → Type 0 = λ a b. means width (whole_file a) (whole_file b) r in
    let first = subst (λ (a : List ℕ). P a y) e m in
    means_whole width orchestra score r (subst (P (take (most_orchestra_bytes + 1) orchestra)) h first)

file_by : (width : SampleWidth) (long : Bool) (text : List ℕ) (r : Result Composition Refusal)
    → nat_lt most_csd_bytes (length text) ≡ long
    → FileMeans (nat_lt most_csd_bytes (length (take (most_csd_bytes + 1) text))) width (take (most_csd_bytes + 1) text)
    r → FileMeans (nat_lt most_csd_bytes (length text)) width text r
file_by width false text r e m =
    let P : List ℕ → Type 0 =
    λ t. FileMeans (nat_lt most_csd_bytes (length t)) width t r in subst P (front_short most_csd_bytes text e) m
file_by width true text r e m =
    let P : List ℕ → Bool → Type 0 = λ t b. FileMeans b width t r in
    subst (P text) (sym e) (subst (P (take (most_csd_bytes + 1) text)) (front_long most_csd_bytes text e) m)

file_whole : (width : SampleWidth) (x text : List ℕ) (r : Result Composition Refusal)
    → x ≡ take (most_csd_bytes + 1) text → FileMeans (nat_lt most_csd_bytes (length x)) width x r
    → FileMeans (nat_lt most_csd_bytes (length text)) width text r
file_whole width x text r e m =
    let P : List ℕ → Type 0 = λ t. FileMeans (nat_lt most_csd_bytes (length t)) width t r in
    file_by width (nat_lt most_csd_bytes (length text)) text r refl (subst P e m)

demo_whole : (width : SampleWidth) (x y orchestra score : List ℕ) (r : Result Composition Refusal) → x ≡ orchestra
    → y ≡ score
    → FilesMean width x y r → FilesMean width orchestra score r
demo_whole width x y orchestra score r e h m =
    let P : List ℕ → List ℕ → Type 0 =
    λ a b. FilesMean width a b r in subst (P orchestra) h (subst (λ (a : List ℕ). P a y) e m)

mean_whole : (width : SampleWidth) (t : Texts) (s : SourceText) (r : Result Composition Refusal) → IsReadOf t s
    → MeansAsRead width s r → Mean width t r
mean_whole width (both orchestra score) (read.Pair x y) r f m =
    files_whole width x.items y.items orchestra score r f.0 f.1 m
mean_whole width (csd text) (read.Csd x) r f m = file_whole width x.items text r f m
mean_whole width (demo_notes n) (read.Pair x y) r f m =
    demo_whole width x.items y.items demo_texts.orchestra (demo_texts.score n) r f.0 f.1 m
mean_whole width (both orchestra score) (read.Csd x) r f m = absurd f
mean_whole width (csd text) (read.Pair x y) r f m = absurd f
mean_whole width (demo_notes n) (read.Csd x) r f m = absurd f

-- what was read of a source means what the source means
source_means : (before : ShelfTold) (width : SampleWidth) (piece : AskedPiece) (text : SourceText)
    (r : Result Composition Refusal) → AreRead before.files piece text
    → MeansAsRead width text r → SourceMeans before width piece r
source_means before width piece text r a m =
    record { texts = a.texts; fit = a.fit; have = a.have; mean = mean_whole width a.texts text r a.read_of m }

-- if no more of the source was read, it is loaded
pub source_loaded : (before now : ShelfTold) (width : SampleWidth) (piece : AskedPiece) (text : SourceText)
    (r : Result Composition Refusal)
    → AreRead before.files piece text → LeavesUnread before now piece → now.faults ≡ before.faults
    → MeansAsRead width text r
    → IsLoaded before now width piece r
source_loaded before now width piece text r read rest same m =
    record { means = source_means before width piece text r read m; rest = rest; same = same }
