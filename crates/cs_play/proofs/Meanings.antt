-- What the texts of a run mean, if they are known.
use Rattle.std.proofs.Common.{◌≡◌, ℕ, List, Option, Some, None, Result, Ok, Err, ap, sym, subst, ◌∙◌, ⊎_elim}
use Rattle.cs_piece_meaning.specs.Moments.{Composition}
use Rattle.cs_edge.specs.{Files.ShelfTold, Told.Rose, declared.files.NamedBytes.NamedBytes}
use Rattle.cs_play.specs.Alike.{AreTexts, TellAlike}
use Rattle.cs_arguments.specs.Reading.{AskedPiece, two_files, one_file, demo}
use Rattle.cs_source.specs.{Loaded.CannotRead, Loaded.SourceMeans, Meaning.Mean}
use Rattle.cs_source.specs.Texts.{Texts, both, csd, demo_notes, Fit, Have, HaveWhereTold, Lack, LackWhereTold}
use Rattle.cs_base.specs.{declared.width.SampleWidth.SampleWidth, declared.refusal.Refusal.Refusal}

-- texts have exactly one meaning; files have exactly one pair of texts; and files don't have what they lack
abbrev pub OneMeaning : Type 0
OneMeaning = (width : SampleWidth) (t : Texts) (r s : Result Composition Refusal) → Mean width t r → Mean width t s
    → r ≡ s

abbrev pub OnePair : Type 0
OnePair = (files : List NamedBytes) (piece : AskedPiece) (t u : Texts) → Have files piece t → Have files piece u → t ≡ u

abbrev pub NoneLacking : Type 0
NoneLacking = (files : List NamedBytes) (piece : AskedPiece) (t : Texts) (name : List ℕ) → Lack files piece name
    → Have files piece t → ⊥

demo_texts : (n : ℕ) (t : Texts) → Fit (demo n) t → t ≡ demo_notes n
demo_texts n (both a b) f = absurd f
demo_texts n (csd a) f = absurd f
demo_texts n (demo_notes m) f = ap demo_notes (sym f)

-- the texts that are known are the source's texts
same_texts : OnePair → (files : Option (List NamedBytes)) (piece : AskedPiece) (t u : Texts) → AreTexts files piece t
    → Fit piece u
    → HaveWhereTold files piece u → t ≡ u
same_texts one files (demo n) t u known fit have = known ∙ sym (demo_texts n u fit)
same_texts one None (two_files orc sco) t u known fit have = absurd known
same_texts one None (one_file name) t u known fit have = absurd known
same_texts one (Some files) (two_files orc sco) t u known fit have = one files (two_files orc sco) t u known have
same_texts one (Some files) (one_file name) t u known fit have = one files (one_file name) t u known have

-- so they mean what the source means
pub known_means : OnePair
    → (told : ShelfTold) (width : SampleWidth) (piece : AskedPiece) (t : Texts) (r : Result Composition Refusal)
    → AreTexts told.files piece t → SourceMeans told width piece r → Mean width t r
known_means pair told width piece t r known source =
    let P : Texts → Type 0 = λ u. Mean width u r in
    subst P (sym (same_texts pair told.files piece t source.texts known source.fit source.have)) source.mean

pub source_means : OneMeaning → OnePair
    → (told : ShelfTold) (width : SampleWidth) (piece : AskedPiece) (t : Texts) (r s : Result Composition Refusal)
    → AreTexts told.files piece t → Mean width t r → SourceMeans told width piece s → r ≡ s
source_means meaning pair told width piece t r s known mean source =
    meaning width t r s mean (known_means pair told width piece t s known source)

-- none of the known texts is missing
known_lack : NoneLacking → (files : Option (List NamedBytes)) (piece : AskedPiece) (t : Texts) (name : List ℕ)
    → AreTexts files piece t
    → LackWhereTold files piece name → ⊥
known_lack none None piece t name known lack = absurd lack
known_lack none (Some files) (demo n) t name known lack = absurd lack
known_lack none (Some files) (two_files orc sco) t name known lack = none files (two_files orc sco) t name lack known
known_lack none (Some files) (one_file csd_name) t name known lack = none files (one_file csd_name) t name lack known

-- so a name can't be read only if the shelf failed
pub known_unread : NoneLacking → (told now : ShelfTold) (piece : AskedPiece) (t : Texts) (name : List ℕ)
    → AreTexts told.files piece t
    → CannotRead told now piece name → Rose told.faults now.faults
known_unread none told now piece t name known unread =
    ⊎_elim (λ rose. rose) (λ lack. absurd (known_lack none told.files piece t name known lack)) unread.cause

have_lack : NoneLacking → (files : Option (List NamedBytes)) (piece : AskedPiece) (t : Texts) (name : List ℕ)
    → HaveWhereTold files piece t
    → LackWhereTold files piece name → ⊥
have_lack none None piece t name have lack = lack
have_lack none (Some files) piece t name have lack = none files piece t name lack have

-- texts of a source aren't missing
pub source_lacks : NoneLacking
    → (told : ShelfTold) (width : SampleWidth) (piece : AskedPiece) (r : Result Composition Refusal) (name : List ℕ)
    → SourceMeans told width piece r → LackWhereTold told.files piece name → ⊥
source_lacks none told width piece r name source lack =
    have_lack none told.files piece source.texts name source.have lack

-- two sources that tell the same have the same texts
alike_texts : OnePair → (a b : Option (List NamedBytes)) (piece : AskedPiece) (t u : Texts) → TellAlike piece a b
    → Fit piece t → Fit piece u
    → HaveWhereTold a piece t → HaveWhereTold b piece u → t ≡ u
alike_texts one a b (demo n) t u told fit fit' have have' = demo_texts n t fit ∙ sym (demo_texts n u fit')
alike_texts one a b (two_files orc sco) t u told fit fit' have have' =
    one told.0 (two_files orc sco) t u (rw told.1 at have) (rw told.2 at have')
alike_texts one a b (one_file name) t u told fit fit' have have' =
    one told.0 (one_file name) t u (rw told.1 at have) (rw told.2 at have')

pub alike_means : OneMeaning → OnePair
    → (told told' : ShelfTold) (width : SampleWidth) (piece : AskedPiece) (r s : Result Composition Refusal)
    → TellAlike piece told.files told'.files → SourceMeans told width piece r → SourceMeans told' width piece s → r ≡ s
alike_means meaning pair told told' width piece r s alike source source' =
    let P : Texts → Type 0 = λ u. Mean width u r in
    meaning width source'.texts r s
    (subst P (alike_texts pair told.files told'.files piece source.texts source'.texts alike source.fit source'.fit
    source.have source'.have) source.mean)
    source'.mean

-- equal results have the same value
pub same_refusal : (r s : Refusal) → (let a : Result Composition Refusal = Err r in a) ≡ Err s → r ≡ s
same_refusal r s e = cc

pub same_composition : (c d : Composition) → (let a : Result Composition Refusal = Ok c in a) ≡ Ok d → c ≡ d
same_composition c d e = cc

pub refused_composition : (c : Composition) (r : Refusal) → (let a : Result Composition Refusal = Ok c in a) ≡ Err r → ⊥
refused_composition c r e = cc
