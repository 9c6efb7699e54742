-- Files have exactly one pair of texts for a source, or lack a name.
use Rattle.std.proofs.Common.{◌≡◌, ◌≤◌, ◌⊎◌, inl, inr, Bool, true, false, ℕ, List, [], Option, Some, None, length, refl}
use Rattle.std.proofs.Common.{ap, sym, subst, ◌∙◌, arith}
use Rattle.std.proofs.lemmas.Bool.Decides.{nat_tests}
use Rattle.cs_base.specs.Limits.{most_orchestra_bytes}
use Rattle.cs_edge.specs.{Files.file_named, declared.files.NamedBytes.NamedBytes}
use Rattle.cs_arguments.specs.Reading.{AskedPiece, two_files, one_file, demo}
use Rattle.cs_source.specs.Texts.{Texts, both, csd, demo_notes, Have, IsScoreBehind, Lack, is_too_long}

one_text : (o : Option (List ℕ)) (x y : List ℕ) → o ≡ Some x → o ≡ Some y → x ≡ y
one_text o x y e h = cc

one_score : (long : Bool) (files : List NamedBytes) (sco x y : List ℕ) → IsScoreBehind long files sco x
    → IsScoreBehind long files sco y → x ≡ y
one_score true files sco x y p q = p ∙ sym q
one_score false files sco x y p q = one_text (file_named sco files) x y p q

two_texts : (files : List NamedBytes) (sco a b x y : List ℕ) → a ≡ b → IsScoreBehind (is_too_long a) files sco x
    → IsScoreBehind (is_too_long b) files sco y → both a x ≡ both b y
two_texts files sco a b x y e p q =
    let P : List ℕ → Type 0 = λ l. IsScoreBehind (is_too_long l) files sco y in
    let same : x ≡ y = one_score (is_too_long a) files sco x y p (subst P (sym e) q) in
    cc

pub one_pair : (files : List NamedBytes) (piece : AskedPiece) (t u : Texts) → Have files piece t → Have files piece u
    → t ≡ u
one_pair files (two_files orc sco) (both a x) (both b y) p q =
    two_texts files sco a b x y (one_text (file_named orc files) a b p.0 q.0) p.1 q.1
one_pair files (one_file name) (csd a) (csd b) p q = ap csd (one_text (file_named name files) a b p q)
one_pair files (demo n) (demo_notes a) (demo_notes b) p q = ap demo_notes (sym p ∙ q)
one_pair files (two_files orc sco) (csd a) u p q = absurd p
one_pair files (two_files orc sco) (demo_notes a) u p q = absurd p
one_pair files (two_files orc sco) (both a x) (csd b) p q = absurd q
one_pair files (two_files orc sco) (both a x) (demo_notes b) p q = absurd q
one_pair files (one_file name) (both a x) u p q = absurd p
one_pair files (one_file name) (demo_notes a) u p q = absurd p
one_pair files (one_file name) (csd a) (both b y) p q = absurd q
one_pair files (one_file name) (csd a) (demo_notes b) p q = absurd q
one_pair files (demo n) (both a x) u p q = absurd p
one_pair files (demo n) (csd a) u p q = absurd p
one_pair files (demo n) (demo_notes a) (both b y) p q = absurd q
one_pair files (demo n) (demo_notes a) (csd b) p q = absurd q

-- TEXTS, OR A NAME THAT IS MISSING

abbrev Either : List NamedBytes → AskedPiece → Type 0
Either files piece = ((t : Texts) × Have files piece t) ⊎ ((name : List ℕ) × Lack files piece name)

score_or_none : (files : List NamedBytes) (orc sco a : List ℕ) (o : Option (List ℕ)) (long : Bool)
    → file_named sco files ≡ o → file_named orc files ≡ Some a
    → is_too_long a ≡ long → Either files (two_files orc sco)
score_or_none files orc sco a o true e f l =
    let P : Bool → Type 0 = λ b. IsScoreBehind b files sco [] in inl (both a [], (f, subst P (sym l) refl))
score_or_none files orc sco a (Some x) false e f l =
    let P : Bool → Type 0 = λ b. IsScoreBehind b files sco x in inl (both a x, (f, subst P (sym l) e))
score_or_none files orc sco a None false e f l =
    let short : length a ≤ most_orchestra_bytes = grind (arith, nat_tests) in inr (sco, inr (refl, a, f, short, e))

pair_or_none : (files : List NamedBytes) (orc sco : List ℕ) (o : Option (List ℕ)) → file_named orc files ≡ o
    → Either files (two_files orc sco)
pair_or_none files orc sco None e = inr (orc, inl (refl, e))
pair_or_none files orc sco (Some a) e = score_or_none files orc sco a (file_named sco files) (is_too_long a) refl e refl

file_or_none : (files : List NamedBytes) (name : List ℕ) (o : Option (List ℕ)) → file_named name files ≡ o
    → Either files (one_file name)
file_or_none files name None e = inr (name, (refl, e))
file_or_none files name (Some a) e = inl (csd a, e)

pub texts_or_none : (files : List NamedBytes) (piece : AskedPiece)
    → ((t : Texts) × Have files piece t) ⊎ ((name : List ℕ) × Lack files piece name)
texts_or_none files (two_files orc sco) = pair_or_none files orc sco (file_named orc files) refl
texts_or_none files (one_file name) = file_or_none files name (file_named name files) refl
texts_or_none files (demo n) = inl (demo_notes n, refl)

no_text : (o : Option (List ℕ)) (x : List ℕ) → o ≡ None → o ≡ Some x → ⊥
no_text o x e h = cc

no_score : (files : List NamedBytes) (sco a : List ℕ) (x : List ℕ) → length a ≤ most_orchestra_bytes
    → file_named sco files ≡ None
    → IsScoreBehind (is_too_long a) files sco x → ⊥
no_score files sco a x h e s =
    let short : is_too_long a ≡ false = grind (arith, nat_tests) in
    let P : Bool → Type 0 = λ b. IsScoreBehind b files sco x in
    no_text (file_named sco files) x e (subst P short s)

pair_not_none : (files : List NamedBytes) (orc sco a x name : List ℕ) → Lack files (two_files orc sco) name
    → Have files (two_files orc sco) (both a x) → ⊥
pair_not_none files orc sco a x name (inl l) h = no_text (file_named orc files) a l.1 h.0
pair_not_none files orc sco a x name (inr l) h =
    let same : l.1 ≡ a = one_text (file_named orc files) l.1 a l.2 h.0 in
    let P : List ℕ → Type 0 = λ t. length t ≤ most_orchestra_bytes in
    no_score files sco a x (subst P same l.3) l.4 h.1

pub never_both : (files : List NamedBytes) (piece : AskedPiece) (t : Texts) (name : List ℕ) → Lack files piece name
    → Have files piece t → ⊥
never_both files (two_files orc sco) (both a x) name l h = pair_not_none files orc sco a x name l h
never_both files (two_files orc sco) (csd a) name l h = h
never_both files (two_files orc sco) (demo_notes a) name l h = h
never_both files (one_file csd_name) (csd a) name l h = no_text (file_named csd_name files) a l.1 h
never_both files (one_file csd_name) (both a x) name l h = h
never_both files (one_file csd_name) (demo_notes a) name l h = h
never_both files (demo n) t name l h = l
