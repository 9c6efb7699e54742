-- What was read of a source, and the rest.
use Rattle.std.proofs.Common.{◌≡◌, ◌≤◌, ◌<◌, ◌⊎◌, ◌+◌, ℕ, Bool, true, false, List, [], length, take, drop, Option, None}
use Rattle.std.proofs.Common.{Some, Result, Ok, Err, IfErr, refl, ap, sym, subst, ◌∙◌, inl, inr, ⊎_elim, arith}
use Rattle.std.proofs.Common.{if◌then◌else◌}
use Rattle.std.proofs.lemmas.{Bool.Decides.nat_tests, List.take_all, List.length-take}
use Rattle.std.specs.{Global.Vec, Result.IsErrAnd}
use Rattle.cs_base.specs.declared.fault.Or.{Or}
use Rattle.cs_base.specs.Limits.{most_orchestra_bytes, most_score_bytes}
use Rattle.cs_edge.specs.{Files.Lacks, Files.ShelfTold, Files.file_named, Moves.Grown, Moves.IsRun, Told.Follows}
use Rattle.cs_edge.specs.{Told.Rose, declared.files.NamedBytes.NamedBytes, declared.moves.Move.TheVariants.Read}
use Rattle.cs_arguments.specs.Reading.{AskedPiece, one_file, two_files, demo}
use Rattle.cs_source.specs.Loaded.{CannotRead, IsLeftWhereTold, LeavesUnread, WasRead, is_there_too_long}
use Rattle.cs_source.specs.{Loaded.is_told_too_long, declared.source.SourceText.SourceText, inner.Read.AreRead}
use Rattle.cs_source.specs.{inner.Read.IfFault, inner.Read.IsReadOf, inner.Reading.IsTextOf, inner.Reading.LeavesRest}
use Rattle.cs_source.specs.Texts.{both, csd, demo_notes, HaveWhereTold, IsScoreBehind, LackWhereTold, is_too_long}
use Rattle.cs_source.proofs.Moves.{both_read, last_begun}
use Rattle.cs_base.specs.declared.fault.Or.TheVariants as or
use Rattle.cs_source.specs.declared.source.SourceText.TheVariants as read

-- THE COMPLETE TEXT of which a part was read: the file's, if the shelf tells its files

abbrev IsFile : Option (List NamedBytes) → List ℕ → List ℕ → Type 0
IsFile None name text = Unit {0}
IsFile (Some files) name text = file_named name files ≡ Some text

text_of : (most : ℕ) (files : Option (List NamedBytes)) (name x : List ℕ) → IsTextOf most files name x → length x ≤ most
    → (text : List ℕ) × IsFile files name text × (x ≡ take most text)
text_of most None name x t h = (x, tt, sym (take_all most x h))
text_of most (Some files) name x t h = (t.0, t.1, t.2)

one_text : (o : Option (List ℕ)) (x y : List ℕ) → o ≡ Some x → o ≡ Some y → x ≡ y
one_text o x y e h = cc

whole : (m : ℕ) (x text : List ℕ) → x ≡ take (m + 1) text → length x ≤ m → text ≡ x
whole m x text e h =
    let short : length text ≤ m + 1 = omega (arith, ap length e, length-take (m + 1) text) in
    sym (e ∙ take_all (m + 1) text short)

long_text : (x text : List ℕ) → x ≡ take (most_orchestra_bytes + 1) text → most_orchestra_bytes < length x
    → is_too_long text ≡ true
long_text x text e h =
    let long : most_orchestra_bytes < length text =
    omega (arith, ap length e, length-take (most_orchestra_bytes + 1) text) in grind (arith, nat_tests)

short_text : (x text : List ℕ) → x ≡ take (most_orchestra_bytes + 1) text → length x ≤ most_orchestra_bytes
    → is_too_long text ≡ false
short_text x text e h =
    let short : length text ≤ most_orchestra_bytes =
    omega (arith, ap length (whole most_orchestra_bytes x text e h)) in grind (arith, nat_tests)

-- WHAT FILES HAVE

have_long : (files : Option (List NamedBytes)) (orc sco text : List ℕ) → IsFile files orc text → is_too_long text ≡ true
    → HaveWhereTold files (two_files orc sco) (both text [])
have_long None orc sco text f e = tt
have_long (Some files) orc sco text f e = let P : Bool → Type 0 =
    λ b. IsScoreBehind b files sco [] in (f, subst P (sym e) refl)

have_short : (files : Option (List NamedBytes)) (orc sco text score : List ℕ) → IsFile files orc text
    → is_too_long text ≡ false → IsFile files sco score
    → HaveWhereTold files (two_files orc sco) (both text score)
have_short None orc sco text score f e h = tt
have_short (Some files) orc sco text score f e h = let P : Bool → Type 0 =
    λ b. IsScoreBehind b files sco score in (f, subst P (sym e) h)

have_file : (files : Option (List NamedBytes)) (name text : List ℕ) → IsFile files name text
    → HaveWhereTold files (one_file name) (csd text)
have_file None name text f = tt
have_file (Some files) name text f = f

have_notes : (files : Option (List NamedBytes)) (n : ℕ) → HaveWhereTold files (demo n) (demo_notes n)
have_notes None n = tt
have_notes (Some files) n = refl

pub long_read : (files : Option (List NamedBytes)) (orc sco : List ℕ) (x y : Vec ℕ) → IsTextOf 1048577 files orc x.items
    → length x.items ≤ 1048577
    → 1048576 < length x.items → y.items ≡ [] → AreRead files (two_files orc sco) (read.Pair x y)
long_read files orc sco x y t h long e =
    let f = text_of 1048577 files orc x.items t h in
    record {
      texts = both f.0 [];
      fit = tt;
      have = have_long files orc sco f.0 f.1 (long_text x.items f.0 f.2 long);
      read_of = (f.2, e ∙ sym (take_all 4194305 [] (omega arith)));
    }

pub pair_read : (a b : Option (List NamedBytes)) (orc sco : List ℕ) (x y : Vec ℕ) → b ≡ a
    → IsTextOf 1048577 a orc x.items → length x.items ≤ 1048577
    → length x.items ≤ 1048576 → IsTextOf 4194305 b sco y.items → length y.items ≤ 4194305
    → AreRead a (two_files orc sco) (read.Pair x y)
pair_read a b orc sco x y same t h short u k =
    let P : Option (List NamedBytes) → Type 0 = λ files. IsTextOf 4194305 files sco y.items in
    let f = text_of 1048577 a orc x.items t h in
    let s = text_of 4194305 a sco y.items (subst P same u) k in
    record {
      texts = both f.0 s.0;
      fit = tt;
      have = have_short a orc sco f.0 s.0 f.1 (short_text x.items f.0 f.2 short) s.1;
      read_of = (f.2, s.2);
    }

pub csd_read : (files : Option (List NamedBytes)) (name : List ℕ) (x : Vec ℕ) → IsTextOf 5242881 files name x.items
    → length x.items ≤ 5242881
    → AreRead files (one_file name) (read.Csd x)
csd_read files name x t h =
    let f = text_of 5242881 files name x.items t h in
    record { texts = csd f.0; fit = tt; have = have_file files name f.0 f.1; read_of = f.2 }

pub notes_read : (files : Option (List NamedBytes)) (n : ℕ) (text : SourceText) → IsReadOf (demo_notes n) text
    → AreRead files (demo n) text
notes_read files n text e = record { texts = demo_notes n; fit = refl; have = have_notes files n; read_of = e }

-- THE REST

left_rest : (most : ℕ) (files : List NamedBytes) (name text : List ℕ) (left : Option (List ℕ))
    → LeavesRest most (Some files) name left → file_named name files ≡ Some text
    → left ≡ Some (drop most text)
left_rest most files name text left r e =
    r.2 ∙ ap (λ (l : List ℕ). Some (drop most l)) (one_text (file_named name files) r.0 text r.1 e)

pub long_left : (files : Option (List NamedBytes)) (before left : Option (List ℕ)) (orc sco x : List ℕ)
    → IsTextOf 1048577 files orc x → 1048576 < length x
    → LeavesRest 1048577 files orc left → IsLeftWhereTold files (two_files orc sco) before left
long_left None before left orc sco x t h r = tt
long_left (Some files) before left orc sco x t h r =
    let long = long_text x t.0 t.2 h in
    let is : left ≡ Some (drop 1048577 t.0) = left_rest 1048577 files orc t.0 left r t.1 in (
      both t.0 [],
      have_long (Some files) orc sco t.0 t.1 long,
      is ∙ sym (ap (λ (b : Bool). if b then Some (drop (most_orchestra_bytes + 1) t.0) else Some
          (drop (most_score_bytes + 1) [])) long),
    )

pub pair_left : (a b : Option (List NamedBytes)) (before left : Option (List ℕ)) (orc sco x y : List ℕ) → b ≡ a
    → IsTextOf 1048577 a orc x → length x ≤ 1048576
    → IsTextOf 4194305 b sco y → LeavesRest 4194305 b sco left → IsLeftWhereTold a (two_files orc sco) before left
pair_left None b before left orc sco x y same t h u r = tt
pair_left (Some files) b before left orc sco x y same t h u' r' =
    let P : Option (List NamedBytes) → Type 0 = λ files. IsTextOf 4194305 files sco y in
    let Q : Option (List NamedBytes) → Type 0 = λ files. LeavesRest 4194305 files sco left in
    let u = subst P same u' in
    let r = subst Q same r' in
    let short = short_text x t.0 t.2 h in
    let is : left ≡ Some (drop 4194305 u.0) = left_rest 4194305 files sco u.0 left r u.1 in (
      both t.0 u.0,
      have_short (Some files) orc sco t.0 u.0 t.1 short u.1,
      is ∙ sym (ap (λ (b : Bool). if b then Some (drop (most_orchestra_bytes + 1) t.0) else Some
          (drop (most_score_bytes + 1) u.0)) short),
    )

pub csd_left : (files : Option (List NamedBytes)) (before left : Option (List ℕ)) (name x : List ℕ)
    → IsTextOf 5242881 files name x
    → LeavesRest 5242881 files name left → IsLeftWhereTold files (one_file name) before left
csd_left None before left name x t r = tt
csd_left (Some files) before left name x t r = (csd t.0, t.1, left_rest 5242881 files name t.0 left r t.1)

pub notes_left : (files : Option (List NamedBytes)) (before : Option (List ℕ)) (n : ℕ)
    → IsLeftWhereTold files (demo n) before before
notes_left None before n = tt
notes_left (Some files) before n = (demo_notes n, refl, refl)

-- A NAME that can't be read

lacks_first : (files : Option (List NamedBytes)) (orc sco : List ℕ) → Lacks files orc
    → LackWhereTold files (two_files orc sco) orc
lacks_first None orc sco l = l
lacks_first (Some files) orc sco l = inl (refl, l)

pub first_unread : (a b : ShelfTold) (orc sco : List ℕ) → Follows a.moves b.moves (Grown (IsRun orc Read))
    → Rose a.faults b.faults ⊎ Lacks a.files orc → CannotRead a b (two_files orc sco) orc
first_unread a b orc sco moves cause = record {
  one = inl refl;
  last = last_begun orc a.moves b.moves moves;
  cause = ⊎_elim (λ r. inl r) (λ l. inr (lacks_first a.files orc sco l)) cause;
}

rose_since : (a b c : ℕ) → a ≤ b → Rose b c → Rose a c
rose_since a b c h (inl r) = inl (omega arith)
rose_since a b c h (inr r) = inr r

lacks_second : (files : Option (List NamedBytes)) (orc sco x : List ℕ) → IsTextOf 1048577 files orc x
    → length x ≤ 1048576 → Lacks files sco
    → LackWhereTold files (two_files orc sco) sco
lacks_second None orc sco x t h l = l
lacks_second (Some files) orc sco x t h l =
    let short : length t.0 ≤ most_orchestra_bytes =
    omega (arith, ap length (whole most_orchestra_bytes x t.0 t.2 h)) in inr (refl, t.0, t.1, short, l)

pub second_unread : (a b c : ShelfTold) (orc sco x : List ℕ) → a.faults ≤ b.faults → b.files ≡ a.files
    → Follows b.moves c.moves (Grown (IsRun sco Read))
    → IsTextOf 1048577 a.files orc x → length x ≤ 1048576 → Rose b.faults c.faults ⊎ Lacks b.files sco
    → CannotRead a c (two_files orc sco) sco
second_unread a b c orc sco x later same moves t h cause =
    let P : Option (List NamedBytes) → Type 0 = λ files. Lacks files sco in
    record {
      one = inr refl;
      last = last_begun sco b.moves c.moves moves;
      cause = ⊎_elim (λ r. inl (rose_since a.faults b.faults c.faults later r))
          (λ l. inr (lacks_second a.files orc sco x t h (subst P same l))) cause;
    }

lacks_file : (files : Option (List NamedBytes)) (name : List ℕ) → Lacks files name
    → LackWhereTold files (one_file name) name
lacks_file None name l = l
lacks_file (Some files) name l = (refl, l)

pub file_unread : (a b : ShelfTold) (name : List ℕ) → Follows a.moves b.moves (Grown (IsRun name Read))
    → Rose a.faults b.faults ⊎ Lacks a.files name
    → CannotRead a b (one_file name) name
file_unread a b name moves cause = record {
  one = refl;
  last = last_begun name a.moves b.moves moves;
  cause = ⊎_elim (λ r. inl r) (λ l. inr (lacks_file a.files name l)) cause;
}

pub unread_as : (a b : ShelfTold) (piece : AskedPiece) (n name : List ℕ) → n ≡ name → CannotRead a b piece name
    → CannotRead a b piece n
unread_as a b piece n name e h = subst (CannotRead a b piece) (sym e) h

-- what holds for the fault of a `?` holds for the returned one
pub fault_left : {B F : Type 0} (P : F → Type 0) (r : Result B (Or F)) (e : Or F) → IsErrAnd r (λ y. y ≡ e)
    → ((f : F) → e ≡ or.Fault f → P f) → IfErr r (λ x. IfFault x P)
fault_left P (Ok b) e i h = tt
fault_left P (Err (or.Fault f)) e i h = h f (sym i)
fault_left P (Err or.OutOfMemory) e i h = tt

-- BOTH FILES were opened

told_short : (files : Option (List NamedBytes)) (orc x : List ℕ) → IsTextOf 1048577 files orc x → length x ≤ 1048576
    → is_told_too_long files orc ≡ false
told_short None orc x t h = refl
told_short (Some files) orc x t h = ap is_there_too_long t.1 ∙ short_text x t.0 t.2 h

pub second_read : (a b c : ShelfTold) (orc sco x : List ℕ) → a.faults ≤ b.faults → b.faults ≤ c.faults
    → Follows a.moves b.moves (Grown (IsRun orc Read))
    → Follows b.moves c.moves (Grown (IsRun sco Read)) → IsTextOf 1048577 a.files orc x → length x ≤ 1048576
    → WasRead a c (two_files orc sco)
second_read a b c orc sco x p q first second t h =
    both_read a b c orc sco (told_short a.files orc x t h) p q first second

-- THE SAME PIECE

pub read_as : (files : Option (List NamedBytes)) (p q : AskedPiece) (text : SourceText) → q ≡ p → AreRead files p text
    → AreRead files q text
read_as files p q text e a = let P : AskedPiece → Type 0 = λ x. AreRead files x text in subst P (sym e) a

pub left_as : (a b : ShelfTold) (p q : AskedPiece) → q ≡ p → LeavesUnread a b p → LeavesUnread a b q
left_as a b p q e l = let P : AskedPiece → Type 0 = LeavesUnread a b in subst P (sym e) l

pub was_read_as : (a b : ShelfTold) (p q : AskedPiece) → q ≡ p → WasRead a b p → WasRead a b q
was_read_as a b p q e w = let P : AskedPiece → Type 0 = WasRead a b in subst P (sym e) w
