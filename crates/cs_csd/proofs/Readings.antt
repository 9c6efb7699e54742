-- The scan of lines yields their reading.
use Rattle.std.proofs.Common.{◌≡◌, ◌≤◌, ◌<◌, ◌-◌, ℕ, true, false, List, [], ◌∷◌, ◌++◌, ◌+◌, length, drop, take, arith}
use Rattle.std.proofs.Common.{max, Result, Ok, Err, Option, Some, None, unwrap_or, ap, sym, ◌∙◌, refl, subst}
use Rattle.std.specs.List.{All}
use Rattle.std.proofs.lemmas.List.{append-nil, append_assoc, drop-drop, drop_all, length-drop, take_rest}
use Rattle.std.proofs.lemmas.List.Elements.{All-nil, All-cons, All-head, All-tail, All-append}
use Rattle.cs_base.proofs.{Tests.by_test, LineCuts.cut_at, LineCuts.line_len}
use Rattle.cs_csd.specs.{declared.line.LineMark.LineMark, declared.line.Section.Section, declared.part.Part.Part}
use Rattle.cs_csd.specs.{declared.part.Parts.Parts, declared.scan.ScanState.ScanState}
use Rattle.cs_base.specs.declared.fault.CsdFault.{CsdFault}
use Rattle.cs_csd.specs.declared.scan.SectionsFound.{SectionsFound}
use Rattle.cs_base.specs.Lines.{Line, line, lines_from, lines_of, next_len}
use Rattle.cs_csd.specs.Lines.{mark_of, closes, is_start, last_line}
use Rattle.cs_csd.specs.Sections.{Between, idle, whole, stop, no_orchestra, twice, stray, unclosed, cut, Reading, begun}
use Rattle.cs_csd.specs.Sections.{never, fault, part_between, no_text, nothing_found, stood, with_section}
use Rattle.cs_csd.specs.inner.Scan.{finish, onward, scan, step, marked, stopped}
use Rattle.cs_csd.specs.declared.line.LineMark.TheVariants as mark
use Rattle.cs_base.specs.declared.fault.CsdKind.TheVariants as kind
use Rattle.cs_csd.specs.declared.scan.ScanState.TheVariants as state

-- the start of a section's part
abbrev opens_at : Line → Part
opens_at l = record { from = l.at + length l.bytes + 1; to = l.at + length l.bytes + 1; line = l.number + 1 }

abbrev missing : ℕ → Result Parts CsdFault
missing last = Err (fault kind.MissingTag last)

-- one line between sections
on_mark : (last : ℕ) (f : SectionsFound) (l : Line) (ls : List Line) (m : LineMark) → mark_of l.bytes ≡ m
    → scan last (state.Between f) (l ∷ ls) ≡ onward (marked l f m) (λ t. scan last t ls)
on_mark last f l ls m e = ap (λ k. onward (marked l f k) (λ t. scan last t ls)) e

on_opened : (last : ℕ) (s : Section) (f : SectionsFound) (l : Line) (ls : List Line) → mark_of l.bytes ≡ mark.Opens s
    → stood s f ≡ false
    → scan last (state.Between f) (l ∷ ls) ≡ scan last (state.Inside f s (opens_at l)) ls
on_opened last s f l ls e h = on_mark last f l ls (mark.Opens s) e ∙ rw h refl

-- lines in a section, up to its end and to the end of the file
to_close : (last : ℕ) (s : Section) (f : SectionsFound) (p : Part) (inside : List Line) (closer : Line) (ls : List Line)
    → All (λ l. closes s l.bytes ≡ false) inside → closes s closer.bytes ≡ true
    → scan last (state.Inside f s p) (inside ++ closer ∷ ls) ≡ scan last
    (state.Between (with_section s (record p { to = closer.at }) f)) ls
to_close last s f p [] closer ls a c = rw c refl
to_close last s f p (l ∷ inside) closer ls a c =
    let here = All-head (λ l. closes s l.bytes ≡ false) l inside a in
    let more = to_close last s f p inside closer ls (All-tail (λ l. closes s l.bytes ≡ false) l inside a) c in
    rw here more

to_end : (last : ℕ) (s : Section) (f : SectionsFound) (p : Part) (inside : List Line)
    → All (λ l. closes s l.bytes ≡ false) inside
    → scan last (state.Inside f s p) inside ≡ missing last
to_end last s f p [] a = refl
to_end last s f p (l ∷ inside) a =
    let here = All-head (λ l. closes s l.bytes ≡ false) l inside a in
    let more = to_end last s f p inside (All-tail (λ l. closes s l.bytes ≡ false) l inside a) in
    rw here more

-- lines before the first tag, up to it and to the end of the file
to_start : (last : ℕ) (before : List Line) (start : Line) (rest : List Line)
    → All (λ l. is_start l.bytes ≡ false) before → is_start start.bytes ≡ true
    → scan last state.Before (before ++ start ∷ rest) ≡ scan last (state.Between nothing_found) rest
to_start last [] start rest a c = rw c refl
to_start last (l ∷ before) start rest a c =
    let here = All-head (λ l. is_start l.bytes ≡ false) l before a in
    let more = to_start last before start rest (All-tail (λ l. is_start l.bytes ≡ false) l before a) c in
    rw here more

no_start : (last : ℕ) (ls : List Line) → All (λ l. is_start l.bytes ≡ false) ls
    → scan last state.Before ls ≡ missing last
no_start last [] a = refl
no_start last (l ∷ ls) a =
    let here = All-head (λ l. is_start l.bytes ≡ false) l ls a in
    let more = no_start last ls (All-tail (λ l. is_start l.bytes ≡ false) l ls a) in
    rw here more

-- text after the last tag doesn't count
after_stop : (last : ℕ) (parts : Parts) (ls : List Line) → scan last (state.Done parts) ls ≡ Ok parts
after_stop last parts [] = refl
after_stop last parts (l ∷ ls) = after_stop last parts ls

-- the result of lines is the result of the scan
is_scan : {last : ℕ} {f : SectionsFound} {ls : List Line} {r : Result Parts CsdFault} → Between last f ls r
    → r ≡ scan last (state.Between f) ls
is_scan {last} (idle f l ls r m b) = is_scan b ∙ sym (on_mark last f l ls mark.Idle m)
is_scan {last} (whole s f opener inside closer ls r m h a c b) =
    is_scan b ∙ sym (to_close last s f (opens_at opener) inside closer ls a c)
    ∙ sym (on_opened last s f opener (inside ++ closer ∷ ls) m h)
is_scan {last} (stop f orc l ls m e) =
    sym (on_mark last f l ls mark.Stop m ∙ ap (λ o. onward (stopped l.number f o) (λ t. scan last t ls)) e
    ∙ after_stop last (record { orc = orc; sco = unwrap_or f.sco no_text }) ls)
is_scan {last} (no_orchestra f l ls m e) =
    sym (on_mark last f l ls mark.Stop m ∙ ap (λ o. onward (stopped l.number f o) (λ t. scan last t ls)) e)
is_scan {last} (twice s f l ls m h) = sym (on_mark last f l ls (mark.Opens s) m ∙ rw h refl)
is_scan {last} (stray f l ls m) = sym (on_mark last f l ls mark.Other m)
is_scan {last} (unclosed s f opener inside m h a) =
    sym (on_opened last s f opener inside m h ∙ to_end last s f (opens_at opener) inside a)
is_scan (cut f) = refl

pub reading_is : (text : List ℕ) (r : Result Parts CsdFault) → Reading text r
    → r ≡ scan (last_line text) state.Before (lines_of 1 text)
reading_is text r (begun before start rest r' e a c b) =
    is_scan b ∙ sym (to_start (last_line text) before start rest a c) ∙ sym (ap (scan (last_line text) state.Before) e)
reading_is text r (never a) = sym (no_start (last_line text) (lines_of 1 text) a)

-- one more line at the end of the lines inside
snoc : (inside : List Line) (l : Line) (ls : List Line) → inside ++ l ∷ ls ≡ (inside ++ l ∷ []) ++ ls
snoc inside l ls = sym (append_assoc inside (l ∷ []) ls)

all_snoc : (P : Line → Type 0) (inside : List Line) (l : Line) → All P inside → P l → All P (inside ++ l ∷ [])
all_snoc P inside l a h = All-append P inside (l ∷ []) a (All-cons P l [] h (All-nil P))

-- the result of the scan is the result of the lines
abbrev Has : ℕ → List Line → Type 0
Has last ls = (f : SectionsFound) → Between last f ls (scan last (state.Between f) ls)

abbrev HasInside : ℕ → List Line → Type 0
HasInside last ls = (f : SectionsFound) (s : Section) (opener : Line) (inside : List Line)
    → mark_of opener.bytes ≡ mark.Opens s → stood s f ≡ false
    → All (λ l. closes s l.bytes ≡ false) inside
    → Between last f (opener ∷ inside ++ ls) (scan last (state.Inside f s (opens_at opener)) ls)

has_stop : (last : ℕ) (f : SectionsFound) (l : Line) (ls : List Line) → mark_of l.bytes ≡ mark.Stop → (o : Option Part)
    → f.orc ≡ o
    → Between last f (l ∷ ls) (onward (stopped l.number f o) (λ t. scan last t ls))
has_stop last f l ls e None h = no_orchestra f l ls e h
has_stop last f l ls e (Some orc) h =
    subst (Between last f (l ∷ ls)) (sym (after_stop last (record { orc = orc; sco = unwrap_or f.sco no_text }) ls))
    (stop f orc l ls e h)

has_marked : (last : ℕ) (f : SectionsFound) (l : Line) (ls : List Line) (m : LineMark) → Has last ls → HasInside last ls
    → mark_of l.bytes ≡ m
    → Between last f (l ∷ ls) (onward (marked l f m) (λ t. scan last t ls))
has_marked last f l ls mark.Idle more inner e = idle f l ls _ e (more f)
has_marked last f l ls (mark.Opens s) more inner e = by_test (stood s f)
    (λ h. subst (Between last f (l ∷ ls)) (rw h refl) (twice s f l ls e h))
    (λ h. subst (Between last f (l ∷ ls)) (rw h refl) (inner f s l [] e h (All-nil _)))
has_marked last f l ls mark.Stop more inner e = has_stop last f l ls e f.orc refl
has_marked last f l ls mark.Other more inner e = stray f l ls e

mutual
  has_reading : (last : ℕ) (ls : List Line) → Has last ls
  has_reading last [] f = cut f
  has_reading last (l ∷ ls) f = has_marked last f l ls (mark_of l.bytes) (has_reading last ls) (has_inside last ls) refl

  has_inside : (last : ℕ) (ls : List Line) → HasInside last ls
  has_inside last [] f s opener inside e h a =
      subst (λ xs. Between last f (opener ∷ xs) (missing last)) (sym (append-nil inside))
      (unclosed s f opener inside e h a)
  has_inside last (l ∷ ls) f s opener inside e h a = by_test (closes s l.bytes)
      (λ c. subst (Between last f (opener ∷ inside ++ l ∷ ls)) (rw c refl)
      (whole s f opener inside l ls _ e h a c (has_reading last ls (with_section s (part_between opener l) f))))
      (λ c. let more = has_inside last ls f s opener (inside ++ l ∷ []) e h
      (all_snoc (λ l. closes s l.bytes ≡ false) inside l a c) in
      subst (λ xs. Between last f (opener ∷ xs) (scan last (state.Inside f s (opens_at opener)) (l ∷ ls)))
      (sym (snoc inside l ls))
      (subst (Between last f (opener ∷ ((inside ++ l ∷ []) ++ ls))) (rw c refl) more))

begins : (text : List ℕ) (before ls : List Line) → lines_of 1 text ≡ before ++ ls
    → All (λ l. is_start l.bytes ≡ false) before
    → Reading text (scan (last_line text) state.Before ls)
begins text before [] e a = never (subst (All (λ l. is_start l.bytes ≡ false)) (sym (e ∙ append-nil before)) a)
begins text before (l ∷ ls) e a = by_test (is_start l.bytes)
    (λ c. subst (Reading text) (rw c refl) (begun before l ls _ e a c (has_reading (last_line text) ls nothing_found)))
    (λ c. subst (Reading text) (rw c refl)
    (begins text (before ++ l ∷ []) ls (e ∙ snoc before l ls) (all_snoc (λ l. is_start l.bytes ≡ false) before l a c)))

pub scan_reads : (text : List ℕ) → Reading text (scan (last_line text) state.Before (lines_of 1 text))
scan_reads text = begins text [] (lines_of 1 text) refl (All-nil _)

-- a text line by line: the state after its first lines, and the next line
pub record Read (text : List ℕ) (s : ScanState) (number at : ℕ) : Type 0 where
  pub within : at ≤ length text
  pub few : number ≤ at + 1
  pub some : 1 ≤ number
  pub lines : number + length (lines_from number at (drop at text)) ≡ 1 + length (lines_of 1 text)
  pub scan : scan (last_line text) s (lines_from number at (drop at text)) ≡ scan (last_line text) state.Before
      (lines_of 1 text)

-- the line at an offset, and those after it
here_and_on : (text : List ℕ) (n at : ℕ) → at < length text
    → lines_from n at (drop at text) ≡ line n at (take (line_len (drop at text)) (drop at text))
    ∷ lines_from (n + 1) (at + next_len (drop at text)) (drop (at + next_len (drop at text)) text)
here_and_on text n at l =
    let m = next_len (drop at text) in
    cut_at n at (drop at text) (omega (arith, length-drop at text, l))
    ∙ ap (λ t. line n at (take (line_len (drop at text)) (drop at text)) ∷ lines_from (n + 1) (at + m) t)
    (drop-drop m at text)

pub line_read : (text : List ℕ) (s t : ScanState) (n at : ℕ) → at < length text
    → step s (line n at (take (line_len (drop at text)) (drop at text))) ≡ Ok t → Read text s n at
    → Read text t (n + 1) (at + next_len (drop at text))
line_read text s t n at l e r =
    let h = here_and_on text n at l in
    let rest = lines_from (n + 1) (at + next_len (drop at text)) (drop (at + next_len (drop at text)) text) in
    let small : next_len (drop at text) ≤ length (drop at text) = omega arith in
    let one : 1 ≤ next_len (drop at text) = omega (arith, length-drop at text, l) in
    record {
      within = omega (arith, length-drop at text, small, l);
      few = omega (arith, r.few, one);
      some = omega (arith, r.some);
      lines = omega (arith, r.lines, ap length h);
      scan = sym (ap (λ o. onward o (λ t. scan (last_line text) t rest)) e) ∙ sym (ap (scan (last_line text) s) h)
          ∙ r.scan;
    }

pub fault_read : (text : List ℕ) (s : ScanState) (n at : ℕ) (f : CsdFault) → at < length text
    → step s (line n at (take (line_len (drop at text)) (drop at text))) ≡ Err f → Read text s n at
    → Reading text (Err f)
fault_read text s n at f l e r =
    let h = here_and_on text n at l in
    let rest = lines_from (n + 1) (at + next_len (drop at text)) (drop (at + next_len (drop at text)) text) in
    subst (Reading text) (sym r.scan ∙ ap (scan (last_line text) s) h
    ∙ ap (λ o. onward o (λ t. scan (last_line text) t rest)) e) (scan_reads text)

pub all_read : (text : List ℕ) (s : ScanState) (n at last : ℕ) → length text ≤ at → last ≡ max 1 (n - 1)
    → Read text s n at → Reading text (finish last s)
all_read text s n at last l e r =
    let none : drop at text ≡ [] = drop_all at text l in
    let count : n ≡ 1 + length (lines_of 1 text) = omega (arith, r.lines, ap (λ t. length (lines_from n at t)) none) in
    let is_last : last ≡ last_line text = omega (arith, e, count) in
    subst (Reading text) (sym r.scan ∙ ap (λ t. scan (last_line text) s (lines_from n at t)) none
    ∙ ap (λ k. finish k s) (sym is_last)) (scan_reads text)

-- a line as a slice of the rest of the text
pub as_sliced : (text : List ℕ) (s : ScanState) (n at k : ℕ) (r : Result ScanState CsdFault)
    → k ≡ line_len (take (length text - at) (drop at text))
    → step s (line n at (take k (take (length text - at) (drop at text)))) ≡ r
    → step s (line n at (take (line_len (drop at text)) (drop at text))) ≡ r
as_sliced text s n at k r is_k e =
    let rest = take_rest text at in
    ap (λ t. step s (line n at (take (line_len t) t))) (sym rest)
    ∙ ap (λ i. step s (line n at (take i (take (length text - at) (drop at text))))) (sym is_k) ∙ e
