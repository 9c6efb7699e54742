-- Parts begin on the lines of the file that they name.
use Rattle.std.proofs.Common.{◌≡◌, ℕ, List, [], ◌∷◌, ◌++◌, ap, sym, ◌∙◌, refl, subst, take, Option, Some, None, IfSome}
use Rattle.std.proofs.Common.{unwrap_or, Result, Ok, IfOk}
use Rattle.std.specs.List.{All}
use Rattle.std.proofs.lemmas.List.Elements.{All-head, All-tail}
use Rattle.cs_csd.specs.{declared.line.Section.Section, declared.part.Part.Part, declared.part.Parts.Parts}
use Rattle.cs_base.specs.{declared.fault.CsdFault.CsdFault, Lines.Line, Lines.line_after}
use Rattle.cs_csd.specs.declared.scan.SectionsFound.{SectionsFound}
use Rattle.cs_csd.specs.Sections.{Between, idle, whole, stop, no_orchestra, twice, stray, unclosed, cut, Reading, begun}
use Rattle.cs_csd.specs.Sections.{never, BeginsOnItsLine, no_text, part_between, with_section}
use Rattle.cs_base.proofs.LineCuts.{Chained, Leads, lines_chained, lines_numbered}
use Rattle.cs_csd.specs.declared.line.Section.TheVariants as section

abbrev IsNumbered : List ℕ → Line → Type 0
IsNumbered text l = l.number ≡ line_after 1 (take l.at text)

record AreFound (text : List ℕ) (f : SectionsFound) : Type 0 where
  orc : IfSome f.orc (BeginsOnItsLine text)
  sco : IfSome f.sco (BeginsOnItsLine text)

abbrev AreParts : List ℕ → Parts → Type 0
AreParts text p = BeginsOnItsLine text p.orc × BeginsOnItsLine text p.sco

all_behind : (P : Line → Type 0) (before ls : List Line) → All P (before ++ ls) → All P ls
all_behind P [] ls h = h
all_behind P (l ∷ before) ls h = all_behind P before ls (All-tail P l (before ++ ls) h)

chained_behind : (before ls : List Line) → Chained (before ++ ls) → Chained ls
chained_behind [] ls h = h
chained_behind (l ∷ before) ls h = chained_behind before ls h.1

-- a part begins where the line after its opening line does
behind_opener : (text : List ℕ) (opener closer m : Line) (ls : List Line) → Leads opener (m ∷ ls) → IsNumbered text m
    → BeginsOnItsLine text (part_between opener closer)
behind_opener text opener closer m ls h n = sym h.1 ∙ n ∙ ap (λ k. line_after 1 (take k text)) h.0

part_begins : (text : List ℕ) (opener : Line) (inside : List Line) (closer : Line) (ls : List Line)
    → Leads opener (inside ++ closer ∷ ls) → All (IsNumbered text) (inside ++ closer ∷ ls)
    → BeginsOnItsLine text (part_between opener closer)
part_begins text opener [] closer ls h all =
    behind_opener text opener closer closer ls h (All-head (IsNumbered text) closer ls all)
part_begins text opener (m ∷ inside) closer ls h all =
    behind_opener text opener closer m (inside ++ closer ∷ ls) h
    (All-head (IsNumbered text) m (inside ++ closer ∷ ls) all)

one_more : (text : List ℕ) (s : Section) (p : Part) (f : SectionsFound) → BeginsOnItsLine text p → AreFound text f
    → AreFound text (with_section s p f)
one_more text section.Options p f h k = record { orc = k.orc; sco = k.sco }
one_more text section.Instruments p f h k = record { orc = h; sco = k.sco }
one_more text section.Score p f h k = record { orc = k.orc; sco = h }

or_no_text : (text : List ℕ) (o : Option Part) → IfSome o (BeginsOnItsLine text)
    → BeginsOnItsLine text (unwrap_or o no_text)
or_no_text text None h = refl
or_no_text text (Some p) h = h

between : {last : ℕ} {f : SectionsFound} {ls : List Line} {r : Result Parts CsdFault} (text : List ℕ)
    → Between last f ls r → All (IsNumbered text) ls → Chained ls → AreFound text f → IfOk r (AreParts text)
between text (idle f l ls r m b) all c found = between text b (All-tail (IsNumbered text) l ls all) c.1 found
between text (whole s f opener inside closer ls r m h a e b) all c found =
    let behind = All-tail (IsNumbered text) opener (inside ++ closer ∷ ls) all in
    let begins = part_begins text opener inside closer ls c.0 behind in
    between text b
    (All-tail (IsNumbered text) closer ls (all_behind (IsNumbered text) inside (closer ∷ ls) behind))
    (chained_behind inside (closer ∷ ls) c.1).1
    (one_more text s (part_between opener closer) f begins found)
between text (stop f orc l ls m e) all c found =
    (subst (λ o. IfSome o (BeginsOnItsLine text)) e found.orc, or_no_text text f.sco found.sco)
between text _ all c found = tt

reading : (text : List ℕ) (r : Result Parts CsdFault) → Reading text r → IfOk r (AreParts text)
reading text r (begun before start rest r' e a c b) =
    let all = all_behind (IsNumbered text) before (start ∷ rest)
    (subst (All (IsNumbered text)) e (lines_numbered 1 text)) in
    between text b (All-tail (IsNumbered text) start rest all)
    (chained_behind before (start ∷ rest) (subst Chained e (lines_chained 1 0 text))).1
    (record { orc = tt; sco = tt })
reading text r (never a) = tt

pub parts_begin : (text : List ℕ) (p : Parts) → Reading text (Ok p) → AreParts text p
parts_begin text p h = reading text (Ok p) h
