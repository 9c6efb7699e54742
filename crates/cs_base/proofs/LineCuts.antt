-- The lines of a text, one by one: the first line and the lines after it, with their numbers.
use Rattle.std.proofs.Common.{◌≡◌, ℕ, suc, ◌+◌, ◌<◌, true, false, List, [], ◌∷◌, ◌++◌, length, drop, take, count_by}
use Rattle.std.proofs.Common.{arith, ap, sym, ◌∙◌, refl, subst}
use Rattle.std.specs.List.{All, prefix_len}
use Rattle.std.proofs.lemmas.List.{append_assoc, length-append, take_at}
use Rattle.std.proofs.lemmas.List.Elements.{All-nil, All-cons, All-tail}
use Rattle.cs_base.specs.Lines.{Line, is_feed, is_line_byte, line, line_after, lines_of, with_byte, lines_from}
use Rattle.cs_base.specs.Lines.{next_len}
use Rattle.cs_base.proofs.{Tests.by_test, Texts.count_by-append}

-- the length of a text's first line without its line feed
abbrev pub line_len : List ℕ → ℕ
line_len text = prefix_len is_line_byte text

line_len_feed : (b : ℕ) (rest : List ℕ) → is_feed b ≡ true → line_len (b ∷ rest) ≡ 0
line_len_feed b rest h = rw h refl

line_len_more : (b : ℕ) (rest : List ℕ) → is_feed b ≡ false → line_len (b ∷ rest) ≡ suc (line_len rest)
line_len_more b rest h = rw h (omega arith)

lines_feed : (n at b : ℕ) (rest : List ℕ) → is_feed b ≡ true
    → lines_from n at (b ∷ rest) ≡ line n at [] ∷ lines_from (n + 1) (at + 1) rest
lines_feed n at b rest h = rw h refl

lines_more : (n at b : ℕ) (rest : List ℕ) → is_feed b ≡ false
    → lines_from n at (b ∷ rest) ≡ with_byte n at b (lines_from n (at + 1) rest)
lines_more n at b rest h = rw h refl

-- the first line, which has k bytes, and the lines after it, which begin m bytes later
abbrev pub Cut : ℕ → ℕ → List ℕ → ℕ → ℕ → Type 0
Cut n at text k m = lines_from n at text ≡ line n at (take k text) ∷ lines_from (n + 1) (at + m) (drop m text)

one_line : (n at b : ℕ) (rest : List ℕ) → Cut n at (b ∷ rest) (line_len (b ∷ rest)) (next_len (b ∷ rest))
one_line n at b [] = by_test (is_feed b)
    (λ h. subst (λ k. Cut n at (b ∷ []) k (next_len (b ∷ []))) (sym (line_len_feed b [] h))
    (subst (Cut n at (b ∷ []) 0) (let e : 1 ≡ next_len (b ∷ []) = omega arith in e) (lines_feed n at b [] h)))
    (λ h. subst (λ k. Cut n at (b ∷ []) k (next_len (b ∷ []))) (sym (line_len_more b [] h))
    (subst (Cut n at (b ∷ []) 1) (let e : 1 ≡ next_len (b ∷ []) = omega arith in e) (lines_more n at b [] h)))
one_line n at b (c ∷ rest) = by_test (is_feed b)
    (λ h. subst (λ k. Cut n at (b ∷ c ∷ rest) k (next_len (b ∷ c ∷ rest))) (sym (line_len_feed b (c ∷ rest) h))
    (subst (Cut n at (b ∷ c ∷ rest) 0)
    (let e : 1 ≡ next_len (b ∷ c ∷ rest) = omega (arith, line_len_feed b (c ∷ rest) h) in e)
    (lines_feed n at b (c ∷ rest) h)))
    (λ h. let text = c ∷ rest in
    let m = next_len text in
    let more = one_line n (at + 1) c rest in
    let place : at + 1 + m ≡ at + suc m = omega arith in
    subst (λ k. Cut n at (b ∷ text) k (next_len (b ∷ text))) (sym (line_len_more b text h))
    (subst (Cut n at (b ∷ text) (suc (line_len text)))
    (let e : suc m ≡ next_len (b ∷ text) = omega (arith, line_len_more b text h) in e)
    (lines_more n at b text h ∙ ap (with_byte n at b) more
    ∙ ap (λ k. line n at (b ∷ take (line_len text) text) ∷ lines_from (n + 1) k (drop m text)) place)))

pub cut_at : (n at : ℕ) (text : List ℕ) → 0 < length text → Cut n at text (line_len text) (next_len text)
cut_at n at [] l = absurd (omega arith)
cut_at n at (b ∷ rest) l = one_line n at b rest

-- ---- the numbers of lines

-- a line of a text has the number of the line on which its first byte is found
abbrev IsNumbered : ℕ → List ℕ → Line → Type 0
IsNumbered first text l = l.number ≡ line_after first (take l.at text)

one_feed : (b : ℕ) → is_feed b ≡ true → count_by is_feed (b ∷ []) ≡ 1
one_feed b h = rw h refl

no_feed : (b : ℕ) → is_feed b ≡ false → count_by is_feed (b ∷ []) ≡ 0
no_feed b h = rw h refl

abbrev AllNumbered : ℕ → List ℕ → List Line → Type 0
AllNumbered first text ls = All (IsNumbered first text) ls

-- the numbers of lines after one more byte, if they hold for the text cut after that byte
moved : (first : ℕ) (before : List ℕ) (b : ℕ) (rest : List ℕ) (n : ℕ) → line_after first (before ++ b ∷ []) ≡ n
    → AllNumbered first ((before ++ b ∷ []) ++ rest)
    (lines_from (line_after first (before ++ b ∷ [])) (length (before ++ b ∷ [])) rest)
    → AllNumbered first (before ++ b ∷ rest) (lines_from n (length before + 1) rest)
moved first before b rest n e all =
    subst (λ t. AllNumbered first t (lines_from n (length before + 1) rest)) (append_assoc before (b ∷ []) rest)
    (subst (λ at. AllNumbered first ((before ++ b ∷ []) ++ rest) (lines_from n at rest)) (length-append before (b ∷ []))
    (subst (λ k. AllNumbered first ((before ++ b ∷ []) ++ rest) (lines_from k (length (before ++ b ∷ [])) rest)) e all))

-- the line that begins after a text
line_here : (first : ℕ) (before rest bytes : List ℕ)
    → IsNumbered first (before ++ rest) (line (line_after first before) (length before) bytes)
line_here first before rest bytes = ap (line_after first) (sym (take_at before rest (length before) refl))

with_front : (first : ℕ) (before : List ℕ) (b : ℕ) (rest : List ℕ) (ls : List Line)
    → AllNumbered first (before ++ b ∷ rest) ls
    → AllNumbered first (before ++ b ∷ rest) (with_byte (line_after first before) (length before) b ls)
with_front first before b rest [] all =
    All-cons (IsNumbered first (before ++ b ∷ rest)) (line (line_after first before) (length before) (b ∷ [])) []
    (line_here first before (b ∷ rest) (b ∷ [])) (All-nil _)
with_front first before b rest (l ∷ ls) all =
    All-cons (IsNumbered first (before ++ b ∷ rest)) (line (line_after first before) (length before) (b ∷ l.bytes)) ls
    (line_here first before (b ∷ rest) (b ∷ l.bytes)) (All-tail (IsNumbered first (before ++ b ∷ rest)) l ls all)

numbered : (first : ℕ) (before rest : List ℕ)
    → AllNumbered first (before ++ rest) (lines_from (line_after first before) (length before) rest)
numbered first before [] = All-nil _
numbered first before (b ∷ rest) =
    let more = numbered first (before ++ b ∷ []) rest in
    let n = line_after first before in
    let at = length before in
    let one = count_by-append is_feed before (b ∷ []) in
    by_test (is_feed b)
    (λ h. subst (AllNumbered first (before ++ b ∷ rest)) (sym (lines_feed n at b rest h))
    (All-cons (IsNumbered first (before ++ b ∷ rest)) (line n at []) (lines_from (n + 1) (at + 1) rest)
    (line_here first before (b ∷ rest) []) (moved first before b rest (n + 1) (omega (arith, one, one_feed b h)) more)))
    (λ h. subst (AllNumbered first (before ++ b ∷ rest)) (sym (lines_more n at b rest h))
    (with_front first before b rest (lines_from n (at + 1) rest)
    (moved first before b rest n (omega (arith, one, no_feed b h)) more)))

pub lines_numbered : (first : ℕ) (text : List ℕ)
    → All (λ l. l.number ≡ line_after first (take l.at text)) (lines_of first text)
lines_numbered first text =
    let none : line_after first [] ≡ first = omega arith in
    subst (λ n. AllNumbered first text (lines_from n 0 text)) none (numbered first [] text)

-- ---- one line after another

-- the next line, if there is one, begins after this line and its line feed
abbrev pub Leads : Line → List Line → Type 0
Leads l [] = Unit {0}
Leads l (m ∷ ls) = (m.at ≡ l.at + length l.bytes + 1) × (m.number ≡ l.number + 1)

-- each line leads to the next one
abbrev pub Chained : List Line → Type 0
Chained [] = Unit {0}
Chained (l ∷ ls) = Leads l ls × Chained ls

abbrev BeginAt : ℕ → ℕ → List Line → Type 0
BeginAt n at [] = Unit {0}
BeginAt n at (l ∷ ls) = (l.number ≡ n) × (l.at ≡ at)

begin_at : (n at : ℕ) (text : List ℕ) → BeginAt n at (lines_from n at text)
begin_at n at [] = tt
begin_at n at (b ∷ rest) = by_test (is_feed b)
    (λ h. subst (BeginAt n at) (sym (lines_feed n at b rest h)) (refl, refl))
    (λ h. subst (BeginAt n at) (sym (lines_more n at b rest h)) (put (lines_from n (at + 1) rest)))
  where
    put : (ls : List Line) → BeginAt n at (with_byte n at b ls)
    put [] = (refl, refl)
    put (l ∷ ls) = (refl, refl)

pub lines_chained : (n at : ℕ) (text : List ℕ) → Chained (lines_from n at text)
lines_chained n at [] = tt
lines_chained n at (b ∷ rest) = by_test (is_feed b)
    (λ h. subst Chained (sym (lines_feed n at b rest h))
    (leads (lines_from (n + 1) (at + 1) rest) (begin_at (n + 1) (at + 1) rest), lines_chained (n + 1) (at + 1) rest))
    (λ h. subst Chained (sym (lines_more n at b rest h))
    (put (lines_from n (at + 1) rest) (begin_at n (at + 1) rest) (lines_chained n (at + 1) rest)))
  where
    leads : (ls : List Line) → BeginAt (n + 1) (at + 1) ls → Leads (line n at []) ls
    leads [] h = tt
    leads (m ∷ ls) h = (omega (arith, h.1), h.0)

    on : (l : Line) (ms : List Line) → l.number ≡ n → l.at ≡ at + 1 → Leads l ms → Leads (line n at (b ∷ l.bytes)) ms
    on l [] is_n is_at h = tt
    on l (m ∷ ms) is_n is_at h = (omega (arith, h.0, is_at), omega (arith, h.1, is_n))

    put : (ls : List Line) → BeginAt n (at + 1) ls → Chained ls → Chained (with_byte n at b ls)
    put [] h c = (tt, tt)
    put (l ∷ ls) h c = (on l ls h.0 h.1 c.0, c.1)
