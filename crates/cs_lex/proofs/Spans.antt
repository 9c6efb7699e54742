-- The positions of tokens: each is within the text, they follow one another, and End appears only at the end.
use Rattle.std.proofs.lemmas.{Grind.common_steps, List.length-append, List.append-nil, List.append_assoc}
use Rattle.std.proofs.lemmas.{List.Elements.All-cons, List.Elements.All-append, List.Kept.AllPairs-cons}
use Rattle.std.proofs.Common.{get_or, ◌≡◌, ◌≢◌, ◌+◌, ◌-◌, ◌<◌, ◌≤◌, ◌∙◌, refl, count_by, ℕ, suc, Bool, true, false}
use Rattle.std.proofs.Common.{◌&&◌, List, [], ◌∷◌, ◌++◌, length, take, arith, ap, sym, subst, Option, Some, None}
use Rattle.std.proofs.Common.{if◌then◌else◌}
use Rattle.std.specs.List.{All, AllPairs}
use Rattle.cs_lex.specs.{declared.token.Mark.Mark, declared.token.Token.Token, Rows.Fits}
use Rattle.cs_lex.specs.Lexed.{TextPiece, text_of, Lexed, tokens_after, token_of, token_at, merged, is_newline, end_of}
use Rattle.cs_lex.specs.Lexed.{AllFit, Precedes, IsEndedBy}
use Rattle.cs_base.specs.Lines.{excerpt, is_feed, line_after}
use Rattle.cs_base.proofs.Texts.{count_by-append}
use Rattle.cs_lex.proofs.Cuts.{some_byte}
use Rattle.cs_lex.specs.declared.token.Mark.TheVariants as mark

-- a token whose span is within a text of n bytes
abbrev IsWithin : ℕ → Token → Type 0
IsWithin n t = (t.from ≤ t.to) × (t.to ≤ n)

none : (n : ℕ) → All (IsWithin n) []
none n k d l = absurd (omega arith)

of_piece : (first : ℕ) (n : ℕ) (m : Option Mark) (before span : List ℕ) → length before + length span ≤ n
    → All (IsWithin n) (token_of first m before span)
of_piece first n None before span l = none n
of_piece first n (Some m) before span l =
    All-cons (IsWithin n) (token_at first m before span) [] (omega arith, l) (none n)

of_pieces : (first : ℕ) (n : ℕ) (before : List ℕ) (ps : List TextPiece) → length before + length (text_of ps) ≤ n
    → All (IsWithin n) (tokens_after first before ps)
of_pieces first n before [] l = none n
of_pieces first n before (p ∷ ps) l =
    let long = length-append p.span (text_of ps) in
    let more = length-append before p.span in
    All-append (IsWithin n) (token_of first p.mark before p.span) (tokens_after first (before ++ p.span) ps)
    (of_piece first n p.mark before p.span (omega arith)) (of_pieces first n (before ++ p.span) ps (omega arith))

of_merged : (n : ℕ) (fed : Bool) (ts : List Token) → All (IsWithin n) ts → All (IsWithin n) (merged fed ts)
of_merged n fed [] h = none n
of_merged n fed (t ∷ ts) h =
    by (fed && is_newline t) n t (merged (is_newline t) ts) (h 0 t (omega arith))
    (of_merged n (is_newline t) ts (λ k d l. h (suc k) d (omega arith)))
  where
    by : (b : Bool) (n : ℕ) (t : Token) (ts : List Token) → IsWithin n t → All (IsWithin n) ts
        → All (IsWithin n) ((if b then [] else t ∷ []) ++ ts)
    by true n t ts h k = k
    by false n t ts h k = All-cons (IsWithin n) t ts h k

pub within : (first : ℕ) (source : List ℕ) (ts : List Token) → Lexed (excerpt first source) ts
    → All (λ t. (t.from ≤ t.to) × (t.to ≤ length source)) ts
within first source ts (ps, cut, is) =
    let n = length source in
    let whole = length-append (text_of ps) [] in
    subst (All (IsWithin n)) (sym is)
    (All-append (IsWithin n) (merged true (tokens_after first [] ps)) (end_of (excerpt first source) ∷ [])
    (of_merged n true (tokens_after first [] ps) (of_pieces first n [] ps (omega (arith, ap length cut.whole))))
    (All-cons (IsWithin n) (end_of (excerpt first source)) [] (omega arith, omega arith) (none n)))

-- ---- a property of every token still holds after line feeds are merged

merged_all : (P : Token → Type 0) (fed : Bool) (ts : List Token) → All P ts → All P (merged fed ts)
merged_all P fed [] h = h
merged_all P fed (t ∷ ts) h =
    by (fed && is_newline t) (merged (is_newline t) ts) (h 0 t (omega arith))
    (merged_all P (is_newline t) ts (λ k d l. h (suc k) d (omega arith)))
  where
    by : (b : Bool) (us : List Token) → P t → All P us → All P ((if b then [] else t ∷ []) ++ us)
    by true us h k = k
    by false us h k = All-cons P t us h k

no_pairs : (R : Token → Token → Type 0) → AllPairs R []
no_pairs R i j d l k = absurd (omega arith)

merged_pairs : (R : Token → Token → Type 0) (fed : Bool) (ts : List Token) → AllPairs R ts → AllPairs R (merged fed ts)
merged_pairs R fed [] h = no_pairs R
merged_pairs R fed (t ∷ ts) h =
    by (fed && is_newline t) (merged (is_newline t) ts)
    (merged_all (R t) (is_newline t) ts (λ k d l. h 0 (suc k) d (omega arith) (omega arith)))
    (merged_pairs R (is_newline t) ts (λ i j d l k. h (suc i) (suc j) d (omega arith) (omega arith)))
  where
    by : (b : Bool) (us : List Token) → All (R t) us → AllPairs R us → AllPairs R ((if b then [] else t ∷ []) ++ us)
    by true us h k = k
    by false us h k = AllPairs-cons R t us h k

-- one more item at the end
pairs_and_one : (R : Token → Token → Type 0) (ts : List Token) (e : Token) → AllPairs R ts → All (λ t. R t e) ts
    → AllPairs R (ts ++ e ∷ [])
pairs_and_one R [] e h k = AllPairs-cons R e [] (λ i d l. absurd (omega arith)) (no_pairs R)
pairs_and_one R (t ∷ ts) e h k =
    AllPairs-cons R t (ts ++ e ∷ []) (All-append (R t) ts (e ∷ []) (λ i d l. h 0 (suc i) d (omega arith) (omega arith))
    (All-cons (R t) e [] (k 0 t (omega arith)) (λ i d l. absurd (omega arith))))
    (pairs_and_one R ts e (λ i j d l m. h (suc i) (suc j) d (omega arith) (omega arith))
    (λ i d l. k (suc i) d (omega arith)))

-- ---- one after another

-- a token that begins at or after an index, on a line or after it
abbrev IsAfter : ℕ → ℕ → Token → Type 0
IsAfter at line t = (at ≤ t.from) × (line ≤ t.line)

weaker : (a b l m : ℕ) (ts : List Token) → a ≤ b → l ≤ m → All (IsAfter b m) ts → All (IsAfter a l) ts
weaker a b l m ts h k all = λ i d n. (omega (arith, (all i d n).0), omega (arith, (all i d n).1))

line_on : (first : ℕ) (before span : List ℕ)
    → line_after first (before ++ span) ≡ line_after first before + count_by is_feed span
line_on first before span = omega (arith, count_by-append is_feed before span)

pieces_after : (first : ℕ) (before : List ℕ) (ps : List TextPiece)
    → All (IsAfter (length before) (line_after first before)) (tokens_after first before ps)
pieces_after first before [] = λ k d l. absurd (omega arith)
pieces_after first before (p ∷ ps) =
    All-append (IsAfter (length before) (line_after first before)) (token_of first p.mark before p.span)
    (tokens_after first (before ++ p.span) ps) (here p.mark)
    (weaker (length before) (length (before ++ p.span)) (line_after first before) (line_after first (before ++ p.span))
    (tokens_after first (before ++ p.span) ps)
    (omega (arith, length-append before p.span)) (omega (arith, line_on first before p.span))
    (pieces_after first (before ++ p.span) ps))
  where
    here : (m : Option Mark) → All (IsAfter (length before) (line_after first before)) (token_of first m before p.span)
    here None = λ k d l. absurd (omega arith)
    here (Some m) = All-cons (IsAfter (length before) (line_after first before)) (token_at first m before p.span) []
        (omega arith, omega arith) (λ k d l. absurd (omega arith))

-- the relation between a token and a later one
abbrev Leads : Token → Token → Type 0
Leads t u = Precedes t u × IsEndedBy t u

leads : (first : ℕ) (m : Mark) (before span after : List ℕ) → Fits (Some m) span after → (u : Token)
    → IsAfter (length (before ++ span)) (line_after first (before ++ span)) u → Leads (token_at first m before span) u
leads first m before span after fits u h = grind (arith, common_steps, count_by, length-append, line_on)

one_leads : (first : ℕ) (before span after : List ℕ) (m : Option Mark) (us : List Token) → Fits m span after
    → All (IsAfter (length (before ++ span)) (line_after first (before ++ span))) us → AllPairs Leads us
    → AllPairs Leads (token_of first m before span ++ us)
one_leads first before span after None us fits h k = k
one_leads first before span after (Some m) us fits h k =
    AllPairs-cons Leads (token_at first m before span) us
    (λ i d l. leads first m before span after fits (get_or us i d) (h i d l)) k

pieces_lead : (first : ℕ) (before : List ℕ) (ps : List TextPiece) (rest : List ℕ) → AllFit ps rest
    → AllPairs Leads (tokens_after first before ps)
pieces_lead first before [] rest h = no_pairs Leads
pieces_lead first before (p ∷ ps) rest h =
    one_leads first before p.span (text_of ps ++ rest) p.mark (tokens_after first (before ++ p.span) ps) h.0
    (pieces_after first (before ++ p.span) ps) (pieces_lead first (before ++ p.span) ps rest h.1)

-- ---- End comes after all other tokens

-- the line of End is at least the line of any byte
end_line : (first : ℕ) (before rest : List ℕ) → 0 < length rest
    → line_after first before ≤ (end_of (excerpt first (before ++ rest))).line
end_line first [] rest l = omega arith
end_line first (b ∷ before) rest l =
    let place : length (b ∷ (before ++ rest)) - 1 ≡ suc (length (before ++ rest) - 1) =
    omega (arith, length-append before rest) in
    let front = take (length (before ++ rest) - 1) (before ++ rest) in
    let more : line_after first before ≤ line_after first front = end_line first before rest l in
    subst (λ k. line_after first (b ∷ before) ≤ line_after first (take k (b ∷ (before ++ rest)))) (sym place)
    (omega (arith, more, count_by-append is_feed (b ∷ []) before, count_by-append is_feed (b ∷ []) front))

abbrev EndsAfter : Token → Token → Type 0
EndsAfter e t = (t.mark ≢ mark.End) × (t.to ≤ e.from) × (t.line ≤ e.line)

pieces_end : (first : ℕ) (before : List ℕ) (ps : List TextPiece) → AllFit ps []
    → All (EndsAfter (end_of (excerpt first (before ++ text_of ps)))) (tokens_after first before ps)
pieces_end first before [] h = λ k d l. absurd (omega arith)
pieces_end first before (p ∷ ps) h =
    All-append (EndsAfter e) (token_of first p.mark before p.span) (tokens_after first (before ++ p.span) ps)
    (here p.mark h.0)
    (subst (λ t. All (EndsAfter (end_of (excerpt first t))) (tokens_after first (before ++ p.span) ps))
    (append_assoc before p.span (text_of ps)) (pieces_end first (before ++ p.span) ps h.1))
  where
    e : Token
    e = end_of (excerpt first (before ++ text_of (p ∷ ps)))

    not_end : (m : Mark) → Fits (Some m) p.span (text_of ps ++ []) → m ≢ mark.End
    not_end m fits same = subst (λ x. Fits (Some x) p.span (text_of ps ++ [])) same fits

    here : (m : Option Mark) → Fits m p.span (text_of ps ++ [])
        → All (EndsAfter (end_of (excerpt first (before ++ text_of (p ∷ ps))))) (token_of first m before p.span)
    here None fits = λ k d l. absurd (omega arith)
    here (Some m) fits =
        let some = some_byte (Some m) p.span (text_of ps ++ []) fits in
        let inner = length-append p.span (text_of ps) in
        All-cons (EndsAfter (end_of (excerpt first (before ++ text_of (p ∷ ps))))) (token_at first m before p.span) [] (
          not_end m fits,
          omega (arith, length-append before (text_of (p ∷ ps)), inner),
          end_line first before (text_of (p ∷ ps)) (omega (arith, some, inner)),
        ) (λ k d l. absurd (omega arith))

record Stands (first : ℕ) (source : List ℕ) (front : List Token) : Type 0 where
  pairs : AllPairs Leads front
  ends : All (EndsAfter (end_of (excerpt first source))) front

stands : (first : ℕ) (source : List ℕ) (ts : List Token) (h : Lexed (excerpt first source) ts)
    → Stands first source (merged true (tokens_after first [] h.0))
stands first source ts (ps, cut, is) = record {
  pairs = merged_pairs Leads true (tokens_after first [] ps) (pieces_lead first [] ps [] cut.fit);
  ends = subst (λ t. All (EndsAfter (end_of (excerpt first t))) (merged true (tokens_after first [] ps)))
      (sym (append-nil (text_of ps)) ∙ sym cut.whole)
      (merged_all (EndsAfter (end_of (excerpt first (text_of ps)))) true (tokens_after first [] ps)
      (pieces_end first [] ps cut.fit));
}

pub end_alone : (first : ℕ) (source : List ℕ) (ts : List Token) → Lexed (excerpt first source) ts
    → (front : List Token) × (ts ≡ front ++ end_of (excerpt first source) ∷ []) × All (λ t. t.mark ≢ mark.End) front
end_alone first source ts h =
    let s = stands first source ts h in
    (merged true (tokens_after first [] h.0), h.2, λ k d l. (s.ends k d l).0)

all_lead : (first : ℕ) (source : List ℕ) (ts : List Token) → Lexed (excerpt first source) ts → AllPairs Leads ts
all_lead first source ts h =
    let s = stands first source ts h in
    subst (AllPairs Leads) (sym h.2)
    (pairs_and_one Leads (merged true (tokens_after first [] h.0)) (end_of (excerpt first source)) s.pairs
    (λ k d l. let e = s.ends k d l in ((e.1, e.2), λ newline other. absurd (other refl))))

pub ascending : (first : ℕ) (source : List ℕ) (ts : List Token) → Lexed (excerpt first source) ts → AllPairs Precedes ts
ascending first source ts h = λ i j d l k. (all_lead first source ts h i j d l k).0

pub new_lines : (first : ℕ) (source : List ℕ) (ts : List Token) → Lexed (excerpt first source) ts
    → AllPairs IsEndedBy ts
new_lines first source ts h = λ i j d l k. (all_lead first source ts h i j d l k).1
