-- One pass over a text: the part that has been read, and one more piece.
use Rattle.std.proofs.lemmas.Grind.{common_steps}
use Rattle.std.proofs.Common.{◌≡◌, ◌+◌, ◌-◌, ◌<◌, ◌≤◌, ℕ, Bool, true, List, [], ◌∷◌, ◌++◌, length, drop, take, arith}
use Rattle.std.proofs.Common.{ap, sym, ◌∙◌, refl, subst, Option, Some, None, Result, Ok, Err, IfOk, count_by}
use Rattle.std.proofs.lemmas.List.{append_assoc, length-append, append-nil, length-drop, length-take, take_rest}
use Rattle.std.proofs.lemmas.List.{take_at, drop_at, drop_all, drop-drop, take-append-drop}
use Rattle.cs_base.proofs.Texts.{count_by-append}
use Rattle.cs_lex.specs.{declared.token.Mark.Mark, declared.token.Token.Token, Rows.Fits, Rows.IsFault}
use Rattle.cs_lex.specs.{Lexed.is_newline, Lexed.end_of, declared.front.Front.Front}
use Rattle.cs_base.specs.{Lines.is_feed, Lines.excerpt, Lines.line_after, declared.fault.OrcKind.OrcKind}
use Rattle.cs_lex.specs.Lexed.{TextPiece, text_of, AllFit, Lexed, LexFault, tokens_after, token_of, token_at, merged}
use Rattle.cs_lex.specs.inner.Front.{front_of, given, fed_by}
use Rattle.cs_lex.proofs.Sound.{Starts, Right, front_right}

-- whether the last token is a line feed, or there is none, after some tokens
abbrev pub fed_after : Bool → List Token → Bool
fed_after fed [] = fed
fed_after fed (t ∷ ts) = fed_after (is_newline t) ts

merged_on : (fed : Bool) (ts us : List Token) → merged fed (ts ++ us) ≡ merged fed ts ++ merged (fed_after fed ts) us
merged_on fed [] us = refl
merged_on fed (t ∷ ts) us = grind (arith, common_steps, append_assoc, merged_on (is_newline t) ts us)

fed_on : (fed : Bool) (ts us : List Token) → fed_after fed (ts ++ us) ≡ fed_after (fed_after fed ts) us
fed_on fed [] us = refl
fed_on fed (t ∷ ts) us = fed_on (is_newline t) ts us

text_on : (ps : List TextPiece) (p : TextPiece) → text_of (ps ++ p ∷ []) ≡ text_of ps ++ p.span
text_on [] p = append-nil p.span
text_on (q ∷ ps) p = ap (λ t. q.span ++ t) (text_on ps p) ∙ sym (append_assoc q.span (text_of ps) p.span)

fit_on : (ps : List TextPiece) (p : TextPiece) (rest : List ℕ) → AllFit ps (p.span ++ rest) → Fits p.mark p.span rest
    → AllFit (ps ++ p ∷ []) rest
fit_on [] p rest h k = (k, tt)
fit_on (q ∷ ps) p rest h k = grind (arith, common_steps, append_assoc, text_on, fit_on ps p rest h.1 k)

tokens_on : (first : ℕ) (before : List ℕ) (ps : List TextPiece) (p : TextPiece)
    → tokens_after first before (ps ++ p ∷ []) ≡ tokens_after first before ps
    ++ token_of first p.mark (before ++ text_of ps) p.span
tokens_on first before [] p = append-nil (token_of first p.mark before p.span)
    ∙ ap (λ t. token_of first p.mark t p.span) (sym (append-nil before))
tokens_on first before (q ∷ ps) p = grind (arith, common_steps, append_assoc, tokens_on first (before ++ q.span) ps p)

-- the part of a text that has been read: the pieces up to an index, the line there, and the tokens so far
pub record Read (first : ℕ) (source : List ℕ) (at line : ℕ) (fed : Bool) (tokens : List Token) : Type 0 where
  pub pieces : List TextPiece
  pub place : at ≡ length (text_of pieces)
  pub whole : source ≡ text_of pieces ++ drop at source
  pub fit : AllFit pieces (drop at source)
  pub line_is : line ≡ line_after first (text_of pieces)
  pub tokens_are : tokens ≡ merged true (tokens_after first [] pieces)
  pub fed_is : fed ≡ fed_after true (tokens_after first [] pieces)

pub nothing_read : (first : ℕ) (source : List ℕ) → Read first source 0 first true []
nothing_read first source = record {
  pieces = [];
  place = refl;
  whole = refl;
  fit = tt;
  line_is = omega arith;
  tokens_are = refl;
  fed_is = refl;
}

-- one more piece
read_piece : (first : ℕ) (source : List ℕ) (at line : ℕ) (fed : Bool) (tokens : List Token) (m : Option Mark)
    (n feeds : ℕ) (fed' : Bool) (tokens' : List Token) (r : Read first source at line fed tokens)
    (s : Starts (drop at source) m n) → feeds ≡ count_by is_feed (take n (drop at source))
    → fed' ≡ fed_after true (tokens_after first [] r.pieces ++ token_of first m (text_of r.pieces) s.span)
    → tokens' ≡ merged true (tokens_after first [] r.pieces ++ token_of first m (text_of r.pieces) s.span)
    → Read first source (at + n) (line + feeds) fed' tokens'
read_piece first source at line fed tokens m n feeds fed' tokens' r s f is_fed are_tokens =
    let p : TextPiece = record { mark = m; span = s.span } in
    let text = text_on r.pieces p in
    let after : drop (at + n) source ≡ s.after =
    sym (drop-drop n at source) ∙ ap (drop n) s.whole ∙ drop_at s.span s.after n (sym s.len) in
    let front : take n (drop at source) ≡ s.span = ap (take n) s.whole ∙ take_at s.span s.after n (sym s.len) in
    let all = tokens_on first [] r.pieces p in
    record {
      pieces = r.pieces ++ p ∷ [];
      place = omega (arith, r.place, s.len, length-append (text_of r.pieces) s.span, ap length text);
      whole = r.whole ∙ ap (λ t. text_of r.pieces ++ t) (s.whole ∙ ap (λ t. s.span ++ t) (sym after))
          ∙ sym (append_assoc (text_of r.pieces) s.span (drop (at + n) source))
          ∙ ap (λ t. t ++ drop (at + n) source) (sym text);
      fit = subst (AllFit (r.pieces ++ p ∷ [])) (sym after)
          (fit_on r.pieces p s.after (subst (AllFit r.pieces) s.whole r.fit) s.fits);
      line_is = omega (
        arith,
        r.line_is,
        f,
        ap (count_by is_feed) front,
        ap (count_by is_feed) text,
        count_by-append is_feed (text_of r.pieces) s.span,
      );
      tokens_are = are_tokens ∙ ap (merged true) (sym all);
      fed_is = is_fed ∙ ap (fed_after true) (sym all);
    }

pub read_gap : (first : ℕ) (source : List ℕ) (at line : ℕ) (fed : Bool) (tokens : List Token) (n feeds : ℕ)
    → Read first source at line fed tokens → Starts (drop at source) None n
    → feeds ≡ count_by is_feed (take n (drop at source)) → Read first source (at + n) (line + feeds) fed tokens
read_gap first source at line fed tokens n feeds r s f =
    let none : tokens_after first [] r.pieces ++ [] ≡ tokens_after first [] r.pieces =
    append-nil (tokens_after first [] r.pieces) in
    read_piece first source at line fed tokens None n feeds fed tokens r s f (r.fed_is ∙ ap (fed_after true) (sym none))
    (r.tokens_are ∙ ap (merged true) (sym none))

-- a token with these fields
abbrev pub made : Mark → ℕ → ℕ → ℕ → Token
made m x y z = record { mark = m; from = x; to = y; line = z }

pub read_token : (first : ℕ) (source : List ℕ) (at line : ℕ) (fed : Bool) (tokens : List Token) (m : Mark) (n feeds : ℕ)
    (t : Token) → Read first source at line fed tokens → Starts (drop at source) (Some m) n
    → feeds ≡ count_by is_feed (take n (drop at source)) → t ≡ record { mark = m; from = at; to = at + n; line = line }
    → Read first source (at + n) (line + feeds) (is_newline t) (tokens ++ merged fed (t ∷ []))
read_token first source at line fed tokens m n feeds t r s f is =
    let ts = tokens_after first [] r.pieces in
    let same : t ≡ token_at first m (text_of r.pieces) s.span =
    is ∙ token_is m at (length (text_of r.pieces)) (at + n) (length (text_of r.pieces) + length s.span) line
    (line_after first (text_of r.pieces)) r.place (omega (arith, r.place, s.len)) r.line_is in
    read_piece first source at line fed tokens (Some m) n feeds (is_newline t) (tokens ++ merged fed (t ∷ [])) r s f
    (ap is_newline same ∙ sym (fed_on true ts (token_at first m (text_of r.pieces) s.span ∷ [])))
    (ap (λ x. tokens ++ merged fed (x ∷ [])) same
    ∙ ap (λ b. tokens ++ merged b (token_at first m (text_of r.pieces) s.span ∷ [])) r.fed_is
    ∙ ap (λ x. x ++ merged (fed_after true ts) (token_at first m (text_of r.pieces) s.span ∷ [])) r.tokens_are
    ∙ sym (merged_on true ts (token_at first m (text_of r.pieces) s.span ∷ [])))
  where
    token_is : (m : Mark) (a b c d e f : ℕ) → a ≡ b → c ≡ d → e ≡ f → made m a c e ≡ made m b d f
    token_is m a b c d e f p q r = ap (λ x. made m x c e) p ∙ ap (λ x. made m b x e) q ∙ ap (λ x. made m b d x) r

pub at_line : (first : ℕ) (source : List ℕ) (at line line' : ℕ) (fed : Bool) (tokens : List Token) → line' ≡ line
    → Read first source at line fed tokens → Read first source at line' fed tokens
at_line first source at line line' fed tokens e r = subst (λ x. Read first source at x fed tokens) (sym e) r

-- if the entire text has been read, these are its tokens
pub all_read : (first : ℕ) (source : List ℕ) (at line : ℕ) (fed : Bool) (tokens : List Token)
    → Read first source at line fed tokens
    → length source ≤ at → Lexed (excerpt first source) (tokens ++ end_of (excerpt first source) ∷ [])
all_read first source at line fed tokens r l = grind (arith, common_steps, drop_all)

-- a fault at the start of the rest is the text's first fault
pub fault_read : (first : ℕ) (source : List ℕ) (at line : ℕ) (fed : Bool) (tokens : List Token) (k : OrcKind)
    → Read first source at line fed tokens → IsFault (drop at source) k → LexFault (excerpt first source) line k
fault_read first source at line fed tokens k r f =
    (r.pieces, drop at source, record { whole = r.whole; fit = r.fit }, f, r.line_is)

right : (text : List ℕ) → 0 < length text → Right text (front_of text)
right [] l = absurd (omega arith)
right (b ∷ rest) l = front_right b rest

-- the reader's result for the rest of a text is right
pub starts : (source : List ℕ) (at : ℕ) (f : Front) → at < length source → Ok f ≡ front_of (drop at source)
    → Starts (drop at source) f.mark f.len
starts source at f l e =
    subst (Right (drop at source)) (sym e) (right (drop at source) (omega (arith, length-drop at source)))

pub faults : (source : List ℕ) (at : ℕ) (k : OrcKind) → at < length source → Err k ≡ front_of (drop at source)
    → IsFault (drop at source) k
faults source at k l e =
    subst (Right (drop at source)) (sym e) (right (drop at source) (omega (arith, length-drop at source)))

pub front_within : (text : List ℕ) → 0 < length text → IfOk (front_of text) (λ f. (0 < f.len) × (f.len ≤ length text))
front_within text l = by (front_of text) (right text l)
  where
    by : (r : Result Front OrcKind) → Right text r → IfOk r (λ f. (0 < f.len) × (f.len ≤ length text))
    by (Err k) h = tt
    by (Ok f) h = (h.some, omega (arith, h.len, ap length h.whole, length-append h.span h.after))

-- ---- one step of the reader

rest_is : (source : List ℕ) (at : ℕ) (f : Front) → Ok f ≡ front_of (take (length source - at) (drop at source))
    → Ok f ≡ front_of (drop at source)
rest_is source at f e = e ∙ ap front_of (take_rest source at)

fed_is : (source : List ℕ) (at n feeds : ℕ) → feeds ≡ count_by is_feed (take (at + n - at) (drop at source))
    → feeds ≡ count_by is_feed (take n (drop at source))
fed_is source at n feeds e =
    e ∙ ap (λ k. count_by is_feed (take k (drop at source))) (let same : at + n - at ≡ n = omega arith in same)

pub next_within : (source : List ℕ) (at n : ℕ) → at < length source
    → n ≤ length (take (length source - at) (drop at source)) → at + n ≤ length source
next_within source at n l h = omega (arith, length-take (length source - at) (drop at source))

read_any : (first : ℕ) (source : List ℕ) (at line : ℕ) (fed : Bool) (tokens : List Token) (m : Option Mark)
    (n feeds : ℕ) (fed' : Bool) (tokens' : List Token) → Read first source at line fed tokens
    → Starts (drop at source) m n → feeds ≡ count_by is_feed (take n (drop at source)) → fed' ≡ fed_by fed m
    → tokens' ≡ tokens ++ merged fed (given m at (at + n) line) → Read first source (at + n) (line + feeds) fed' tokens'
read_any first source at line fed tokens None n feeds fed' tokens' r s g now more =
    grind (arith, common_steps, append-nil, read_gap)
read_any first source at line fed tokens (Some m) n feeds fed' tokens' r s g now more =
    let t : Token = made m at (at + n) line in
    subst (λ b. Read first source (at + n) (line + feeds) b tokens') (sym now)
    (subst (λ ts. Read first source (at + n) (line + feeds) (is_newline t) ts) (sym more)
    (read_token first source at line fed tokens m n feeds t r s g refl))

pub next_piece : (first : ℕ) (source : List ℕ) (at line : ℕ) (fed : Bool) (tokens : List Token) (f : Front) (feeds : ℕ)
    (fed' : Bool) (tokens' : List Token) → at < length source → Read first source at line fed tokens
    → Ok f ≡ front_of (take (length source - at) (drop at source))
    → feeds ≡ count_by is_feed (take (at + f.len - at) (drop at source)) → fed' ≡ fed_by fed f.mark
    → tokens' ≡ tokens ++ merged fed (given f.mark at (at + f.len) line)
    → Read first source (at + f.len) (line + feeds) fed' tokens'
next_piece first source at line fed tokens f feeds fed' tokens' l r e g now more =
    read_any first source at line fed tokens f.mark f.len feeds fed' tokens' r
    (starts source at f l (rest_is source at f e)) (fed_is source at f.len feeds g) now more

pub next_fault : (first : ℕ) (source : List ℕ) (at line : ℕ) (fed : Bool) (tokens : List Token) (k : OrcKind)
    → at < length source → Read first source at line fed tokens
    → Err k ≡ front_of (take (length source - at) (drop at source)) → LexFault (excerpt first source) line k
next_fault first source at line fed tokens k l r e =
    fault_read first source at line fed tokens k r (faults source at k l (e ∙ ap front_of (take_rest source at)))

-- the line of a text's last byte, from the line at its end
pub last_line : (k : ℕ) (source : List ℕ) (line feeds : ℕ) → count_by is_feed source ≤ line
    → feeds ≡ count_by is_feed (drop k source)
    → (feeds ≤ line) × (line - feeds ≡ line_after (line - count_by is_feed source) (take k source))
last_line k source line feeds l f =
    let whole = ap (count_by is_feed) (sym (take-append-drop k source)) in
    let parts = count_by-append is_feed (take k source) (drop k source) in
    (omega (arith, l, f, whole, parts), omega (arith, l, f, whole, parts))
