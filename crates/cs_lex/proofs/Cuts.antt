-- Every text can be cut in exactly one way, up to its end or its first fault.
use Rattle.std.proofs.lemmas.{Grind.common_steps, List.append_assoc, List.length-append, List.take_at, List.drop_at}
use Rattle.std.proofs.Common.{◌≡◌, ◌<◌, ◌≤◌, ℕ, zero, suc, true, List, [], ◌∷◌, ◌++◌, length, drop, take, arith, ap}
use Rattle.std.proofs.Common.{sym, ◌∙◌, refl, subst, inl, inr, ◌⊎◌, Option, Result, Ok, Err}
use Rattle.cs_base.specs.{declared.fault.OrcKind.OrcKind, Lines.excerpt, Lines.line_after}
use Rattle.cs_lex.specs.{declared.token.Mark.Mark, declared.token.Token.Token, declared.front.Front.Front, Rows.Fits}
use Rattle.cs_lex.specs.{Rows.IsFault, inner.Front.front_of}
use Rattle.cs_lex.specs.Lexed.{TextPiece, text_of, AllFit, Lexed, LexFault, tokens_after, merged, end_of}
use Rattle.cs_lex.proofs.Sound.{Starts, Right, front_right}
use Rattle.cs_lex.proofs.Complete.{found, fits_found, fault_found}
use Rattle.cs_base.specs.declared.fault.OrcKind.TheVariants as orc

same_piece : (m m' : Option Mark) (n n' : ℕ) → found m n ≡ found m' n' → (m ≡ m') × (n ≡ n')
same_piece m m' n n' e = grind (arith, common_steps)

same_span : (a b c d : List ℕ) → a ++ b ≡ c ++ d → length a ≡ length c → (a ≡ c) × (b ≡ d)
same_span a b c d e l =
    let front : a ≡ c = sym (take_at a b (length a) refl) ∙ ap (take (length a)) e ∙ take_at c d (length a) (sym l) in
    (front, sym (drop_at a b (length a) refl) ∙ ap (drop (length a)) e ∙ drop_at c d (length a) (sym l))

-- a text begins with at most one piece
pub same_front : (m m' : Option Mark) (a b c d : List ℕ) → Fits m a b → Fits m' c d → a ++ b ≡ c ++ d
    → (m ≡ m') × (a ≡ c) × (b ≡ d)
same_front m m' a b c d h k e = grind (arith, common_steps, fits_found, same_piece, same_span)

apart : (r : Result Front OrcKind) (f : Front) (k : OrcKind) → r ≡ Ok f → r ≡ Err k → ⊥
apart r f k e g = cc

-- a text that begins with a piece doesn't begin with a fault
pub no_both : (m : Option Mark) (a b : List ℕ) (k : OrcKind) → Fits m a b → IsFault (a ++ b) k → ⊥
no_both m a b k h f = apart (front_of (a ++ b)) (record { mark = m; len = length a }) k (fits_found m a b h)
    (fault_found (a ++ b) k f)

-- a piece has at least one byte
pub some_byte : (m : Option Mark) (a b : List ℕ) → Fits m a b → 0 < length a
some_byte m (c ∷ a) b h = omega arith
some_byte m [] [] h = absurd
    (apart (front_of []) (record { mark = m; len = 0 }) orc.BadByte (fits_found m [] [] h) refl)
some_byte m [] (c ∷ b) h =
    let starts : Starts (c ∷ b) m 0 = subst (Right (c ∷ b)) (fits_found m [] (c ∷ b) h) (front_right c b) in
    starts.some

-- the end of a cut: nothing, or a fault
abbrev pub Ends : List ℕ → Type 0
Ends rest = (rest ≡ []) ⊎ ((k : OrcKind) × IsFault rest k)

no_more : (rest : List ℕ) (p : TextPiece) (ps : List TextPiece) (rest' : List ℕ) → Ends rest
    → rest ≡ p.span ++ (text_of ps ++ rest') → Fits p.mark p.span (text_of ps ++ rest') → ⊥
no_more rest p ps rest' (inl e) eq h =
    let some = some_byte p.mark p.span (text_of ps ++ rest') h in
    let long = ap length (sym e ∙ eq) ∙ length-append p.span (text_of ps ++ rest') in
    absurd (omega arith)
no_more rest p ps rest' (inr f) eq h =
    no_both p.mark p.span (text_of ps ++ rest') f.0 h (subst (λ t. IsFault t f.0) eq f.1)

pub one_cut : (ps qs : List TextPiece) (rest rest' : List ℕ) → text_of ps ++ rest ≡ text_of qs ++ rest' → AllFit ps rest
    → AllFit qs rest' → Ends rest → Ends rest' → (ps ≡ qs) × (rest ≡ rest')
one_cut [] [] rest rest' e h k f g = (refl, e)
one_cut [] (q ∷ qs) rest rest' e h k f g =
    absurd (no_more rest q qs rest' f (e ∙ append_assoc q.span (text_of qs) rest') k.0)
one_cut (p ∷ ps) [] rest rest' e h k f g =
    absurd (no_more rest' p ps rest g (sym e ∙ append_assoc p.span (text_of ps) rest) h.0)
one_cut (p ∷ ps) (q ∷ qs) rest rest' e h k f g =
    let same = same_front p.mark q.mark p.span (text_of ps ++ rest) q.span (text_of qs ++ rest') h.0 k.0
    (sym (append_assoc p.span (text_of ps) rest) ∙ e ∙ append_assoc q.span (text_of qs) rest') in
    let more = one_cut ps qs rest rest' same.2 h.1 k.1 f g in
    (same_pieces p q ps qs same.0 same.1 more.0, more.1)
  where
    same_pieces : (p q : TextPiece) (ps qs : List TextPiece) → p.mark ≡ q.mark → p.span ≡ q.span → ps ≡ qs
        → p ∷ ps ≡ q ∷ qs
    same_pieces p q ps qs e f g =
        let marks : p ≡ record { mark = q.mark; span = p.span } = ap (λ m. record { mark = m; span = p.span }) e in
        let spans : record { mark = q.mark; span = p.span } ≡ q = ap (λ t. record { mark = q.mark; span = t }) f in
        ap (λ x. x ∷ ps) (marks ∙ spans) ∙ ap (λ t. q ∷ t) g

-- every text can be cut up to its end or a fault
pub record Cut (text : List ℕ) : Type 0 where
  pub pieces : List TextPiece
  pub rest : List ℕ
  pub whole : text ≡ text_of pieces ++ rest
  pub fit : AllFit pieces rest
  pub ends : Ends rest

goes_on : (n : ℕ) (text : List ℕ) → length text ≤ suc n → ((t : List ℕ) → length t ≤ n → Cut t)
    → (m : Option Mark) (k : ℕ) → Starts text m k → Cut text
goes_on n text l rest_cut m k s =
    let some = some_byte m s.span s.after s.fits in
    let long = ap length s.whole ∙ length-append s.span s.after in
    let c = rest_cut s.after (omega arith) in
    record {
      pieces = record { mark = m; span = s.span } ∷ c.pieces;
      rest = c.rest;
      whole = s.whole ∙ ap (λ t. s.span ++ t) c.whole ∙ sym (append_assoc s.span (text_of c.pieces) c.rest);
      fit = (subst (Fits m s.span) c.whole s.fits, c.fit);
      ends = c.ends;
    }

by_front : (n : ℕ) (text : List ℕ) → length text ≤ suc n → ((t : List ℕ) → length t ≤ n → Cut t)
    → (r : Result Front OrcKind) → Right text r → Cut text
by_front n text l rest_cut (Ok f) h = goes_on n text l rest_cut f.mark f.len h
by_front n text l rest_cut (Err k) h = record { pieces = []; rest = text; whole = refl; fit = tt; ends = inr (k, h) }

pub cut : (n : ℕ) (text : List ℕ) → length text ≤ n → Cut text
cut n [] l = record { pieces = []; rest = []; whole = refl; fit = tt; ends = inl refl }
cut zero (b ∷ rest) l = absurd (omega arith)
cut (suc n) (b ∷ rest) l = by_front n (b ∷ rest) l (cut n) (front_of (b ∷ rest)) (front_right b rest)

-- ---- the laws of reading

pub some_reading : (first : ℕ) (source : List ℕ) → ((tokens : List Token) × Lexed (excerpt first source) tokens)
    ⊎ ((line : ℕ) × (kind : OrcKind) × LexFault (excerpt first source) line kind)
some_reading first source =
    let c = cut (length source) source (omega arith) in
    elim c.ends [
      | inl e ↦ inl (
        merged true (tokens_after first [] c.pieces) ++ end_of (excerpt first source) ∷ [],
        (
          c.pieces,
          record { whole = c.whole ∙ ap (λ t. text_of c.pieces ++ t) e; fit = subst (AllFit c.pieces) e c.fit },
          refl,
        ),
      )
      | inr f ↦ inr (
        line_after first (text_of c.pieces),
        f.0,
        (c.pieces, c.rest, record { whole = c.whole; fit = c.fit }, f.1, refl),
      )
    ]

pub one_list : (first : ℕ) (source : List ℕ) (ts us : List Token) → Lexed (excerpt first source) ts
    → Lexed (excerpt first source) us → ts ≡ us
one_list first source ts us (ps, cp, tp) (qs, cq, tq) = grind (arith, common_steps, one_cut)

abbrev failed : OrcKind → Result Front OrcKind
failed k = Err k

pub one_fault : (first : ℕ) (source : List ℕ) (l m : ℕ) (j k : OrcKind) → LexFault (excerpt first source) l j
    → LexFault (excerpt first source) m k → (l ≡ m) × (j ≡ k)
one_fault first source l m j k (ps, r, cp, f, lp) (qs, s, cq, g, lq) = grind (arith, common_steps, fault_found, one_cut)

pub not_both : (first : ℕ) (source : List ℕ) (ts : List Token) (l : ℕ) (k : OrcKind) → Lexed (excerpt first source) ts
    → LexFault (excerpt first source) l k → ⊥
not_both first source ts l k (ps, cp, tp) (qs, s, cq, g, lq) = grind (arith, common_steps, one_cut)
