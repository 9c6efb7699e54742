-- The tokens of a text, computed for worked examples.
use Rattle.std.proofs.Common.{arith, ◌≡◌, ℕ, zero, suc, true, List, [], ◌∷◌, ◌++◌, drop, take, sym, refl, subst, Result}
use Rattle.std.proofs.Common.{Ok, Err}
use Rattle.std.proofs.lemmas.{Grind.common_steps, List.append_assoc, List.take_at, List.drop_at}
use Rattle.cs_base.specs.{declared.fault.OrcKind.OrcKind, Lines.excerpt, Lines.line_after}
use Rattle.cs_lex.specs.{declared.token.Token.Token, declared.front.Front.Front, Rows.IsFault, inner.Front.front_of}
use Rattle.cs_lex.specs.Lexed.{TextPiece, text_of, IsCut, Lexed, LexFault, tokens_after, merged, end_of}
use Rattle.cs_lex.proofs.Sound.{Starts, Right, front_right}

-- pieces at the start of a text, and the text that remains after them
pub record Got : Type 0 where
  pub pieces : List TextPiece
  pub rest : List ℕ

-- a result with one more piece in front
abbrev pub put : TextPiece → Got → Got
put p g = record { pieces = p ∷ g.pieces; rest = g.rest }

-- the pieces from a reader's result on
abbrev pub got_on : (List ℕ → Got) → List ℕ → Result Front OrcKind → Got
got_on more text (Err k) = record { pieces = []; rest = text }
got_on more text (Ok f) = put (record { mark = f.mark; span = take f.len text }) (more (drop f.len text))

-- at most n pieces, and the text that remains after them
abbrev pub got : ℕ → List ℕ → Got
got zero text = record { pieces = []; rest = text }
got (suc n) [] = record { pieces = []; rest = [] }
got (suc n) (b ∷ rest) = got_on (got n) (b ∷ rest) (front_of (b ∷ rest))

is_cut_on : (text : List ℕ) (f : Front) (g : Got) → Starts text f.mark f.len → IsCut (drop f.len text) g.pieces g.rest
    → IsCut text (record { mark = f.mark; span = take f.len text } ∷ g.pieces) g.rest
is_cut_on text f g s c = grind (arith, common_steps, append_assoc, drop_at, take_at)

pub is_cut : (n : ℕ) (text : List ℕ) → IsCut text (got n text).pieces (got n text).rest
is_cut zero text = record { whole = refl; fit = tt }
is_cut (suc n) [] = record { whole = refl; fit = tt }
is_cut (suc n) (b ∷ rest) = on (front_of (b ∷ rest)) (front_right b rest) (is_cut n)
  where
    on : (r : Result Front OrcKind) → Right (b ∷ rest) r → ((t : List ℕ) → IsCut t (got n t).pieces (got n t).rest)
        → IsCut (b ∷ rest) (got_on (got n) (b ∷ rest) r).pieces (got_on (got n) (b ∷ rest) r).rest
    on (Err k) h cut = record { whole = refl; fit = tt }
    on (Ok f) h cut = is_cut_on (b ∷ rest) f (got n (drop f.len (b ∷ rest))) h (cut (drop f.len (b ∷ rest)))

-- nothing remains: these are the tokens
pub reads : (first : ℕ) (n : ℕ) (source : List ℕ) (tokens : List Token) → (got n source).rest ≡ []
    → tokens ≡ merged true (tokens_after first [] (got n source).pieces) ++ end_of (excerpt first source) ∷ []
    → Lexed (excerpt first source) tokens
reads first n source tokens none is =
    ((got n source).pieces, subst (IsCut source (got n source).pieces) none (is_cut n source), is)

-- a fault remains
pub refuses : (first : ℕ) (n : ℕ) (source : List ℕ) (line : ℕ) (kind : OrcKind) (b : ℕ) (rest : List ℕ)
    → (got n source).rest ≡ b ∷ rest → front_of (b ∷ rest) ≡ Err kind
    → line ≡ line_after first (text_of (got n source).pieces) → LexFault (excerpt first source) line kind
refuses first n source line kind b rest left fault is = (
  (got n source).pieces,
  (got n source).rest,
  is_cut n source,
  subst (λ t. IsFault t kind) (sym left) (subst (Right (b ∷ rest)) fault (front_right b rest)),
  is,
)
