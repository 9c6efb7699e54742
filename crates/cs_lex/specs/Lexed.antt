-- The tokens of an entire text, or its first fault: the text is cut into pieces, each of which satisfies a
-- lexical rule.
use Rattle.std.specs.Prelude.{ℕ, Bool, true, false, List, [], ◌∷◌, ◌++◌, ◌≡◌, ◌≢◌, ◌<◌, ◌≤◌, ◌+◌, ◌-◌, ◌&&◌, length}
use Rattle.std.specs.Prelude.{take, Option, Some, None, if◌then◌else◌}
use Rattle.cs_base.specs.{declared.fault.OrcKind.OrcKind, Lines.Excerpt, Lines.line_after}
use Rattle.cs_lex.specs.{declared.token.Mark.Mark, declared.token.Token.Token, Rows.Fits, Rows.IsFault}
use Rattle.cs_lex.specs.declared.token.Mark.TheVariants as mark

-- a piece of the text: a token with its mark, or a gap between tokens
pub record TextPiece : Type 0 where
  pub mark : Option Mark
  pub span : List ℕ

-- the text that the pieces form
abbrev pub text_of : List TextPiece → List ℕ
text_of [] = []
text_of (p ∷ ps) = p.span ++ text_of ps

-- each piece satisfies its lexical rule, given the text that follows it
abbrev pub AllFit : List TextPiece → List ℕ → Type 0
AllFit [] rest = Unit {0}
AllFit (p ∷ ps) rest = Fits p.mark p.span (text_of ps ++ rest) × AllFit ps rest

-- a text is cut into these pieces, followed by `rest`
pub record IsCut (source : List ℕ) (pieces : List TextPiece) (rest : List ℕ) : Type 0 where
  pub whole : source ≡ text_of pieces ++ rest
  pub fit : AllFit pieces rest

-- the token of `span`, which follows the text `before`; that text begins on line `first`
abbrev pub token_at : ℕ → Mark → List ℕ → List ℕ → Token
token_at first m before span =
    record { mark = m; from = length before; to = length before + length span; line = line_after first before }

-- the tokens of a piece: one, or none for a gap
abbrev pub token_of : ℕ → Option Mark → List ℕ → List ℕ → List Token
token_of first None before span = []
token_of first (Some m) before span = token_at first m before span ∷ []

-- the tokens of the pieces that follow the text `before`, with a NewLine for each line feed
abbrev pub tokens_after : ℕ → List ℕ → List TextPiece → List Token
tokens_after first before [] = []
tokens_after first before (p ∷ ps) =
    token_of first p.mark before p.span ++ tokens_after first (before ++ p.span) ps

-- whether a mark is NewLine
abbrev pub is_newline_mark : Mark → Bool
is_newline_mark mark.NewLine = true
is_newline_mark _ = false

-- whether a token is a NewLine
abbrev pub is_newline : Token → Bool
is_newline t = is_newline_mark t.mark

-- Of several line feeds without another token between them only the first remains, and none remains before
-- the first other token. The flag `fed` is true if the last token was a line feed, or if there is none yet.
abbrev pub merged : Bool → List Token → List Token
merged fed [] = []
merged fed (t ∷ ts) = (if fed && is_newline t then [] else t ∷ []) ++ merged (is_newline t) ts

-- End: it is after the last byte and has that byte's line number; in an empty text it is on the first line
abbrev pub end_of : Excerpt → Token
end_of text = record {
  mark = mark.End;
  from = length text.bytes;
  to = length text.bytes;
  line = line_after text.first_line (take (length text.bytes - 1) text.bytes);
}

-- the tokens of a text, each with its line in the file
abbrev pub Lexed : Excerpt → List Token → Type 0
Lexed text tokens =
    (pieces : List TextPiece) × IsCut text.bytes pieces []
    × (tokens ≡ merged true (tokens_after text.first_line [] pieces) ++ end_of text ∷ [])

-- the first fault of a text, with its line in the file: the text before the fault can be cut into pieces
abbrev pub LexFault : Excerpt → ℕ → OrcKind → Type 0
LexFault text line kind =
    (pieces : List TextPiece) × (rest : List ℕ) × IsCut text.bytes pieces rest × IsFault rest kind
    × (line ≡ line_after text.first_line (text_of pieces))

-- a token comes before another one: it ends at or before the other's first byte, and its line is not later
abbrev pub Precedes : Token → Token → Type 0
Precedes t u = (t.to ≤ u.from) × (t.line ≤ u.line)

-- all tokens after a NewLine, except End, are on later lines
abbrev pub IsEndedBy : Token → Token → Type 0
IsEndedBy t u = t.mark ≡ mark.NewLine → u.mark ≢ mark.End → t.line < u.line
