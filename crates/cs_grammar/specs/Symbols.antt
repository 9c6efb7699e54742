-- The tokens of a text as the grammar sees them.
use Rattle.std.specs.Prelude.{ℕ, List, [], ◌∷◌, ◌+◌, ◌-◌, ◌≤◌, if◌then◌else◌, nat_le, slice_range, length}
use Rattle.cs_base.specs.Limits.{most_line_tokens}
use Rattle.cs_lex.specs.{declared.token.Mark.Mark, declared.token.Token.Token}
use Rattle.cs_grammar.specs.declared.symbol.Kind.{Kind}
use Rattle.cs_words.specs.{Words.word_of, Signs.sign_of}
use Rattle.cs_lex.specs.declared.token.Mark.TheVariants as mark
use Rattle.cs_grammar.specs.declared.symbol.Kind.TheVariants as kind

-- a token as the grammar sees it
pub record Symbol : Type 0 where
  pub kind : Kind
  pub text : List ℕ
  pub line : ℕ

-- the kind of a token that is among the first 1,000 of its line
abbrev pub kind_of_mark : Mark → List ℕ → Kind
kind_of_mark mark.Word bytes = kind.Word (word_of bytes)
kind_of_mark (mark.Number value) bytes = kind.Number value
kind_of_mark mark.Text bytes = kind.Text
kind_of_mark mark.Sign bytes = kind.Sign (sign_of bytes)
kind_of_mark mark.NewLine bytes = kind.NewLine
kind_of_mark mark.End bytes = kind.End

-- A token after the 1,000th of its line exceeds the profile, and the rules don't see its kind. NewLine and
-- End don't count.
abbrev pub kind_after : ℕ → Mark → List ℕ → Kind
kind_after place mark.NewLine bytes = kind.NewLine
kind_after place mark.End bytes = kind.End
kind_after place m bytes = if nat_le most_line_tokens place then kind.Beyond else kind_of_mark m bytes

-- the bytes of a token in its text
abbrev pub bytes_of : List ℕ → Token → List ℕ
bytes_of source t = slice_range source t.from t.to

-- the bytes of a token, without the quotation marks of a quoted text
abbrev pub unquoted : Mark → List ℕ → List ℕ
unquoted mark.Text bytes = slice_range bytes 1 (length bytes - 1)
unquoted _ bytes = bytes

-- the symbol of a token that follows `place` tokens on its line
abbrev pub symbol : List ℕ → ℕ → Token → Symbol
symbol source place t = record {
  kind = kind_after place t.mark (bytes_of source t);
  text = unquoted t.mark (bytes_of source t);
  line = t.line;
}

-- the number of tokens on the line including this one, or 0 after a NewLine, which ends the line
abbrev pub counted : ℕ → Mark → ℕ
counted place mark.NewLine = 0
counted place _ = place + 1

-- the symbols of the tokens; the first follows `place` tokens on its line
abbrev pub symbols_from : List ℕ → ℕ → List Token → List Symbol
symbols_from source place [] = []
symbols_from source place (t ∷ ts) = symbol source place t ∷ symbols_from source (counted place t.mark) ts

-- the tokens of a text, as the grammar sees them
abbrev pub symbols : List ℕ → List Token → List Symbol
symbols source tokens = symbols_from source 0 tokens

-- the first of the remaining symbols; End if none remains
abbrev pub next : List Symbol → Symbol
next [] = record { kind = kind.End; text = []; line = 0 }
next (t ∷ ts) = t

-- the remaining symbols without the first
abbrev pub after : List Symbol → List Symbol
after [] = []
after (t ∷ ts) = ts

-- the bytes of each token are within a text of this length
abbrev pub Spanned : ℕ → List Token → Type 0
Spanned size [] = Unit {0}
Spanned size (t ∷ ts) = (t.from ≤ t.to) × (t.to ≤ size) × Spanned size ts
