-- The parser's data about its current position.
use Rattle.std.specs.Prelude.{ℕ, List, ◌+◌, ◌<◌, ◌≡◌, ◌^◌, length}
use Rattle.cs_lex.specs.declared.token.Token.{Token}
use Rattle.cs_grammar.specs.declared.symbol.Kind.{Kind}
use Rattle.cs_grammar.specs.Symbols.{Spanned, next, after, symbols_from}

-- A position: the remaining tokens of the text, the first of which follows `place` tokens on its line, and
-- the kinds of the next two symbols.
pub record IsReached (source : List ℕ) (place : ℕ) (tokens : List Token) (first second : Kind) : Type 0 where
  pub spanned : Spanned (length source) tokens
  pub short : place + length tokens < 2 ^ 63
  pub is_first : first ≡ (next (symbols_from source place tokens)).kind
  pub is_second : second ≡ (next (after (symbols_from source place tokens))).kind
