-- The kinds of symbols, and the tests on kinds that the rules of the grammar use.
use Rattle.std.specs.Prelude.{Bool, true, false}
use Rattle.cs_grammar.specs.{declared.symbol.Kind.Kind, declared.symbol.Expected.Expected}
use Rattle.cs_words.specs.declared.word.Keyword.TheVariants as key
use Rattle.cs_words.specs.declared.word.Word.TheVariants as word
use Rattle.cs_words.specs.declared.sign.Sign.TheVariants as sign
use Rattle.cs_grammar.specs.declared.symbol.Kind.TheVariants as kind
use Rattle.cs_grammar.specs.declared.symbol.Expected.TheVariants as expected

-- whether a symbol of this kind is the expected one
abbrev pub is : Expected → Kind → Bool
is expected.Open (kind.Sign sign.Open) = true
is expected.Close (kind.Sign sign.Close) = true
is expected.Comma (kind.Sign sign.Comma) = true
is expected.Equals (kind.Sign sign.Equals) = true
is expected.Question (kind.Sign sign.Question) = true
is expected.Colon (kind.Sign sign.Colon) = true
is expected.Text kind.Text = true
is expected.Then (kind.Word (word.Keyword key.Then)) = true
is expected.Elseif (kind.Word (word.Keyword key.Elseif)) = true
is expected.Else (kind.Word (word.Keyword key.Else)) = true
is expected.Endif (kind.Word (word.Keyword key.Endif)) = true
is expected.Endin (kind.Word (word.Keyword key.Endin)) = true
is expected.Endop (kind.Word (word.Keyword key.Endop)) = true
is expected.Xin (kind.Word (word.Keyword key.Xin)) = true
is expected.Xout (kind.Word (word.Keyword key.Xout)) = true
is expected.End kind.End = true
is _ _ = false

-- whether a symbol is a Word, which includes keywords
abbrev pub is_word : Kind → Bool
is_word (kind.Word w) = true
is_word _ = false

-- whether a symbol is NewLine or End
abbrev pub ends_line : Kind → Bool
ends_line kind.NewLine = true
ends_line kind.End = true
ends_line _ = false

-- whether a symbol is a word that begins like a variable, and has no other meaning in the profile
abbrev pub is_name_kind : Kind → Bool
is_name_kind (kind.Word word.Name) = true
is_name_kind _ = false

-- whether a symbol is a word of the profile, but no keyword
abbrev pub is_plain : Kind → Bool
is_plain (kind.Word (word.Keyword k)) = false
is_plain (kind.Word word.Foreign) = false
is_plain k = is_word k

-- whether a symbol is a word that may name a user-defined opcode: it has no other meaning, except perhaps as
-- a field
abbrev pub may_be_opcode : Kind → Bool
may_be_opcode (kind.Word word.Name) = true
may_be_opcode (kind.Word word.Other) = true
may_be_opcode (kind.Word (word.Field k)) = true
may_be_opcode _ = false
