use Rattle.cs_lex.specs.Lexed.{LexFault, Lexed}
use Rattle.cs_grammar.specs.Orchestra.{ParseFault, Tree}
use Rattle.cs_compile.proofs.{Once.means_one, Once.read_one, Pieces.head_is_there, Some.means_some, Some.read_some}
use Rattle.cs_compile.proofs.laws.texts_have_one_meaning.Goals as goal

pub returns-clause-some : goal.returns-clause-some
returns-clause-some c =
    means_some
    (λ text. read_some (Lexed text) (LexFault text) (c.one_reading.ensures.some text))
    (λ text ts. read_some (Tree text.bytes ts) (ParseFault text.bytes ts) (c.one_reading-2.ensures.some text.bytes ts))

pub returns-clause-one : goal.returns-clause-one
returns-clause-one c =
    means_one
    (λ text. read_one (Lexed text) (LexFault text) (c.one_reading.ensures.one_list text)
    (c.one_reading.ensures.one_fault text) (c.one_reading.ensures.not_both text))
    (λ text ts. read_one (Tree text.bytes ts) (ParseFault text.bytes ts)
    (c.one_reading-2.ensures.one_tree text.bytes ts)
    (c.one_reading-2.ensures.one_fault text.bytes ts) (c.one_reading-2.ensures.not_both text.bytes ts))

pub returns-clause-head : goal.returns-clause-head
returns-clause-head c = head_is_there
