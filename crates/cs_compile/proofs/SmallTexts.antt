-- Two small texts, read step by step according to the definitions.
use Rattle.std.proofs.Common.{◌≡◌, ◌∷◌, ◌++◌, ◌+◌, ℕ, true, pos, List, [], codes, None, Result, Ok, Err, refl, ap, sym}
use Rattle.std.proofs.Common.{subst, arith}
use Rattle.cs_base.specs.{declared.fault.OrcFault.OrcFault, declared.head.Head.Head, declared.refusal.Refusal.Refusal}
use Rattle.cs_base.specs.{declared.width.SampleWidth.SampleWidth, Lines.Excerpt, Lines.excerpt, Lines.whole_file}
use Rattle.cs_base.specs.declared.width.SampleWidth.TheVariants.{TwoBytes, ThreeBytes}
use Rattle.cs_words.specs.{Catalogue.catalogued, Signs.sign_of}
use Rattle.cs_words.specs.Words.{field_of, is_foreign, listed_word, word_of}
use Rattle.cs_lex.specs.Lexed.{LexFault, Lexed, end_of, merged, tokens_after}
use Rattle.cs_lex.specs.declared.token.Token.{Token}
use Rattle.cs_lex.proofs.Computed.{got, reads, refuses}
use Rattle.cs_grammar.specs.{Lines.ReadsNumbers, Lines.last_item, Parts.atom, Parts.part_form}
use Rattle.cs_grammar.specs.{declared.expr.Level.Level, Reading.Scope, Reading.in_instrument}
use Rattle.cs_grammar.specs.Grammar.{ReadsArg, ReadsArgs, ReadsBlock, ReadsExpr, ReadsStmt, arg_value, args_some}
use Rattle.cs_grammar.specs.Grammar.{binary, block_end, block_more, fact_alone, list_last, no_more, stmt_assign}
use Rattle.cs_grammar.specs.Grammar.{stmt_bare}
use Rattle.cs_grammar.specs.Orchestra.{ReadsInstr, ReadsOrc, Tree, instr, orc_end, orc_header, orc_instr}
use Rattle.cs_grammar.specs.declared.symbol.Kind.{Kind}
use Rattle.cs_grammar.specs.Symbols.{Symbol, symbols, next}
use Rattle.cs_udo.specs.Expanding.{expanding}
use Rattle.cs_typing.specs.Typing.{typed_of}
use Rattle.cs_score.specs.{Limits.different, Limits.first_at, Limits.numbers_of, Statements.score_of}
use Rattle.cs_score.specs.{declared.statement.ScoreStmt.ScoreStmt, declared.statement.ScoreWhat.TheVariants.Note}
use Rattle.cs_tempo.specs.{Order.in_order, Order.put, declared.plot.Plot.Plot}
use Rattle.cs_tempo.specs.Plot.{acts_of, events_along, events_from}
use Rattle.cs_tempo.specs.Sections.{cycle_at, length_of, sections_of, tempo_of}
use Rattle.cs_time.specs.Time.{beat_length, cycle_of, part_of, ramp_time, seconds_of, time_along}
use Rattle.cs_piece.specs.Compositions.{composition}
use Rattle.cs_piece_meaning.specs.{Heard.frames_of, Moments.Composition}
use Rattle.cs_compile.specs.Meaning.{IsPlayedAs, IsReadAs, IsTypedAs, means, orchestra_means, orchestra_plays, piece_of}
use Rattle.cs_compile.specs.Meaning.{no_longer_than, plotted, refused_as, score_means, short_texts_mean, typed_form}
use Rattle.cs_compile.specs.Worked.{fourth_field, note_of_100, stray_byte, whole}
use Rattle.cs_compile.proofs.Heads.{made}
use Rattle.cs_base.specs.declared.fault.OrcKind.TheVariants as orc
use Rattle.cs_base.specs.declared.limit.Limit.TheVariants as limit
use Rattle.cs_base.specs.declared.refusal.Refusal.TheVariants as why
use Rattle.cs_words.specs.declared.catalogue.Opcode.TheVariants as op
use Rattle.cs_words.specs.declared.sign.Sign.TheVariants as sign
use Rattle.cs_words.specs.declared.word.HeadName.TheVariants as head
use Rattle.cs_words.specs.declared.word.Keyword.TheVariants as key
use Rattle.cs_words.specs.declared.word.Word.TheVariants as word
use Rattle.cs_grammar.specs.Parts as parts
use Rattle.cs_grammar.specs.Tree as tree
use Rattle.cs_grammar.specs.declared.expr.Level.TheVariants as level
use Rattle.cs_grammar.specs.declared.expr.PartForm.TheVariants as part
use Rattle.cs_grammar.specs.declared.lists.Role.TheVariants as role
use Rattle.cs_grammar.specs.declared.symbol.Kind.TheVariants as kind
use Rattle.cs_grammar.specs.declared.tree.Callee.TheVariants as callee
use Rattle.cs_typed.specs.TypedTree as typed
use Rattle.cs_tempo.specs.declared.plot.EventAct.TheVariants as act

-- THE TOKENS of the orchestra, and the symbols of the grammar

abbrev tokens : List Token
tokens = merged true (tokens_after 1 [] (got 40 fourth_field).pieces) ++ end_of (whole_file fourth_field) ∷ []

lexed : Lexed (whole_file fourth_field) tokens
lexed = reads 1 40 fourth_field tokens refl refl

abbrev symbol : ℕ → Kind → List ℕ → Symbol
symbol line k text = record { kind = k; text = text; line = line }

abbrev feed : ℕ → Symbol
feed line = symbol line kind.NewLine (codes "\n")

-- the rest from a line on
abbrev stop : List Symbol
stop = symbol 6 kind.End [] ∷ []

abbrev line_6 : List Symbol
line_6 = symbol 6 (kind.Word (word.Keyword key.Endin)) (codes "endin") ∷ feed 6 ∷ stop

abbrev line_5 : List Symbol
line_5 =
    symbol 5 (kind.Word (word.Opcode op.Out)) (codes "out") ∷ symbol 5 (kind.Word word.Name) (codes "a1")
    ∷ feed 5 ∷ line_6

abbrev line_4 : List Symbol
line_4 =
    symbol 4 (kind.Word word.Name) (codes "a1") ∷ symbol 4 (kind.Sign sign.Equals) (codes "=")
    ∷ symbol 4 (kind.Word (word.Field 4)) (codes "p4") ∷ feed 4 ∷ line_5

abbrev line_3 : List Symbol
line_3 =
    symbol 3 (kind.Word (word.Keyword key.Instr)) (codes "instr") ∷ symbol 3 (kind.Number (whole 1)) (codes "1")
    ∷ feed 3 ∷ line_4

abbrev line_2 : List Symbol
line_2 =
    symbol 2 (kind.Word (word.Header head.Ksmps)) (codes "ksmps") ∷ symbol 2 (kind.Sign sign.Equals) (codes "=")
    ∷ symbol 2 (kind.Number (whole 1)) (codes "1") ∷ feed 2 ∷ line_3

abbrev line_1 : List Symbol
line_1 =
    symbol 1 (kind.Word (word.Header head.Sr)) (codes "sr") ∷ symbol 1 (kind.Sign sign.Equals) (codes "=")
    ∷ symbol 1 (kind.Number (whole 8)) (codes "8") ∷ feed 1 ∷ line_2

symbols_are : symbols fourth_field tokens ≡ line_1
unfolding word_of listed_word catalogued is_foreign field_of sign_of
symbols_are = refl

-- ITS TREE

abbrev inside : Scope
inside = in_instrument []

none_at : (l : Level) (us : List Symbol) → (next us).kind ≡ kind.NewLine → parts.operator l (Ok us) ≡ None
none_at l us e = ap (λ (k : Kind). parts.operator_of l k) e

-- a single symbol before the end of a line
alone : (ts us : List Symbol) (e : tree.Expression) → part_form ts ≡ part.Alone → atom inside ts ≡ Ok (e, us)
    → (next us).kind ≡ kind.NewLine → ReadsExpr inside level.Expr (Ok ts) (Ok (e, us))
alone ts us e form is ends =
    let Reads : Level → Type 0 = λ l. ReadsExpr inside l (Ok ts) (Ok (e, us)) in
    let fact : Reads level.Fact = subst (λ o. ReadsExpr inside level.Fact (Ok ts) o) is (fact_alone {ts = ts} form) in
    let term : Reads level.Term = binary refl fact (no_more (none_at level.Term us ends)) in
    let sum : Reads level.Sum = binary refl term (no_more (none_at level.Sum us ends)) in
    let cmp : Reads level.Cmp = binary refl sum (no_more (none_at level.Cmp us ends)) in
    let conj : Reads level.And = binary refl cmp (no_more (none_at level.And us ends)) in
    binary refl conj (no_more (none_at level.Expr us ends))

abbrev assignment : tree.Statement
assignment = tree.set 4 (codes "a1") (tree.field 4)

assigns : ReadsStmt inside line_4 (Ok (assignment, line_5))
assigns =
    stmt_assign {e = Ok (tree.field 4, feed 4 ∷ line_5)} refl
    (alone (symbol 4 (kind.Word (word.Field 4)) (codes "p4") ∷ feed 4 ∷ line_5) (feed 4 ∷ line_5) (tree.field 4)
    refl refl refl)

abbrev sound : tree.Argument
sound = tree.value (tree.var (codes "a1"))

abbrev behind_out : List Symbol
behind_out = symbol 5 (kind.Word word.Name) (codes "a1") ∷ feed 5 ∷ line_6

takes_sound : ReadsArg inside role.Argument behind_out (Ok (sound, feed 5 ∷ line_6))
takes_sound =
    arg_value {o = Ok (tree.var (codes "a1"), feed 5 ∷ line_6)} refl
    (alone behind_out (feed 5 ∷ line_6) (tree.var (codes "a1")) refl refl refl)

takes_one : ReadsArgs inside (Ok behind_out) (Ok (sound ∷ [], feed 5 ∷ line_6))
takes_one = args_some refl (list_last {o = Ok (sound, feed 5 ∷ line_6)} takes_sound refl)

abbrev output : tree.Statement
output = tree.call 5 [] (callee.Opcode op.Out) (sound ∷ [])

outputs : ReadsStmt inside line_5 (Ok (output, line_6))
outputs = stmt_bare {args = Ok (sound ∷ [], feed 5 ∷ line_6)} refl takes_one

abbrev body : tree.Block
body = tree.andthen assignment (tree.andthen output tree.no_stmt)

reads_body : ReadsBlock inside (Ok line_4) (Ok (body, line_6))
reads_body =
    block_more {o = Ok (assignment, line_5)} {out = Ok (tree.andthen output tree.no_stmt, line_6)} refl assigns
    (block_more {o = Ok (output, line_6)} {out = Ok (tree.no_stmt, line_6)} refl outputs (block_end refl))

abbrev instrument : tree.Instrument
instrument = record { line = 3; numbers = 1 ∷ []; body = body }

reads_number : ReadsNumbers inside [] (symbol 3 (kind.Number (whole 1)) (codes "1") ∷ feed 3 ∷ line_4)
    (Ok (1 ∷ [], feed 3 ∷ line_4))
reads_number = last_item refl refl

reads_instrument : ReadsInstr [] [] line_3 (Ok (instrument, stop))
reads_instrument = instr {ns = Ok (1 ∷ [], feed 3 ∷ line_4)} {body = Ok (body, line_6)} reads_number reads_body

abbrev one_instrument : tree.Orchestra
one_instrument = record { head = []; opcodes = []; zero = tree.no_stmt; instrs = instrument ∷ [] }

abbrev with_ksmps : tree.Orchestra
with_ksmps = record one_instrument { head = record { line = 2; name = head.Ksmps; value = whole 1 } ∷ [] }

abbrev orchestra : tree.Orchestra
orchestra = record one_instrument {
  head =
      record { line = 1; name = head.Sr; value = whole 8 }
      ∷ record { line = 2; name = head.Ksmps; value = whole 1 } ∷ [];
}

from_line_3 : ReadsOrc [] [] (Ok line_3) (Ok (one_instrument, stop))
from_line_3 = orc_instr {o = Ok (instrument, stop)} refl reads_instrument (orc_end refl)

from_line_2 : ReadsOrc [] [] (Ok line_2) (Ok (with_ksmps, stop))
from_line_2 = orc_header {h = head.Ksmps} {out = Ok (one_instrument, stop)} refl from_line_3

from_line_1 : ReadsOrc [] [] (Ok line_1) (Ok (orchestra, stop))
from_line_1 = orc_header {h = head.Sr} {out = Ok (with_ksmps, stop)} refl from_line_2

parsed : Tree fourth_field tokens orchestra
parsed =
    (stop, subst (λ (ts : List Symbol). ReadsOrc [] [] (Ok ts) (Ok (orchestra, stop))) (sym symbols_are) from_line_1)

-- ITS TYPED FORM

abbrev typed_orchestra : typed.Orchestra
typed_orchestra = typed_of orchestra

expands : ◌≡◌ {A = Result tree.Orchestra Refusal} (Ok orchestra) (expanding orchestra)
expands = refl

types : ◌≡◌ {A = Result typed.Orchestra Refusal} (Ok typed_orchestra) (typed_form orchestra)
types = refl

read_as : IsReadAs (whole_file fourth_field) (Ok orchestra)
read_as = record { first = Ok tokens; first_is = lexed; after = parsed }

typed_as : IsTypedAs orchestra (Ok typed_orchestra)
typed_as = record { first = Ok orchestra; first_is = expands; after = types }

orchestra_is : orchestra_means (whole_file fourth_field) (Ok typed_orchestra)
orchestra_is = record { first = Ok orchestra; first_is = read_as; after = typed_as }

-- THE SCORE

abbrev eight_a_second : Head
eight_a_second =
    made 8 1 1 (whole 32768) (omega arith, omega arith) (omega arith, omega arith) (omega arith, omega arith)
    (omega arith)

abbrev statements : List ScoreStmt
statements = record { line = 1; what = Note 1 0 250000 (whole 100 ∷ []) } ∷ []

abbrev plot : Plot
plot = record {
  events = record { cycle = 0; line = 1; act = act.Start 1 2 (whole 1 ∷ pos 0 ∷ pos 16384 ∷ whole 100 ∷ []) } ∷ [];
  cycles = 2;
}

statements_are : ◌≡◌ {A = Result (List ScoreStmt) Refusal} (Ok statements)
    (refused_as why.Score (score_of (whole_file note_of_100)))
unfolding score_of
statements_are = refl

plotted_is : ◌≡◌ {A = Result Plot Refusal} (Ok plot) (plotted eight_a_second statements)
unfolding first_at numbers_of different in_order put acts_of events_along events_from cycle_at length_of sections_of
    tempo_of cycle_of seconds_of time_along part_of ramp_time beat_length
plotted_is = refl

score_is : score_means eight_a_second (whole_file note_of_100) (Ok plot)
score_is = record { first = Ok statements; first_is = statements_are; after = plotted_is }

-- THE PIECE

abbrev piece : Composition
piece = composition typed_orchestra plot

piece_is : (width : SampleWidth)
    → ◌≡◌ {A = Result Composition Refusal} (Ok piece) (piece_of width typed_orchestra eight_a_second plot)
piece_is TwoBytes = refl
piece_is ThreeBytes = refl

played_as : (width : SampleWidth) → IsPlayedAs width (whole_file note_of_100) typed_orchestra eight_a_second (Ok piece)
played_as width = record { first = Ok plot; first_is = score_is; after = piece_is width }

plays : (width : SampleWidth) → orchestra_plays width (whole_file note_of_100) typed_orchestra (Ok piece)
plays width = record { first = Ok eight_a_second; first_is = refl; after = played_as width }

short_is : (width : SampleWidth) → short_texts_mean width (whole_file fourth_field) (whole_file note_of_100) (Ok piece)
short_is width = record { first = Ok typed_orchestra; first_is = orchestra_is; after = plays width }

texts_mean : (width : SampleWidth) → means width (whole_file fourth_field) (whole_file note_of_100) (Ok piece)
texts_mean width = record {
  first = Ok (whole_file fourth_field);
  first_is = refl;
  after = record { first = Ok (whole_file note_of_100); first_is = refl; after = short_is width };
}

heard : frames_of piece ≡ whole 100 ∷ whole 100 ∷ []
heard = refl

pub sounds : (width : SampleWidth)
    → (c : Composition) × means width (whole_file fourth_field) (whole_file note_of_100) (Ok c)
    × (c.head ≡ record { sr = 8; ksmps = 1; nchnls = 1; dbfs = whole 32768 })
    × (frames_of c ≡ whole 100 ∷ whole 100 ∷ [])
sounds width = (piece, texts_mean width, refl, heard)

-- A REFUSAL because of a fault in the tokens of the orchestra

module _ (width : SampleWidth) (orchestra score : Excerpt) (f : OrcFault)
    (orchestra_short : Ok orchestra ≡ no_longer_than limit.OrchestraBytes orchestra)
    (score_short : Ok score ≡ no_longer_than limit.ScoreBytes score) (fault : LexFault orchestra f.line f.kind) where
  not_read : IsReadAs orchestra (Err (why.Orc f))
  not_read = record { first = Err (why.Orc f); first_is = fault; after = refl }

  not_meant : orchestra_means orchestra (Err (why.Orc f))
  not_meant = record { first = Err (why.Orc f); first_is = not_read; after = refl }

  pub fault_meant : means width orchestra score (Err (why.Orc f))
  fault_meant = record {
    first = Ok orchestra;
    first_is = orchestra_short;
    after = record {
      first = Ok score;
      first_is = score_short;
      after = record { first = Err (why.Orc f); first_is = not_meant; after = refl };
    };
  }

stray : (first : ℕ) → LexFault (excerpt first stray_byte) (1 + first) orc.BadToken
stray first = refuses first 40 stray_byte _ _ _ _ refl refl refl

-- in a text that begins on any line of its file
pub is_refused : (first : ℕ) (width : SampleWidth)
    → means width (excerpt first stray_byte) (whole_file note_of_100)
    (Err (why.Orc (record { line = 1 + first; kind = orc.BadToken })))
is_refused first width =
    fault_meant width (excerpt first stray_byte) (whole_file note_of_100)
    (record { line = 1 + first; kind = orc.BadToken }) refl refl (stray first)

-- a text whose first byte begins no token, on any line of its file
pub first_line_refused : (first : ℕ) (width : SampleWidth) (score : Excerpt)
    → Ok score ≡ no_longer_than limit.ScoreBytes score
    → means width (excerpt first (codes "@\n")) score (Err (why.Orc (record { line = first; kind = orc.BadToken })))
first_line_refused first width score short =
    fault_meant width (excerpt first (codes "@\n")) score (record { line = first; kind = orc.BadToken }) refl short
    (refuses first 9 (codes "@\n") _ _ _ _ refl refl (let here : first ≡ 0 + first = omega arith in here))
