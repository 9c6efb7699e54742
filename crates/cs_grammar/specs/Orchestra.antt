-- Instruments, definitions and statements outside them; the tree of an entire text, or its first fault.
use Rattle.std.specs.Prelude.{ℕ, Bool, true, false, List, [], ◌∷◌, ◌++◌, ◌≡◌, ◌≢◌, length, Ok, Err, if◌then◌else◌}
use Rattle.cs_base.specs.{declared.fault.OrcFault.OrcFault, declared.fault.OrcKind.OrcKind, declared.resource.Rate.Rate}
use Rattle.cs_lex.specs.declared.token.Token.{Token}
use Rattle.cs_words.specs.declared.word.HeadName.{HeadName}
use Rattle.cs_grammar.specs.{declared.tree.HeadLine.HeadLine, declared.orc.ItemForm.ItemForm, Headings.Heading}
use Rattle.cs_grammar.specs.{Headings.heading, Inputs.ReadsInputs, Lines.header_line, Lines.ReadsNumbers}
use Rattle.cs_grammar.specs.Tree.{Argument, Statement, Block, no_stmt, andthen, Instrument, Definition, Orchestra}
use Rattle.cs_grammar.specs.Reading.{Left, Reading, left, both, three, next_is, Scope, outside, in_instrument}
use Rattle.cs_grammar.specs.Reading.{in_definition, fault, misfit, through, ended}
use Rattle.cs_grammar.specs.Grammar.{ReadsList, ReadsStmt, ReadsBlock}
use Rattle.cs_grammar.specs.declared.symbol.Kind.{Kind}
use Rattle.cs_grammar.specs.Symbols.{Symbol, symbols, next, after}
use Rattle.cs_base.specs.declared.fault.OrcKind.TheVariants as orc
use Rattle.cs_grammar.specs.declared.symbol.Kind.TheVariants as kind
use Rattle.cs_words.specs.declared.word.Keyword.TheVariants as key
use Rattle.cs_words.specs.declared.word.Word.TheVariants as word
use Rattle.cs_grammar.specs.declared.symbol.Expected.TheVariants as expected
use Rattle.cs_grammar.specs.declared.lists.Role.TheVariants as role
use Rattle.cs_grammar.specs.declared.orc.ItemForm.TheVariants as item

-- an instrument with these fields
abbrev pub instrument_of : ℕ → List ℕ → Block → Instrument
instrument_of line ns body = record { line = line; numbers = ns; body = body }

-- instr: an instrument, given the opcodes that are defined and the numbers that are used before it
pub data ReadsInstr (defined : List (List ℕ)) (given : List ℕ) : List Symbol → Reading Instrument → Type 0 where
  instr : {ts : List Symbol} {ns : Reading (List ℕ)} {body : Reading Block}
      → ReadsNumbers (in_instrument defined) given (after ts) ns
      → ReadsBlock (in_instrument defined) (left (ended (in_instrument defined) ns)) body
      → ReadsInstr defined given ts
      (ended (outside defined)
      (through (in_instrument defined) expected.Endin (both (instrument_of (next ts).line) ns body)))

-- the fault if a symbol other than `endop` follows the line of `xout`: the end of the text, or any other
-- symbol
abbrev pub behind_xout : Scope → List Symbol → OrcFault
behind_xout s ts = if next_is expected.End ts then misfit s orc.Unexpected ts else fault ts orc.XinXout

-- The line of `xout`: its values.
pub data ReadsXout (s : Scope) (ts : List Symbol) : Reading (List Argument) → Type 0 where
  xout : {values : Reading (List Argument)} → ReadsList s role.Result (Ok (after ts)) values
      → ReadsXout s ts (ended s values)

-- The results of a definition, up to `endop`: one value for each result, in the last line.
pub data ReadsResult (s : Scope) (outs : List Rate) : Left → Reading (List Argument) → Type 0 where
  result_stop : {f : OrcFault} → ReadsResult s outs (Err f) (Err f)
  no_result : {ts : List Symbol} → next_is expected.Xout ts ≡ false → outs ≡ []
      → ReadsResult s outs (Ok ts) (Ok ([], ts))
  xout_missing : {ts : List Symbol} → next_is expected.Xout ts ≡ false → outs ≢ []
      → ReadsResult s outs (Ok ts) (Err (fault ts orc.XinXout))
  xout_broken : {ts : List Symbol} {f : OrcFault} → next_is expected.Xout ts ≡ true → ReadsXout s ts (Err f)
      → ReadsResult s outs (Ok ts) (Err f)
  xout_uneven : {ts us : List Symbol} {vs : List Argument} → next_is expected.Xout ts ≡ true
      → ReadsXout s ts (Ok (vs, us))
      → length vs ≢ length outs → ReadsResult s outs (Ok ts) (Err (fault ts orc.XinXout))
  xout_last : {ts us : List Symbol} {vs : List Argument} → next_is expected.Xout ts ≡ true
      → ReadsXout s ts (Ok (vs, us))
      → length vs ≡ length outs → next_is expected.Endop us ≡ true → ReadsResult s outs (Ok ts) (Ok (vs, us))
  xout_not_last : {ts us : List Symbol} {vs : List Argument} → next_is expected.Xout ts ≡ true
      → ReadsXout s ts (Ok (vs, us))
      → length vs ≡ length outs → next_is expected.Endop us ≡ false
      → ReadsResult s outs (Ok ts) (Err (behind_xout s us))

-- a definition with this heading and these parts
abbrev pub definition_of : Heading → List (List ℕ) → Block → List Argument → Definition
definition_of h names body result = record {
  line = h.line;
  name = h.name;
  outs = h.outs;
  ins = h.ins;
  names = names;
  body = body;
  result = result;
}

-- the scope in the definition with this heading
abbrev pub own_scope : List (List ℕ) → Heading → Scope
own_scope defined h = in_definition h.name defined

-- udo: a definition may call the opcodes that are defined before it
pub data ReadsDefinition (defined : List (List ℕ)) : List Symbol → Reading Definition → Type 0 where
  no_heading : {ts : List Symbol} {f : OrcFault}
      → heading (in_definition [] defined) (next ts).line (after ts) ≡ Err f
      → ReadsDefinition defined ts (Err f)
  udo : {ts us : List Symbol} {h : Heading} {names : Reading (List (List ℕ))} {body : Reading Block}
      {result : Reading (List Argument)}
      → heading (in_definition [] defined) (next ts).line (after ts) ≡ Ok (h, us)
      → ReadsInputs (own_scope defined h) h us names → ReadsBlock (own_scope defined h) (left names) body
      → ReadsResult (own_scope defined h) h.outs (left body) result
      → ReadsDefinition defined ts
      (ended (outside defined)
      (through (own_scope defined h) expected.Endop (three (definition_of h) names body result)))

-- the form of an item outside instruments and definitions
abbrev pub item_form_of : Kind → Bool → ItemForm
item_form_of kind.End _ = item.End
item_form_of (kind.Word (word.Header h)) true = item.Header h
item_form_of (kind.Word (word.Keyword key.Instr)) _ = item.Instr
item_form_of (kind.Word (word.Keyword key.Opcode)) _ = item.Opcode
item_form_of _ _ = item.Statement

-- the form of the next item
abbrev pub item_form : List Symbol → ItemForm
item_form ts = item_form_of (next ts).kind (next_is expected.Equals (after ts))

-- an empty orchestra
abbrev pub nothing : Orchestra
nothing = record { head = []; opcodes = []; zero = no_stmt; instrs = [] }

-- an orchestra with a header line in front
abbrev pub with_header : HeadLine → Orchestra → Orchestra
with_header h o = record { head = h ∷ o.head; opcodes = o.opcodes; zero = o.zero; instrs = o.instrs }

-- an orchestra with an instrument in front
abbrev pub with_instr : Instrument → Orchestra → Orchestra
with_instr i o = record { head = o.head; opcodes = o.opcodes; zero = o.zero; instrs = i ∷ o.instrs }

-- an orchestra with a definition in front
abbrev pub with_definition : Definition → Orchestra → Orchestra
with_definition d o = record { head = o.head; opcodes = d ∷ o.opcodes; zero = o.zero; instrs = o.instrs }

-- an orchestra with an outside statement in front
abbrev pub with_stmt : Statement → Orchestra → Orchestra
with_stmt x o = record { head = o.head; opcodes = o.opcodes; zero = andthen x o.zero; instrs = o.instrs }

-- the opcodes that are defined after a definition was read
abbrev pub defined_by : List (List ℕ) → Reading Definition → List (List ℕ)
defined_by defined (Ok (d, ts)) = defined ++ d.name ∷ []
defined_by defined (Err f) = defined

-- the instrument numbers that are used after an instrument was read
abbrev pub given_by : List ℕ → Reading Instrument → List ℕ
given_by given (Ok (i, ts)) = given ++ i.numbers
given_by given (Err f) = given

-- orc: an orchestra, given the opcodes that are defined and the instrument numbers that are used before it
pub data ReadsOrc : List (List ℕ) → List ℕ → Left → Reading Orchestra → Type 0 where
  orc_stop : {d : List (List ℕ)} {g : List ℕ} {f : OrcFault} → ReadsOrc d g (Err f) (Err f)
  orc_end : {d : List (List ℕ)} {g : List ℕ} {ts : List Symbol} → item_form ts ≡ item.End
      → ReadsOrc d g (Ok ts) (Ok (nothing, ts))
  orc_header : {d : List (List ℕ)} {g : List ℕ} {ts : List Symbol} {h : HeadName} {out : Reading Orchestra}
      → item_form ts ≡ item.Header h → ReadsOrc d g (left (header_line (outside d) h ts)) out
      → ReadsOrc d g (Ok ts) (both with_header (header_line (outside d) h ts) out)
  orc_instr : {d : List (List ℕ)} {g : List ℕ} {ts : List Symbol} {o : Reading Instrument} {out : Reading Orchestra}
      → item_form ts ≡ item.Instr → ReadsInstr d g ts o → ReadsOrc d (given_by g o) (left o) out
      → ReadsOrc d g (Ok ts) (both with_instr o out)
  orc_udo : {d : List (List ℕ)} {g : List ℕ} {ts : List Symbol} {o : Reading Definition} {out : Reading Orchestra}
      → item_form ts ≡ item.Opcode → ReadsDefinition d ts o → ReadsOrc (defined_by d o) g (left o) out
      → ReadsOrc d g (Ok ts) (both with_definition o out)
  orc_stmt : {d : List (List ℕ)} {g : List ℕ} {ts : List Symbol} {o : Reading Statement} {out : Reading Orchestra}
      → item_form ts ≡ item.Statement → ReadsStmt (outside d) ts o → ReadsOrc d g (left o) out
      → ReadsOrc d g (Ok ts) (both with_stmt o out)

-- the reading of all tokens of a text
abbrev pub Parses : List ℕ → List Token → Reading Orchestra → Type 0
Parses source tokens out = ReadsOrc [] [] (Ok (symbols source tokens)) out

-- the tree of a text's tokens
abbrev pub Tree : List ℕ → List Token → Orchestra → Type 0
Tree source tokens orc = (rest : List Symbol) × Parses source tokens (Ok (orc, rest))

-- the first fault of a text's tokens
abbrev pub ParseFault : List ℕ → List Token → ℕ → OrcKind → Type 0
ParseFault source tokens line kind = Parses source tokens (Err (record { line = line; kind = kind }))
