-- The results of the parser's calls, as readings.
use Rattle.std.specs.Prelude.{ℕ, List, [], ◌++◌, ◌≡◌, Result, Ok, Err, if◌then◌else◌, map, box_value}
use Rattle.std.specs.Global.{Box}
use Rattle.cs_base.specs.{declared.fault.Or.Or, declared.fault.OrcFault.OrcFault, declared.resource.Rate.Rate}
use Rattle.cs_grammar.specs.{declared.symbol.Kind.Kind, declared.symbol.Expected.Expected}
use Rattle.cs_grammar.specs.Symbols.{Symbol, next, after}
use Rattle.cs_grammar.specs.{declared.tree.Expr.Expr, declared.tree.StmtWhat.StmtWhat}
use Rattle.cs_grammar.specs.{declared.definition.Inside.Inside, declared.orc.Draft.Draft, Headings.Heading}
use Rattle.cs_grammar.specs.{Headings.types, inner.Takes.inputs}
use Rattle.cs_grammar.specs.Tree.{of_what, joins, orchestra, Expression, expression, Argument, argument, Block, block}
use Rattle.cs_grammar.specs.Tree.{Definition, Orchestra}
use Rattle.cs_grammar.specs.Reading.{Scope, outside, misfit, Left, Reading, left, both, three, mapped, next_is, through}
use Rattle.cs_grammar.specs.Reading.{ended}
use Rattle.cs_grammar.specs.Grammar.{ReadsExpr, ReadsStmt, ReadsBlock}
use Rattle.cs_grammar.specs.Orchestra.{ReadsOrc, ReadsResult, behind_xout, definition_of}
use Rattle.cs_base.specs.declared.fault.Or.TheVariants as or
use Rattle.cs_base.specs.declared.fault.OrcKind.TheVariants as orc
use Rattle.cs_grammar.specs.declared.symbol.Kind.TheVariants as kind
use Rattle.cs_grammar.specs.declared.symbol.Expected.TheVariants as expected
use Rattle.cs_grammar.specs.declared.expr.Level.TheVariants as level

-- The result of a parser's call: a reading that satisfies `Is`, with the parser's remaining symbols. Out of
-- memory claims nothing.
abbrev pub Gives : {T A : Type 0} → (T → A) → Result T (Or OrcFault) → List Symbol → (Reading A → Type 0) → Type 0
Gives see (Ok x) rest Is = Is (Ok (see x, rest))
Gives see (Err (or.Fault f)) rest Is = Is (Err f)
Gives see (Err or.OutOfMemory) rest Is = Unit {0}

-- the same for a call whose only result is the remaining symbols
abbrev pub Passes : {T : Type 0} → Result T (Or OrcFault) → List Symbol → Left → Type 0
Passes (Ok x) rest st = st ≡ Ok rest
Passes (Err (or.Fault f)) rest st = st ≡ Err f
Passes (Err or.OutOfMemory) rest st = Unit {0}

-- the symbols after the expected one, or the fault
abbrev pub past : Scope → Expected → List Symbol → Left
past s e ts = if next_is e ts then Ok (after ts) else Err (misfit s orc.Unexpected ts)

-- the symbols after the end of a line, or the fault, by the kind of the next symbol
abbrev pub line_past : Scope → Kind → List Symbol → Left
line_past s kind.NewLine ts = Ok (after ts)
line_past s kind.End ts = Ok ts
line_past s _ ts = Err (misfit s orc.Unexpected ts)

-- the symbols from `endop` on, or the fault
abbrev pub last_left : Scope → List Symbol → Left
last_left s ts = if next_is expected.Endop ts then Ok ts else Err (behind_xout s ts)

-- a statement that begins at these symbols, without the end of its line
abbrev pub GivesLine : Scope → List Symbol → Result StmtWhat (Or OrcFault) → List Symbol → Type 0
GivesLine s ts result rest = Gives (of_what (next ts).line) result rest (λ o. ReadsStmt s ts (ended s o))

-- the results and the inputs of a definition, with the end of the line
abbrev pub signature : Scope → List Symbol → Reading (List Rate × List Rate)
signature s ts =
    let outs = types s (Ok ts) in
    ended s (both (λ x y. (x, y)) outs (types s (left (through s expected.Comma outs))))

-- the expression in a box
abbrev pub in_box : Box Expr → Expression
in_box b = expression (box_value b)

-- an expression, followed by the expected symbol
abbrev pub IsClosed : Scope → Expected → List Symbol → Reading Expression → Type 0
IsClosed s end ts o = (c : Reading Expression) × ReadsExpr s level.Expr (Ok ts) c × (o ≡ through s end c)

-- a condition, followed by `then` and the end of the line
abbrev pub IsCondition : Scope → List Symbol → Reading Expression → Type 0
IsCondition s ts o = (c : Reading Expression) × ReadsExpr s level.Expr (Ok ts) c
    × (o ≡ ended s (through s expected.Then c))

-- the statements of an instrument, followed by the line of `endin`
abbrev pub IsInstrBody : Scope → List (List ℕ) → List Symbol → Reading Block → Type 0
IsInstrBody s d ts o = (b : Reading Block) × ReadsBlock s (Ok ts) b
    × (o ≡ ended (outside d) (through s expected.Endin b))

-- the names of a definition's inputs, its statements, and its results
abbrev pub Parts : Type 0
Parts = List (List ℕ) × Block × List Argument

-- the mirror of the parts of a definition
abbrev pub inside : Inside → Parts
inside p = (p.names, block p.body.items, map argument p.given.items)

-- the definition with this heading and these parts
abbrev pub of_inside : Heading → Parts → Definition
of_inside h p = definition_of h p.0 p.1 p.2

-- the parts of a definition: the line of `xin`, the statements, and the line of `xout`
abbrev pub IsInside : Scope → Heading → List Symbol → Reading Parts → Type 0
IsInside s h ts o =
    (n : Reading (List (List ℕ))) × (b : Reading Block) × (r : Reading (List Argument)) × (inputs s h ts ≡ n)
    × ReadsBlock s (left n) b × ReadsResult s h.outs (left b) r × (o ≡ three (λ x y z. (x, y, z)) n b r)

-- the parts of a definition, followed by the line of `endop`
abbrev pub IsLines : Scope → List (List ℕ) → Heading → List Symbol → Reading Parts → Type 0
IsLines s d h ts o = (p : Reading Parts) × IsInside s h ts p × (o ≡ ended (outside d) (through s expected.Endop p))

-- an arm: its condition and its statements
abbrev pub IsArm : Scope → List Symbol → Reading (Expression × Block) → Type 0
IsArm s ts o =
    (c : Reading Expression) × (b : Reading Block) × ReadsExpr s level.Expr (Ok ts) c
    × ReadsBlock s (left (ended s (through s expected.Then c))) b × (o ≡ both (λ x y. (x, y)) c b)

-- two orchestras, one after the other
abbrev pub joined : Orchestra → Orchestra → Orchestra
joined p q = record {
  head = p.head ++ q.head;
  opcodes = p.opcodes ++ q.opcodes;
  zero = joins p.zero q.zero;
  instrs = p.instrs ++ q.instrs;
}

-- every reading of the remaining items, with the items so far in front, is a reading of the entire orchestra
abbrev pub OrcSoFar : List Symbol → Orchestra → List (List ℕ) → List ℕ → List Symbol → Type 0
OrcSoFar first o d g now =
    (out : Reading Orchestra) → ReadsOrc d g (Ok now) out → ReadsOrc [] [] (Ok first) (mapped (joined o) out)

-- the draft holds the items that were read so far
abbrev pub IsDraft : List Symbol → Draft → List Symbol → Type 0
IsDraft first d now = OrcSoFar first (orchestra d.orc) d.defined d.given.keys now

-- a call that continues a reading: it has read the next part, or has found the fault of the entire text
abbrev pub ReadsOn : {T : Type 0} → Result T (Or OrcFault) → List Symbol → Type 0 → Type 0
ReadsOn (Ok x) first so_far = so_far
ReadsOn (Err (or.Fault f)) first so_far = ReadsOrc [] [] (Ok first) (Err f)
ReadsOn (Err or.OutOfMemory) first so_far = Unit {0}
