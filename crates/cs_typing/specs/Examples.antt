-- Short notation for small orchestras that are checked with the definitions.
use Rattle.std.specs.Prelude.{ℕ, ◌*◌, ℤ, pos, List, [], ◌∷◌, Option, Some}
use Rattle.cs_base.specs.{declared.fault.OrcFault.OrcFault, declared.fault.OrcKind.OrcKind}
use Rattle.cs_words.specs.{declared.catalogue.Opcode.Opcode, declared.word.HeadName.HeadName}
use Rattle.cs_grammar.specs.declared.tree.HeadLine.{HeadLine}
use Rattle.cs_grammar.specs.Tree.{Expression, number, pair, Argument, value, Statement, call, choose, Block, no_stmt}
use Rattle.cs_grammar.specs.Tree.{andthen, otherwise, arm, Instrument, Orchestra}
use Rattle.cs_words.specs.declared.catalogue.Opcode.TheVariants as opcode
use Rattle.cs_words.specs.declared.sign.BinOp.TheVariants as op
use Rattle.cs_words.specs.declared.word.HeadName.TheVariants as head
use Rattle.cs_grammar.specs.declared.tree.Callee.TheVariants as callee

-- a header line
abbrev pub line : ℕ → HeadName → ℤ → HeadLine
line k name v = record { line = k; name = name; value = v }

-- an instrument with one number
abbrev pub instr : ℕ → ℕ → Block → Instrument
instr k n b = record { line = k; numbers = n ∷ []; body = b }

-- an orchestra without definitions
abbrev pub orchestra : List HeadLine → Block → List Instrument → Orchestra
orchestra hs outside is = record { head = hs; opcodes = []; zero = outside; instrs = is }

-- an integer in 65,536ths
abbrev pub whole : ℕ → ℤ
whole n = pos (n * 65536)

-- an integer as a literal
abbrev pub lit : ℕ → Expression
lit n = number (whole n)

-- a block of one statement
abbrev pub one : Statement → Block
one s = andthen s no_stmt

-- a block of two statements
abbrev pub two : Statement → Statement → Block
two s t = andthen s (andthen t no_stmt)

-- an orchestra with one instrument, on line 1, which has these statements
abbrev pub body_of : Block → Orchestra
body_of b = orchestra [] no_stmt (instr 1 1 b ∷ [])

-- an orchestra with this one statement outside instruments
abbrev pub outside_of : Statement → Orchestra
outside_of s = orchestra [] (one s) []

-- a call of an opcode on line k
abbrev pub calls : ℕ → List (List ℕ) → Opcode → List Argument → Statement
calls k results o args = call k results (callee.Opcode o) args

-- a broken rule on line k
abbrev pub broken : ℕ → OrcKind → Option OrcFault
broken k kind = Some (record { line = k; kind = kind })

-- header lines: eight frames per second and four per cycle
abbrev pub eight_by_four : List HeadLine
eight_by_four = line 1 head.Sr (whole 8) ∷ line 2 head.Ksmps (whole 4) ∷ []

-- header lines with the three settings that depend on one another
abbrev pub three : ℤ → List HeadLine
three kr = line 1 head.Sr (whole 44100) ∷ line 2 head.Kr kr ∷ line 3 head.Ksmps (whole 32) ∷ []

-- a `zakinit` with two sizes
abbrev pub zak : ℕ → Argument → Argument → Statement
zak k a b = calls k [] opcode.Zakinit (a ∷ b ∷ [])

-- a `zakinit` with the sizes 1 and 2
abbrev pub zak_of_one_and_two : ℕ → Statement
zak_of_one_and_two k = zak k (value (lit 1)) (value (lit 2))

-- a `zakinit` inside an `if`
abbrev pub zak_in_an_if : Orchestra
zak_in_an_if =
    outside_of (choose 1 (arm (pair op.Less (lit 1) (lit 0)) (one (zak_of_one_and_two 2)) (otherwise no_stmt)))
