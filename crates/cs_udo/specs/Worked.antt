-- Orchestras with user-defined opcodes and their expansions, worked out by hand.
use Rattle.std.specs.Prelude.{ℕ, ◌*◌, pos, List, [], ◌∷◌, codes}
use Rattle.cs_base.specs.declared.resource.Rate.{Rate}
use Rattle.cs_base.specs.declared.resource.Rate.TheVariants as rate
use Rattle.cs_words.specs.declared.sign.BinOp.TheVariants as op
use Rattle.cs_words.specs.declared.catalogue.Opcode.{Opcode}
use Rattle.cs_words.specs.declared.catalogue.Opcode.TheVariants as opcode
use Rattle.cs_grammar.specs.declared.tree.Callee.TheVariants as callee
use Rattle.cs_grammar.specs.Tree.{Expression, number, var, field, pair, Argument, value, text, Statement, set, call}
use Rattle.cs_grammar.specs.Tree.{Block, no_stmt, andthen, Definition, Instrument, Orchestra}

-- the integer n as a literal
abbrev pub literal : ℕ → Expression
literal n = number (pos (n * 65536))

-- a variable as an argument
abbrev pub variable : List ℕ → Argument
variable name = value (var name)

-- a list of statements as a block
abbrev pub statements : List Statement → Block
statements [] = no_stmt
statements (x ∷ rest) = andthen x (statements rest)

-- the name k1
abbrev pub k1 : List ℕ
k1 = codes "k1"

-- the name k2
abbrev pub k2 : List ℕ
k2 = codes "k2"

-- the name k3
abbrev pub k3 : List ℕ
k3 = codes "k3"

-- the name a1
abbrev pub a1 : List ℕ
a1 = codes "a1"

-- a call of a user-defined opcode
abbrev pub own : ℕ → List (List ℕ) → List ℕ → List Argument → Statement
own line results name args = call line results (callee.Name name) args

-- a call of an opcode of the catalogue
abbrev pub known : ℕ → List (List ℕ) → Opcode → List Argument → Statement
known line results o args = call line results (callee.Opcode o) args

-- a definition with these result rates, input rates, input names and statements
abbrev pub opcode_of : ℕ → List ℕ → List Rate → List Rate → List (List ℕ) → List Statement → List Argument → Definition
opcode_of line name outs ins names list result = record {
  line = line;
  name = name;
  outs = outs;
  ins = ins;
  names = names;
  body = statements list;
  result = result;
}

-- a definition with one result and one input of the same rate
abbrev pub of_one : ℕ → List ℕ → Rate → List ℕ → List Statement → Argument → Definition
of_one line name r input list given = opcode_of line name (r ∷ []) (r ∷ []) (input ∷ []) list (given ∷ [])

-- an orchestra of definitions, statements outside instruments, and instruments
abbrev orchestra_of : List Definition → List Statement → List Instrument → Orchestra
orchestra_of definitions outside instrs =
    record { head = []; opcodes = definitions; zero = statements outside; instrs = instrs }

-- an orchestra with one instrument, number 1, with these statements
abbrev pub instrument_1 : List Definition → List Statement → Orchestra
instrument_1 definitions body =
    orchestra_of definitions [] (record { line = 8; numbers = 1 ∷ []; body = statements body } ∷ [])

-- opcode Twice, k, k / k1 xin / xout k1 * 2 / endop
abbrev pub twice : Definition
twice = of_one 4 (codes "Twice") rate.Control k1 [] (value (pair op.Mul (var k1) (literal 2)))

-- k1 Twice p4
abbrev pub one_call : Statement
one_call = own 9 (k1 ∷ []) (codes "Twice") (value (field 4) ∷ [])

-- a1 = k2 / out a1
abbrev sounds_k2 : List Statement
sounds_k2 = set 11 a1 (var k2) ∷ known 12 [] opcode.Out (variable a1 ∷ []) ∷ []

-- k1 Twice p4 / k2 Twice k1 / a1 = k2 / out a1
abbrev pub calls_twice : List Statement
calls_twice = one_call ∷ own 10 (k2 ∷ []) (codes "Twice") (variable k1 ∷ []) ∷ sounds_k2

-- two calls, two frames: `k1` in the instrument, in the first call and in the second call are three variables
abbrev pub twice_expanded : List Statement
twice_expanded = set 9 (codes "k.1.k1") (field 4)
    ∷ set 4 (codes "k.1.k.") (pair op.Mul (var (codes "k.1.k1")) (literal 2))
    ∷ set 9 k1 (var (codes "k.1.k."))
    ∷ set 10 (codes "k.01.k1") (var k1)
    ∷ set 4 (codes "k.01.k.") (pair op.Mul (var (codes "k.01.k1")) (literal 2))
    ∷ set 10 k2 (var (codes "k.01.k.")) ∷ sounds_k2

-- opcode Four, k, k / k1 xin / k2 Twice k1 / k3 Twice k2 / xout k3 / endop
abbrev pub four : Definition
four = of_one 5 (codes "Four") rate.Control k1
    (own 6 (k2 ∷ []) (codes "Twice") (variable k1 ∷ []) ∷ own 7 (k3 ∷ []) (codes "Twice") (variable k2 ∷ []) ∷ [])
    (variable k3)

-- k1 Four p4
abbrev pub calls_four : List Statement
calls_four = own 9 (k1 ∷ []) (codes "Four") (value (field 4) ∷ []) ∷ []

-- the call has frame 1, and the two calls in it have frames 2 and 3, in binary digits 01 and 11
abbrev pub four_expanded : List Statement
four_expanded = set 9 (codes "k.1.k1") (field 4)
    ∷ set 6 (codes "k.01.k1") (var (codes "k.1.k1"))
    ∷ set 4 (codes "k.01.k.") (pair op.Mul (var (codes "k.01.k1")) (literal 2))
    ∷ set 6 (codes "k.1.k2") (var (codes "k.01.k."))
    ∷ set 7 (codes "k.11.k1") (var (codes "k.1.k2"))
    ∷ set 4 (codes "k.11.k.") (pair op.Mul (var (codes "k.11.k1")) (literal 2))
    ∷ set 7 (codes "k.1.k3") (var (codes "k.11.k."))
    ∷ set 5 (codes "k.1.k.") (var (codes "k.1.k3"))
    ∷ set 9 k1 (var (codes "k.1.k.")) ∷ []

-- opcode Count, k, 0 / k1 init 0 / k1 = k1 + 1 / xout k1 / endop
abbrev counts_in : List ℕ → List Statement → List Statement
counts_in name rest = known 4 (name ∷ []) opcode.Init (value (literal 0) ∷ [])
    ∷ set 5 name (pair op.Add (var name) (literal 1)) ∷ rest

-- the definition of Count
abbrev pub count : Definition
count = opcode_of 3 (codes "Count") (rate.Control ∷ []) [] [] (counts_in k1 []) (variable k1 ∷ [])

-- k1 Count / k2 Count
abbrev pub calls_count : List Statement
calls_count = own 9 (k1 ∷ []) (codes "Count") [] ∷ own 10 (k2 ∷ []) (codes "Count") [] ∷ []

-- each call counts separately
abbrev pub count_expanded : List Statement
count_expanded = counts_in (codes "k.1.k1") (set 3 (codes "k.1.k.") (var (codes "k.1.k1"))
    ∷ set 9 k1 (var (codes "k.1.k."))
    ∷ counts_in (codes "k.01.k1") (set 3 (codes "k.01.k.") (var (codes "k.01.k1"))
    ∷ set 10 k2 (var (codes "k.01.k.")) ∷ []))

-- a call with one argument too many, which is a text
abbrev pub wrong_call : Statement
wrong_call = own 9 (k1 ∷ []) (codes "Twice") (value (field 4) ∷ text (codes "a") ∷ [])

-- a call with a text instead of its number
abbrev pub text_call : Statement
text_call = own 9 (k1 ∷ []) (codes "Twice") (text (codes "a") ∷ [])

-- a definition that is never called, with a wrong call in it
abbrev pub uncalled : Definition
uncalled = opcode_of 6 (codes "Unused") [] [] [] (own 7 [] (codes "Twice") (value (field 4) ∷ []) ∷ []) []

-- an orchestra that calls Twice outside instruments
abbrev pub called_outside : List Definition → Orchestra
called_outside definitions =
    orchestra_of definitions (own 7 (codes "i1" ∷ []) (codes "Twice") (value (literal 1) ∷ []) ∷ []) []
