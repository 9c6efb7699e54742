-- Properties of every tree of a text: ranges, names, the contexts of calls, and the order of lines.
use Rattle.std.specs.Prelude.{ℕ, true, false, List, [], ◌∷◌, ◌++◌, ◌≡◌, ◌≢◌, ◌≤◌, ◌<◌, ◌+◌, length, map}
use Rattle.std.specs.{Str.byte, List.All, List.AllPairs}
use Rattle.cs_words.specs.{declared.catalogue.Opcode.Opcode, Catalogue.row_of}
use Rattle.cs_base.specs.Limits.{greatest_field, greatest_instrument, most_nested_ifs}
use Rattle.cs_words.specs.Names.{is_name, is_global, name_rate}
use Rattle.cs_grammar.specs.{declared.scope.Place.Place, declared.tree.Callee.Callee, Tree.Instrument, Tree.Definition}
use Rattle.cs_grammar.specs.{Tree.Orchestra, declared.tree.HeadLine.HeadLine, Inputs.AreDifferent}
use Rattle.cs_grammar.specs.Tree.{Expression, number, var, field, head, neg, pair, pick, apply, Argument, value, text}
use Rattle.cs_grammar.specs.Tree.{Statement, set, call, choose, Block, no_stmt, andthen, Arms, otherwise, arm}
use Rattle.cs_grammar.specs.Orchestra.{nothing, with_header, with_instr, with_definition, with_stmt}
use Rattle.cs_words.specs.declared.catalogue.Opcode.TheVariants as opcode
use Rattle.cs_grammar.specs.declared.scope.Place.TheVariants as place
use Rattle.cs_grammar.specs.declared.tree.Callee.TheVariants as callee

-- a name without a full stop: a name with one can't come from a text
abbrev pub HasNoStop : List ℕ → Type 0
HasNoStop n = All (λ b. b ≢ byte ".") n

-- a variable's name: it begins with the letter of its rate, optionally after a g
abbrev pub IsVariable : List ℕ → Type 0
IsVariable n = (is_name n ≡ true) × HasNoStop n

-- an expression whose variables are valid names, and whose fields are p1 to p100
abbrev pub WellFormedExpr : Expression → Type 0
WellFormedExpr (number v) = Unit {0}
WellFormedExpr (var n) = IsVariable n
WellFormedExpr (field k) = (1 ≤ k) × (k ≤ greatest_field)
WellFormedExpr (head h) = Unit {0}
WellFormedExpr (neg a) = WellFormedExpr a
WellFormedExpr (pair op a b) = WellFormedExpr a × WellFormedExpr b
WellFormedExpr (pick c a b) = WellFormedExpr c × WellFormedExpr a × WellFormedExpr b
WellFormedExpr (apply f a) = WellFormedExpr a

-- an argument whose value is well formed; any text is
abbrev pub WellFormedArg : Argument → Type 0
WellFormedArg (value e) = WellFormedExpr e
WellFormedArg (text t) = Unit {0}

-- a value, not a text
abbrev pub WellFormedValue : Argument → Type 0
WellFormedValue (value e) = WellFormedExpr e
WellFormedValue (text t) = ⊥

-- what may be called in a context: no `zakinit` in an instrument or a definition, and not a definition itself
-- within it
abbrev pub MayCall : Place → List ℕ → Callee → Type 0
MayCall place.Outside own c = Unit {0}
MayCall place.Instrument own c = c ≢ callee.Opcode opcode.Zakinit
MayCall place.Definition own c = (c ≢ callee.Opcode opcode.Zakinit) × (c ≢ callee.Name own)

-- a called name differs from all names in the catalogue
abbrev pub IsCallee : Callee → Type 0
IsCallee (callee.Opcode o) = Unit {0}
IsCallee (callee.Name n) = HasNoStop n × ((o : Opcode) → n ≢ (row_of o).name)

-- a valid call in a context
abbrev pub IsCall : Place → List ℕ → Callee → Type 0
IsCall p own c = IsCallee c × MayCall p own c

-- Statements in a context, in the definition of a name, inside `depth` `if`s: an `if` is inside at most 99
-- others.
abbrev mutual
  pub WellFormedStmt : Place → List ℕ → ℕ → Statement → Type 0
  WellFormedStmt p own depth (set line n e) = IsVariable n × WellFormedExpr e
  WellFormedStmt p own depth (call line ns c args) = All IsVariable ns × IsCall p own c × All WellFormedArg args
  WellFormedStmt p own depth (choose line arms) = (depth < most_nested_ifs) × WellFormedArms p own (depth + 1) arms

  pub WellFormedBlock : Place → List ℕ → ℕ → Block → Type 0
  WellFormedBlock p own depth no_stmt = Unit {0}
  WellFormedBlock p own depth (andthen x rest) = WellFormedStmt p own depth x × WellFormedBlock p own depth rest

  pub WellFormedArms : Place → List ℕ → ℕ → Arms → Type 0
  WellFormedArms p own depth (otherwise body) = WellFormedBlock p own depth body
  WellFormedArms p own depth (arm c body rest) =
      WellFormedExpr c × WellFormedBlock p own depth body × WellFormedArms p own depth rest

-- the numbers of an instrument are in their range, and its statements are well formed
pub record WellFormedInstrument (i : Instrument) : Type 0 where
  pub numbers : All (λ n. (1 ≤ n) × (n ≤ greatest_instrument)) i.numbers
  pub body : WellFormedBlock place.Instrument [] 0 i.body

-- the names of the inputs are different local variables, one for each input, with its rate; there is one
-- value for each result
pub record WellFormedDefinition (d : Definition) : Type 0 where
  pub name : HasNoStop d.name
  pub local : All (λ n. IsVariable n × (is_global n ≡ false)) d.names
  pub rates : map name_rate d.names ≡ d.ins
  pub different : AreDifferent d.names
  pub body : WellFormedBlock place.Definition d.name 0 d.body
  pub values : length d.result ≡ length d.outs
  pub each_value : All WellFormedValue d.result

-- the line of a statement's first symbol
abbrev pub line_of : Statement → ℕ
line_of (set line n e) = line
line_of (call line ns c args) = line
line_of (choose line arms) = line

-- the numbers of all instruments
abbrev pub all_numbers : List Instrument → List ℕ
all_numbers [] = []
all_numbers (i ∷ is) = i.numbers ++ all_numbers is

-- The properties of every orchestra that is read.
pub record IsWellFormed (o : Orchestra) : Type 0 where
  pub outside : WellFormedBlock place.Outside [] 0 o.zero
  pub instruments : All WellFormedInstrument o.instrs
  pub definitions : All WellFormedDefinition o.opcodes
  pub numbers : AreDifferent (all_numbers o.instrs)
  pub opcodes : AreDifferent (map (λ d. d.name) o.opcodes)

-- a top-level part of an orchestra
pub data Item : Type 0 where
  header_item : HeadLine → Item
  opcode_item : Definition → Item
  stmt_item : Statement → Item
  instr_item : Instrument → Item

-- the lines of statements in the order of the text: the line of an `if` comes before the lines of the
-- statements in it
abbrev mutual
  pub stmt_lines : Statement → List ℕ
  stmt_lines (set line n e) = line ∷ []
  stmt_lines (call line ns c args) = line ∷ []
  stmt_lines (choose line arms) = line ∷ arms_lines arms

  pub block_lines : Block → List ℕ
  block_lines no_stmt = []
  block_lines (andthen x rest) = stmt_lines x ++ block_lines rest

  pub arms_lines : Arms → List ℕ
  arms_lines (otherwise body) = block_lines body
  arms_lines (arm c body rest) = block_lines body ++ arms_lines rest

-- the line of a part, followed by the lines of the statements in it
abbrev pub item_lines : Item → List ℕ
item_lines (header_item h) = h.line ∷ []
item_lines (opcode_item d) = d.line ∷ block_lines d.body
item_lines (stmt_item x) = stmt_lines x
item_lines (instr_item i) = i.line ∷ block_lines i.body

-- the lines of all parts
abbrev pub lines_of : List Item → List ℕ
lines_of [] = []
lines_of (i ∷ rest) = item_lines i ++ lines_of rest

-- the orchestra of parts, each put into its list
abbrev pub orchestra_of : List Item → Orchestra
orchestra_of [] = nothing
orchestra_of (header_item h ∷ rest) = with_header h (orchestra_of rest)
orchestra_of (opcode_item d ∷ rest) = with_definition d (orchestra_of rest)
orchestra_of (stmt_item x ∷ rest) = with_stmt x (orchestra_of rest)
orchestra_of (instr_item i ∷ rest) = with_instr i (orchestra_of rest)

-- An orchestra consists of parts whose lines increase, including the lines of all statements in them: so line
-- numbers determine the order in the text across the four lists.
pub record InOrder (o : Orchestra) : Type 0 where
  pub items : List Item
  pub whole : o ≡ orchestra_of items
  pub ascend : AllPairs (λ l m. l < m) (lines_of items)
