-- Statements with each call of a user-defined opcode replaced by the statements of the opcode.
use Rattle.std.specs.Prelude.{ℕ, List, [], ◌∷◌, ◌+◌, map, nat_lt, Option, Some, None, if◌then◌else◌}
use Rattle.cs_grammar.specs.{declared.tree.Callee.Callee, Renaming.renamed_expression, Renaming.renamed_argument}
use Rattle.cs_grammar.specs.Tree.{Argument, value, var, Statement, set, call, choose, Block, no_stmt, andthen, joins}
use Rattle.cs_grammar.specs.Tree.{Arms, otherwise, arm, Definition, Instrument, Orchestra}
use Rattle.cs_udo.specs.ByName.{ByName, item_of, with_item, with_items}
use Rattle.cs_udo.specs.Names.{in_frame, as_it_is, slots}

-- A user-defined opcode as its callers see it: the names of its inputs and of its results, its statements in
-- a frame with a given number (calls in it use the next frame numbers), the first unused frame number after
-- all these, and the number of calls in it.
pub record Template : Type 0 where
  pub inputs : List (List ℕ)
  pub results : List (List ℕ)
  pub block : ℕ → Block
  pub after : ℕ → ℕ
  pub calls : ℕ

-- the user-defined opcodes that may be called in some context, by name
abbrev pub Opcodes : Type 0
Opcodes = ByName Template

-- no user-defined opcodes
abbrev pub no_opcodes : Opcodes
no_opcodes name = None

-- the called opcode if it is user-defined; an opcode of the catalogue has no template
abbrev pub defined : Opcodes → Callee → Option Template
defined opcodes c = item_of opcodes c

-- a block of one statement
abbrev pub alone : Statement → Block
alone x = andthen x no_stmt

-- assignments of values to names, from left to right
abbrev pub assignments : ℕ → List (List ℕ) → List Argument → Block
assignments line (x ∷ xs) (value e ∷ args) = andthen (set line x e) (assignments line xs args)
assignments line xs args = no_stmt

-- the value of a variable in a frame
abbrev pub value_in : ℕ → List ℕ → Argument
value_in frame x = value (var (in_frame frame x))

-- A call: the arguments are assigned to the inputs, then come the statements of the opcode, and then the
-- results are assigned. They all use a separate frame. A call of any other opcode is unchanged.
abbrev pub called : (List ℕ → List ℕ) → ℕ → ℕ → List (List ℕ) → Callee → List Argument → Option Template → Block
called own frame line xs c args None = alone (call line (map own xs) c (map (renamed_argument own) args))
called own frame line xs c args (Some t) =
    joins (assignments line (map (in_frame frame) t.inputs) (map (renamed_argument own) args))
    (joins (t.block frame) (assignments line (map own xs) (map (value_in frame) t.results)))

-- the first frame number that a call leaves unused
abbrev pub after_called : ℕ → Option Template → ℕ
after_called frame None = frame
after_called frame (Some t) = t.after frame

-- the first frame number that the calls in statements leave unused
abbrev mutual
  pub after : Opcodes → ℕ → Statement → ℕ
  after opcodes frame (set line x e) = frame
  after opcodes frame (call line xs c args) = after_called frame (defined opcodes c)
  after opcodes frame (choose line list) = after_arms opcodes frame list

  pub after_block : Opcodes → ℕ → Block → ℕ
  after_block opcodes frame no_stmt = frame
  after_block opcodes frame (andthen x rest) = after_block opcodes (after opcodes frame x) rest

  pub after_arms : Opcodes → ℕ → Arms → ℕ
  after_arms opcodes frame (otherwise b) = after_block opcodes frame b
  after_arms opcodes frame (arm c b rest) = after_arms opcodes (after_block opcodes frame b) rest

-- Statements whose variables are renamed with `own`, with each call in a separate frame, numbered in the
-- order of the text.
abbrev mutual
  pub expanded : Opcodes → (List ℕ → List ℕ) → ℕ → Statement → Block
  expanded opcodes own frame (set line x e) = alone (set line (own x) (renamed_expression own e))
  expanded opcodes own frame (call line xs c args) = called own frame line xs c args (defined opcodes c)
  expanded opcodes own frame (choose line list) = alone (choose line (expanded_arms opcodes own frame list))

  pub expanded_block : Opcodes → (List ℕ → List ℕ) → ℕ → Block → Block
  expanded_block opcodes own frame no_stmt = no_stmt
  expanded_block opcodes own frame (andthen x rest) =
      joins (expanded opcodes own frame x) (expanded_block opcodes own (after opcodes frame x) rest)

  pub expanded_arms : Opcodes → (List ℕ → List ℕ) → ℕ → Arms → Arms
  expanded_arms opcodes own frame (otherwise b) = otherwise (expanded_block opcodes own frame b)
  expanded_arms opcodes own frame (arm c b rest) =
      arm (renamed_expression own c) (expanded_block opcodes own frame b)
      (expanded_arms opcodes own (after_block opcodes frame b) rest)

-- the number of calls in a call of an opcode: itself and the calls in it, if it is user-defined
abbrev pub calls_of : Option Template → ℕ
calls_of None = 0
calls_of (Some t) = 1 + t.calls

-- the number of calls of user-defined opcodes in statements, including nested calls
abbrev mutual
  pub calls : Opcodes → Statement → ℕ
  calls opcodes (set line x e) = 0
  calls opcodes (call line xs c args) = calls_of (defined opcodes c)
  calls opcodes (choose line list) = calls_in_arms opcodes list

  pub calls_in : Opcodes → Block → ℕ
  calls_in opcodes no_stmt = 0
  calls_in opcodes (andthen x rest) = calls opcodes x + calls_in opcodes rest

  pub calls_in_arms : Opcodes → Arms → ℕ
  calls_in_arms opcodes (otherwise b) = calls_in opcodes b
  calls_in_arms opcodes (arm c b rest) = calls_in opcodes b + calls_in_arms opcodes rest

-- the statements of a definition, followed by assignments of the values of `xout` to the slots of the results
abbrev pub whole_body : Definition → Block
whole_body d = joins d.body (assignments d.line (slots 0 d.outs) d.result)

-- the template of a definition, in which these opcodes may be called
abbrev pub template : Opcodes → Definition → Template
template opcodes d = record {
  inputs = d.names;
  results = slots 0 d.outs;
  block = λ frame. expanded_block opcodes (in_frame frame) (frame + 1) (whole_body d);
  after = λ frame. after_block opcodes (frame + 1) (whole_body d);
  calls = calls_in opcodes (whole_body d);
}

-- the opcodes after one more definition; earlier definitions are unchanged
abbrev pub defining : Opcodes → Definition → Opcodes
defining opcodes d = with_item template opcodes d

-- the opcodes after more definitions: each may call those before it
abbrev pub defining_all : Opcodes → List Definition → Opcodes
defining_all opcodes ds = with_items template opcodes ds

-- the definitions before a line
abbrev pub before : ℕ → List Definition → List Definition
before line [] = []
before line (d ∷ ds) = if nat_lt d.line line then d ∷ before line ds else []

-- the opcodes that are defined before a line
abbrev pub opcodes_before : ℕ → List Definition → Opcodes
opcodes_before line ds = defining_all no_opcodes (before line ds)

-- an instrument: its own variables keep their names, and the frames of its calls are numbered from 1
abbrev pub expanded_instrument : List Definition → Instrument → Instrument
expanded_instrument ds i = record {
  line = i.line;
  numbers = i.numbers;
  body = expanded_block (opcodes_before i.line ds) as_it_is 1 i.body;
}

-- An orchestra without definitions. The statements outside instruments call no user-defined opcode.
abbrev pub expanded_orchestra : Orchestra → Orchestra
expanded_orchestra o = record {
  head = o.head;
  opcodes = [];
  zero = o.zero;
  instrs = map (expanded_instrument o.opcodes) o.instrs;
}
