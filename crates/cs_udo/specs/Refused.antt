-- The calls of user-defined opcodes that are refused.
use Rattle.std.specs.Prelude.{ℕ, Bool, true, false, not, ◌&&◌, ◌||◌, ◌==◌, nat_le, List, [], ◌∷◌, ◌++◌, length, Option}
use Rattle.std.specs.Prelude.{Some, None, if◌then◌else◌}
use Rattle.cs_base.specs.{declared.fault.OrcFault.OrcFault, declared.fault.OrcKind.OrcKind}
use Rattle.cs_grammar.specs.Tree.{Argument, value, text, Statement, set, call, choose, Block, no_stmt, andthen, Arms}
use Rattle.cs_grammar.specs.Tree.{otherwise, arm, Definition, Instrument, Orchestra}
use Rattle.cs_grammar.specs.WellFormed.{line_of}
use Rattle.cs_udo.specs.Expanded.{Template, Opcodes, no_opcodes, defined, defining, opcodes_before}
use Rattle.cs_base.specs.declared.fault.OrcKind.TheVariants as orc

-- whether an argument is a text
abbrev pub has_text : List Argument → Bool
has_text [] = false
has_text (value e ∷ args) = has_text args
has_text (text t ∷ args) = true

-- The rule that a call of a user-defined opcode breaks: it must have as many results and arguments as the
-- opcode has, must have no text, and must be inside an instrument or a definition.
abbrev pub broken_rule : Bool → List (List ℕ) → List Argument → Template → Option OrcKind
broken_rule inside xs args t =
    if not (length xs == length t.results && length args == length t.inputs) then Some orc.ArgCount
    else (if has_text args || not inside then Some orc.RateMismatch else None)

-- a fault on a line, if there is a kind
abbrev pub at : ℕ → Option OrcKind → List OrcFault
at line None = []
at line (Some kind) = record { line = line; kind = kind } ∷ []

-- the fault of a call, if it breaks a rule
abbrev pub call_faults : Bool → ℕ → List (List ℕ) → List Argument → Option Template → List OrcFault
call_faults inside line xs args None = []
call_faults inside line xs args (Some t) = at line (broken_rule inside xs args t)

-- the faults of the calls in statements; `inside` is true if they are inside an instrument or a definition
abbrev mutual
  pub faults : Opcodes → Bool → Statement → List OrcFault
  faults opcodes inside (set line x e) = []
  faults opcodes inside (call line xs c args) = call_faults inside line xs args (defined opcodes c)
  faults opcodes inside (choose line list) = faults_in_arms opcodes inside list

  pub faults_in : Opcodes → Bool → Block → List OrcFault
  faults_in opcodes inside no_stmt = []
  faults_in opcodes inside (andthen x rest) = faults opcodes inside x ++ faults_in opcodes inside rest

  pub faults_in_arms : Opcodes → Bool → Arms → List OrcFault
  faults_in_arms opcodes inside (otherwise b) = faults_in opcodes inside b
  faults_in_arms opcodes inside (arm c b rest) = faults_in opcodes inside b ++ faults_in_arms opcodes inside rest

-- the faults of statements outside instruments and definitions; each may call the opcodes defined before it
abbrev pub faults_outside : List Definition → Block → List OrcFault
faults_outside ds no_stmt = []
faults_outside ds (andthen x rest) = faults (opcodes_before (line_of x) ds) false x ++ faults_outside ds rest

-- the faults of definitions, whether or not they are called; each may call those before it
abbrev pub faults_of_definitions : Opcodes → List Definition → List OrcFault
faults_of_definitions opcodes [] = []
faults_of_definitions opcodes (d ∷ rest) =
    faults_in opcodes true d.body ++ faults_of_definitions (defining opcodes d) rest

-- the faults of instruments; each may call the opcodes defined before it
abbrev pub faults_of_instruments : List Definition → List Instrument → List OrcFault
faults_of_instruments ds [] = []
faults_of_instruments ds (i ∷ rest) = faults_in (opcodes_before i.line ds) true i.body ++ faults_of_instruments ds rest

-- all faults of an orchestra
abbrev pub all_faults : Orchestra → List OrcFault
all_faults o =
    faults_outside o.opcodes o.zero
    ++ (faults_of_definitions no_opcodes o.opcodes ++ faults_of_instruments o.opcodes o.instrs)

-- the earlier of two faults, by line
abbrev pub upper : OrcFault → OrcFault → OrcFault
upper f g = if nat_le f.line g.line then f else g

-- the earlier of two faults, if there are two
abbrev pub uppermost_of : Option OrcFault → Option OrcFault → Option OrcFault
uppermost_of None found = found
uppermost_of (Some f) None = Some f
uppermost_of (Some f) (Some g) = Some (upper f g)

-- the first fault in the order of the text
abbrev pub uppermost : List OrcFault → Option OrcFault
uppermost [] = None
uppermost (f ∷ rest) = uppermost_of (Some f) (uppermost rest)

-- the first refused call
abbrev pub first_fault : Orchestra → Option OrcFault
first_fault o = uppermost (all_faults o)
