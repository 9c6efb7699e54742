-- The limits on instruments and on the statements of one instrument.
use Rattle.std.specs.Prelude.{ℕ, List, [], ◌∷◌, ◌++◌, ◌+◌, length, nat_lt, Option, Some, None, if◌then◌else◌}
use Rattle.std.specs.Option.{option_or}
use Rattle.cs_base.specs.Limits.{most_instruments, most_statements}
use Rattle.cs_base.specs.{declared.limit.Limit.Limit, declared.limit.LimitHit.LimitHit}
use Rattle.cs_grammar.specs.{declared.tree.Callee.Callee, Tree.Definition, Tree.Instrument, Tree.Orchestra}
use Rattle.cs_grammar.specs.Tree.{Argument, Statement, set, call, choose, Block, no_stmt, andthen, Arms, otherwise, arm}
use Rattle.cs_udo.specs.Names.{as_it_is}
use Rattle.cs_udo.specs.Expanded.{Template, Opcodes, defined, opcodes_before, called, calls_of}
use Rattle.cs_base.specs.declared.limit.Limit.TheVariants as limit

-- the number of statements, including those in `if`s
abbrev mutual
  pub size : Statement → ℕ
  size (set line x e) = 1
  size (call line xs c args) = 1
  size (choose line list) = 1 + size_of_arms list

  pub size_of : Block → ℕ
  size_of no_stmt = 0
  size_of (andthen x rest) = size x + size_of rest

  pub size_of_arms : Arms → ℕ
  size_of_arms (otherwise b) = size_of b
  size_of_arms (arm c b rest) = size_of b + size_of_arms rest

-- The number that a call counts as: the number of statements in its expansion, plus one for each call of a
-- user-defined opcode, including nested calls.
abbrev pub call_count : ℕ → List (List ℕ) → Callee → List Argument → Option Template → ℕ
call_count line xs c args found = size_of (called as_it_is 1 line xs c args found) + calls_of found

-- The numbers that the statements of an instrument count as, each with its line, in the order of the text: an
-- `if` counts as one, before the statements in it.
abbrev mutual
  pub counts : Opcodes → Statement → List (ℕ × ℕ)
  counts opcodes (set line x e) = (line, 1) ∷ []
  counts opcodes (call line xs c args) = (line, call_count line xs c args (defined opcodes c)) ∷ []
  counts opcodes (choose line list) = (line, 1) ∷ counts_in_arms opcodes list

  pub counts_in : Opcodes → Block → List (ℕ × ℕ)
  counts_in opcodes no_stmt = []
  counts_in opcodes (andthen x rest) = counts opcodes x ++ counts_in opcodes rest

  pub counts_in_arms : Opcodes → Arms → List (ℕ × ℕ)
  counts_in_arms opcodes (otherwise b) = counts_in opcodes b
  counts_in_arms opcodes (arm c b rest) = counts_in opcodes b ++ counts_in_arms opcodes rest

-- the line at which a sum of counts exceeds `most`
abbrev pub line_passing : ℕ → ℕ → List (ℕ × ℕ) → Option ℕ
line_passing most sum [] = None
line_passing most sum (count ∷ rest) =
    if nat_lt most (sum + count.1) then Some count.0 else line_passing most (sum + count.1) rest

-- the limit hit at a line, if there is a line
abbrev pub hit : Limit → Option ℕ → Option LimitHit
hit which None = None
hit which (Some line) = Some (record { limit = which; line = line })

-- the instrument's line, if its numbers, together with the `given` earlier ones, exceed the limit
abbrev pub numbers_hit : ℕ → Instrument → Option LimitHit
numbers_hit given i = hit limit.Instruments (line_passing most_instruments given ((i.line, length i.numbers) ∷ []))

-- the statement of an instrument with which the limit is exceeded
abbrev pub statements_hit : Opcodes → Block → Option LimitHit
statements_hit opcodes b = hit limit.Statements (line_passing most_statements 0 (counts_in opcodes b))

-- the first limit that instruments exceed, after `given` numbers
abbrev pub limits : List Definition → ℕ → List Instrument → Option LimitHit
limits ds given [] = None
limits ds given (i ∷ rest) = option_or (numbers_hit given i)
    (option_or (statements_hit (opcodes_before i.line ds) i.body) (limits ds (given + length i.numbers) rest))

-- the first limit that an orchestra exceeds
abbrev pub first_limit : Orchestra → Option LimitHit
first_limit o = limits o.opcodes 0 o.instrs
