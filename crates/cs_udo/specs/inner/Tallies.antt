-- Counts, added one after another.
use Rattle.std.specs.Prelude.{ℕ, Bool, true, false, List, [], ◌∷◌, ◌≡◌, ◌<◌, ◌+◌, length, min, nat_lt, slice_get}
use Rattle.std.specs.Prelude.{slice_index, Option, Some, None, if◌then◌else◌}
use Rattle.std.specs.Option.{option_or}
use Rattle.cs_base.specs.Limits.{most_statements}
use Rattle.cs_grammar.specs.Tree.{Argument, value, text, Definition}
use Rattle.cs_udo.specs.{Counted.size_of, declared.library.Library.Library, declared.tally.RunningCount.RunningCount}
use Rattle.cs_udo.specs.Expanded.{Opcodes, Template, template}
use Rattle.cs_udo.specs.Library.{definitions_of, opcodes_of}

-- a number, capped at one more than the limit
abbrev pub capped : ℕ → ℕ
capped n = min n (most_statements + 1)

-- the sum of counts
abbrev pub total : List (ℕ × ℕ) → ℕ
total [] = 0
total (count ∷ rest) = count.1 + total rest

-- the line of a count with which the sum exceeds the limit
abbrev pub passed_at : ℕ → ℕ × ℕ → Option ℕ
passed_at sum count = if nat_lt most_statements (sum + count.1) then Some count.0 else None

-- the running count after one more statement
abbrev pub after_count : RunningCount → ℕ × ℕ → RunningCount
after_count t count = record { sum = capped (t.sum + count.1); passed = option_or t.passed (passed_at t.sum count) }

-- the running count after more statements
abbrev pub after_counts : RunningCount → List (ℕ × ℕ) → RunningCount
after_counts t [] = t
after_counts t (count ∷ rest) = after_counts (after_count t count) rest

-- whether an argument is a value
abbrev pub is_value : Argument → Bool
is_value (value e) = true
is_value (text t) = false

-- the number that a definition counts as in each call, without its inputs and results
abbrev pub weight : Template → ℕ
weight t = size_of (t.block 1) + t.calls

-- the opcodes of a library whose costs are known
abbrev pub opcodes_priced : Library → List ℕ → Opcodes
opcodes_priced l costs = opcodes_of (definitions_of l) (length costs)

-- the cost of each of the first definitions is correct
pub record IsPriced (ds : List Definition) (costs : List ℕ) : Type 0 where
  pub each : (k : ℕ) (d : Definition) → k < length costs → slice_get ds k ≡ Some d
      → slice_index costs k ≡ capped (weight (template (opcodes_of ds k) d))
