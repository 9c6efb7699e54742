-- Renaming the variables of an expression.
use Rattle.std.specs.Prelude.{ℕ, List}
use Rattle.cs_grammar.specs.Tree.{Expression, number, var, field, head, neg, pair, pick, apply, Argument, value, text}

-- an expression whose variables are renamed with f
abbrev pub renamed_expression : (List ℕ → List ℕ) → Expression → Expression
renamed_expression f (number v) = number v
renamed_expression f (var name) = var (f name)
renamed_expression f (field k) = field k
renamed_expression f (head h) = head h
renamed_expression f (neg a) = neg (renamed_expression f a)
renamed_expression f (pair o a b) = pair o (renamed_expression f a) (renamed_expression f b)
renamed_expression f (pick c a b) = pick (renamed_expression f c) (renamed_expression f a) (renamed_expression f b)
renamed_expression f (apply g a) = apply g (renamed_expression f a)

-- an argument whose variables are renamed with f; a text is unchanged
abbrev pub renamed_argument : (List ℕ → List ℕ) → Argument → Argument
renamed_argument f (value e) = value (renamed_expression f e)
renamed_argument f (text name) = text name
