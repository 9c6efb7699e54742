-- Parts of expressions: levels and their operators, and the first symbols of a fact.
use Rattle.std.specs.Prelude.{ℕ, Bool, true, false, List, ◌&&◌, not, Option, Some, None, Ok, Err, if◌then◌else◌}
use Rattle.cs_base.specs.declared.fault.OrcFault.{OrcFault}
use Rattle.cs_words.specs.{declared.sign.BinOp.BinOp, NameSets.has}
use Rattle.cs_grammar.specs.{declared.symbol.Kind.Kind, Kinds.is_word, Kinds.is_name_kind}
use Rattle.cs_grammar.specs.Symbols.{Symbol, next, after}
use Rattle.cs_grammar.specs.{declared.expr.PartForm.PartForm, declared.expr.Level.Level}
use Rattle.cs_grammar.specs.Tree.{Expression, number, var, field, head}
use Rattle.cs_grammar.specs.Reading.{Left, Reading, Scope, next_is, misfit}
use Rattle.cs_base.specs.declared.fault.OrcKind.TheVariants as orc
use Rattle.cs_words.specs.declared.sign.BinOp.TheVariants as op
use Rattle.cs_words.specs.declared.sign.Sign.TheVariants as sign
use Rattle.cs_words.specs.declared.word.Word.TheVariants as word
use Rattle.cs_grammar.specs.declared.symbol.Kind.TheVariants as kind
use Rattle.cs_grammar.specs.declared.symbol.Expected.TheVariants as expected
use Rattle.cs_grammar.specs.declared.expr.PartForm.TheVariants as part
use Rattle.cs_grammar.specs.declared.expr.Level.TheVariants as level

-- the next tighter level; a fact is the tightest
abbrev pub tighter : Level → Option Level
tighter level.Expr = Some level.And
tighter level.And = Some level.Cmp
tighter level.Cmp = Some level.Sum
tighter level.Sum = Some level.Term
tighter level.Term = Some level.Fact
tighter level.Fact = None

-- the number of tighter levels
abbrev pub rank : Level → ℕ
rank level.Expr = 5
rank level.And = 4
rank level.Cmp = 3
rank level.Sum = 2
rank level.Term = 1
rank level.Fact = 0

-- the operators of a level
abbrev pub is_at : Level → BinOp → Bool
is_at level.Expr op.Or = true
is_at level.And op.And = true
is_at level.Cmp op.Less = true
is_at level.Cmp op.Greater = true
is_at level.Cmp op.LessEqual = true
is_at level.Cmp op.GreaterEqual = true
is_at level.Cmp op.Equal = true
is_at level.Cmp op.NotEqual = true
is_at level.Sum op.Add = true
is_at level.Sum op.Sub = true
is_at level.Term op.Mul = true
is_at level.Term op.Div = true
is_at level.Term op.Rem = true
is_at _ _ = false

-- whether several operators of the level may follow one another: a comparison may not be followed by another
-- one
abbrev pub repeats : Level → Bool
repeats level.Cmp = false
repeats _ = true

-- the operator of a level that a symbol denotes
abbrev pub operator_of : Level → Kind → Option BinOp
operator_of l (kind.Sign (sign.Operator o)) = if is_at l o then Some o else None
operator_of l _ = None

-- the operator of a level that comes next, if any
abbrev pub operator : Level → Left → Option BinOp
operator l (Ok ts) = operator_of l (next ts).kind
operator l (Err f) = None

-- whether a symbol is a variable: a name that isn't the name of a user-defined opcode
abbrev pub is_variable : Scope → Symbol → Bool
is_variable s t = is_name_kind t.kind && not (has s.defined t.text)

-- whether a word is an opcode, of the catalogue or user-defined
abbrev pub is_opcode : Scope → List ℕ → Kind → Bool
is_opcode s text (kind.Word (word.Opcode o)) = true
is_opcode s text (kind.Word (word.Field k)) = has s.defined text
is_opcode s text (kind.Word word.Name) = has s.defined text
is_opcode s text (kind.Word word.Other) = has s.defined text
is_opcode s text _ = false

-- a single word or number as an expression
abbrev pub single : Scope → Symbol → Kind → Option Expression
single s t (kind.Number v) = Some (number v)
single s t (kind.Word (word.Field k)) = Some (field k)
single s t (kind.Word (word.Header h)) = Some (head h)
single s t (kind.Word word.Name) = if has s.defined t.text then None else Some (var t.text)
single s t _ = None

-- the fault of a symbol that can't begin an operand: a word is outside the profile here
abbrev pub no_part : Scope → List Symbol → OrcFault
no_part s ts = misfit s (if is_word (next ts).kind then orc.NotInProfile else orc.Unexpected) ts

-- the expression if there is one, and the fault otherwise
abbrev pub single_or : {A : Type 0} → Option A → List Symbol → OrcFault → Reading A
single_or (Some e) rest f = Ok (e, rest)
single_or None rest f = Err f

-- the next symbol as an expression of one symbol
abbrev pub one_symbol : Scope → List Symbol → Reading Expression
one_symbol s ts = single_or (single s (next ts) (next ts).kind) (after ts) (no_part s ts)

-- an operand of one symbol: a word must not be followed by a bracket
abbrev pub atom : Scope → List Symbol → Reading Expression
atom s ts =
    if is_word (next ts).kind && next_is expected.Open (after ts) then Err (no_part s ts)
    else one_symbol s ts

-- how an operand begins, by its first symbol and by whether a bracket follows
abbrev pub part_form_of : Kind → Bool → PartForm
part_form_of (kind.Sign (sign.Operator op.Sub)) _ = part.Minus
part_form_of (kind.Sign sign.Open) _ = part.Bracket
part_form_of (kind.Word (word.Func f)) true = part.Function f
part_form_of _ _ = part.Alone

-- how the next operand begins
abbrev pub part_form : List Symbol → PartForm
part_form ts = part_form_of (next ts).kind (next_is expected.Open (after ts))
