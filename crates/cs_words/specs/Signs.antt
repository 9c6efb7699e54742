-- The meanings of the signs.
use Rattle.std.specs.Prelude.{ℕ, Bool, true, false, List, [], ◌∷◌, codes}
use Rattle.std.specs.Option.{unwrap_or}
use Rattle.cs_words.specs.{Tables.looked_up, declared.sign.BinOp.BinOp, declared.sign.Sign.Sign}
use Rattle.cs_words.specs.declared.sign.BinOp.TheVariants as op
use Rattle.cs_words.specs.declared.sign.Sign.TheVariants as sign

-- the meaning of each sign
abbrev pub signs : List (List ℕ × Sign)
signs =
    (codes "(", sign.Open) ∷
    (codes ")", sign.Close) ∷
    (codes ",", sign.Comma) ∷
    (codes "=", sign.Equals) ∷
    (codes "+=", sign.PlusEquals) ∷
    (codes "?", sign.Question) ∷
    (codes ":", sign.Colon) ∷
    (codes "||", sign.Operator op.Or) ∷
    (codes "&&", sign.Operator op.And) ∷
    (codes "<", sign.Operator op.Less) ∷
    (codes ">", sign.Operator op.Greater) ∷
    (codes "<=", sign.Operator op.LessEqual) ∷
    (codes ">=", sign.Operator op.GreaterEqual) ∷
    (codes "==", sign.Operator op.Equal) ∷
    (codes "!=", sign.Operator op.NotEqual) ∷
    (codes "+", sign.Operator op.Add) ∷
    (codes "-", sign.Operator op.Sub) ∷
    (codes "*", sign.Operator op.Mul) ∷
    (codes "/", sign.Operator op.Div) ∷
    (codes "%", sign.Operator op.Rem) ∷
    []

-- the meaning of a sign from the list, or a sign that the profile lacks
unfoldable pub sign_of : List ℕ → Sign
sign_of bytes = unwrap_or (looked_up signs bytes) sign.Beyond

-- `+`, `-`, `*`, `/` and `%`; the other operators yield truth values
abbrev pub is_arithmetic : BinOp → Bool
is_arithmetic op.Add = true
is_arithmetic op.Sub = true
is_arithmetic op.Mul = true
is_arithmetic op.Div = true
is_arithmetic op.Rem = true
is_arithmetic _ = false

-- `&&` and `||`
abbrev pub is_logic : BinOp → Bool
is_logic op.And = true
is_logic op.Or = true
is_logic _ = false
