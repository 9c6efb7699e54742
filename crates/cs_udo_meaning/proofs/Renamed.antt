-- Statements with other names of the same rates: their typed form is the original typed form, with the
-- variables of the other names.
use Rattle.std.proofs.Common.{◌≡◌, ℕ, List, map}
use Rattle.cs_grammar.specs.{declared.tree.Callee.Callee, Tree.Expression, Tree.Argument, Tree.set, Tree.call}
use Rattle.cs_grammar.specs.Renaming.{renamed_expression, renamed_argument}
use Rattle.cs_typing.proofs.SameRates.{KeepsRates, expression_renamed, call_renamed as call_with_renamed}
use Rattle.cs_typing.specs.Known.{Shared}
use Rattle.cs_udo_meaning.specs.Numbered.{Variables, statement_by}
use Rattle.cs_typed.specs.TypedTree as typed

module _ {own : List ℕ → List ℕ} (same : KeepsRates own) where
  pub set_renamed : (g : Shared) (v : Variables) (line : ℕ) (x : List ℕ) (e : Expression)
      → statement_by g v (set line (own x) (renamed_expression own e)) ≡ statement_by g (λ y. v (own y)) (set line x e)
  set_renamed g v line x e = λ i. typed.set line (same.rate x i) (v (own x)) (expression_renamed same v e i)

  pub call_renamed : (g : Shared) (v : Variables) (line : ℕ) (xs : List (List ℕ)) (c : Callee) (args : List Argument)
      → statement_by g v (call line (map own xs) c (map (renamed_argument own) args))
      ≡ statement_by g (λ y. v (own y)) (call line xs c args)
  call_renamed g v line xs c args = call_with_renamed same line g v c xs args
