-- If no opcode is defined, the expansion leaves statements unchanged.
use Rattle.std.proofs.Common.{◌≡◌, ℕ, List, [], ◌∷◌, map, refl, ap}
use Rattle.cs_grammar.specs.{declared.tree.Callee.Callee, Renaming.renamed_expression, Renaming.renamed_argument}
use Rattle.cs_grammar.specs.Tree.{Expression, neg, pair, pick, apply, Argument, value, text, Statement, set, call}
use Rattle.cs_grammar.specs.Tree.{choose, Block, no_stmt, andthen, joins, Arms, otherwise, arm}
use Rattle.cs_udo.specs.{Names.as_it_is, Expanded.expanded_arms}
use Rattle.cs_udo.specs.Expanded.{no_opcodes, defined, alone, called, after, after_block, expanded, expanded_block}
use Rattle.cs_grammar.specs.declared.tree.Callee.TheVariants as callee

same_value : (e : Expression) → renamed_expression as_it_is e ≡ e
same_value (neg a) = ap neg (same_value a)
same_value (pair op a b) = λ i. pair op (same_value a i) (same_value b i)
same_value (pick c a b) = λ i. pick (same_value c i) (same_value a i) (same_value b i)
same_value (apply f a) = ap (apply f) (same_value a)
same_value _ = refl

same_arguments : (args : List Argument) → map (renamed_argument as_it_is) args ≡ args
same_arguments [] = refl
same_arguments (value e ∷ args) = λ i. value (same_value e i) ∷ same_arguments args i
same_arguments (text t ∷ args) = ap (λ rest. text t ∷ rest) (same_arguments args)

same_names : (xs : List (List ℕ)) → map as_it_is xs ≡ xs
same_names [] = refl
same_names (x ∷ xs) = ap (λ rest. x ∷ rest) (same_names xs)

not_called : (f line : ℕ) (xs : List (List ℕ)) (c : Callee) (args : List Argument)
    → called as_it_is f line xs c args (defined no_opcodes c) ≡ alone (call line xs c args)
not_called f line xs (callee.Opcode o) args =
    λ i. alone (call line (same_names xs i) (callee.Opcode o) (same_arguments args i))
not_called f line xs (callee.Name n) args =
    λ i. alone (call line (same_names xs i) (callee.Name n) (same_arguments args i))

mutual
  same_statement : (f : ℕ) (x : Statement) → expanded no_opcodes as_it_is f x ≡ alone x
  same_statement f (set line x e) = ap (λ v. alone (set line x v)) (same_value e)
  same_statement f (call line xs c args) = not_called f line xs c args
  same_statement f (choose line list) = ap (λ a. alone (choose line a)) (same_arms f list)

  pub same_block : (f : ℕ) (b : Block) → expanded_block no_opcodes as_it_is f b ≡ b
  same_block f no_stmt = refl
  same_block f (andthen x rest) = λ i. joins (same_statement f x i) (same_block (after no_opcodes f x) rest i)

  same_arms : (f : ℕ) (list : Arms) → expanded_arms no_opcodes as_it_is f list ≡ list
  same_arms f (otherwise b) = ap otherwise (same_block f b)
  same_arms f (arm c b rest) =
      λ i. arm (same_value c i) (same_block f b i) (same_arms (after_block no_opcodes f b) rest i)
