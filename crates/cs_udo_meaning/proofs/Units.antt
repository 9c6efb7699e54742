-- The numbers of the units of a note with frames ascend in the order of the text.
use Rattle.std.proofs.Common.{ℕ, ◌+◌, ◌≤◌, ◌<◌, List, ◌∷◌, ◌++◌, length, Option, Some, None, arith, subst, []}
use Rattle.std.specs.List.{All, AllPairs}
use Rattle.std.proofs.lemmas.{List.Elements.All-cons, List.Elements.All-nil, List.Kept.AllPairs-cons}
use Rattle.cs_grammar.specs.Tree.{Statement, set, call, choose, Block, no_stmt, andthen, Arms, otherwise, arm}
use Rattle.cs_grammar.specs.Tree.{Definition}
use Rattle.cs_udo.specs.Expanded.{whole_body}
use Rattle.cs_udo_meaning.specs.Frames.{Reading, read, Action, Actions, action_of, unit_of, units_of_call, units_of}
use Rattle.cs_udo_meaning.specs.Frames.{units_of_block, units_of_arms, actions_of, action}
use Rattle.cs_udo.proofs.EachDefined.{Of, OfEach, of_called, of_none, all_more}
use Rattle.cs_udo_meaning.proofs.Paths.{further}
use Rattle.cs_meaning.specs.Core as core

-- ---- numbers that ascend within a span

abbrev Ascend : ℕ → ℕ → List ℕ → Type 0
Ascend n k [] = n ≤ k
Ascend n k (x ∷ xs) = (n ≤ x) × Ascend (x + 1) k xs

from_lower : (n j k : ℕ) (xs : List ℕ) → n ≤ j → Ascend j k xs → Ascend n k xs
from_lower n j k [] h a = omega (arith, h, a)
from_lower n j k (x ∷ xs) h a = (omega (arith, h, a.0), a.1)

joined : (n j k : ℕ) (xs ys : List ℕ) → Ascend n j xs → Ascend j k ys → Ascend n k (xs ++ ys)
joined n j k [] ys a b = from_lower n j k ys a b
joined n j k (x ∷ xs) ys a b = (a.0, joined (x + 1) j k xs ys a.1 b)

all_above : (n k : ℕ) (xs : List ℕ) → Ascend (n + 1) k xs → All (λ y. n < y) xs
all_above n k [] a = All-nil (λ y. n < y)
all_above n k (x ∷ xs) a =
    All-cons (λ y. n < y) x xs (omega (arith, a.0))
    (all_above n k xs (from_lower (n + 1) (x + 1) k xs (omega (arith, a.0)) a.1))

ascending : (n k : ℕ) (xs : List ℕ) → Ascend n k xs → AllPairs (λ f g. f < g) xs
ascending n k [] a = λ i j d p q. absurd (omega (arith, q))
ascending n k (x ∷ xs) a = AllPairs-cons (λ f g. f < g) x xs (all_above x k xs a.1) (ascending (x + 1) k xs a.1)

-- consecutive numbers from n on
abbrev Rise : ℕ → List ℕ → Type 0
Rise n xs = Ascend n (n + length xs) xs

rise_on : (n : ℕ) (xs ys : List ℕ) → Rise n xs → Rise (n + length xs) ys → Rise n (xs ++ ys)
rise_on n xs ys h k = subst (λ i. Ascend n i (xs ++ ys)) (further _ _ _) (joined _ _ _ _ _ h k)

none_rise : (n : ℕ) → n ≤ n + 0
none_rise n = omega arith

unit_rises : (n : ℕ) (s : core.Stmt) → Rise n (unit_of n s)
unit_rises n (core.unit r vs o k xs is) = (omega arith, omega arith)
unit_rises n _ = none_rise n

-- ---- the units of statements

module _ {W : Type 0} (m : Reading W) where
  abbrev pub Rising : Action W → Type 0
  Rising a = (n : ℕ) → Rise n (a.units m n)

  called_rises : (n : ℕ) (x : Statement) (a : Option (Action W)) → Of Rising a → Rise n (units_of_call m n x a)
  called_rises n x None h = unit_rises n (read m x)
  called_rises n x (Some a) h = h n

  module _ (env : Actions W) (k : OfEach Rising env) where
    mutual
      rises : (n : ℕ) (x : Statement) → Rise n (units_of m env n x)
      rises n (set line x e) = none_rise n
      rises n (call line xs c args) = called_rises n (call line xs c args) (action_of env c) (of_called Rising env k c)
      rises n (choose line list) = arms_rise n list

      block_rises : (n : ℕ) (b : Block) → Rise n (units_of_block m env n b)
      block_rises n no_stmt = none_rise n
      block_rises n (andthen x rest) = rise_on _ _ _ (rises n x) (block_rises _ rest)

      arms_rise : (n : ℕ) (list : Arms) → Rise n (units_of_arms m env n list)
      arms_rise n (otherwise b) = block_rises n b
      arms_rise n (arm c b rest) = rise_on _ _ _ (block_rises n b) (arms_rise _ rest)

  pub units_differ : (ds : List Definition) (n : ℕ) (b : Block)
      → AllPairs (λ f g. f < g) (units_of_block m (actions_of W ds) n b)
  units_differ ds n b =
      ascending _ _ _ (block_rises (actions_of W ds) (all_more _ action
      (λ env k d n. block_rises env k n (whole_body d)) _ (of_none Rising) ds) n b)
