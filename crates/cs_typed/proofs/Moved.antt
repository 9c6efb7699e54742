-- Typed statements that are moved: one block after another, twice, and by zero.
use Rattle.std.proofs.Common.{◌≡◌, ◌∙◌, ℕ, ◌+◌, List, [], ◌∷◌, map, arith, refl, ap}
use Rattle.cs_base.specs.{Rates.at_rate, declared.per_rate.PerRate.PerRate, declared.resource.Rate.Rate}
use Rattle.cs_typed.specs.TypedTree.{no_counts, counts_with, moved_variable, moved_expression, moved_argument, moved}
use Rattle.cs_typed.specs.TypedTree.{moved_block, moved_arms, Expression, var, neg, pair, pick, apply, Argument, value}
use Rattle.cs_typed.specs.TypedTree.{text, Statement, set, call, choose, Block, no_stmt, andthen, Arms, otherwise, arm}
use Rattle.cs_typed.specs.{TypedTree.then_block, declared.tree.Var.Var as Variable}
use Rattle.cs_typed.specs.declared.tree.Var.TheVariants.{Local, Global}
use Rattle.cs_base.specs.declared.resource.Rate.TheVariants as rate

-- ---- counts

pub counts_again : (a b c : PerRate ℕ) → counts_with (counts_with a b) c ≡ counts_with a (counts_with b c)
counts_again a b c = λ i. record {
  init = by a.init b.init c.init i;
  control = by a.control b.control c.control i;
  audio
      = by a.audio b.audio c.audio i;
}
  where
    by : (x y z : ℕ) → (x + y) + z ≡ x + (y + z)
    by x y z = omega arith

pub counts_none : (a : PerRate ℕ) → counts_with a no_counts ≡ a
counts_none a = λ i. record { init = by a.init i; control = by a.control i; audio = by a.audio i }
  where
    by : (x : ℕ) → x + 0 ≡ x
    by x = omega arith

pub at_with : (a b : PerRate ℕ) (r : Rate) → at_rate (counts_with a b) r ≡ at_rate a r + at_rate b r
at_with a b rate.Init = refl
at_with a b rate.Control = refl
at_with a b rate.Audio = refl

at_none : (r : Rate) → at_rate no_counts r ≡ 0
at_none rate.Init = refl
at_none rate.Control = refl
at_none rate.Audio = refl

-- ---- one block after another

pub then_again : (a b c : Block) → then_block (then_block a b) c ≡ then_block a (then_block b c)
then_again no_stmt b c = refl
then_again (andthen x rest) b c = ap (λ r. andthen x r) (then_again rest b c)

pub moved_then : (base : PerRate ℕ) (a b : Block)
    → moved_block base (then_block a b) ≡ then_block (moved_block base a) (moved_block base b)
moved_then base no_stmt b = refl
moved_then base (andthen x rest) b = ap (λ r. andthen (moved base x) r) (moved_then base rest b)

-- ---- twice

module _ (a b : PerRate ℕ) where
  pub variable_twice : (v : Variable) → moved_variable a (moved_variable b v) ≡ moved_variable (counts_with a b) v
  variable_twice (Local r n) = ap (λ k. Local r k) (by r)
    where
      sums : (x y : ℕ) → x + (y + n) ≡ (x + y) + n
      sums x y = omega arith

      by : (q : Rate) → at_rate a q + (at_rate b q + n) ≡ at_rate (counts_with a b) q + n
      by rate.Init = sums a.init b.init
      by rate.Control = sums a.control b.control
      by rate.Audio = sums a.audio b.audio
  variable_twice (Global g) = refl

  variables_twice : (vs : List Variable)
      → map (moved_variable a) (map (moved_variable b) vs) ≡ map (moved_variable (counts_with a b)) vs
  variables_twice [] = refl
  variables_twice (v ∷ vs) = λ i. variable_twice v i ∷ variables_twice vs i

  pub expression_twice : (e : Expression)
      → moved_expression a (moved_expression b e) ≡ moved_expression (counts_with a b) e
  expression_twice (var r v) = ap (var r) (variable_twice v)
  expression_twice (neg r x) = ap (neg r) (expression_twice x)
  expression_twice (pair r o x y) = λ i. pair r o (expression_twice x i) (expression_twice y i)
  expression_twice (pick r c x y) = λ i. pick r (expression_twice c i) (expression_twice x i) (expression_twice y i)
  expression_twice (apply r f x) = ap (apply r f) (expression_twice x)
  expression_twice e = refl

  argument_twice : (x : Argument) → moved_argument a (moved_argument b x) ≡ moved_argument (counts_with a b) x
  argument_twice (value e) = ap value (expression_twice e)
  argument_twice (text v) = ap text (variable_twice v)

  arguments_twice : (xs : List Argument)
      → map (moved_argument a) (map (moved_argument b) xs) ≡ map (moved_argument (counts_with a b)) xs
  arguments_twice [] = refl
  arguments_twice (x ∷ xs) = λ i. argument_twice x i ∷ arguments_twice xs i

  mutual
    pub statement_twice : (x : Statement) → moved a (moved b x) ≡ moved (counts_with a b) x
    statement_twice (set line r v e) = λ i. set line r (variable_twice v i) (expression_twice e i)
    statement_twice (call line r vs opcode args) =
        λ i. call line r (variables_twice vs i) opcode (arguments_twice args i)
    statement_twice (choose line r list) = ap (choose line r) (arms_twice list)

    pub block_twice : (x : Block) → moved_block a (moved_block b x) ≡ moved_block (counts_with a b) x
    block_twice no_stmt = refl
    block_twice (andthen x rest) = λ i. andthen (statement_twice x i) (block_twice rest i)

    pub arms_twice : (x : Arms) → moved_arms a (moved_arms b x) ≡ moved_arms (counts_with a b) x
    arms_twice (otherwise x) = ap otherwise (block_twice x)
    arms_twice (arm c x rest) = λ i. arm (expression_twice c i) (block_twice x i) (arms_twice rest i)

-- ---- by zero

variable_stays : (v : Variable) → moved_variable no_counts v ≡ v
variable_stays (Local r n) = ap (λ k. Local r k) (ap (λ k. k + n) (at_none r) ∙ by n)
  where
    by : (m : ℕ) → 0 + m ≡ m
    by m = omega arith
variable_stays (Global g) = refl

variables_stay : (vs : List Variable) → map (moved_variable no_counts) vs ≡ vs
variables_stay [] = refl
variables_stay (v ∷ vs) = λ i. variable_stays v i ∷ variables_stay vs i

expression_stays : (e : Expression) → moved_expression no_counts e ≡ e
expression_stays (var r v) = ap (var r) (variable_stays v)
expression_stays (neg r x) = ap (neg r) (expression_stays x)
expression_stays (pair r o x y) = λ i. pair r o (expression_stays x i) (expression_stays y i)
expression_stays (pick r c x y) = λ i. pick r (expression_stays c i) (expression_stays x i) (expression_stays y i)
expression_stays (apply r f x) = ap (apply r f) (expression_stays x)
expression_stays e = refl

argument_stays : (x : Argument) → moved_argument no_counts x ≡ x
argument_stays (value e) = ap value (expression_stays e)
argument_stays (text v) = ap text (variable_stays v)

arguments_stay : (xs : List Argument) → map (moved_argument no_counts) xs ≡ xs
arguments_stay [] = refl
arguments_stay (x ∷ xs) = λ i. argument_stays x i ∷ arguments_stay xs i

mutual
  statement_stays : (x : Statement) → moved no_counts x ≡ x
  statement_stays (set line r v e) = λ i. set line r (variable_stays v i) (expression_stays e i)
  statement_stays (call line r vs opcode args) = λ i. call line r (variables_stay vs i) opcode (arguments_stay args i)
  statement_stays (choose line r list) = ap (choose line r) (arms_stay list)

  pub block_stays : (x : Block) → moved_block no_counts x ≡ x
  block_stays no_stmt = refl
  block_stays (andthen x rest) = λ i. andthen (statement_stays x i) (block_stays rest i)

  arms_stay : (x : Arms) → moved_arms no_counts x ≡ x
  arms_stay (otherwise x) = ap otherwise (block_stays x)
  arms_stay (arm c x rest) = λ i. arm (expression_stays c i) (block_stays x i) (arms_stay rest i)
