-- A property of every user-defined opcode, proved for each definition from the opcodes that it may call.
use Rattle.std.proofs.Common.{arith, ℕ, List, ◌∷◌, Option, Some, None, []}
use Rattle.std.proofs.lemmas.Grind.{common_steps}
use Rattle.cs_grammar.specs.{Tree.Definition, declared.tree.Callee.Callee}
use Rattle.cs_udo.specs.ByName.{ByName, item_of, with_item, with_items}
use Rattle.cs_grammar.specs.declared.tree.Callee.TheVariants as callee

module _ {A : Type 0} (P : A → Type 0) where
  abbrev pub Of : Option A → Type 0
  Of None = Unit {0}
  Of (Some a) = P a

  pub record OfEach (env : ByName A) : Type 0 where
    pub each : (name : List ℕ) → Of (env name)

  pub of_called : (env : ByName A) → OfEach env → (c : Callee) → Of (item_of env c)
  of_called env k (callee.Opcode o) = tt
  of_called env k (callee.Name name) = k.each name

  pub of_none : OfEach (λ name. None)
  of_none = record { each = λ name. tt }

  module _ (item : ByName A → Definition → A) where
    pub one_more : (env : ByName A) → OfEach env → (d : Definition) → P (item env d) → OfEach (with_item item env d)
    one_more env k d new = grind (arith, common_steps)

    pub all_more : ((env : ByName A) → OfEach env → (d : Definition) → P (item env d)) → (env : ByName A) → OfEach env
        → (ds : List Definition) → OfEach (with_items item env ds)
    all_more step env k [] = k
    all_more step env k (d ∷ ds) = all_more step (with_item item env d) (one_more env k d (step env k d)) ds
