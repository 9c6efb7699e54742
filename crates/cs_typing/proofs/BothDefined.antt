-- Data about user-defined opcodes in two forms: the same opcodes are defined in both, and R relates the two
-- items of each.
use Rattle.std.proofs.Common.{ℕ, Bool, true, false, if◌then◌else◌, List, Option, Some, None}
use Rattle.std.specs.{Option.option_or, Str.bytes_eq}
use Rattle.cs_grammar.specs.Tree.{Definition}
use Rattle.cs_udo.specs.ByName.{ByName, with_item}

module _ {A B : Type 0} (R : A → B → Type 0) where
  abbrev pub Both : Option A → Option B → Type 0
  Both None None = Unit {0}
  Both None (Some b) = ⊥
  Both (Some a) None = ⊥
  Both (Some a) (Some b) = R a b

  -- with one more definition
  pub both_more : (item : ByName A → Definition → A) (other : ByName B → Definition → B) (env : ByName A)
      (env' : ByName B) → ((name : List ℕ) → Both (env name) (env' name)) → (d : Definition)
      → R (item env d) (other env' d) → (name : List ℕ) → Both (with_item item env d name) (with_item other env' d name)
  both_more item other env env' m d new name = by (env name) (env' name) (m name) (bytes_eq name d.name)
    where
      by : (a : Option A) (b : Option B) → Both a b → (same : Bool)
          → Both (option_or a (if same then Some (item env d) else None))
          (option_or b (if same then Some (other env' d) else None))
      by None None h true = new
      by None None h false = tt
      by None (Some b) h same = absurd h
      by (Some a) None h same = absurd h
      by (Some a) (Some b) h same = h
