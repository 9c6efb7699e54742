-- Data about each user-defined opcode, by its name.
use Rattle.std.specs.Prelude.{ℕ, List, [], ◌∷◌, Option, Some, None, if◌then◌else◌}
use Rattle.std.specs.{Option.option_or, Str.bytes_eq}
use Rattle.cs_grammar.specs.{declared.tree.Callee.Callee, Tree.Definition}
use Rattle.cs_grammar.specs.declared.tree.Callee.TheVariants as callee

-- an item for each name, if there is one
abbrev pub ByName : Type 0 → Type 0
ByName A = List ℕ → Option A

-- the item of the called opcode if it is user-defined; an opcode of the catalogue has none
abbrev pub item_of : {A : Type 0} → ByName A → Callee → Option A
item_of env (callee.Opcode o) = None
item_of env (callee.Name name) = env name

-- the items with one more definition, whose item depends on the earlier ones; earlier definitions keep their
-- items
abbrev pub with_item : {A : Type 0} → (ByName A → Definition → A) → ByName A → Definition → ByName A
with_item item env d name = option_or (env name) (if bytes_eq name d.name then Some (item env d) else None)

-- the items with more definitions: each may call those before it
abbrev pub with_items : {A : Type 0} → (ByName A → Definition → A) → ByName A → List Definition → ByName A
with_items item env [] = env
with_items item env (d ∷ ds) = with_items item (with_item item env d) ds
