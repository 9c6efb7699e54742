-- Definitions by index.
use Rattle.std.specs.Prelude.{ℕ, List, ◌≡◌, ◌<◌, ◌≤◌, min, length, map, take, slice_get, Option, Some, None}
use Rattle.cs_words.specs.NameSets.{place_of}
use Rattle.cs_grammar.specs.{declared.tree.Callee.Callee, Tree.Definition, Tree.definition}
use Rattle.cs_udo.specs.{declared.library.FoundDefinition.FoundDefinition, declared.library.Library.Library}
use Rattle.cs_udo.specs.Expanded.{Opcodes, no_opcodes, defined, defining_all, template}
use Rattle.cs_grammar.specs.declared.tree.Callee.TheVariants as callee

-- the definitions of a library
abbrev pub definitions_of : Library → List Definition
definitions_of l = map definition l.definitions.now

-- the opcodes that the first `visible` definitions define
abbrev pub opcodes_of : List Definition → ℕ → Opcodes
opcodes_of ds visible = defining_all no_opcodes (take visible ds)

-- the index of the first definition with a name, or the number of definitions if none has it
abbrev pub place_among : List Definition → List ℕ → ℕ
place_among ds x = place_of (map (λ d. d.name) ds) x

-- the result of a look-up among the first `visible` definitions: none, or the first that has the name
abbrev pub IsFound : List Definition → ℕ → Callee → Option FoundDefinition → Type 0
IsFound ds visible (callee.Opcode o) None = Unit {0}
IsFound ds visible (callee.Opcode o) (Some f) = ⊥
IsFound ds visible (callee.Name x) None = min visible (length ds) ≤ place_among ds x
IsFound ds visible (callee.Name x) (Some f) =
    (f.place < visible) × (f.place ≡ place_among ds x)
    × (slice_get ds f.place ≡ Some (definition f.definition.now))

-- The result of a look-up in terms of opcodes: a definition may call those before it.
abbrev pub IsDefined : List Definition → ℕ → Callee → Option FoundDefinition → Type 0
IsDefined ds visible c None = defined (opcodes_of ds visible) c ≡ None
IsDefined ds visible c (Some f) =
    (f.place < visible) × (slice_get ds f.place ≡ Some (definition f.definition.now))
    × (defined (opcodes_of ds visible) c ≡ Some (template (opcodes_of ds f.place) (definition f.definition.now)))
