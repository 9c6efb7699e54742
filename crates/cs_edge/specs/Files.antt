use Rattle.std.specs.Prelude.{ℕ, ◌≡◌, ◌≤◌, List, [], ◌∷◌, Bool, true, false, if◌then◌else◌, Option, None, Some, take}
use Rattle.std.specs.Prelude.{drop, length, bytes_eq, ⊤}
use Rattle.cs_edge.specs.{declared.files.NamedBytes.NamedBytes, declared.moves.Move.Move}

-- the state that a shelf tells: its files, the bytes left of the file begun, the calls made on it, and its
-- fault count
pub record ShelfTold : Type 0 where
  pub files : Option (List NamedBytes)
  pub left : Option (List ℕ)
  pub moves : Option (List Move)
  pub faults : ℕ

-- the bytes of the first file with this name
abbrev pub file_named : List ℕ → List NamedBytes → Option (List ℕ)
file_named name [] = None
file_named name (file ∷ files) = if bytes_eq file.name name then Some file.bytes else file_named name files

-- A `begin` with this name returned this result, and these bytes are left. If the files aren't told, a
-- successful `begin` returns true.
abbrev pub Begins : Option (List NamedBytes) → List ℕ → Bool → Option (List ℕ) → Type 0
Begins None name true left = ⊤
Begins None name false left = ⊥
Begins (Some files) name true left = (bytes : List ℕ) × (file_named name files ≡ Some bytes) × (left ≡ Some bytes)
Begins (Some files) name false left = (file_named name files ≡ None) × (left ≡ Some [])

-- no bytes are left, if they are told
abbrev pub NothingLeft : Option (List ℕ) → Type 0
NothingLeft None = ⊤
NothingLeft (Some left) = left ≡ []

-- n bytes are moved from the start of the bytes left, if these are told; n is 0 only if no bytes are left
abbrev pub TakesFront : Option (List ℕ) → Option (List ℕ) → List ℕ → ℕ → Type 0
TakesFront None now buf n = ⊤
TakesFront (Some left) now buf n =
    (now ≡ Some (drop n left)) × (take n buf ≡ take n left) × (n ≤ length left) × (n ≡ 0 → left ≡ [])

-- the files are told, and none has this name
abbrev pub Lacks : Option (List NamedBytes) → List ℕ → Type 0
Lacks None name = ⊥
Lacks (Some files) name = file_named name files ≡ None
