-- A text of a shelf, read to its end or up to a limit.
use Rattle.std.specs.Prelude.{ℕ, ◌≡◌, ◌≤◌, nat_lt, Bool, List, ◌++◌, length, take, drop, Option, None, Some, ⊤}
use Rattle.cs_edge.specs.{declared.files.NamedBytes.NamedBytes, declared.moves.Move.TheVariants.Read, Told.Follows}
use Rattle.cs_edge.specs.{Moves.Grown, Moves.GrownBy, Moves.AreAll, Files.ShelfTold, Files.TakesFront, Files.file_named}

-- the text read so far is a prefix of the earlier rest, if the shelf tells its rest
abbrev pub ReadSoFar : Option (List ℕ) → Option (List ℕ) → List ℕ → Type 0
ReadSoFar None now text = ⊤
ReadSoFar (Some left) now text = (rest : List ℕ) × (now ≡ Some rest) × (left ≡ text ++ rest)

-- These bytes were read from a shelf, in some number of reads, none of which failed.
pub record ReadMore (before now : ShelfTold) (bytes : List ℕ) : Type 0 where
  pub taken : ReadSoFar before.left now.left bytes
  pub made : Follows before.moves now.moves (Grown (AreAll Read))
  pub calm : now.faults ≡ before.faults
  pub same : now.files ≡ before.files

-- One read of a shelf appended at most `most` bytes to the text; `any` says whether there were any.
pub record ReadOnce (before now : ShelfTold) (most : ℕ) (text longer : List ℕ) (any : Bool) : Type 0 where
  pub block : List ℕ
  pub count : ℕ
  pub added : longer ≡ text ++ take count block
  pub within : (count ≤ length block) × (count ≤ most)
  pub taken : TakesFront before.left now.left block count
  pub made : Follows before.moves now.moves (GrownBy Read)
  pub calm : now.faults ≡ before.faults
  pub same : now.files ≡ before.files
  pub any_is : any ≡ nat_lt 0 count

-- The first bytes of the earlier rest, at most `most`, were read, and the rest now follows them; if the shelf
-- tells its rest.
abbrev pub IsFrontOf : ℕ → Option (List ℕ) → List ℕ → Option (List ℕ) → Type 0
IsFrontOf most None text now = ⊤
IsFrontOf most (Some left) text now = (text ≡ take most left) × (now ≡ Some (drop most left))

-- If the shelf tells its files, one has that name, and everything after its first bytes, at most `most`, is
-- left.
abbrev pub LeavesRest : ℕ → Option (List NamedBytes) → List ℕ → Option (List ℕ) → Type 0
LeavesRest most None name left = ⊤
LeavesRest most (Some files) name left =
    (bytes : List ℕ) × (file_named name files ≡ Some bytes) × (left ≡ Some (drop most bytes))

-- the first bytes of the file with that name, at most `most`, if the shelf tells its files
abbrev pub IsTextOf : ℕ → Option (List NamedBytes) → List ℕ → List ℕ → Type 0
IsTextOf most None name text = ⊤
IsTextOf most (Some files) name text =
    (bytes : List ℕ) × (file_named name files ≡ Some bytes) × (text ≡ take most bytes)
