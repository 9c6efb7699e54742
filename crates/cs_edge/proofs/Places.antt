use Rattle.std.proofs.Common.{◌≡◌, ℕ, ◌+◌, ◌<◌, ◌≤◌, List, [], ◌∷◌, length, get_or, drop, Some, bytes_eq, refl, ap, sym}
use Rattle.std.proofs.Common.{◌∙◌, arith, zero, suc, add-one, true, if◌then◌else◌}
use Rattle.std.proofs.Math.Seq.{drop-cons}
use Rattle.cs_edge.specs.{declared.files.NamedBytes.NamedBytes, Files.file_named, Memory.bytes_at}

-- the bytes of the file at an index
pub bytes_at_place : (files : List NamedBytes) (i : ℕ) (file : NamedBytes) → i < length files
    → file ≡ get_or files i file → bytes_at (Some i) files ≡ file.bytes
bytes_at_place [] i file h e = absurd (omega arith)
bytes_at_place (f ∷ files) zero file h e = ap (λ (x : NamedBytes). x.bytes) (sym e)
bytes_at_place (f ∷ files) (suc i) file h e = bytes_at_place files i file (omega arith) e

-- beyond the last file there are no bytes
pub bytes_past : (files : List NamedBytes) (i : ℕ) → length files ≤ i → bytes_at (Some i) files ≡ []
bytes_past [] i h = refl
bytes_past (f ∷ files) zero h = absurd (omega arith)
bytes_past (f ∷ files) (suc i) h = bytes_past files i (omega arith)

-- a search from an index on tests the file there, and then continues
pub named_from : (name : List ℕ) (files : List NamedBytes) (i : ℕ) (file : NamedBytes) → i < length files
    → file ≡ get_or files i file → file_named name (drop i files)
    ≡ (if bytes_eq file.name name then Some file.bytes else file_named name (drop (i + 1) files))
named_from name files i file h e =
    rw (add-one, drop-cons files i file h, ← e) refl

-- if the file at an index has the name, a search from there finds it
pub named_here : (name : List ℕ) (files : List NamedBytes) (i : ℕ) (file : NamedBytes) → i < length files
    → file ≡ get_or files i file → bytes_eq file.name name ≡ true
    → file_named name (drop i files) ≡ Some (bytes_at (Some i) files)
named_here name files i file h e same =
    named_from name files i file h e ∙ rw (same, bytes_at_place files i file h e) refl
