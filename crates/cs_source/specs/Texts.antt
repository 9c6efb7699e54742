-- The texts of a piece, by their source.
use Rattle.std.specs.Prelude.{ℕ, ◌≡◌, ◌≤◌, ◌⊎◌, Bool, true, false, List, [], length, nat_lt, Option, Some, None, ⊤}
use Rattle.cs_base.specs.Limits.{most_orchestra_bytes}
use Rattle.cs_edge.specs.{Files.file_named, declared.files.NamedBytes.NamedBytes}
use Rattle.cs_arguments.specs.Reading.{AskedPiece, two_files, one_file, demo}

-- an orchestra and a score; one file with both; or the demo with some number of notes
pub data Texts : Type 0 where
  both : List ℕ → List ℕ → Texts
  csd : List ℕ → Texts
  demo_notes : ℕ → Texts

-- texts of the kind that the arguments ask for; the demo's texts are fixed
abbrev pub Fit : AskedPiece → Texts → Type 0
Fit (two_files orc sco) (both orchestra score) = ⊤
Fit (one_file name) (csd text) = ⊤
Fit (demo n) (demo_notes m) = n ≡ m
Fit _ _ = ⊥

-- an orchestra is too long
abbrev pub is_too_long : List ℕ → Bool
is_too_long orchestra = nat_lt most_orchestra_bytes (length orchestra)

-- the score after an orchestra that is too long or not: after one that is too long it isn't opened, and
-- counts as empty
abbrev pub IsScoreBehind : Bool → List NamedBytes → List ℕ → List ℕ → Type 0
IsScoreBehind true files sco score = score ≡ []
IsScoreBehind false files sco score = file_named sco files ≡ Some score

-- files have these texts
abbrev pub Have : List NamedBytes → AskedPiece → Texts → Type 0
Have files (two_files orc sco) (both orchestra score) =
    (file_named orc files ≡ Some orchestra) × IsScoreBehind (is_too_long orchestra) files sco score
Have files (one_file name) (csd text) = file_named name files ≡ Some text
Have files (demo n) (demo_notes m) = n ≡ m
Have files _ _ = ⊥

-- the files have these texts, if the shelf tells its files
abbrev pub HaveWhereTold : Option (List NamedBytes) → AskedPiece → Texts → Type 0
HaveWhereTold None piece texts = ⊤
HaveWhereTold (Some files) piece texts = Have files piece texts

-- The told files lack this name, which is opened: the orchestra's, the score's after an orchestra that isn't
-- too long, or the name of the one file.
abbrev pub Lack : List NamedBytes → AskedPiece → List ℕ → Type 0
Lack files (two_files orc sco) name =
    ((name ≡ orc) × (file_named orc files ≡ None))
    ⊎ ((name ≡ sco) × (orchestra : List ℕ) × (file_named orc files ≡ Some orchestra)
    × (length orchestra ≤ most_orchestra_bytes) × (file_named sco files ≡ None))
Lack files (one_file csd_name) name = (name ≡ csd_name) × (file_named csd_name files ≡ None)
Lack files (demo n) name = ⊥

-- the told files lack a name that is opened; without told files no name is lacking
abbrev pub LackWhereTold : Option (List NamedBytes) → AskedPiece → List ℕ → Type 0
LackWhereTold None piece name = ⊥
LackWhereTold (Some files) piece name = Lack files piece name

-- a name in the arguments
abbrev pub IsNameOf : AskedPiece → List ℕ → Type 0
IsNameOf (two_files orc sco) name = (name ≡ orc) ⊎ (name ≡ sco)
IsNameOf (one_file csd_name) name = name ≡ csd_name
IsNameOf (demo n) name = ⊥
