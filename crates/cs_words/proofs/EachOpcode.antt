-- Facts about each opcode, derived from computations over the catalogue. Adding an opcode changes nothing
-- here.
use Rattle.std.proofs.Common.{◌≡◌, ℕ, List, [], ◌∷◌, Bool, true, false, not, ◌||◌, Some, refl, if◌then◌else◌}
use Rattle.std.specs.{Str.bytes_eq, List.list_all}
use Rattle.std.proofs.lemmas.Bool.{and_parts}
use Rattle.cs_words.specs.Catalogue.{row_of, opcodes, named, catalogued}
use Rattle.cs_words.specs.declared.catalogue.Opcode.{Opcode}
use Rattle.cs_words.specs.declared.catalogue.Opcode.TheVariants as op

pub opcode_found : (o : Opcode) → catalogued (row_of o).name ≡ Some o
unfolding catalogued
opcode_found op.Init = refl
opcode_found o = refl

-- an opcode found in a list satisfies every test that all opcodes of the list satisfy
found_has : (P : Opcode → Bool) (name : List ℕ) (ids : List Opcode) (o : Opcode) → named name ids ≡ Some o
    → list_all P ids ≡ true → P o ≡ true
found_has P name [] o found all = absurd (cc)
found_has P name (id ∷ ids) o found all =
    let both = and_parts (P id) (list_all P ids) all in
    here (bytes_eq name (row_of id).name) found both.0 (λ is. found_has P name ids o is both.1)
  where
    here : (b : Bool) → (if b then Some id else named name ids) ≡ Some o → P id ≡ true
        → (named name ids ≡ Some o → P o ≡ true) → P o ≡ true
    here true is first later = cc
    here false is first later = later is

-- each opcode passes a test that all opcodes of the catalogue pass
pub of_all : (P : Opcode → Bool) → list_all P opcodes ≡ true → (o : Opcode) → P o ≡ true
unfolding catalogued
of_all P all o = found_has P (row_of o).name opcodes o (opcode_found o) all

-- each opcode that passes P passes Q, if this holds for all opcodes of the catalogue
pub when_all : (P Q : Opcode → Bool) → list_all (λ o. not (P o) || Q o) opcodes ≡ true → (o : Opcode) → P o ≡ true
    → Q o ≡ true
when_all P Q all o = by (P o) (of_all (λ o. not (P o) || Q o) all o)
  where
    by : (b : Bool) → (not b || Q o) ≡ true → b ≡ true → Q o ≡ true
    by true h is = h
    by false h is = absurd (cc)
