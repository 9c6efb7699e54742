-- Looking up each row of each table finds that row, by computation.
use Rattle.std.proofs.Common.{◌≡◌, ℕ, List, [], ◌∷◌, Bool, true, false, Option, Some, None, map, refl, sym, ap, subst}
use Rattle.std.proofs.Common.{if◌then◌else◌}
use Rattle.std.specs.{Str.bytes_eq, List.All, List.list_all}
use Rattle.std.proofs.lemmas.{Slice.Eq.bytes_eq-Decides, List.Elements.All-cons, List.Elements.All-nil}
use Rattle.cs_words.specs.Catalogue.{row_of, opcodes, named, catalogued}
use Rattle.cs_words.specs.{Signs.signs, Signs.sign_of, declared.catalogue.Opcode.Opcode, declared.word.Word.Word}
use Rattle.cs_words.specs.Words.{words, foreign_words, listed_word, is_foreign, word_of}
use Rattle.cs_words.proofs.EachOpcode.{opcode_found, of_all}
use Rattle.cs_words.specs.declared.word.Word.TheVariants as word

-- a word is this opcode, by its name
is_opcode : Opcode → Word → Bool
is_opcode o (word.Opcode p) = bytes_eq (row_of p).name (row_of o).name
is_opcode o _ = false

opcodes_read : list_all (λ o. is_opcode o (word_of (row_of o).name)) opcodes ≡ true
unfolding is_opcode word_of listed_word catalogued
opcodes_read = refl

pub one_name : (o p : Opcode) → (row_of o).name ≡ (row_of p).name → o ≡ p
one_name o p same = cc (opcode_found o, opcode_found p, ap catalogued same)

pub opcode_read : (o : Opcode) → word_of (row_of o).name ≡ word.Opcode o
unfolding is_opcode
opcode_read o = by (word_of (row_of o).name) (of_all (λ o. is_opcode o (word_of (row_of o).name)) opcodes_read o)
  where
    by : (w : Word) → is_opcode o w ≡ true → w ≡ word.Opcode o
    by (word.Opcode p) h = ap word.Opcode (one_name p o ((bytes_eq-Decides (row_of p).name (row_of o).name).0 h))
    by (word.Keyword k) h = absurd (cc)
    by (word.Header k) h = absurd (cc)
    by (word.Func f) h = absurd (cc)
    by (word.Field k) h = absurd (cc)
    by word.Name h = absurd (cc)
    by word.Foreign h = absurd (cc)
    by word.Other h = absurd (cc)

-- the opcode that is found has the name
abbrev IfFound : List ℕ → Option Opcode → Type 0
IfFound name None = Unit {0}
IfFound name (Some o) = (row_of o).name ≡ name

named_so : (name : List ℕ) (ids : List Opcode) → IfFound name (named name ids)
named_so name [] = tt
named_so name (id ∷ ids) =
    either_way (bytes_eq name (row_of id).name) (λ e. sym ((bytes_eq-Decides name (row_of id).name).0 e))
    (named_so name ids)
  where
    either_way : (b : Bool) → (b ≡ true → (row_of id).name ≡ name) → IfFound name (named name ids)
        → IfFound name (if b then Some id else named name ids)
    either_way true here later = here refl
    either_way false here later = later

pub found_so : (name : List ℕ) (o : Opcode) → catalogued name ≡ Some o → (row_of o).name ≡ name
unfolding catalogued
found_so name o e = subst (IfFound name) e (named_so name opcodes)

-- if two functions have equal results along a list, they have equal results for each row
row_by_row : {A B : Type 0} (f g : A → B) (xs : List A) → map f xs ≡ map g xs → All (λ x. f x ≡ g x) xs
row_by_row f g [] e = All-nil (λ x. f x ≡ g x)
row_by_row f g (x ∷ xs) e = All-cons (λ y. f y ≡ g y) x xs (cc e) (row_by_row f g xs (cc e))

pub words_read : All (λ r. word_of r.0 ≡ r.1) words
unfolding word_of listed_word
words_read = row_by_row (λ r. word_of r.0) (λ r. r.1) words refl

pub foreign_read : All (λ w. word_of w ≡ word.Foreign) foreign_words
unfolding word_of listed_word catalogued is_foreign
foreign_read = row_by_row word_of (λ w. word.Foreign) foreign_words refl

pub signs_read : All (λ r. sign_of r.0 ≡ r.1) signs
unfolding sign_of
signs_read = row_by_row (λ r. sign_of r.0) (λ r. r.1) signs refl
