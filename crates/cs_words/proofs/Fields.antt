-- The form of a word that is read as a name or as a field.
use Rattle.std.proofs.Common.{◌≡◌, ◌≤◌, ◌&&◌, ◌==◌, ◌+◌, ◌*◌, ℕ, List, [], ◌∷◌, Bool, true, false, Option, Some, None}
use Rattle.std.proofs.Common.{◌≢◌, refl, ap, ◌∙◌, sym, if◌then◌else◌, nat_le, codes, arith}
use Rattle.std.specs.{List.list_all, Str.byte, Str.bytes_eq, Char.is_ascii_digit}
use Rattle.std.proofs.lemmas.{Bool.Decides.nat_tests, Bool.and_parts}
use Rattle.cs_words.specs.{Names.is_name, Catalogue.catalogued, Tables.looked_up, Words.is_foreign, Words.word_of}
use Rattle.cs_words.specs.{declared.catalogue.Opcode.Opcode, declared.word.Word.Word}
use Rattle.cs_words.specs.Words.{words, listed_word, first_of, field_of, field_or, is_leading, digit, plain_word}
use Rattle.cs_words.specs.declared.word.Word.TheVariants as word

-- whether a word comes from the list, so that it is neither a name nor a field
abbrev is_listed : Word → Bool
is_listed (word.Keyword k) = true
is_listed (word.Header h) = true
is_listed (word.Func f) = true
is_listed w = false

by_row : (b : Bool) (meaning w : Word) (other : Option Word) → is_listed meaning ≡ true
    → (other ≡ Some w → is_listed w ≡ true) → (if b then Some meaning else other) ≡ Some w → is_listed w ≡ true
by_row true meaning w other here later e = let same : meaning ≡ w = cc e in sym (ap is_listed same) ∙ here
by_row false meaning w other here later e = later e

listed : (rows : List (List ℕ × Word)) (bytes : List ℕ) (w : Word) → list_all (λ r. is_listed r.1) rows ≡ true
    → looked_up rows bytes ≡ Some w → is_listed w ≡ true
listed [] bytes w all e = absurd (cc e)
listed ((spelling, meaning) ∷ rows) bytes w all e =
    let both = and_parts (is_listed meaning) (list_all (λ r. is_listed r.1) rows) all in
    by_row (bytes_eq bytes spelling) meaning w (looked_up rows bytes) both.0 (λ h. listed rows bytes w both.1 h) e

-- a word that is neither in the list nor an opcode is the word `left`
left_of : (bytes : List ℕ) (l : Option Word) (o : Option Opcode) (left w : Word) → listed_word bytes ≡ l
    → is_listed w ≡ false → ((p : Opcode) → word.Opcode p ≢ w) → first_of l o left ≡ w → left ≡ w
unfolding listed_word
left_of bytes (Some v) o left w is unlisted other e =
    absurd (cc (listed words bytes v refl is, ap is_listed e, unlisted))
left_of bytes None (Some p) left w is unlisted other e = absurd (other p e)
left_of bytes None None left w is unlisted other e = e

-- a word that is in no table, by its form
plain_name : (foreign : Bool) (k : Option ℕ) (bytes : List ℕ)
    → (if foreign then word.Foreign else field_or k bytes) ≡ word.Name → is_name bytes ≡ true
plain_name true k bytes e = absurd (cc e)
plain_name false (Some k) bytes e = absurd (cc e)
plain_name false None bytes e = by (is_name bytes) e
  where
    by : (b : Bool) → (if b then word.Name else word.Other) ≡ word.Name → b ≡ true
    by true e = refl
    by false e = absurd (cc e)

plain_field : (foreign : Bool) (k : Option ℕ) (bytes : List ℕ) (n : ℕ)
    → (if foreign then word.Foreign else field_or k bytes) ≡ word.Field n → k ≡ Some n
plain_field true k bytes n e = absurd (cc e)
plain_field false (Some k) bytes n e = cc e
plain_field false None bytes n e = absurd (by (is_name bytes) e)
  where
    by : (b : Bool) → (if b then word.Name else word.Other) ≡ word.Field n → ⊥
    by true e = cc e
    by false e = cc e

-- a test that yields a number was true, and yields this number
let_through : (b : Bool) (n k : ℕ) → (if b then Some n else None) ≡ Some k → (b ≡ true) × (n ≡ k)
let_through true n k e = (refl, cc e)
let_through false n k e = absurd (cc e)

one_digit : (p b k : ℕ) → (if p == byte "p" && is_leading b then Some (digit b) else None) ≡ Some k
    → (1 ≤ k) × (k ≤ 100)
one_digit p b k e =
    let (test, is) = let_through (p == byte "p" && is_leading b) (digit b) k e in
    let leads = (and_parts (p == byte "p") (is_leading b) test).1 in
    let (low, high) = and_parts (nat_le 49 b) (nat_le b 57) leads in
    grind (arith, nat_tests)

two_digits : (p b c k : ℕ)
    → (if p == byte "p" && is_leading b && is_ascii_digit c then Some (digit b * 10 + digit c) else None) ≡ Some k
    → (1 ≤ k) × (k ≤ 100)
two_digits p b c k e =
    let (test, is) = let_through (p == byte "p" && is_leading b && is_ascii_digit c) (digit b * 10 + digit c) k e in
    let (front, last) = and_parts (p == byte "p" && is_leading b) (is_ascii_digit c) test in
    let leads = (and_parts (p == byte "p") (is_leading b) front).1 in
    let (low, high) = and_parts (nat_le 49 b) (nat_le b 57) leads in
    grind (arith, nat_tests)

hundred : (b : Bool) (k : ℕ) → (if b then Some 100 else None) ≡ Some k → (1 ≤ k) × (k ≤ 100)
hundred b k e = let (test, is) = let_through b 100 k e in grind (arith)

field_range : (w : List ℕ) (k : ℕ) → field_of w ≡ Some k → (1 ≤ k) × (k ≤ 100)
unfolding field_of
field_range [] k e = absurd (cc e)
field_range (p ∷ []) k e = absurd (cc e)
field_range (p ∷ b ∷ []) k e = one_digit p b k e
field_range (p ∷ b ∷ c ∷ []) k e = two_digits p b c k e
field_range (p ∷ b ∷ c ∷ d ∷ []) k e = hundred (bytes_eq (p ∷ b ∷ c ∷ d ∷ []) (codes "p100")) k e
field_range (p ∷ b ∷ c ∷ d ∷ f ∷ rest) k e = absurd (cc e)

pub name_begins : (w : List ℕ) → word_of w ≡ word.Name → is_name w ≡ true
unfolding word_of
name_begins w e =
    plain_name (is_foreign w) (field_of w) w
    (left_of w (listed_word w) (catalogued w) (plain_word w) word.Name refl refl (λ p h. cc h) e)

pub field_numbers : (w : List ℕ) (k : ℕ) → word_of w ≡ word.Field k → (1 ≤ k) × (k ≤ 100)
unfolding word_of
field_numbers w k e =
    field_range w k (plain_field (is_foreign w) (field_of w) w k
    (left_of w (listed_word w) (catalogued w) (plain_word w) (word.Field k) refl refl (λ p h. cc h) e))
