-- The results of the getters on the matches, in terms of the uses.
use Rattle.std.proofs.lemmas.{Grind.common_steps, Bool.and_parts, Bool.or_parts, Slice.Eq.bytes_eq-Decides}
use Rattle.std.proofs.Common.{◌≡◌, ◌||◌, ◌∙◌, ◌++◌, ◌∷◌, ◌<◌, ◌≤◌, ◌^◌, ℕ, Bool, true, false, not, cond, List, []}
use Rattle.std.proofs.Common.{Option, Some, None, Result, Ok, Err, is_some, option_map, option_and_then, find, fold}
use Rattle.std.proofs.Common.{refl, sym, ap, ap₂, codes, bytes_eq, nat_lt, eqb-true, true≢false, arith, ltb-true}
use Rattle.std.proofs.Common.{leb-true}
use Rattle.std.specs.{List.list_all, Option.unwrap_or, Char.digit_value, Bool.⊤}
use Rattle.std.specs.Str.Parse.{AllDigits, IsNumeral, ParsesUnsigned, without_leading_plus}
use Rattle.clap.specs.{Lexer.without_minus, Values.read_as, Values.reading_of, declared.parser.matches.Found.Found}
use Rattle.clap.specs.Matches.{ReadsOne, first_value, one_text}
use Rattle.clap.specs.Walk.{Row, Rule, at_row, has_row, one_of, reading_by, row_text, rows_of, with_default}
use Rattle.clap.specs.declared.parser.matches.ValueSource.TheVariants.{DefaultValue}
use Rattle.clap.proofs.WalkLemmas.{find-map, first_value-rows, one_text-rows}
use Rattle.cs_arguments.specs.Reading.{Text, Use, has_use, is_number, is_value, number_of, stands, value_of}
use Rattle.cs_arguments.specs.{Command.parser_of, Command.the_rules, Taken.ends, Taken.good, Taken.row, Taken.rows}
use Rattle.cs_arguments.proofs.{Walking.joins, Command.no_minus}
use Rattle.clap.specs.declared.builder.value_parser.Reading.TheVariants as reading

-- ---- the rows of defaults come after the rows of the uses

abbrev or_row : Option Row → Option Row → Option Row
or_row None later = later
or_row (Some r) later = Some r

or_none : (o : Option Row) → or_row o None ≡ o
or_none None = refl
or_none (Some r) = refl

or_assoc : (a b c : Option Row) → or_row (or_row a b) c ≡ or_row a (or_row b c)
or_assoc None b c = refl
or_assoc (Some r) b c = refl

abbrev row_for : Text → List Row → Option Row
row_for key rs = find (λ r. bytes_eq r.id key) rs

abbrev default_of : Rule → List Text → Option Row
default_of a [] = None
default_of a (v ∷ vs) = Some
    (record { id = a.id; values = v ∷ vs; count = None; source = Some DefaultValue; reading = reading_by a })

abbrev default_for : Text → List Rule → Option Row
default_for key [] = None
default_for key (a ∷ rest) = or_row (cond (bytes_eq a.id key) (default_of a a.defaults) None) (default_for key rest)

no_row : (key : Text) (change : Row → List Row) (missing rs : List Row) → has_row key rs ≡ false
    → at_row key change missing rs ≡ rs ++ missing
no_row key change missing [] none = refl
no_row key change missing (r ∷ rs) none =
    let parts = or_parts (bytes_eq r.id key) (has_row key rs) none in
    ap (λ b. cond b (change r ++ rs) (r ∷ at_row key change missing rs)) parts.0
    ∙ ap (λ l. r ∷ l) (no_row key change missing rs parts.1)

row_at_end : (key : Text) (r : Row) (rs : List Row)
    → row_for key (rs ++ r ∷ []) ≡ or_row (row_for key rs) (cond (bytes_eq r.id key) (Some r) None)
row_at_end key r [] = refl
row_at_end key r (x ∷ rs) = grind (arith, common_steps, bytes_eq, row_at_end key r rs)

row_stays : (key : Text) (later : Option Row) (rs : List Row) → has_row key rs ≡ true
    → or_row (row_for key rs) later ≡ row_for key rs
row_stays key later [] has = absurd (true≢false (sym has))
row_stays key later (x ∷ rs) has = go (bytes_eq x.id key) (λ h. row_stays key later rs h) has
  where
    go : (b : Bool) → (has_row key rs ≡ true → or_row (row_for key rs) later ≡ row_for key rs)
        → (b || has_row key rs) ≡ true
        → or_row (cond b (Some x) (row_for key rs)) later ≡ cond b (Some x) (row_for key rs)
    go true e h = refl
    go false e h = e h

one_default : (key : Text) (a : Rule) (rs : List Row) → row_for key (with_default rs a) ≡ or_row (row_for key rs)
    (cond (bytes_eq a.id key) (default_of a a.defaults) None)
one_default key a rs = grind (arith, common_steps, bytes_eq, bytes_eq-Decides, no_row, or_none, row_at_end, row_stays)

defaults_found : (key : Text) (rules : List Rule) (rs : List Row)
    → row_for key (fold with_default rs rules) ≡ or_row (row_for key rs) (default_for key rules)
defaults_found key [] rs = sym (or_none (row_for key rs))
defaults_found key (a ∷ rest) rs =
    grind (arith, common_steps, one_default, or_assoc, defaults_found key rest (with_default rs a))

-- ---- uses

abbrev use_for : Text → List Use → Option Use
use_for key us = find (λ u. bytes_eq u.0 key) us

row_is : (key : Text) (us : List Use)
    → row_for key (ends us) ≡ or_row (option_map row (use_for key us)) (default_for key the_rules)
row_is key us = defaults_found key the_rules (rows us)
    ∙ ap (λ o. or_row o (default_for key the_rules)) (sym (find-map (λ r. bytes_eq r.id key) row us))

-- a use that is found has the key, and a valid value
abbrev IsFound : Text → Option Use → Type 0
IsFound key None = ⊤
IsFound key (Some u) = (u.0 ≡ key) × (is_value u ≡ true)

found_in : (key : Text) (before us : List Use) → stands before us ≡ true → IsFound key (use_for key us)
found_in key before [] fine = tt
found_in key before (u ∷ us) fine =
    let parts = and_parts (joins before u) _ fine in
    let mine = and_parts (not (has_use u.0 before)) (is_value u) parts.0 in
    go (bytes_eq u.0 key) refl mine.1 (found_in key (before ++ u ∷ []) us parts.1)
  where
    go : (b : Bool) → bytes_eq u.0 key ≡ b → is_value u ≡ true → IsFound key (use_for key us)
        → IsFound key (cond b (Some u) (use_for key us))
    go true e v later = ((bytes_eq-Decides u.0 key).0 e, v)
    go false e v later = later

is_used : (key : Text) (us : List Use) → has_use key us ≡ is_some (use_for key us)
is_used key [] = refl
is_used key (u ∷ us) = grind (arith, common_steps, bytes_eq, is_some, is_used key us)

-- ---- texts

pub text_is : (key : Text) → default_for key the_rules ≡ None → (f : Found) (us : List Use) → rows_of f ≡ ends us
    → first_value f key ≡ value_of key us
text_is key none f us is = grind (arith, common_steps, first_value-rows, option_and_then, option_map, row_is)

-- ---- flags

abbrev flag_text : Bool → Text
flag_text b = cond b (codes "true") (codes "false")

abbrev pub IsFlag : Text → Type 0
IsFlag key = (default_for key the_rules ≡ Some (record {
  id = key;
  values = codes "false" ∷ [];
  count = None;
  source = Some DefaultValue;
  reading = reading.AsWritten;
})) × (reading_of (parser_of key) ≡ reading.AsWritten) × ((v : Text) → is_value (key, v) ≡ true → v ≡ codes "true")

flag_row : (key : Text) → IsFlag key → (us : List Use) → good us ≡ true
    → one_of key (ends us) ≡ Some (flag_text (has_use key us))
flag_row key is us fine =
    ap (option_and_then row_text) (row_is key us ∙ ap (or_row (option_map row (use_for key us))) is.0)
    ∙ go (use_for key us) (found_in key [] us fine) ∙ ap (λ b. Some (flag_text b)) (sym (is_used key us))
  where
    go : (o : Option Use) → IsFound key o
        → option_and_then row_text (or_row (option_map row o) (Some (record {
          id = key;
          values = codes "false" ∷ [];
          count = None;
          source = Some DefaultValue;
          reading = reading.AsWritten;
        }))) ≡ Some (flag_text (is_some o))
    go None found = refl
    go (Some u) found =
        let plain : reading_of (parser_of u.0) ≡ reading.AsWritten =
        ap (λ t. reading_of (parser_of t)) found.0 ∙ is.1 in
        let says : u.1 ≡ codes "true" = is.2 u.1 (ap (λ t. is_value (t, u.1)) (sym found.0) ∙ found.1) in
        ap (λ how. Some (read_as how u.1)) plain ∙ ap Some says

pub flag_is : (key : Text) → IsFlag key → (f : Found) (us : List Use) → rows_of f ≡ ends us → good us ≡ true
    → (r : Bool) → (one_text f key ≡ Some (codes "true") → r ≡ true)
    → (one_text f key ≡ Some (codes "false") → r ≡ false) → r ≡ has_use key us
flag_is key is f us at fine r when unless =
    go (has_use key us) (one_text-rows f key ∙ ap (one_of key) at ∙ flag_row key is us fine)
  where
    go : (b : Bool) → one_text f key ≡ Some (flag_text b) → r ≡ b
    go true e = when e
    go false e = unless e

-- ---- numbers

digits_from : (ds : Text) → list_all (λ d. nat_lt (digit_value d) 10) ds ≡ true → AllDigits 10 ds
digits_from [] e = tt
digits_from (d ∷ ds) e =
    let parts = and_parts (nat_lt (digit_value d) 10) _ e in
    (ltb-true _ _ parts.0, digits_from ds parts.1)

pub number_in : (most : ℕ) (v : Text) → is_number most v ≡ true
    → IsNumeral 10 (without_leading_plus v) × (1 ≤ number_of v) × (number_of v ≤ most)
number_in most v is = grind (arith, common_steps, and_parts, digits_from, leb-true, ltb-true)

no_minus_in : (most : ℕ) (v : Text) → is_number most v ≡ true → without_minus v ≡ v
no_minus_in most [] is = refl
no_minus_in most (x ∷ xs) is = grind (arith, common_steps, eqb-true, no_minus)

abbrev pub IsCounted : ℕ → Text → Type 0
IsCounted most key = (default_for key the_rules ≡ None) × (reading_of (parser_of key) ≡ reading.WithoutMinus)
    × ((v : Text) → is_value (key, v) ≡ is_number most v)

number_row : (most : ℕ) (key : Text) → IsCounted most key → (us : List Use) → good us ≡ true
    → one_of key (ends us) ≡ value_of key us
number_row most key is us fine =
    ap (option_and_then row_text) (row_is key us ∙ ap (or_row (option_map row (use_for key us))) is.0)
    ∙ go (use_for key us) (found_in key [] us fine)
  where
    go : (o : Option Use) → IsFound key o
        → option_and_then row_text (or_row (option_map row o) None) ≡ option_map (λ u. u.1) o
    go None found = refl
    go (Some u) found =
        let how : reading_of (parser_of u.0) ≡ reading.WithoutMinus =
        ap (λ t. reading_of (parser_of t)) found.0 ∙ is.1 in
        let number : is_number most u.1 ≡ true = sym (is.2 u.1) ∙ ap (λ t. is_value (t, u.1)) (sym found.0) ∙ found.1 in
        ap (λ h. Some (read_as h u.1)) how ∙ ap Some (no_minus_in most u.1 number)

-- the value of a number that was used is in range
pub number_for : (most : ℕ) (key : Text) → IsCounted most key → (us : List Use) → good us ≡ true → (v : Text)
    → value_of key us ≡ Some v → is_number most v ≡ true
number_for most key is us fine v at = go (use_for key us) (found_in key [] us fine) at
  where
    go : (o : Option Use) → IsFound key o → option_map (λ u. u.1) o ≡ Some v → is_number most v ≡ true
    go None found e = absurd (true≢false (ap is_some (sym e)))
    go (Some u) found e = sym (is.2 v) ∙ ap₂ (λ t w. is_value (t, w)) (sym found.0) (ap (λ q. unwrap_or q []) (sym e))
        ∙ found.1

pub number_is : (E : Type 0) (G : Text → Result ℕ E → Type 0) (most : ℕ) (key : Text) → IsCounted most key
    → most < 2 ^ 32 → ((u : Text) (x : Result ℕ E) → G u x → ParsesUnsigned 32 10 u x) → (f : Found) (us : List Use)
    → rows_of f ≡ ends us → good us ≡ true → (r : Option ℕ) → (one_text f key ≡ None → r ≡ None)
    → ((t : Text) → one_text f key ≡ Some t → ReadsOne G t r) → r ≡ option_map number_of (value_of key us)
number_is E G most key is low only f us at fine r none some =
    let text : one_text f key ≡ value_of key us =
    one_text-rows f key ∙ ap (one_of key) at ∙ number_row most key is us fine in
    go (value_of key us) refl text
  where
    read : (v : Text) → is_number most v ≡ true → (o : Option ℕ) → ReadsOne G v o → o ≡ Some (number_of v)
    read v is_one (Some n) h = ap Some (only v (Ok n) h).1
    read v is_one None h =
        let facts = number_in most v is_one in
        absurd (only v (Err h.0) h.1 (facts.0, omega (arith, facts.2)))

    go : (o : Option Text) → value_of key us ≡ o → one_text f key ≡ o → r ≡ option_map number_of o
    go None e t = none t
    go (Some v) e t = read v (number_for most key is us fine v e) r (some v t)
