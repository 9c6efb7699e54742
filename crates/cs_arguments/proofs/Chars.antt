-- The first byte of a text and its first character.
use Rattle.std.proofs.lemmas.{Grind.common_steps, Str.IsUtf8-past_char}
use Rattle.std.proofs.Common.{◌≡◌, ◌==◌, ◌||◌, ◌∙◌, ◌<◌, ◌++◌, ◌∷◌, ℕ, Bool, true, false, List, [], Some, arith, refl}
use Rattle.std.proofs.Common.{sym, ap, chars, encode_utf8, encode_utf8_all, IsUtf8, slice_get, drop, length, eqb-true}
use Rattle.std.proofs.Common.{true≢false}
use Rattle.std.proofs.lemmas.Str.{chars_past_char, byte_from_char, length-encode, len_utf8_ascii, encode_ascii}
use Rattle.cs_arguments.specs.Reading.{Text, is_flag_letter, is_value_letter}

-- a byte that is the letter of a flag is one of five
one_more : (P : ℕ → Type 0) (y x : ℕ) (b : Bool) → ((y == x) || b) ≡ true → P y → (b ≡ true → P x) → P x
one_more P y x b h p rest = grind (arith, common_steps, eqb-true)

pub each_flag : (P : ℕ → Type 0) (x : ℕ) → is_flag_letter x ≡ true → P 87 → P 115 → P 100 → P 110 → P 51 → P x
each_flag P x h w s d n three = grind (arith, common_steps, one_more)

pub each_value : (P : ℕ → Type 0) (x : ℕ) → is_value_letter x ≡ true → P 106 → P 111 → P x
each_value P x h j o = one_more P 106 x _ h j (λ h. one_more P 111 x _ h o (λ h. absurd (true≢false (sym h))))

pub low_flag : (x : ℕ) → is_flag_letter x ≡ true → x < 128
low_flag x h = each_flag (λ y. y < 128) x h (omega arith) (omega arith) (omega arith) (omega arith) (omega arith)

pub low_value : (x : ℕ) → is_value_letter x ≡ true → x < 128
low_value x h = each_value (λ y. y < 128) x h (omega arith) (omega arith)

-- a low first byte is the first character
pub low_first : (x : ℕ) (rest : Text) → x < 128 → IsUtf8 (x ∷ rest) → slice_get (chars (x ∷ rest)) 0 ≡ Some x
low_first x rest low utf8 =
    ap (λ l. slice_get l 0) (chars_past_char (x ∷ rest) rest x utf8 (ap (λ l. l ++ rest) (sym (encode_ascii x low))))

pub low_rest : (x : ℕ) (rest : Text) → x < 128 → drop (length (encode_utf8 x)) (x ∷ rest) ≡ rest
low_rest x rest low = ap (λ n. drop n (x ∷ rest)) (length-encode x ∙ len_utf8_ascii x low)

pub low_tail : (x : ℕ) (rest : Text) → x < 128 → IsUtf8 (x ∷ rest) → IsUtf8 rest
low_tail x rest low utf8 = IsUtf8-past_char (x ∷ rest) rest x utf8 (ap (λ l. l ++ rest) (sym (encode_ascii x low)))

-- a text that isn't empty has a first character
pub first_of : (x : ℕ) (rest : Text) → IsUtf8 (x ∷ rest)
    → (y : ℕ) × (slice_get (chars (x ∷ rest)) 0 ≡ Some y) × (y < 128 → x ≡ y)
first_of x rest utf8 = go utf8.0 utf8.1.1
  where
    go : (cs : List ℕ) → encode_utf8_all cs ≡ x ∷ rest
        → (y : ℕ) × (slice_get (chars (x ∷ rest)) 0 ≡ Some y) × (y < 128 → x ≡ y)
    go [] e = absurd (omega (arith, ap length e))
    go (c ∷ cs) e = (
      c,
      ap (λ l. slice_get l 0) (chars_past_char (x ∷ rest) (encode_utf8_all cs) c utf8 (sym e)),
      λ low. byte_from_char (x ∷ rest) (encode_utf8_all cs) c (sym e) low,
    )

-- if the first byte is no letter of an option or flag, neither is the first character
pub no_letter : (x : ℕ) (rest : Text) → IsUtf8 (x ∷ rest) → is_flag_letter x ≡ false → is_value_letter x ≡ false
    → (y : ℕ) × (slice_get (chars (x ∷ rest)) 0 ≡ Some y) × (is_flag_letter y ≡ false) × (is_value_letter y ≡ false)
no_letter x rest utf8 no_flag no_value =
    let first = first_of _ _ utf8 in (first.0, first.1, not_flag _ first.2 _ refl, not_value _ first.2 _ refl)
  where
    not_flag : (y : ℕ) → (y < 128 → x ≡ y) → (b : Bool) → is_flag_letter y ≡ b → is_flag_letter y ≡ false
    not_flag y same true e = ap is_flag_letter (sym (same (low_flag y e))) ∙ no_flag
    not_flag y same false e = e

    not_value : (y : ℕ) → (y < 128 → x ≡ y) → (b : Bool) → is_value_letter y ≡ b → is_value_letter y ≡ false
    not_value y same true e = ap is_value_letter (sym (same (low_value y e))) ∙ no_value
    not_value y same false e = e
