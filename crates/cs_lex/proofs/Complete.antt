-- The reader finds every span that satisfies a lexical rule, and every fault.
use Rattle.std.proofs.lemmas.{Grind.common_steps, Bool.Decides.nat_tests, List.Folds.list_all-append}
use Rattle.std.proofs.Common.{◌≡◌, ◌≢◌, ◌+◌, ◌<◌, ℕ, suc, Bool, true, false, ◌&&◌, ◌||◌, ◌==◌, not, List, [], ◌∷◌, ◌++◌}
use Rattle.std.proofs.Common.{length, drop, take, arith, ap, sym, ◌∙◌, codes, refl, subst, inl, inr, ◌⊎◌, Option, Some}
use Rattle.std.proofs.Common.{None, Result, Ok, Err, nat_le, ℤ, if◌then◌else◌}
use Rattle.std.proofs.{Math.Seq.take-append-add, Math.Bool.and-false}
use Rattle.cs_base.specs.{declared.decimal.Decimal.Decimal, Numbers.clamp, declared.fault.OrcKind.OrcKind}
use Rattle.cs_base.proofs.{Arithmetic.clamp_same, Arithmetic.decimal_in_range, Tests.by_test, Texts.front_is}
use Rattle.std.specs.{List.list_all, List.list_any, Option.IsSomeAnd, Char.is_ascii_digit}
use Rattle.std.proofs.lemmas.Bool.{and_parts, and_from, false≢true}
use Rattle.std.proofs.lemmas.List.{append_assoc, append_cancel_left, length-append, drop_at, take_at}
use Rattle.cs_base.specs.Decimals.{decimal_of, raw_of_decimal, is_numeral, whole_part, billionths_part, greatest_whole}
use Rattle.cs_lex.specs.{declared.token.Mark.Mark, declared.front.Front.Front, declared.class.Class.Class}
use Rattle.cs_lex.specs.{Bytes.is_short_sign, Bytes.is_long_sign, inner.Front.number_of, inner.Front.number_front}
use Rattle.cs_base.specs.Lines.{is_blank, is_feed, begins, begins_with}
use Rattle.cs_lex.specs.Bytes.{is_quote, is_letter, is_word_byte, is_allowed, is_quotable, is_text_byte, is_sign}
use Rattle.cs_lex.specs.inner.Front.{front_of, by_class, class_of, run, gap, comment_front, sign_front, numeral_len}
use Rattle.cs_lex.specs.Rows.{Fits, IsFault, Longest, is_word, IsComment, IsJoin, IsSign, IsText, IsLoneBackslash}
use Rattle.cs_lex.specs.Rows.{HasBadByte, IsBadByte, IsOpenText, IsNumber, IsBadNumber, IsFullScale, IsStray, is_stray}
use Rattle.cs_lex.proofs.Text.{run_is, run_past, list_all_weaken, list_all_cut, longest_once, equals, split, after_run}
use Rattle.cs_lex.proofs.{Text.first_is, Comments.open_begins, Classes.Means, Classes.class_means}
use Rattle.cs_base.specs.Comments.{begins_block_comment, begins_comment, is_open_comment, comment_len}
use Rattle.cs_lex.proofs.Numerals.{NumeralFront, digit_front_is, point_front_is, numeral_first}
use Rattle.cs_lex.proofs.Sound.{full_scale_is, full_scale_yes, two_bytes}
use Rattle.cs_base.specs.declared.fault.OrcKind.TheVariants as orc
use Rattle.cs_lex.specs.declared.token.Mark.TheVariants as mark
use Rattle.cs_lex.specs.declared.class.Class.TheVariants as class

-- a piece of n bytes with this mark
abbrev pub found : Option Mark → ℕ → Result Front OrcKind
found m n = Ok (record { mark = m; len = n })

-- the reader finds this piece
abbrev pub Finds : Option Mark → List ℕ → List ℕ → Type 0
Finds m span after = front_of (span ++ after) ≡ found m (length span)

by_first : (c : Class) (b : ℕ) (rest : List ℕ) → class_of b ≡ c → front_of (b ∷ rest) ≡ by_class c (b ∷ rest)
by_first c b rest h = ap (λ k. by_class k (b ∷ rest)) h

-- ---- classes

blank_class : (b : ℕ) → is_blank b ≡ true → class_of b ≡ class.Blank
blank_class b h = grind (arith, common_steps, by_test, equals)

letter_class : (b : ℕ) → is_letter b ≡ true → class_of b ≡ class.Letter
letter_class b h = rw h

digit_is_no_letter : (b : ℕ) → is_ascii_digit b ≡ true → is_letter b ≡ false
digit_is_no_letter b h = grind (arith, nat_tests)

digit_class : (b : ℕ) → is_ascii_digit b ≡ true → class_of b ≡ class.Digit
digit_class b h = rw (digit_is_no_letter b h, h)

-- a test that every byte of a list passes is passed by any one of them
each_of : (test : ℕ → Bool) (b : ℕ) (xs : List ℕ) → list_all test xs ≡ true → list_any (λ x. b == x) xs ≡ true
    → test b ≡ true
each_of test b [] h k = absurd (false≢true k)
each_of test b (x ∷ xs) h k =
    let both = and_parts (test x) (list_all test xs) h in
    by_test (b == x) (λ e. ap test (equals b x e) ∙ both.0) (λ e. each_of test b xs both.1 (rw e at k))

abbrev is_sign_class : Class → Bool
is_sign_class class.Sign = true
is_sign_class _ = false

sign_from : (c : Class) → is_sign_class c ≡ true → c ≡ class.Sign
sign_from class.Sign h = refl
sign_from _ h = cc

or_right : (a b : Bool) → a ≡ false → (a || b) ≡ true → b ≡ true
or_right false b h k = k
or_right true b h k = cc

or_last : (a b : Bool) → b ≡ true → (a || b) ≡ true
or_last true b h = refl
or_last false b h = h

short_sign_class : (b : ℕ) → is_short_sign b ≡ true → b ≢ 47 → class_of b ≡ class.Sign
short_sign_class b h slash = grind (arith, common_steps, by_test, codes, each_of, equals, or_right, sign_from)

long_sign_begins : (a b : ℕ) → is_long_sign a b ≡ true → (is_short_sign a ≡ true) × (a ≢ 47) × (class_of a ≡ class.Sign)
long_sign_begins a b h =
    let ok : (is_short_sign a && not (a == 47) && is_sign_class (class_of a)) ≡ true =
    by_test (b == 61 && list_any (λ sign. a == sign) (codes "+<>=!"))
    (λ e. each_of (λ x. is_short_sign x && not (x == 47) && is_sign_class (class_of x)) a (codes "+<>=!") refl
    (and_parts (b == 61) (list_any (λ sign. a == sign) (codes "+<>=!")) e).1)
    (λ n. each_of (λ x. is_short_sign x && not (x == 47) && is_sign_class (class_of x)) a (codes "&|") refl
    (and_parts (a == b) (list_any (λ sign. a == sign) (codes "&|")) (or_right _ _ n h)).1) in
    let parts = and_parts (is_short_sign a && not (a == 47)) (is_sign_class (class_of a)) ok in
    let first = and_parts (is_short_sign a) (not (a == 47)) parts.0 in
    (first.0, λ e. no_slash a e first.1, sign_from (class_of a) parts.1)
  where
    no_slash : (a : ℕ) → a ≡ 47 → not (a == 47) ≡ true → ⊥
    no_slash a e h = false≢true (sym (ap (λ x. not (x == 47)) e) ∙ h)

letter_allowed : (b : ℕ) → is_letter b ≡ true → is_allowed b ≡ true
letter_allowed b h = grind (arith, nat_tests)

digit_allowed : (b : ℕ) → is_ascii_digit b ≡ true → is_allowed b ≡ true
digit_allowed b h = grind (arith, nat_tests)

blank_allowed : (b : ℕ) → is_blank b ≡ true → is_allowed b ≡ true
blank_allowed b h = grind (arith, nat_tests)

-- a byte of any class except Bad is allowed
allowed : (c : Class) (b : ℕ) → Means c b → (c ≡ class.Bad) ⊎ (is_allowed b ≡ true)
allowed class.Letter b h = inr (letter_allowed b h)
allowed class.Digit b h = inr (digit_allowed b h)
allowed class.Blank b h = inr (blank_allowed b h)
allowed class.Sign b h = inr (each_of is_allowed b (codes "(),=+-*/%<>?:[]{}#$^!~&|") refl h.0)
allowed class.Stray b h = inr (and_parts (is_allowed b) _ h).0
allowed class.Bad b h = inl refl
allowed _ b h = inr (ap is_allowed h)

bad_class : (b : ℕ) → is_allowed b ≡ false → class_of b ≡ class.Bad
bad_class b h = elim (allowed (class_of b) b (class_means b)) [ inl e ↦ e | inr e ↦ absurd (false≢true (sym h ∙ e)) ]

stray_class : (b : ℕ) → is_stray b ≡ true → class_of b ≡ class.Stray
stray_class b h = grind (arith, common_steps, and_parts, class_means, not, or_last)

-- ---- the lexical rule of each form

-- the longest span of bytes that satisfy p is not followed by such a byte
ends_run : (p : ℕ → Bool) (form : List ℕ → Bool) (span after : List ℕ) → Longest form span after
    → ((c : ℕ) → p c ≡ true → form (span ++ c ∷ []) ≡ true) → begins p after ≡ false
ends_run p form span [] h goes = refl
ends_run p form span (c ∷ rest) h goes = by_test (p c)
    (λ e. absurd (false≢true (sym (h.stops (c ∷ []) rest (λ x. cc) refl) ∙ goes c e))) (λ e. e)

all_and_one : (p : ℕ → Bool) (xs : List ℕ) (c : ℕ) → list_all p xs ≡ true → p c ≡ true
    → list_all p (xs ++ c ∷ []) ≡ true
all_and_one p xs c h k =
    list_all-append p xs (c ∷ []) ∙ and_from (list_all p xs) (p c && true) h (and_from (p c) true k refl)

blank_found : (b : ℕ) (after : List ℕ) → is_blank b ≡ true → Finds None (b ∷ []) after
blank_found b after h = by_first class.Blank b after (blank_class b h)

run_of_span : (p : ℕ → Bool) (span after : List ℕ) → list_all p span ≡ true → begins p after ≡ false → (m : Option Mark)
    → found m (run p (span ++ after)) ≡ found m (length span)
run_of_span p span after h k m = ap (found m) (run_is p span after h k)

comment_is : (text : List ℕ) → begins_comment text ≡ true → front_of text ≡ comment_front text
comment_is text h = by_test (begins_with (codes ";") text)
    (λ e. by_semicolon text (drop 1 text) (front_is (codes ";") text e)) (λ n. by_test (begins_with (codes "//") text)
    (λ e. by_slash text (47 ∷ drop 2 text) (front_is (codes "//") text e) h)
    (λ m. by_slash text (42 ∷ drop 2 text) (front_is (codes "/*") text
    (last (begins_with (codes ";") text) (begins_with (codes "//") text) (begins_block_comment text) n m h)) h))
  where
    by_semicolon : (text rest : List ℕ) → text ≡ 59 ∷ rest → front_of text ≡ comment_front text
    by_semicolon text rest e = subst (λ t. front_of t ≡ comment_front t) (sym e) refl

    by_slash : (text rest : List ℕ) → text ≡ 47 ∷ rest → begins_comment text ≡ true → front_of text ≡ comment_front text
    by_slash text rest e = subst (λ t. begins_comment t ≡ true → front_of t ≡ comment_front t) (sym e)
        (λ k. ap (λ b. if b then comment_front (47 ∷ rest) else sign_front (47 ∷ rest)) k)

    last : (a b c : Bool) → a ≡ false → b ≡ false → ((a || b) || c) ≡ true → c ≡ true
    last false false c n m h = h
    last true b c n m h = absurd (false≢true (sym n))
    last false true c n m h = absurd (false≢true (sym m))

comment_found : (span after : List ℕ) → IsComment span after → Finds None span after
comment_found span after h = grind (arith, common_steps, comment_is)

word_found : (span after : List ℕ) → Longest is_word span after → Finds (Some mark.Word) span after
word_found [] after h = absurd (false≢true h.fits)
word_found (b ∷ span) after h =
    let both = and_parts (is_letter b) (list_all is_word_byte (b ∷ span)) h.fits in
    let ends = ends_run is_word_byte is_word (b ∷ span) after h
    (λ c e. and_from (is_letter b) _ both.0 (all_and_one is_word_byte (b ∷ span) c both.1 e)) in
    by_first class.Letter b (span ++ after) (letter_class b both.0)
    ∙ run_of_span is_word_byte (b ∷ span) after both.1 ends (Some mark.Word)

full_scale_found : (after : List ℕ) → begins is_word_byte after ≡ false → Finds (Some mark.Word) (codes "0dbfs") after
full_scale_found after h = grind (arith, common_steps, codes, full_scale_is)

join_found : (span after : List ℕ) → IsJoin span → Finds None span after
join_found span after h = grind (arith, common_steps, append_assoc, drop_at, length-append, run_is)

text_is_allowed : (b : ℕ) → is_text_byte b ≡ true → is_allowed b ≡ true
text_is_allowed b h = (and_parts (is_allowed b) (is_quotable b) h).0

text_is_quotable : (b : ℕ) → is_text_byte b ≡ true → is_quotable b ≡ true
text_is_quotable b h = (and_parts (is_allowed b) (is_quotable b) h).1

text_found : (span after : List ℕ) → IsText span → Finds (Some mark.Text) span after
text_found span after h =
    let text : span ++ after ≡ 34 ∷ (h.body ++ (34 ∷ after)) =
    ap (λ t. t ++ after) h.whole ∙ ap (λ t. 34 ∷ t) (append_assoc h.body (34 ∷ []) after) in
    let n = run_is is_quotable h.body (34 ∷ after)
    (list_all_weaken is_text_byte is_quotable text_is_quotable h.body h.plain) refl in
    let all = list_all_weaken is_text_byte is_allowed text_is_allowed h.body h.plain in
    let front : take (length h.body) (h.body ++ (34 ∷ after)) ≡ h.body =
    take_at h.body (34 ∷ after) (length h.body) refl in
    let ends : drop (length h.body) (h.body ++ (34 ∷ after)) ≡ 34 ∷ after =
    drop_at h.body (34 ∷ after) (length h.body) refl in
    let long : length span ≡ length h.body + 2 =
    ap length h.whole ∙ (let e = length-append h.body (34 ∷ []) in omega arith) in
    ap front_of text ∙ (rw (n, front, all, ends) (ap (found (Some mark.Text)) (sym long)))

sign_found : (span after : List ℕ) → IsSign span after → Finds (Some mark.Sign) span after
sign_found [] after h = absurd (false≢true h.longest.fits)
sign_found (a ∷ []) after h = by_test (a == 47) (λ e. subst (λ x. begins_comment (x ∷ after) ≡ false
    → ((c : ℕ) (r : List ℕ) → after ≡ c ∷ r → is_long_sign x c ≡ false) → Finds (Some mark.Sign) (x ∷ []) after)
    (sym (equals a 47 e)) (slash_found after) h.other (short a after h.longest.stops)) (λ n. by_first class.Sign a after
    (short_sign_class a h.longest.fits (λ e. false≢true (sym n ∙ ap (λ x. x == 47) e)))
    ∙ one a after (short a after h.longest.stops))
  where
    short : (a : ℕ) (after : List ℕ)
        → ((more rest : List ℕ) → more ≢ [] → after ≡ more ++ rest → is_sign (a ∷ more) ≡ false) → (c : ℕ) (r : List ℕ)
        → after ≡ c ∷ r → is_long_sign a c ≡ false
    short a after stops c r e = stops (c ∷ []) r (λ x. cc) e

    one : (a : ℕ) (after : List ℕ) → ((c : ℕ) (r : List ℕ) → after ≡ c ∷ r → is_long_sign a c ≡ false)
        → sign_front (a ∷ after) ≡ found (Some mark.Sign) 1
    one a [] s = refl
    one a (c ∷ r) s = let n = s c r refl in rw (two_bytes a c r, n)

    slash_found : (after : List ℕ) → begins_comment (47 ∷ after) ≡ false
        → ((c : ℕ) (r : List ℕ) → after ≡ c ∷ r → is_long_sign 47 c ≡ false) → Finds (Some mark.Sign) (47 ∷ []) after
    slash_found after h s =
        ap (λ b. if b then comment_front (47 ∷ after) else sign_front (47 ∷ after)) h ∙ one 47 after s
sign_found (a ∷ b ∷ []) after h =
    let begun = long_sign_begins a b h.longest.fits in
    by_first class.Sign a (b ∷ after) begun.2 ∙ two a b after h.longest.fits
  where
    two : (a b : ℕ) (after : List ℕ) → is_long_sign a b ≡ true → sign_front (a ∷ b ∷ after) ≡ found (Some mark.Sign) 2
    two a b after n = rw (two_bytes a b after, n)
sign_found (a ∷ b ∷ c ∷ span) after h = absurd (false≢true h.longest.fits)

-- the decimal that the reader finds is the longest
numeral_is : (text span after : List ℕ) (f : NumeralFront text) → text ≡ span ++ after → Longest is_numeral span after
    → (f.span ≡ span) × (f.after ≡ after)
numeral_is text span after f e h =
    let same = longest_once is_numeral f.span f.after span after f.longest h (sym f.whole ∙ e) in
    (same, append_cancel_left span f.after after (ap (λ t. t ++ f.after) (sym same) ∙ sym f.whole ∙ e))

-- if a text begins with a decimal, the reader looks for a number
record LooksForNumber (text : List ℕ) : Type 0 where
  front : NumeralFront text
  looks : front_of text ≡ number_front text

numeral_begins : (text span after : List ℕ) → text ≡ span ++ after → is_numeral span ≡ true → (IsFullScale text → ⊥)
    → LooksForNumber text
numeral_begins text span after e h other = elim (numeral_first span h) [
  | inl digit ↦ subst LooksForNumber (sym e) (by_digit span after digit (λ f. other (subst IsFullScale (sym e) f)))
  | inr point ↦ subst LooksForNumber (sym (e ∙ ap (λ t. t ++ after) point.1)) (by_point point.0 after point.2)
]
  where
    by_digit : (span after : List ℕ) → begins is_ascii_digit span ≡ true → (IsFullScale (span ++ after) → ⊥)
        → LooksForNumber (span ++ after)
    by_digit [] after h other = absurd (false≢true h)
    by_digit (b ∷ span) after h other =
        by_test (begins_with (codes "0dbfs") (b ∷ (span ++ after))
        && not (begins is_word_byte (drop 5 (b ∷ (span ++ after)))))
        (λ scale. let is = full_scale_yes (b ∷ (span ++ after)) scale in absurd
        (other (record { after = drop 5 (b ∷ (span ++ after)); whole = is.0; ends = is.1 })))
        (λ n. record {
          front = digit_front_is (b ∷ (span ++ after)) h;
          looks = by_first class.Digit b (span ++ after) (digit_class b h) ∙ (rw n);
        })

    by_point : (rest after : List ℕ) → begins is_ascii_digit rest ≡ true → LooksForNumber (46 ∷ (rest ++ after))
    by_point [] after h = absurd (false≢true h)
    by_point (c ∷ rest) after h = record { front = point_front_is (c ∷ (rest ++ after)) h; looks = rw h }

value_found : (d : Option Decimal) (value : ℤ) (n : ℕ) → IsSomeAnd d (λ x. value ≡ raw_of_decimal x)
    → ((x : Decimal) → d ≡ Some x → clamp (raw_of_decimal x) ≡ raw_of_decimal x)
    → number_of d n ≡ found (Some (mark.Number value)) n
value_found None value n h k = elim h [ ]
value_found (Some x) value n h k = ap (λ v. found (Some (mark.Number v)) n) (k x refl ∙ sym h)

number_found : (value : ℤ) (span after : List ℕ) → IsNumber value span after
    → Finds (Some (mark.Number value)) span after
number_found value span after h =
    let text = span ++ after in
    let looks = numeral_begins text span after refl h.numeral.longest.fits h.numeral.other in
    let f = looks.front in
    let same = numeral_is text span after f refl h.numeral.longest in
    let long : numeral_len text ≡ length span = f.len ∙ ap length same.0 in
    let dropped : drop (length span) text ≡ after = drop_at span after (length span) refl in
    let taken : take (length span) text ≡ span = take_at span after (length span) refl in
    let ends = h.ends in
    looks.looks ∙ (rw (long, dropped, taken, ends) (value_found (decimal_of span) value (length span) h.value_is
    (λ x e. clamp_same (raw_of_decimal x) (decimal_in_range span x e))))

pub fits_found : (m : Option Mark) (span after : List ℕ) → Fits m span after → Finds m span after
fits_found None span after h = elim h [
  | inl x ↦ subst (λ t. Finds None t after) (sym x.2) (blank_found x.0 after x.1)
  | inr x ↦ elim x [
    | inl x ↦ comment_found span after x
    | inr x ↦ join_found span after x
  ]
]
fits_found (Some mark.Word) span after h = elim h [
  | inl x ↦ word_found span after x
  | inr x ↦ subst (λ t. Finds (Some mark.Word) t after) (sym x.0) (full_scale_found after x.1)
]
fits_found (Some (mark.Number value)) span after h = number_found value span after h
fits_found (Some mark.Text) span after h = text_found span after h
fits_found (Some mark.Sign) span after h = sign_found span after h
fits_found (Some mark.NewLine) span after h = subst (λ t. Finds (Some mark.NewLine) t after) (sym h) refl
fits_found (Some mark.End) span after h = absurd h

-- ---- faults

bad_byte_found : (text : List ℕ) → IsBadByte text → front_of text ≡ Err orc.BadByte
bad_byte_found text h = ap front_of h.whole ∙ by_first class.Bad h.byte h.rest (bad_class h.byte h.bad)

not_allowed_is_quotable : (b : ℕ) → is_allowed b ≡ false → is_quotable b ≡ true
not_allowed_is_quotable b h = grind (arith, nat_tests)

has_bad_byte_found : (text : List ℕ) → HasBadByte text → front_of text ≡ Err orc.BadByte
has_bad_byte_found text h =
    let rest = h.body ++ h.byte ∷ h.rest in
    let n : run is_quotable rest ≡ length h.body + suc (run is_quotable h.rest) =
    run_past is_quotable h.body (h.byte ∷ h.rest) h.within
    ∙ ap (λ k. length h.body + k) (run_of_cons h.byte h.rest (not_allowed_is_quotable h.byte h.bad)) in
    let front : take (run is_quotable rest) rest ≡ h.body ++ h.byte ∷ take (run is_quotable h.rest) h.rest =
    ap (λ k. take k rest) n ∙ take-append-add h.body (h.byte ∷ h.rest) (suc (run is_quotable h.rest)) in
    let bad : list_all is_allowed (take (run is_quotable rest) rest) ≡ false =
    ap (list_all is_allowed) front
    ∙ list_all_cut is_allowed h.body h.byte (take (run is_quotable h.rest) h.rest) h.bad in
    ap front_of h.whole ∙ (rw bad)
  where
    run_of_cons : (b : ℕ) (rest : List ℕ) → is_quotable b ≡ true
        → run is_quotable (b ∷ rest) ≡ suc (run is_quotable rest)
    run_of_cons b rest h = let n =
        run is_quotable rest in rw h (let e : 1 + run is_quotable rest ≡ suc (run is_quotable rest) = omega arith in e)

stray_found : (text : List ℕ) → IsStray text → front_of text ≡ Err orc.BadToken
stray_found text h = grind (arith, common_steps, by_first, stray_class)

lone_backslash_found : (text : List ℕ) → IsLoneBackslash text → front_of text ≡ Err orc.BadToken
lone_backslash_found text h = grind (arith, common_steps, after_run, by_test, equals, first_is, split)

open_text_found : (text : List ℕ) → IsOpenText text → front_of text ≡ Err orc.BadToken
open_text_found text h =
    let ends : (begins is_quotable h.after ≡ false) × (begins is_quote h.after ≡ false) =
    elim h.ends [ inl e ↦ ends_here h.after e | inr e ↦ ends_by_feed h.after e ] in
    let n = run_is is_quotable h.body h.after (list_all_weaken is_text_byte is_quotable text_is_quotable h.body h.plain)
    ends.0 in
    let all = list_all_weaken is_text_byte is_allowed text_is_allowed h.body h.plain in
    let front : take (length h.body) (h.body ++ h.after) ≡ h.body = take_at h.body h.after (length h.body) refl in
    let back : drop (length h.body) (h.body ++ h.after) ≡ h.after = drop_at h.body h.after (length h.body) refl in
    let no_quote = ends.1 in
    ap front_of h.whole ∙ (rw (n, front, all, back, no_quote))
  where
    ends_here : (after : List ℕ) → after ≡ [] → (begins is_quotable after ≡ false) × (begins is_quote after ≡ false)
    ends_here after e = (ap (begins is_quotable) e, ap (begins is_quote) e)

    ends_by_feed : (after : List ℕ) → begins is_feed after ≡ true
        → (begins is_quotable after ≡ false) × (begins is_quote after ≡ false)
    ends_by_feed [] e = absurd (false≢true e)
    ends_by_feed (c ∷ rest) e = (ap is_quotable (equals c 10 e), ap is_quote (equals c 10 e))

bad_number_found : (text : List ℕ) → IsBadNumber text → front_of text ≡ Err orc.BadNumber
bad_number_found text h =
    let looks = numeral_begins text h.span h.after h.whole h.numeral.longest.fits
    (λ f. h.numeral.other (subst IsFullScale h.whole f)) in
    let f = looks.front in
    let same = numeral_is text h.span h.after f h.whole h.numeral.longest in
    let long : numeral_len text ≡ length h.span = f.len ∙ ap length same.0 in
    let dropped : drop (numeral_len text) text ≡ h.after =
    ap (λ n. drop n text) long ∙ ap (drop (length h.span)) h.whole ∙ drop_at h.span h.after (length h.span) refl in
    let taken : take (numeral_len text) text ≡ h.span =
    ap (λ n. take n text) long ∙ ap (take (length h.span)) h.whole ∙ take_at h.span h.after (length h.span) refl in
    looks.looks ∙ elim h.wrong [
      | inl letter ↦ rw (dropped, letter)
      | inr great ↦ by_test (begins is_letter h.after)
          (λ letter. rw (dropped, letter))
          (λ other. let none = too_great h.span great in rw (dropped, other, taken, none))
    ]
  where
    too_great : (span : List ℕ) → greatest_whole < whole_part span → decimal_of span ≡ None
    too_great span h =
        let not_le : nat_le (whole_part span) greatest_whole ≡ false = grind (arith, nat_tests) in
        rw not_le (ap (λ b. if b then Some (record { whole = whole_part span; billionths = billionths_part span }) else
        None) (and-false (is_numeral span)))

open_comment_found : (text : List ℕ) → is_open_comment text ≡ true → front_of text ≡ Err orc.OpenComment
open_comment_found text h =
    comment_is text (open_begins text h) ∙ ap (λ b. if b then Err orc.OpenComment else gap (comment_len text)) h

pub fault_found : (text : List ℕ) (k : OrcKind) → IsFault text k → front_of text ≡ Err k
fault_found text orc.BadByte h = elim h [ inl x ↦ bad_byte_found text x | inr x ↦ has_bad_byte_found text x ]
fault_found text orc.BadToken h = elim h [
  | inl x ↦ stray_found text x
  | inr x ↦ elim x [ inl x ↦ lone_backslash_found text x | inr x ↦ open_text_found text x ]
]
fault_found text orc.BadNumber h = bad_number_found text h
fault_found text orc.OpenComment h = open_comment_found text h
fault_found text _ h = absurd h
