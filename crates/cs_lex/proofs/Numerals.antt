-- The decimal at the start of a text.
use Rattle.std.proofs.lemmas.{Grind.common_steps, Bool.Decides.nat_tests, List.nil_from_length}
use Rattle.std.proofs.Common.{◌≡◌, ◌+◌, ◌<◌, ℕ, suc, Bool, true, false, ◌&&◌, ◌||◌, ◌==◌, List, [], ◌∷◌, ◌++◌, length}
use Rattle.std.proofs.Common.{drop, take, arith, ap, sym, ◌∙◌, refl, inl, inr, ◌⊎◌, nat_lt}
use Rattle.std.specs.{List.list_all, List.position_or_len, Char.is_ascii_digit}
use Rattle.std.proofs.lemmas.Bool.{and_parts, false≢true}
use Rattle.std.proofs.lemmas.List.{append_assoc, length-append, append-nil, drop_at, take_at, take_all, drop_all}
use Rattle.std.proofs.{Math.Seq.take-append-add, Math.Bool.and-false}
use Rattle.cs_base.specs.Decimals.{is_point, before_point, after_point, is_numeral}
use Rattle.cs_base.specs.Lines.{begins}
use Rattle.cs_lex.specs.{inner.Front.run, inner.Front.numeral_len, Rows.Longest}
use Rattle.cs_base.proofs.Tests.{by_test}
use Rattle.cs_lex.proofs.Text.{split, after_run, list_all_cut, longest_to, first_is, equals}

digit_is_no_point : (b : ℕ) → is_ascii_digit b ≡ true → is_point b ≡ false
digit_is_no_point b h = grind (arith, nat_tests)

plus_zero : (n : ℕ) → n + 0 ≡ n
plus_zero n = omega arith

-- leading digits don't contain the first point: its index is their number plus its index in the rest
pub before_digits : (ds rest : List ℕ) → list_all is_ascii_digit ds ≡ true
    → position_or_len is_point (ds ++ rest) ≡ length ds + position_or_len is_point rest
before_digits [] rest h = omega arith
before_digits (d ∷ ds) rest h =
    let both = and_parts (is_ascii_digit d) (list_all is_ascii_digit ds) h in
    let no_point = digit_is_no_point d both.0 in
    let more = before_digits ds rest both.1 in
    rw no_point (omega (arith, more))

pub whole_digits : (ds es : List ℕ) → list_all is_ascii_digit ds ≡ true → before_point (ds ++ 46 ∷ es) ≡ ds
whole_digits ds es h = ap (λ n. take n (ds ++ 46 ∷ es)) (before_digits ds (46 ∷ es) h ∙ plus_zero (length ds))
    ∙ take_at ds (46 ∷ es) (length ds) refl

pub part_digits : (ds es : List ℕ) → list_all is_ascii_digit ds ≡ true → after_point (ds ++ 46 ∷ es) ≡ es
part_digits ds es h =
    ap (λ n. drop (n + 1) (ds ++ 46 ∷ es)) (before_digits ds (46 ∷ es) h ∙ plus_zero (length ds))
    ∙ ap (drop (length ds + 1)) (sym (append_assoc ds (46 ∷ []) es))
    ∙ drop_at (ds ++ 46 ∷ []) es (length ds + 1) (length-append ds (46 ∷ []))

pub digits_alone : (ds : List ℕ) → list_all is_ascii_digit ds ≡ true → (before_point ds ≡ ds) × (after_point ds ≡ [])
digits_alone ds h =
    let place = before_digits ds [] h in
    let end : position_or_len is_point ds ≡ length ds =
    ap (position_or_len is_point) (sym (append-nil ds)) ∙ place ∙ plus_zero (length ds) in
    (take_all _ ds (omega (arith, end)), drop_all _ ds (omega (arith, end)))

before_point_goes_on : (ds : List ℕ) (c : ℕ) (more : List ℕ) → list_all is_ascii_digit ds ≡ true → is_point c ≡ false
    → before_point (ds ++ c ∷ more) ≡ ds ++ c ∷ take (position_or_len is_point more) more
before_point_goes_on ds c more h point =
    let n = position_or_len is_point more in
    let next : position_or_len is_point (c ∷ more) ≡ suc n = rw point (let e : 1 + n ≡ suc n = omega arith in e) in
    ap (λ k. take k (ds ++ c ∷ more)) (before_digits ds (c ∷ more) h ∙ ap (λ k. length ds + k) next)
    ∙ take-append-add ds (c ∷ more) (suc n)

middle_false : (a b c : Bool) → b ≡ false → (a && b && c) ≡ false
middle_false a b c h = rw h (ap (λ t. t && c) (and-false a))

-- a text that continues with a byte that is neither digit nor point is no decimal
pub digits_cut : (ds : List ℕ) (c : ℕ) (more : List ℕ) → list_all is_ascii_digit ds ≡ true → is_ascii_digit c ≡ false
    → is_point c ≡ false → is_numeral (ds ++ c ∷ more) ≡ false
digits_cut ds c more h digit point = grind (arith, common_steps, before_point_goes_on, list_all_cut, middle_false)

last_false : (a b : Bool) → b ≡ false → (a && b) ≡ false
last_false a b h = rw h (and-false a)

pub parts_cut : (ds es : List ℕ) (c : ℕ) (more : List ℕ) → list_all is_ascii_digit ds ≡ true → is_ascii_digit c ≡ false
    → is_numeral (ds ++ 46 ∷ (es ++ c ∷ more)) ≡ false
parts_cut ds es c more h digit = last_false _ _
    (ap (list_all is_ascii_digit) (part_digits ds (es ++ c ∷ more) h) ∙ list_all_cut is_ascii_digit es c more digit)

-- the longest decimal at the start of a text
pub record NumeralFront (text : List ℕ) : Type 0 where
  pub span : List ℕ
  pub after : List ℕ
  pub whole : text ≡ span ++ after
  pub len : numeral_len text ≡ length span
  pub some : 0 < length span
  pub longest : Longest is_numeral span after

some_digits : (n : ℕ) → 0 < n → nat_lt 0 n ≡ true
some_digits n h = grind (arith, nat_tests)

plain_is : (ds : List ℕ) → list_all is_ascii_digit ds ≡ true → 0 < length ds → is_numeral ds ≡ true
plain_is ds h some = grind (arith, common_steps, digits_alone, some_digits)

pointed_is : (ds es : List ℕ) → list_all is_ascii_digit ds ≡ true → list_all is_ascii_digit es ≡ true
    → 0 < length ds + length es → is_numeral (ds ++ 46 ∷ es) ≡ true
pointed_is ds es h k some =
    rw (whole_digits ds es h, part_digits ds es h, h, k, some_digits (length ds + length es) some)

no_number_byte : (c : ℕ) → (is_ascii_digit c || (c == 46)) ≡ false → (is_ascii_digit c ≡ false) × (is_point c ≡ false)
no_number_byte c h = grind (arith, common_steps)

neither_begins : (after : List ℕ) → begins is_ascii_digit after ≡ false → begins is_point after ≡ false
    → begins (λ c. is_ascii_digit c || (c == 46)) after ≡ false
neither_begins [] h k = refl
neither_begins (c ∷ rest) h k = rw h k

pub plain_front : (text : List ℕ) → 0 < length (split is_ascii_digit text).front
    → begins is_point (split is_ascii_digit text).after ≡ false → NumeralFront text
plain_front text some ends =
    let s = split is_ascii_digit text in
    record {
      span = s.front;
      after = s.after;
      whole = s.whole;
      len = rw (after_run is_ascii_digit text, ends) s.len;
      some = some;
      longest = longest_to (λ c. is_ascii_digit c || (c == 46)) is_numeral s.front s.after (plain_is s.front s.all some)
          (neither_begins s.after s.ends ends)
          (λ c more h. digits_cut s.front c more s.all (no_number_byte c h).0 (no_number_byte c h).1);
    }

pub pointed_front : (text rest : List ℕ) → (split is_ascii_digit text).after ≡ 46 ∷ rest
    → 0 < length (split is_ascii_digit text).front + length (split is_ascii_digit rest).front → NumeralFront text
pointed_front text rest e some =
    let s = split is_ascii_digit text in
    let t = split is_ascii_digit rest in
    let split_at : text ≡ (s.front ++ 46 ∷ []) ++ rest =
    s.whole ∙ ap (λ x. s.front ++ x) e ∙ sym (append_assoc s.front (46 ∷ []) rest) in
    let second : drop (run is_ascii_digit text + 1) text ≡ rest =
    ap (drop (run is_ascii_digit text + 1)) split_at ∙ drop_at (s.front ++ 46 ∷ []) rest (run is_ascii_digit text + 1)
    (length-append s.front (46 ∷ []) ∙ ap (λ n. n + 1) (sym s.len)) in
    let point : begins is_point (drop (run is_ascii_digit text) text) ≡ true =
    ap (begins is_point) (after_run is_ascii_digit text ∙ e) in
    record {
      span = s.front ++ 46 ∷ t.front;
      after = t.after;
      whole = s.whole ∙ ap (λ x. s.front ++ x) (e ∙ ap (λ x. 46 ∷ x) t.whole)
          ∙ sym (append_assoc s.front (46 ∷ t.front) t.after);
      len = rw (point, second) (omega (arith, s.len, t.len, length-append s.front (46 ∷ t.front)));
      some = omega (arith, length-append s.front (46 ∷ t.front));
      longest = longest_to is_ascii_digit is_numeral (s.front ++ 46 ∷ t.front) t.after
          (pointed_is s.front t.front s.all t.all some) t.ends
          (λ c more h. ap is_numeral (append_assoc s.front (46 ∷ t.front) (c ∷ more))
          ∙ parts_cut s.front t.front c more s.all h);
    }

begun : (p : ℕ → Bool) (text : List ℕ) → begins p text ≡ true → 0 < length (split p text).front
begun p [] h = absurd (false≢true h)
begun p (b ∷ rest) h = grind (arith, common_steps, split)

-- a text that begins with a digit, or with a point and a digit, begins with a decimal
pub digit_front_is : (text : List ℕ) → begins is_ascii_digit text ≡ true → NumeralFront text
digit_front_is text h = by_test (begins is_point (split is_ascii_digit text).after) (λ point.
    let found = first_is is_point (split is_ascii_digit text).after point in
    pointed_front text found.1 (found.2 ∙ ap (λ b. b ∷ found.1) (equals found.0 46 found.3))
    (omega (arith, begun is_ascii_digit text h))) (λ none. plain_front text (begun is_ascii_digit text h) none)

pub point_front_is : (rest : List ℕ) → begins is_ascii_digit rest ≡ true → NumeralFront (46 ∷ rest)
point_front_is rest h =
    let s = split is_ascii_digit (46 ∷ rest) in
    let empty : s.front ≡ [] = nil_from_length s.front (sym s.len) in
    let after : s.after ≡ 46 ∷ rest = ap (λ x. x ++ s.after) (sym empty) ∙ sym s.whole in
    pointed_front (46 ∷ rest) rest after (omega (arith, begun is_ascii_digit rest h))

-- a decimal begins with a digit, or with a point and a digit
pub numeral_first : (span : List ℕ) → is_numeral span ≡ true
    → (begins is_ascii_digit span ≡ true) ⊎ ((rest : List ℕ) × (span ≡ 46 ∷ rest) × (begins is_ascii_digit rest ≡ true))
numeral_first [] h = absurd (false≢true h)
numeral_first (b ∷ rest) h = by_test (is_point b) (λ e. inr (
  rest,
  ap (λ x. x ∷ rest) (equals b 46 e),
  after_first_point rest (sym (ap (λ x. is_numeral (x ∷ rest)) (equals b 46 e)) ∙ h),
)) (λ n. inl (digit_first b rest n h))
  where
    some_rest : (rest : List ℕ) → nat_lt 0 (0 + length rest) ≡ true → list_all is_ascii_digit rest ≡ true
        → begins is_ascii_digit rest ≡ true
    some_rest [] h k = cc
    some_rest (c ∷ cs) h k = (and_parts (is_ascii_digit c) (list_all is_ascii_digit cs) k).0

    digit_first : (b : ℕ) (rest : List ℕ) → is_point b ≡ false → is_numeral (b ∷ rest) ≡ true → is_ascii_digit b ≡ true
    digit_first b rest n h =
        let outer = and_parts _ (list_all is_ascii_digit (after_point (b ∷ rest))) h in
        let inner = and_parts _ (list_all is_ascii_digit (before_point (b ∷ rest))) outer.0 in
        let front = before_point_goes_on [] b rest refl n in
        (and_parts (is_ascii_digit b) _ (sym (ap (list_all is_ascii_digit) front) ∙ inner.1)).0

    after_first_point : (rest : List ℕ) → is_numeral (46 ∷ rest) ≡ true → begins is_ascii_digit rest ≡ true
    after_first_point rest h =
        let outer = and_parts (nat_lt 0 (0 + length rest) && true) (list_all is_ascii_digit rest) h in
        let inner = and_parts (nat_lt 0 (0 + length rest)) true outer.0 in
        some_rest rest inner.0 outer.1
