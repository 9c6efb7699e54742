-- Every piece that the reader finds at the start of a text satisfies its lexical rule, and every fault is
-- one.
use Rattle.std.proofs.lemmas.{Grind.common_steps, Bool.Decides.nat_tests}
use Rattle.std.proofs.Common.{if◌then◌else◌, Err, ◌≡◌, ◌≢◌, ◌+◌, ◌<◌, ℕ, Bool, true, false, ◌&&◌, ◌==◌, not, List, []}
use Rattle.std.proofs.Common.{◌∷◌, ◌++◌, length, drop, take, arith, ap, sym, ◌∙◌, codes, refl, subst, inl, inr, ◌⊎◌}
use Rattle.std.proofs.Common.{Option, Some, None, Result, MatchResult, nat_lt, nat_le, nat_eq}
use Rattle.std.specs.{Option.IsSomeAnd, List.list_all, Char.is_ascii_digit}
use Rattle.cs_base.specs.{declared.decimal.Decimal.Decimal, Numbers.clamp, declared.fault.OrcKind.OrcKind}
use Rattle.cs_base.specs.Decimals.{decimal_of, raw_of_decimal, is_numeral, whole_part, billionths_part, greatest_whole}
use Rattle.cs_base.proofs.Arithmetic.{clamp_same, decimal_in_range}
use Rattle.cs_lex.proofs.{Classes.Means, Classes.class_means, Comments.comment_within, Comments.comment_some}
use Rattle.cs_lex.proofs.Numerals.{NumeralFront, digit_front_is, point_front_is}
use Rattle.cs_lex.specs.{declared.token.Mark.Mark, declared.front.Front.Front, declared.class.Class.Class}
use Rattle.cs_lex.specs.{Bytes.is_long_sign, inner.Front.digit_front, inner.Front.point_front}
use Rattle.cs_base.specs.Lines.{is_blank, is_feed, begins, begins_with}
use Rattle.cs_lex.specs.Bytes.{is_quote, is_letter, is_word_byte, is_allowed, is_quotable, is_sign, is_short_sign}
use Rattle.cs_lex.specs.inner.Front.{front_of, by_class, class_of, run, gap, token, comment_front, sign_front}
use Rattle.cs_lex.specs.inner.Front.{slash_front, joined_front, word_front, text_front, numeral_len, number_front}
use Rattle.cs_lex.specs.Rows.{Fits, IsFault, is_word, HasBadByte, IsNumeral, IsFullScale}
use Rattle.cs_base.specs.Comments.{begins_comment, is_open_comment, comment_len}
use Rattle.cs_base.proofs.{Tests.by_test, Texts.front_is, Texts.front_tests}
use Rattle.std.proofs.Math.Bool.{and-false}
use Rattle.cs_lex.proofs.Text.{Split, split, longer, longest_to, list_all_cut, after_run, take_run, run_is, first_is}
use Rattle.cs_lex.proofs.Text.{equals, where_fails, list_all_both, list_all_front}
use Rattle.std.proofs.lemmas.Bool.{and_parts, and_from, false≢true}
use Rattle.std.proofs.lemmas.List.{take-append-drop, length-take-le, append_assoc, length-append, drop_at, take_at}
use Rattle.cs_lex.specs.declared.token.Mark.TheVariants as mark
use Rattle.cs_lex.specs.declared.class.Class.TheVariants as class
use Rattle.cs_base.specs.declared.fault.OrcKind.TheVariants as orc

-- a text begins with a piece of n bytes
pub record Starts (text : List ℕ) (m : Option Mark) (n : ℕ) : Type 0 where
  pub span : List ℕ
  pub after : List ℕ
  pub whole : text ≡ span ++ after
  pub len : n ≡ length span
  pub some : 0 < n
  pub fits : Fits m span after

-- the reader's result is right
abbrev pub Right : List ℕ → Result Front OrcKind → Type 0
Right text r = MatchResult r (λ f. Starts text f.mark f.len) (λ k. IsFault text k)

one_byte : (m : Option Mark) (b : ℕ) (rest : List ℕ) → Fits m (b ∷ []) rest → Starts (b ∷ rest) m 1
one_byte m b rest h = record { span = b ∷ []; after = rest; whole = refl; len = refl; some = omega arith; fits = h }

blank_right : (b : ℕ) (rest : List ℕ) → is_blank b ≡ true → Right (b ∷ rest) (gap 1)
blank_right b rest h = one_byte None b rest (inl (b, h, refl))

feed_right : (rest : List ℕ) → Right (10 ∷ rest) (token mark.NewLine 1)
feed_right rest = one_byte (Some mark.NewLine) 10 rest refl

-- a run of bytes at the start of a text, as a piece
run_starts : (p : ℕ → Bool) (text : List ℕ) (m : Option Mark) (s : Split p text) → 0 < length s.front
    → Fits m s.front s.after → Starts text m (run p text)
run_starts p text m s some fits =
    record { span = s.front; after = s.after; whole = s.whole; len = s.len; some = omega (arith, s.len); fits = fits }

letter_in_word : (b : ℕ) → is_letter b ≡ true → is_word_byte b ≡ true
letter_in_word b h = rw h

word_cut : (xs : List ℕ) (c : ℕ) (more : List ℕ) → is_word_byte c ≡ false → is_word (xs ++ c ∷ more) ≡ false
word_cut xs c more h = ap (λ t. begins is_letter (xs ++ c ∷ more) && t) (list_all_cut is_word_byte xs c more h)
    ∙ and-false (begins is_letter (xs ++ c ∷ more))

word_right : (b : ℕ) (rest : List ℕ) → is_letter b ≡ true → Right (b ∷ rest) (word_front (b ∷ rest))
word_right b rest h =
    let s = longer is_word_byte b rest (letter_in_word b h) (split is_word_byte rest) in
    let fits = longest_to is_word_byte is_word s.front s.after
    (and_from (is_letter b) (list_all is_word_byte s.front) h s.all) s.ends (word_cut s.front) in
    run_starts is_word_byte (b ∷ rest) (Some mark.Word) s (omega arith) (inl fits)

comment_right : (text : List ℕ) → begins_comment text ≡ true → Right text (comment_front text)
comment_right text h = by (is_open_comment text) refl
  where
    whole : take (comment_len text) text ++ drop (comment_len text) text ≡ text
    whole = take-append-drop (comment_len text) text

    by : (b : Bool) → is_open_comment text ≡ b → Right text (if b then Err orc.OpenComment else gap (comment_len text))
    by true e = e
    by false e = record {
      span = take (comment_len text) text;
      after = drop (comment_len text) text;
      whole = sym whole;
      len = sym (length-take-le (comment_len text) text (comment_within text));
      some = comment_some text h;
      fits = inr (inl (record {
        begun = ap begins_comment whole ∙ h;
        ended = ap is_open_comment whole ∙ e;
        len = length-take-le (comment_len text) text (comment_within text) ∙ ap comment_len (sym whole);
      }));
    }

sign_one : (b : ℕ) (rest : List ℕ) → is_short_sign b ≡ true → begins_comment (b ∷ rest) ≡ false
    → ((c : ℕ) (r : List ℕ) → rest ≡ c ∷ r → is_long_sign b c ≡ false) → Starts (b ∷ rest) (Some mark.Sign) 1
sign_one b rest h comment short = one_byte (Some mark.Sign) b rest (record {
  longest = record { fits = h; stops = stops b rest short };
  other = comment;
})
  where
    stops : (b : ℕ) (rest : List ℕ) → ((c : ℕ) (r : List ℕ) → rest ≡ c ∷ r → is_long_sign b c ≡ false)
        → (more r : List ℕ) → more ≢ [] → rest ≡ more ++ r → is_sign (b ∷ more) ≡ false
    stops b rest short [] r some e = absurd (some refl)
    stops b rest short (c ∷ []) r some e = short c r e
    stops b rest short (c ∷ d ∷ more) r some e = refl

sign_two : (b c : ℕ) (rest : List ℕ) → begins_comment (b ∷ c ∷ rest) ≡ false → is_long_sign b c ≡ true
    → Starts (b ∷ c ∷ rest) (Some mark.Sign) 2
sign_two b c rest comment long = record {
  span = b ∷ c ∷ [];
  after = rest;
  whole = refl;
  len = refl;
  some = omega arith;
  fits = record { longest = record { fits = long; stops = stops b c rest }; other = comment };
}
  where
    stops : (b c : ℕ) (rest : List ℕ) (more r : List ℕ) → more ≢ [] → rest ≡ more ++ r → is_sign (b ∷ c ∷ more) ≡ false
    stops b c rest [] r some e = absurd (some refl)
    stops b c rest (d ∷ more) r some e = refl

pub two_bytes : (b c : ℕ) (rest : List ℕ) → nat_lt 1 (length (b ∷ c ∷ rest)) ≡ true
two_bytes b c rest = grind (arith, nat_tests)

sign_right : (b : ℕ) (rest : List ℕ) → is_short_sign b ≡ true → begins_comment (b ∷ rest) ≡ false
    → Right (b ∷ rest) (sign_front (b ∷ rest))
sign_right b [] h comment = sign_one b [] h comment (λ c r e. absurd (cc))
sign_right b (c ∷ rest) h comment = grind (arith, common_steps, by_test, sign_one, sign_two, two_bytes)

joined_right : (rest : List ℕ) → Right (92 ∷ rest) (joined_front rest)
joined_right rest =
    let s = split is_blank rest in
    let same = after_run is_blank rest in
    by_test (begins is_feed s.after) (λ h. rw (same, h) (joins rest s (first_is is_feed s.after h)))
    (λ h. rw (same, h) (inr (inl (record {
      rest = rest;
      whole = refl;
      joins_not = λ blanks after all e. lone rest blanks after all e (ap (begins is_feed) same ∙ h);
    }))))
  where
    joins : (rest : List ℕ) (s : Split is_blank rest) → (b : ℕ) × (r : List ℕ) × (s.after ≡ b ∷ r) × (is_feed b ≡ true)
        → Starts (92 ∷ rest) None (run is_blank rest + 2)
    joins rest s (b, r, e, f) =
        let after : s.after ≡ 10 ∷ r = e ∙ ap (λ x. x ∷ r) (equals b 10 f) in
        record {
          span = 92 ∷ (s.front ++ 10 ∷ []);
          after = r;
          whole = ap (λ t. 92 ∷ t) (s.whole ∙ ap (λ t. s.front ++ t) after ∙ sym (append_assoc s.front (10 ∷ []) r));
          len = omega (arith, s.len, length-append s.front (10 ∷ []));
          some = omega arith;
          fits = inr (inr (record { blanks = s.front; whole = refl; blank = s.all }));
        }

    lone : (rest blanks after : List ℕ) → list_all is_blank blanks ≡ true → rest ≡ blanks ++ 10 ∷ after
        → begins is_feed (drop (run is_blank rest) rest) ≡ false → ⊥
    lone rest blanks after all e h =
        let n : run is_blank rest ≡ length blanks =
        ap (run is_blank) e ∙ run_is is_blank blanks (10 ∷ after) all refl in
        let ends : drop (run is_blank rest) rest ≡ 10 ∷ after =
        ap (drop (run is_blank rest)) e ∙ drop_at blanks (10 ∷ after) (run is_blank rest) (sym n) in
        false≢true (sym h ∙ ap (begins is_feed) ends)

neither : (c : ℕ) → is_quotable c ≡ false → is_quote c ≡ false → is_feed c ≡ true
neither c h k = by_not (is_feed c) (rw k at h)
  where
    by_not : (b : Bool) → not b ≡ false → b ≡ true
    by_not true e = refl
    by_not false e = cc

open_ends : (after : List ℕ) → begins is_quotable after ≡ false → begins is_quote after ≡ false
    → (after ≡ []) ⊎ (begins is_feed after ≡ true)
open_ends [] h k = inl refl
open_ends (c ∷ rest) h k = inr (neither c h k)

text_right : (rest : List ℕ) → Right (34 ∷ rest) (text_front rest)
text_right rest =
    let s = split is_quotable rest in
    let front = take_run is_quotable rest in
    let after = after_run is_quotable rest in
    by_test (list_all is_allowed s.front) (λ all. by_test (begins is_quote s.after)
    (λ h. rw (front, all, after, h) (closes rest s all (first_is is_quote s.after h)))
    (λ h. rw (front, all, after, h) (inr (inr (record {
      body = s.front;
      after = s.after;
      whole = ap (λ t. 34 ∷ t) s.whole;
      plain = list_all_both is_allowed is_quotable s.front all s.all;
      ends = open_ends s.after s.ends h;
    }))))) (λ bad. rw (front, bad) (inr (has_bad rest s (where_fails is_allowed s.front bad))))
  where
    closes : (rest : List ℕ) (s : Split is_quotable rest) → list_all is_allowed s.front ≡ true
        → (b : ℕ) × (r : List ℕ) × (s.after ≡ b ∷ r) × (is_quote b ≡ true)
        → Starts (34 ∷ rest) (Some mark.Text) (run is_quotable rest + 2)
    closes rest s all (b, r, e, f) =
        let after : s.after ≡ 34 ∷ r = e ∙ ap (λ x. x ∷ r) (equals b 34 f) in
        record {
          span = 34 ∷ (s.front ++ 34 ∷ []);
          after = r;
          whole = ap (λ t. 34 ∷ t) (s.whole ∙ ap (λ t. s.front ++ t) after ∙ sym (append_assoc s.front (34 ∷ []) r));
          len = omega (arith, s.len, length-append s.front (34 ∷ []));
          some = omega arith;
          fits = record {
            body = s.front;
            whole = refl;
            plain = list_all_both is_allowed is_quotable s.front all s.all;
          };
        }

    has_bad : (rest : List ℕ) (s : Split is_quotable rest) → (before : List ℕ) × (b : ℕ) ×
        (after : List ℕ) × (s.front ≡ before ++ b ∷ after) × (is_allowed b ≡ false) → HasBadByte (34 ∷ rest)
    has_bad rest s (before, b, after, e, bad) = record {
      body = before;
      byte = b;
      rest = after ++ s.after;
      whole = ap (λ t. 34 ∷ t) (s.whole ∙ ap (λ t. t ++ s.after) e ∙ append_assoc before (b ∷ after) s.after);
      within = list_all_front is_quotable before (b ∷ after) (sym (ap (list_all is_quotable) e) ∙ s.all);
      bad = bad;
    }

-- ---- numbers and `0dbfs`

by_not : (b : Bool) → not b ≡ true → b ≡ false
by_not true e = cc
by_not false e = refl

not_by : (b : Bool) → b ≡ false → not b ≡ true
not_by true e = cc
not_by false e = refl

pub full_scale_yes : (text : List ℕ)
    → (begins_with (codes "0dbfs") text && not (begins is_word_byte (drop 5 text))) ≡ true
    → (text ≡ codes "0dbfs" ++ drop 5 text) × (begins is_word_byte (drop 5 text) ≡ false)
full_scale_yes text h = grind (arith, common_steps, and_parts, by_not, codes, front_is, not)

pub full_scale_is : (text : List ℕ) → IsFullScale text
    → (begins_with (codes "0dbfs") text && not (begins is_word_byte (drop 5 text))) ≡ true
full_scale_is text f = grind (arith, common_steps, and_from, codes, front_tests, not, not_by)

pub number_right : (text : List ℕ) → NumeralFront text → (IsFullScale text → ⊥) → Right text (number_front text)
number_right text f other =
    let n = numeral_len text in
    let dropped : drop (numeral_len text) text ≡ f.after = ap (drop n) f.whole ∙ drop_at f.span f.after n (sym f.len) in
    let taken : take (numeral_len text) text ≡ f.span = ap (take n) f.whole ∙ take_at f.span f.after n (sym f.len) in
    let numeral : IsNumeral f.span f.after =
    record { longest = f.longest; other = λ scale. other (subst IsFullScale (sym f.whole) scale) } in
    by_test (begins is_letter f.after) (λ h. rw (dropped, h) (record
    { span = f.span; after = f.after; whole = f.whole; numeral = numeral; wrong = inl h }))
    (λ h. by_test (nat_le (whole_part f.span) greatest_whole)
    (λ small. rw (dropped, h, taken, f.longest.fits, small) (record {
      span = f.span;
      after = f.after;
      whole = f.whole;
      len = f.len;
      some = omega (arith, f.len, f.some);
      fits = record { numeral = numeral; ends = h; value_is = value_is f.span f.longest.fits small };
    })) (λ great. rw (dropped, h, taken, f.longest.fits, great) (record {
      span = f.span;
      after = f.after;
      whole = f.whole;
      numeral = numeral;
      wrong = inr (grind (arith, nat_tests));
    })))
  where
    value_is : (span : List ℕ) → is_numeral span ≡ true → nat_le (whole_part span) greatest_whole ≡ true
        → IsSomeAnd (decimal_of span)
        (λ d. clamp (raw_of_decimal (record { whole = whole_part span; billionths = billionths_part span }))
        ≡ raw_of_decimal d)
    value_is span h small =
        let made : Decimal = record { whole = whole_part span; billionths = billionths_part span } in
        let some : decimal_of span ≡ Some made = rw (h, small) in
        subst (λ o. IsSomeAnd o (λ d. clamp (raw_of_decimal made) ≡ raw_of_decimal d)) (sym some)
        (clamp_same (raw_of_decimal made) (decimal_in_range span made some))

digit_right : (b : ℕ) (rest : List ℕ) → is_ascii_digit b ≡ true → Right (b ∷ rest) (digit_front (b ∷ rest))
digit_right b rest h = by_test (begins_with (codes "0dbfs") (b ∷ rest) && not (begins is_word_byte (drop 5 (b ∷ rest))))
    (λ scale.
    let is = full_scale_yes (b ∷ rest) scale in
    rw scale (record {
      span = codes "0dbfs";
      after = drop 5 (b ∷ rest);
      whole = is.0;
      len = refl;
      some = omega arith;
      fits = inr (refl, is.1);
    })) (λ other. rw other (number_right (b ∷ rest) (digit_front_is (b ∷ rest) h)
    (λ scale. false≢true (sym other ∙ full_scale_is (b ∷ rest) scale))))

point_right : (rest : List ℕ) → Right (46 ∷ rest) (point_front (46 ∷ rest))
point_right rest = by_test (begins is_ascii_digit rest)
    (λ h. rw h (number_right (46 ∷ rest) (point_front_is rest h) no_scale))
    (λ h. rw h (inl (record { byte = 46; rest = rest; whole = refl; stray = inr (refl, h) })))
  where
    no_scale : {rest : List ℕ} → IsFullScale (46 ∷ rest) → ⊥
    no_scale f = false≢true (sym (ap (begins (λ b. b == 46)) f.whole))

slash_right : (rest : List ℕ) → Right (47 ∷ rest) (slash_front (47 ∷ rest))
slash_right rest = by (begins_comment (47 ∷ rest)) refl
  where
    by : (b : Bool) → begins_comment (47 ∷ rest) ≡ b
        → Right (47 ∷ rest) (if b then comment_front (47 ∷ rest) else sign_front (47 ∷ rest))
    by true e = comment_right (47 ∷ rest) e
    by false e = sign_right 47 rest refl e

differs : (a b : ℕ) → b ≢ a → nat_eq a b ≡ false
differs a b h = grind (arith, nat_tests)

-- the reader's result at the start of a text is right
pub front_right : (b : ℕ) (rest : List ℕ) → Right (b ∷ rest) (front_of (b ∷ rest))
front_right b rest = by (class_of b) b rest (class_means b)
  where
    no_comment : (b : ℕ) (rest : List ℕ) → b ≢ 47 → b ≢ 59 → begins_comment (b ∷ rest) ≡ false
    no_comment b rest h k = rw (differs 59 b k, differs 47 b h)

    by : (c : Class) (b : ℕ) (rest : List ℕ) → Means c b → Right (b ∷ rest) (by_class c (b ∷ rest))
    by class.Letter b rest h = word_right b rest h
    by class.Digit b rest h = digit_right b rest h
    by class.Blank b rest h = blank_right b rest h
    by class.LineFeed b rest h = subst (λ x. Right (x ∷ rest) (token mark.NewLine 1)) (sym h) (feed_right rest)
    by class.Quote b rest h = subst (λ x. Right (x ∷ rest) (text_front rest)) (sym h) (text_right rest)
    by class.Point b rest h = subst (λ x. Right (x ∷ rest) (point_front (x ∷ rest))) (sym h) (point_right rest)
    by class.Slash b rest h = subst (λ x. Right (x ∷ rest) (slash_front (x ∷ rest))) (sym h) (slash_right rest)
    by class.Semicolon b rest h =
        subst (λ x. Right (x ∷ rest) (comment_front (x ∷ rest))) (sym h) (comment_right (59 ∷ rest) refl)
    by class.Backslash b rest h = subst (λ x. Right (x ∷ rest) (joined_front rest)) (sym h) (joined_right rest)
    by class.Sign b rest h = sign_right b rest h.0 (no_comment b rest h.1 h.2)
    by class.Stray b rest h = inl (record { byte = b; rest = rest; whole = refl; stray = inl h })
    by class.Bad b rest h = inl (record { byte = b; rest = rest; whole = refl; bad = h })
