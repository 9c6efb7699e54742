-- Reading the words of a line one by one.
use Rattle.std.proofs.Common.{◌≡◌, ℕ, suc, ◌+◌, ◌<◌, true, false, not, List, ◌∷◌, ◌++◌, length, drop, take, map, []}
use Rattle.std.proofs.Common.{get_or, arith, ap, sym, ◌∙◌, refl, subst, append_assoc}
use Rattle.std.specs.List.{prefix_len}
use Rattle.std.proofs.lemmas.List.{drop_more, drop-drop}
use Rattle.cs_score.specs.{declared.field.Field.Field, Fields.field_of}
use Rattle.cs_score.specs.Rows.{is_word_byte, words, with_first}
use Rattle.cs_base.specs.Lines.{begins, is_blank}
use Rattle.cs_base.proofs.Tests.{by_test}

abbrev pub word_len : List ℕ → ℕ
word_len text = prefix_len is_word_byte text

lone_first : (b : ℕ) (rest : List ℕ) → is_blank b ≡ false → begins is_word_byte rest ≡ false
    → words (b ∷ rest) ≡ (b ∷ []) ∷ words rest
lone_first b rest h k = rw (h, k) refl

joined_first : (b : ℕ) (rest : List ℕ) → is_blank b ≡ false → begins is_word_byte rest ≡ true
    → words (b ∷ rest) ≡ with_first b (words rest)
joined_first b rest h k = rw (h, k) refl

len_blank : (b : ℕ) (rest : List ℕ) → is_blank b ≡ true → word_len (b ∷ rest) ≡ 0
len_blank b rest h = rw h refl

pub len_word : (b : ℕ) (rest : List ℕ) → is_blank b ≡ false → word_len (b ∷ rest) ≡ suc (word_len rest)
len_word b rest h = rw h (omega arith)

-- the first word of a text that doesn't begin with a blank, followed by the words after it
word_first : (b : ℕ) (rest : List ℕ) → is_blank b ≡ false
    → words (b ∷ rest) ≡ (b ∷ take (word_len rest) rest) ∷ words (drop (word_len rest) rest)
word_first b [] h = rw h refl
word_first b (c ∷ rest) h = by_test (is_blank c)
    (λ k. subst (λ n. words (b ∷ c ∷ rest) ≡ (b ∷ take n (c ∷ rest)) ∷ words (drop n (c ∷ rest)))
    (sym (len_blank c rest k)) (lone_first b (c ∷ rest) h (ap not k)))
    (λ k. subst (λ n. words (b ∷ c ∷ rest) ≡ (b ∷ take n (c ∷ rest)) ∷ words (drop n (c ∷ rest)))
    (sym (len_word c rest k)) (joined_first b (c ∷ rest) h (ap not k) ∙ ap (with_first b) (word_first c rest k)))

one_word : (text : List ℕ) → 0 < length text → is_blank (get_or text 0 0) ≡ false
    → words text ≡ take (word_len text) text ∷ words (drop (word_len text) text)
one_word [] l h = absurd (omega arith)
one_word (b ∷ rest) l h =
    subst (λ n. words (b ∷ rest) ≡ take n (b ∷ rest) ∷ words (drop n (b ∷ rest))) (sym (len_word b rest h))
    (word_first b rest h)

-- ---- one step of the reader

pub word_read : (line : List ℕ) (at len : ℕ) (fields fields' : List Field) (f : Field) → at < length line
    → is_blank (get_or line at 0) ≡ false → len ≡ word_len (drop at line) → f ≡ field_of (take len (drop at line))
    → fields' ≡ fields ++ f ∷ [] → fields ++ map field_of (words (drop at line)) ≡ map field_of (words line)
    → fields' ++ map field_of (words (drop (at + len) line)) ≡ map field_of (words line)
word_read line at len fields fields' f l h e is more read =
    let split = drop_more line at 0 l in
    let text = drop at line in
    let word : words text ≡ take len text ∷ words (drop len text) =
    subst (λ n. words text ≡ take n text ∷ words (drop n text)) (sym e)
    (one_word text (omega (arith, ap length split)) (ap (λ t. is_blank (get_or t 0 0)) split ∙ h)) in
    ap (λ fs. fs ++ map field_of (words (drop (at + len) line))) more
    ∙ append_assoc fields (f ∷ []) (map field_of (words (drop (at + len) line)))
    ∙ ap (λ g. fields ++ g ∷ map field_of (words (drop (at + len) line))) is
    ∙ ap (λ t. fields ++ field_of (take len text) ∷ map field_of (words t)) (sym (drop-drop len at line))
    ∙ ap (λ ws. fields ++ map field_of ws) (sym word) ∙ read
