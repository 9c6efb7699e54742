-- The first `*/` of a text.
use Rattle.std.proofs.Common.{◌≡◌, ℕ, suc, ◌+◌, ◌<◌, ◌≤◌, true, false, not, List, [], ◌∷◌, length, drop, get_or, arith}
use Rattle.std.proofs.Common.{ap, sym, ◌∙◌, refl, codes, nat_lt, if◌then◌else◌}
use Rattle.std.specs.List.{list_any}
use Rattle.std.proofs.lemmas.{List.drop_more, List.length-append, List.length-drop, Bool.Decides.nat_tests}
use Rattle.cs_base.specs.Comments.{tails, closes, close_of}
use Rattle.cs_base.proofs.{Tests.by_test, Texts.front_is}

pub close_later : (b : ℕ) (rest : List ℕ) → closes (b ∷ rest) ≡ false → close_of (b ∷ rest) ≡ 1 + close_of rest
close_later b rest h = rw h refl

pub close_at_once : (b : ℕ) (rest : List ℕ) → closes (b ∷ rest) ≡ true → close_of (b ∷ rest) ≡ 0
close_at_once b rest h = rw h refl

any_later : (b : ℕ) (rest : List ℕ) → closes (b ∷ rest) ≡ false
    → list_any closes (tails (b ∷ rest)) ≡ list_any closes (tails rest)
any_later b rest h = rw h refl

any_at_once : (b : ℕ) (rest : List ℕ) → closes (b ∷ rest) ≡ true → list_any closes (tails (b ∷ rest)) ≡ true
any_at_once b rest h = rw h refl

first_in : (n : ℕ) → nat_lt 0 (suc n) ≡ true
first_in n = grind (arith, nat_tests)

one_on : (k n : ℕ) → nat_lt (1 + k) (suc n) ≡ nat_lt k n
one_on k n = grind (arith, nat_tests)

-- the index is less than the length if and only if the text has a `*/`
pub close_is_there : (text : List ℕ) → nat_lt (close_of text) (length text) ≡ list_any closes (tails text)
close_is_there [] = refl
close_is_there (b ∷ rest) = by_test (closes (b ∷ rest))
    (λ h. ap (λ n. nat_lt n (length (b ∷ rest))) (close_at_once b rest h) ∙ first_in (length rest)
    ∙ sym (any_at_once b rest h))
    (λ h. ap (λ n. nat_lt n (length (b ∷ rest))) (close_later b rest h) ∙ one_on (close_of rest) (length rest)
    ∙ close_is_there rest ∙ sym (any_later b rest h))

two_bytes : (text : List ℕ) → closes text ≡ true → 2 ≤ length text
two_bytes text h =
    let long = ap length (front_is (codes "*/") text h) ∙ length-append (codes "*/") (drop 2 text) in
    omega (arith, long)

-- both bytes of the first `*/` are within the text
pub close_fits : (text : List ℕ) → close_of text < length text → close_of text + 2 ≤ length text
close_fits [] l = absurd (omega arith)
close_fits (b ∷ rest) l = by_test (closes (b ∷ rest))
    (λ h. omega (arith, close_at_once b rest h, two_bytes (b ∷ rest) h))
    (λ h. let is = close_later b rest h in let more = close_fits rest (omega (arith, is)) in omega (arith, is, more))

-- if no `*/` begins at index `at`, the first one is found from the next index on
pub close_next : (text : List ℕ) (at : ℕ) → at < length text → closes (drop at text) ≡ false
    → close_of (drop at text) ≡ 1 + close_of (drop (at + 1) text)
close_next text at l h =
    let split = drop_more text at 0 l in
    ap close_of split ∙ close_later (get_or text at 0) (drop (at + 1) text) (sym (ap closes split) ∙ h)

there : (text : List ℕ) → close_of text < length text → list_any closes (tails text) ≡ true
there text l = let e : nat_lt (close_of text) (length text) ≡ true =
    grind (arith, nat_tests, l) in sym (close_is_there text) ∙ e

not_there : (text : List ℕ) → length text ≤ close_of text → list_any closes (tails text) ≡ false
not_there text l = let e : nat_lt (close_of text) (length text) ≡ false =
    grind (arith, nat_tests, l) in sym (close_is_there text) ∙ e

-- the length of a comment that begins with `/*`, closed or not
abbrev pub block_len_of : List ℕ → ℕ
block_len_of text = if not (list_any closes (tails (drop 2 text))) then length text else close_of (drop 2 text) + 4

pub closed : (text : List ℕ) (close : ℕ) → 2 ≤ length text → close ≡ close_of (drop 2 text) → close + 2 < length text
    → (close + 4 ≡ block_len_of text) × (close + 4 ≤ length text)
closed text close wide is l =
    let short = length-drop 2 text in
    let inside : close_of (drop 2 text) < length (drop 2 text) = omega (arith, short, is) in
    let fits = close_fits (drop 2 text) inside in
    (rw (there (drop 2 text) inside) (ap (λ n. n + 4) is), omega (arith, fits, short, is))

pub unclosed : (text : List ℕ) (close : ℕ) → 2 ≤ length text → close ≡ close_of (drop 2 text) → length text ≤ close + 2
    → length text ≡ block_len_of text
unclosed text close wide is l =
    let short = length-drop 2 text in
    rw (not_there (drop 2 text) (omega (arith, short, is))) refl
