-- Line feeds and prefixes of texts.
use Rattle.std.proofs.Common.{◌≡◌, ℕ, ◌+◌, ◌-◌, ◌≤◌, Bool, true, List, ◌++◌, length, take, drop, count_by, nat_eq}
use Rattle.std.proofs.Common.{arith, ap, sym, ◌∙◌, refl, if◌then◌else◌}
use Rattle.std.proofs.lemmas.{Bool.Decides.Decides-eqb, Slice.Eq.starts_is, List.Sums.sum_by-append}
use Rattle.std.proofs.lemmas.List.{drop-take, take-append-drop, take-take}
use Rattle.cs_base.specs.Lines.{begins_with, is_feed, line_after}

pub count_by-append : {A : Type 0} (p : A → Bool) (xs ys : List A)
    → count_by p (xs ++ ys) ≡ count_by p xs + count_by p ys
count_by-append p xs ys = sum_by-append (λ x. if p x then 1 else 0) xs ys

-- a text that begins with a prefix is the prefix followed by the rest
pub front_is : (front text : List ℕ) → begins_with front text ≡ true → text ≡ front ++ drop (length front) text
front_is front text h = (starts_is {E = nat_eq} Decides-eqb text front (begins_with front text) refl).0 h

pub front_tests : (front text after : List ℕ) → text ≡ front ++ after → begins_with front text ≡ true
front_tests front text after e = (starts_is {E = nat_eq} Decides-eqb text front (begins_with front text) refl).1 after e

-- the line number at a later index is the line number at an earlier one plus the line feeds between them
pub line_number : (first : ℕ) (text : List ℕ) (from to line feeds : ℕ) → from ≤ to
    → line ≡ line_after first (take from text) → feeds ≡ count_by is_feed (take (to - from) (drop from text))
    → line + feeds ≡ line_after first (take to text)
line_number first text from to line feeds l e f =
    let whole : from + (to - from) ≡ to = omega arith in
    let front : take from (take to text) ≡ take from text = take-take from to text l in
    let back : drop from (take to text) ≡ take (to - from) (drop from text) =
    ap (λ n. drop from (take n text)) (sym whole) ∙ drop-take from (to - from) text in
    let split = ap (count_by is_feed) (sym (take-append-drop from (take to text)))
    ∙ count_by-append is_feed (take from (take to text)) (drop from (take to text)) in
    let a = ap (count_by is_feed) front in
    let b = ap (count_by is_feed) back in
    omega (arith, split, a, b, e, f)

pub line_behind : (first : ℕ) (before text : List ℕ)
    → line_after (line_after first before) text ≡ line_after first (before ++ text)
line_behind first before text = omega (arith, count_by-append is_feed before text)
