-- Prefixes of a text: runs, splits, and the longest span of a form.
use Rattle.std.proofs.lemmas.{Grind.common_steps, Bool.and_parts, Bool.and_from, Bool.false≢true, List.drop_at}
use Rattle.std.proofs.lemmas.{List.take_at, List.append-nil, List.Folds.list_all-append}
use Rattle.std.proofs.Common.{◌≡◌, ◌≢◌, ◌+◌, ◌≤◌, ℕ, Bool, true, false, ◌&&◌, List, [], ◌∷◌, ◌++◌, length, drop, take}
use Rattle.std.proofs.Common.{arith, ap, sym, ◌∙◌, refl, inl, inr, ◌==◌}
use Rattle.std.specs.List.{list_all}
use Rattle.std.proofs.lemmas.Bool.Decides.{leb_tells, nat_tests}
use Rattle.cs_base.specs.Lines.{begins}
use Rattle.std.proofs.Math.Bool.{and-false}
use Rattle.cs_base.proofs.Tests.{by_test}
use Rattle.cs_lex.specs.{inner.Front.run, Rows.Longest}

-- a text is a run, followed by the text that ends it
pub record Split (p : ℕ → Bool) (text : List ℕ) : Type 0 where
  pub front : List ℕ
  pub after : List ℕ
  pub whole : text ≡ front ++ after
  pub all : list_all p front ≡ true
  pub ends : begins p after ≡ false
  pub len : run p text ≡ length front

-- a run with one more byte in front
abbrev pub longer : (p : ℕ → Bool) (b : ℕ) (rest : List ℕ) → p b ≡ true → Split p rest → Split p (b ∷ rest)
longer p b rest h s = record {
  front = b ∷ s.front;
  after = s.after;
  whole = ap (λ x. b ∷ x) s.whole;
  all = and_from (p b) (list_all p s.front) h s.all;
  ends = s.ends;
  len = rw h (omega (arith, s.len));
}

pub split : (p : ℕ → Bool) (text : List ℕ) → Split p text
split p [] = record { front = []; after = []; whole = refl; all = refl; ends = refl; len = refl }
split p (b ∷ rest) = by_test (p b) (λ h. longer p b rest h (split p rest))
    (λ h. record { front = []; after = b ∷ rest; whole = refl; all = refl; ends = h; len = rw h refl })

pub after_run : (p : ℕ → Bool) (text : List ℕ) → drop (run p text) text ≡ (split p text).after
after_run p text =
    let s = split p text in
    ap (λ x. drop (run p text) x) s.whole ∙ drop_at s.front s.after (run p text) (sym s.len)

pub take_run : (p : ℕ → Bool) (text : List ℕ) → take (run p text) text ≡ (split p text).front
take_run p text =
    let s = split p text in
    ap (λ x. take (run p text) x) s.whole ∙ take_at s.front s.after (run p text) (sym s.len)

-- a run continues past bytes that satisfy p
pub run_past : (p : ℕ → Bool) (xs ys : List ℕ) → list_all p xs ≡ true → run p (xs ++ ys) ≡ length xs + run p ys
run_past p [] ys h = omega arith
run_past p (x ∷ xs) ys h =
    let both = and_parts (p x) (list_all p xs) h in
    let here = both.0 in
    let rest = run_past p xs ys both.1 in
    rw here (omega (arith, rest))

no_run : (p : ℕ → Bool) (ys : List ℕ) → begins p ys ≡ false → run p ys ≡ 0
no_run p [] h = refl
no_run p (y ∷ ys) h = rw h refl

-- a run ends before a byte that doesn't satisfy p
pub run_is : (p : ℕ → Bool) (xs ys : List ℕ) → list_all p xs ≡ true → begins p ys ≡ false → run p (xs ++ ys) ≡ length xs
run_is p xs ys h k = run_past p xs ys h ∙ ap (λ n. length xs + n) (no_run p ys k)
    ∙ (let e : length xs + 0 ≡ length xs = omega arith in e)

-- ---- the longest span of a form

-- if the next byte is one that the form excludes, no longer span has the form
pub longest_to : (p : ℕ → Bool) (form : List ℕ → Bool) (span after : List ℕ) → form span ≡ true → begins p after ≡ false
    → ((c : ℕ) (more : List ℕ) → p c ≡ false → form (span ++ c ∷ more) ≡ false) → Longest form span after
longest_to p form span after fits ends cut = record {
  fits = fits;
  stops = λ more rest some e. stop more rest some (sym (ap (begins p) e) ∙ ends);
}
  where
    stop : (more rest : List ℕ) → more ≢ [] → begins p (more ++ rest) ≡ false → form (span ++ more) ≡ false
    stop [] rest some h = absurd (some refl)
    stop (c ∷ more) rest some h = cut c more h

pub list_all_cut : (p : ℕ → Bool) (xs : List ℕ) (c : ℕ) (more : List ℕ) → p c ≡ false
    → list_all p (xs ++ c ∷ more) ≡ false
list_all_cut p xs c more h = list_all-append p xs (c ∷ more) ∙ (rw h (and-false (list_all p xs)))

-- two ways to split one text: if the first prefix is no longer than the second, the second extends the first
pub split_more : (a b c d : List ℕ) → a ++ b ≡ c ++ d → length a ≤ length c
    → (more : List ℕ) × (c ≡ a ++ more) × (b ≡ more ++ d)
split_more [] b c d e l = (c, refl, e)
split_more (x ∷ a) b [] d e l = absurd (omega arith)
split_more (x ∷ a) b (y ∷ c) d e l = grind (arith, common_steps, split_more a b c d (cc) (omega arith))

pub by_order : {P : Type 0} (m n : ℕ) → (m ≤ n → P) → (n ≤ m → P) → P
by_order m n f g = elim (leb_tells m n) [ inl h ↦ f h.1 | inr h ↦ g (omega arith) ]

-- two longest spans of one form in one text are the same
pub longest_once : (form : List ℕ → Bool) (a b c d : List ℕ) → Longest form a b → Longest form c d → a ++ b ≡ c ++ d
    → a ≡ c
longest_once form a b c d h k e = by_order (length a) (length c) (λ l. meet a b c d h k (split_more a b c d e l))
    (λ l. sym (meet c d a b k h (split_more c d a b (sym e) l)))
  where
    meet : (a b c d : List ℕ) → Longest form a b → Longest form c d
        → (more : List ℕ) × (c ≡ a ++ more) × (b ≡ more ++ d) → a ≡ c
    meet a b c d h k ([], e, f) = sym (e ∙ append-nil a)
    meet a b c d h k (x ∷ more, e, f) =
        absurd (false≢true (sym (h.stops (x ∷ more) d (λ n. cc) f) ∙ (ap form (sym e) ∙ k.fits)))

-- ---- bytes

pub first_is : (p : ℕ → Bool) (text : List ℕ) → begins p text ≡ true
    → (b : ℕ) × (rest : List ℕ) × (text ≡ b ∷ rest) × (p b ≡ true)
first_is p [] h = absurd (false≢true h)
first_is p (b ∷ rest) h = (b, rest, refl, h)

pub equals : (a b : ℕ) → (a == b) ≡ true → a ≡ b
equals a b h = grind (arith, nat_tests)

and_last : (a b : Bool) → a ≡ true → (a && b) ≡ false → b ≡ false
and_last true b h k = k
and_last false b h k = cc

-- a byte that fails a test, with the bytes before and after it
pub where_fails : (p : ℕ → Bool) (xs : List ℕ) → list_all p xs ≡ false
    → (before : List ℕ) × (b : ℕ) × (after : List ℕ) × (xs ≡ before ++ b ∷ after) × (p b ≡ false)
where_fails p [] h = absurd (false≢true (sym h))
where_fails p (x ∷ xs) h = by_test (p x)
    (λ k.
    let found = where_fails p xs (and_last (p x) (list_all p xs) k h) in
    (x ∷ found.0, found.1, found.2, ap (λ t. x ∷ t) found.3, found.4))
    (λ k. ([], x, xs, refl, k))

pub list_all_both : (p q : ℕ → Bool) (xs : List ℕ) → list_all p xs ≡ true → list_all q xs ≡ true
    → list_all (λ b. p b && q b) xs ≡ true
list_all_both p q [] h k = refl
list_all_both p q (x ∷ xs) h k =
    let a = and_parts (p x) (list_all p xs) h in
    let b = and_parts (q x) (list_all q xs) k in
    and_from (p x && q x) _ (and_from (p x) (q x) a.0 b.0) (list_all_both p q xs a.1 b.1)

pub list_all_weaken : (p q : ℕ → Bool) → ((b : ℕ) → p b ≡ true → q b ≡ true) → (xs : List ℕ) → list_all p xs ≡ true
    → list_all q xs ≡ true
list_all_weaken p q w [] h = refl
list_all_weaken p q w (x ∷ xs) h =
    let a = and_parts (p x) (list_all p xs) h in
    and_from (q x) _ (w x a.0) (list_all_weaken p q w xs a.1)

pub list_all_front : (p : ℕ → Bool) (xs ys : List ℕ) → list_all p (xs ++ ys) ≡ true → list_all p xs ≡ true
list_all_front p xs ys h = (and_parts (list_all p xs) (list_all p ys) (sym (list_all-append p xs ys) ∙ h)).0
