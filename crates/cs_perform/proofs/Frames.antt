-- The frames and notes of the first cycles, and of one more.
use Rattle.std.proofs.Common.{◌≡◌, ℕ, zero, suc, ◌+◌, ◌*◌, ℤ, Bool, List, [], ◌∷◌, ◌++◌, length, map, refl, ap}
use Rattle.std.proofs.Common.{◌∙◌, arith, append-nil, cond}
use Rattle.std.specs.List.{count_by, flat_map, range_with_len}
use Rattle.std.proofs.lemmas.{List.length-append, List.Concat.flat_map-append, List.Sums.sum_by-append}
use Rattle.std.proofs.lemmas.List.FromFn.{length-map-range_with_len}
use Rattle.cs_piece_meaning.specs.{Course.played_in, Moments.Composition}
use Rattle.cs_piece_meaning.specs.Heard.{frames_before, mix_in, sum_at}

-- one more number
range_more : (a n : ℕ) → range_with_len a (suc n) ≡ range_with_len a n ++ (a + n) ∷ []
range_more a zero = ap (λ (k : ℕ). k ∷ []) (let e : a ≡ a + 0 = omega arith in e)
range_more a (suc n) =
    ap (λ (l : List ℕ). a ∷ l) (range_more (a + 1) n)
    ∙ ap (λ (k : ℕ). (a ∷ range_with_len (a + 1) n) ++ k ∷ []) (let e : (a + 1) + n ≡ a + suc n = omega arith in e)

pub numbers_more : (n : ℕ) → range_with_len 0 (n + 1) ≡ range_with_len 0 n ++ n ∷ []
numbers_more n =
    ap (range_with_len 0) (let e : n + 1 ≡ suc n = omega arith in e) ∙ range_more 0 n
    ∙ ap (λ (k : ℕ). range_with_len 0 n ++ k ∷ []) (let e : 0 + n ≡ n = omega arith in e)

pub rows_more : {A : Type 0} (f : ℕ → List A) (n : ℕ)
    → flat_map f (range_with_len 0 (n + 1)) ≡ flat_map f (range_with_len 0 n) ++ f n
rows_more {A} f n =
    ap (flat_map f) (numbers_more n) ∙ flat_map-append f (range_with_len 0 n) (n ∷ [])
    ∙ ap (λ (l : List A). flat_map f (range_with_len 0 n) ++ l) (append-nil (f n))

pub frames_before_more : (c : Composition) (n : ℕ) → frames_before c (n + 1) ≡ frames_before c n ++ mix_in c n
frames_before_more c n = rows_more (mix_in c) n

-- a list of rows with the same length
length-rows : {A : Type 0} (f : ℕ → List A) (k : ℕ) → ((x : ℕ) → length (f x) ≡ k) → (xs : List ℕ)
    → length (flat_map f xs) ≡ length xs * k
length-rows f k each [] = let e : 0 ≡ 0 * k = omega arith in e
length-rows f k each (x ∷ xs) =
    length-append (f x) (flat_map f xs) ∙ ap (λ (n : ℕ). n + length (flat_map f xs)) (each x)
    ∙ ap (λ (n : ℕ). k + n) (length-rows f k each xs)
    ∙ (let e : k + length xs * k ≡ length (x ∷ xs) * k = omega arith in e)

pub length-range : (a n : ℕ) → length (range_with_len a n) ≡ n
length-range a zero = refl
length-range a (suc n) = ap suc (length-range (a + 1) n)

-- the number of values of a cycle's frames, and of the frames of the first cycles
pub length-mix_in : (c : Composition) (n : ℕ) → length (mix_in c n) ≡ c.head.ksmps * c.head.nchnls
length-mix_in c n =
    length-rows (λ frame. map (sum_at (played_in c n) frame) (range_with_len 0 c.head.nchnls)) c.head.nchnls
    (λ frame. length-map-range_with_len (sum_at (played_in c n) frame) 0 c.head.nchnls) (range_with_len 0 c.head.ksmps)
    ∙ ap (λ (k : ℕ). k * c.head.nchnls) (length-range 0 c.head.ksmps)

pub length-frames_before : (c : Composition) (n : ℕ) → length (frames_before c n) ≡ n * (c.head.ksmps * c.head.nchnls)
length-frames_before c n =
    length-rows (mix_in c) (c.head.ksmps * c.head.nchnls) (length-mix_in c) (range_with_len 0 n)
    ∙ ap (λ (k : ℕ). k * (c.head.ksmps * c.head.nchnls)) (length-range 0 n)

-- how many elements of two lists pass a test
pub count_by_both : (p : ℤ → Bool) (xs ys : List ℤ) → count_by p (xs ++ ys) ≡ count_by p xs + count_by p ys
count_by_both p xs ys = sum_by-append (λ x. cond (p x) 1 0) xs ys
