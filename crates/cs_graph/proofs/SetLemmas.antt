use Rattle.std.proofs.lemmas.{Grind.common_steps, Bool.Decides.nat_tests, List.get_or_past, Nat.Bits.bit_at_set_other}
use Rattle.cs_base.specs.Limits.{most_notes}
use Rattle.std.proofs.Common.{◌≡◌, ◌||◌, ℕ, zero, suc, ◌*◌, ◌/◌, ◌%◌, ◌^◌, ◌<◌, max, false, List, [], ◌∷◌, length}
use Rattle.std.proofs.Common.{get_or, set, refl, ap, ⊎_elim, arith, eqb, w64, get_or-set_same, get_or-set_other}
use Rattle.std.specs.{Int.bit_at, Int.RustNames.bit_or}
use lib.Bits.{bit_and}
use Rattle.std.proofs.lemmas.Bool.{cases_eq, cases_lt}
use Rattle.std.proofs.lemmas.Nat.Bits.{bit_at-zero, bit_at-lt, bit_at_or, shr_and_one, bit_at_set_same}
use Rattle.cs_graph.specs.inner.Sets.{has}

-- the test of a bit as the code computes it
pub has_bit : (ws : List ℕ) (n : ℕ) → eqb (bit_and (get_or ws (n / 64) 0 / 2 ^ (n % 64)) 1) 1 ≡ has ws n
unfolding has
has_bit ws n = ap (λ b. eqb b 1) (shr_and_one (get_or ws (n / 64) 0) (n % 64))

-- a word that is 0 has none of its notes
pub has_clear : (ws : List ℕ) (block i : ℕ) → get_or ws block 0 ≡ 0 → i / 64 ≡ block → has ws i ≡ false
unfolding has
has_clear ws block i clear at_ = rw (at_, clear, bit_at-zero (i % 64)) refl

abbrev zero_words : List ℕ
zero_words = 0 ∷ 0 ∷ 0 ∷ 0 ∷ 0 ∷ 0 ∷ 0 ∷ 0 ∷ []

eight_zeros : (j : ℕ) → ◌≡◌ {A = ℕ} (get_or zero_words j 0) 0
eight_zeros zero = refl
eight_zeros (suc zero) = refl
eight_zeros (suc (suc zero)) = refl
eight_zeros (suc (suc (suc zero))) = refl
eight_zeros (suc (suc (suc (suc zero)))) = refl
eight_zeros (suc (suc (suc (suc (suc zero))))) = refl
eight_zeros (suc (suc (suc (suc (suc (suc zero)))))) = refl
eight_zeros (suc (suc (suc (suc (suc (suc (suc zero))))))) = refl
eight_zeros (suc (suc (suc (suc (suc (suc (suc (suc j)))))))) = refl

pub has_none : (i : ℕ) → has (0 ∷ 0 ∷ 0 ∷ 0 ∷ 0 ∷ 0 ∷ 0 ∷ 0 ∷ []) i ≡ false
unfolding has
has_none i = rw (eight_zeros (i / 64), bit_at-zero (i % 64)) refl

bit-insert : (w r j : ℕ) → r < 64 → eqb (bit_at (bit_or w (1 * 2 ^ r % 2 ^ 64)) j) 1 ≡ (eqb (bit_at w j) 1 || eqb j r)
bit-insert w r j small = ⊎_elim
    (λ same. let here : bit_at (bit_or w (1 * 2 ^ r % 2 ^ 64)) j ≡ 1 =
    rw same (bit_at_set_same w64 w r small) in grind (arith, nat_tests))
    (λ apart. let there : bit_at (bit_or w (1 * 2 ^ r % 2 ^ 64)) j ≡ bit_at w j =
    bit_at_set_other w64 w r small j apart in grind (arith, nat_tests))
    (cases_eq j r)

pub has-insert : (ws : List ℕ) (n i : ℕ) → length ws ≡ 8 → n < most_notes
    → has (set ws (n / 64) (bit_or (get_or ws (n / 64) 0) (1 * 2 ^ (n % 64) % 18446744073709551616)))
    i ≡ (has ws i || eqb i n)
unfolding has
has-insert ws n i long small = let word : ℕ = bit_or (get_or ws (n / 64) 0) (1 * 2 ^ (n % 64) % 2 ^ 64) in ⊎_elim
    (λ same. let within : n / 64 < length ws = omega arith in
    let here : get_or (set ws (n / 64) word) (i / 64) 0 ≡ word = rw same (get_or-set_same ws (n / 64) word 0 within) in
    let test : eqb (i % 64) (n % 64) ≡ eqb i n = grind (arith, nat_tests) in
    let old : has ws i ≡ eqb (bit_at (get_or ws (n / 64) 0) (i % 64)) 1 =
    ap (λ q. eqb (bit_at (get_or ws q 0) (i % 64)) 1) same in
    rw (here, old, ← test) (bit-insert (get_or ws (n / 64) 0) (n % 64) (i % 64) (omega arith)))
    (λ apart. let there : get_or (set ws (n / 64) word) (i / 64) 0 ≡ get_or ws (i / 64) 0 =
    get_or-set_other ws (n / 64) (i / 64) word 0 apart in
    let test : eqb i n ≡ false = grind (arith, nat_tests) in
    rw (there, test) (grind arith))
    (cases_eq (i / 64) (n / 64))

bit-join : (a b j : ℕ) → eqb (bit_at (bit_or a b) j) 1 ≡ (eqb (bit_at a j) 1 || eqb (bit_at b j) 1)
bit-join a b j = let low : bit_at a j < 2 = bit_at-lt a j in let low' : bit_at b j < 2 = bit_at-lt b j in
    let is : bit_at (bit_or a b) j ≡ max (bit_at a j) (bit_at b j) = bit_at_or a b j in grind (arith, nat_tests)

-- if each word is the union of two words, the set is the union of two sets
pub has-join : (ws us vs : List ℕ) (i : ℕ) → length ws ≡ 8 → length us ≡ 8 → length vs ≡ 8
    → ((k : ℕ) → k < 8 → get_or ws k 0 ≡ bit_or (get_or us k 0) (get_or vs k 0)) → has ws i ≡ (has us i || has vs i)
unfolding has
has-join ws us vs i long long' long'' each = grind (arith, common_steps, bit-join, bit_at-zero, cases_lt, get_or_past)
