-- Names of variables in frames: two variables in frames have different names, and none is a name from a text.
use Rattle.std.proofs.lemmas.Grind.{common_steps}
use Rattle.std.proofs.Common.{◌≡◌, ◌∙◌, ℕ, zero, suc, ◌+◌, Bool, true, false, if◌then◌else◌, List, [], ◌∷◌, ◌++◌, map}
use Rattle.std.proofs.Common.{arith, refl, sym, ap, subst}
use Rattle.cs_base.specs.declared.resource.Rate.{Rate}
use Rattle.cs_base.specs.declared.resource.Rate.TheVariants as rate
use Rattle.cs_words.specs.Names.{name_rate, is_global}
use Rattle.cs_grammar.specs.WellFormed.{HasNoStop}
use Rattle.cs_udo.specs.Names.{rate_letter, one_more, binary, digit, numeral, fresh, in_frame, slot}

abbrev count : List Bool → ℕ
count [] = 0
count (false ∷ bs) = count bs + count bs
count (true ∷ bs) = suc (count bs + count bs)

count_more : (bs : List Bool) → count (one_more bs) ≡ suc (count bs)
count_more (true ∷ bs) = omega (arith, count_more bs)
count_more _ = refl

count_binary : (n : ℕ) → count (binary n) ≡ n
count_binary zero = refl
count_binary (suc n) = count_more (binary n) ∙ ap suc (count_binary n)

binary_apart : (n m : ℕ) → binary n ≡ binary m → n ≡ m
binary_apart n m e = sym (count_binary n) ∙ ap count e ∙ count_binary m

abbrev first : List ℕ → ℕ
first [] = 0
first (b ∷ bs) = b

abbrev rest : List ℕ → List ℕ
rest [] = []
rest (b ∷ bs) = bs

digit_apart : (b c : Bool) → digit b ≡ digit c → b ≡ c
digit_apart true false e = absurd (omega (arith, e))
digit_apart false true e = absurd (omega (arith, e))
digit_apart _ _ e = refl

no_digit : {A : Type 0} (b : Bool) → digit b ≡ 46 → A
no_digit true e = absurd (omega (arith, e))
no_digit false e = absurd (omega (arith, e))

digits_apart : (bs cs : List Bool) (x y : List ℕ) → map digit bs ++ 46 ∷ x ≡ map digit cs ++ 46 ∷ y
    → (bs ≡ cs) × (x ≡ y)
digits_apart [] [] x y e = (refl, ap rest e)
digits_apart [] (c ∷ cs) x y e = no_digit c (sym (ap first e))
digits_apart (b ∷ bs) [] x y e = no_digit b (ap first e)
digits_apart (b ∷ bs) (c ∷ cs) x y e = grind (arith, common_steps, digit_apart, digits_apart bs cs x y (ap rest e))

pub fresh_apart : (n m : ℕ) (x y : List ℕ) → fresh n x ≡ fresh m y → (n ≡ m) × (x ≡ y)
fresh_apart n m x y e = grind (arith, common_steps, binary_apart, digits_apart)

pub letter_of_rate : (q : Rate) (l : List ℕ) → name_rate (rate_letter q ∷ 46 ∷ l) ≡ q
letter_of_rate rate.Init l = refl
letter_of_rate _ l = refl

pub letter_local : (q : Rate) (l : List ℕ) → is_global (rate_letter q ∷ 46 ∷ l) ≡ false
letter_local rate.Init l = refl
letter_local _ l = refl

pub fresh_rate : (f : ℕ) (x : List ℕ) → name_rate (fresh f x) ≡ name_rate x
fresh_rate f x = letter_of_rate (name_rate x) (numeral f ++ 46 ∷ x)

pub fresh_local : (f : ℕ) (x : List ℕ) → is_global (fresh f x) ≡ false
fresh_local f x = letter_local (name_rate x) (numeral f ++ 46 ∷ x)

-- a name with a full stop is not a name from a text
pub stopped : {A : Type 0} (f : ℕ) (x y : List ℕ) → HasNoStop x → x ≡ fresh f y → A
stopped f x y h e = absurd (by (fresh f y) refl (subst HasNoStop e h))
  where
    by : (l : List ℕ) → l ≡ fresh f y → HasNoStop (fresh f y) → ⊥
    by l same k = k 1 0 (omega arith) refl

-- ---- in a frame

pub framed_shared : (f : ℕ) (x : List ℕ) → is_global x ≡ true → in_frame f x ≡ x
framed_shared f x e = ap (λ b. if b then x else fresh f x) e

pub framed_fresh : (f : ℕ) (x : List ℕ) → is_global x ≡ false → in_frame f x ≡ fresh f x
framed_fresh f x e = ap (λ b. if b then x else fresh f x) e

pub framed_rate : (f : ℕ) (x : List ℕ) → name_rate (in_frame f x) ≡ name_rate x
framed_rate f x = grind (arith, common_steps, fresh_rate)

pub framed_global : (f : ℕ) (x : List ℕ) → is_global (in_frame f x) ≡ is_global x
framed_global f x = grind (arith, common_steps, fresh_local)

-- ---- slots

pub slot_rate : (n : ℕ) (r : Rate) → name_rate (slot n r) ≡ r
slot_rate n r = letter_of_rate r (numeral n)

pub slot_local : (n : ℕ) (r : Rate) → is_global (slot n r) ≡ false
slot_local n r = letter_local r (numeral n)

-- two slots with different indices have different names
pub slot_apart : (n m : ℕ) (r q : Rate) → slot n r ≡ slot m q → n ≡ m
slot_apart n m r q e =
    binary_apart n m (digits_apart (binary n) (binary m) [] [] (ap (λ l. rest (rest l) ++ 46 ∷ []) e)).0

-- a slot is not a name from a text
pub no_slot : {A : Type 0} (n : ℕ) (r : Rate) (x : List ℕ) → HasNoStop x → x ≡ slot n r → A
no_slot n r x h e = absurd (by (slot n r) refl (subst HasNoStop e h))
  where
    by : (l : List ℕ) → l ≡ slot n r → HasNoStop (slot n r) → ⊥
    by l same k = k 1 0 (omega arith) refl
