-- Arguments that are registers: a unit receives the registers' values.
use Rattle.std.proofs.Common.{◌≡◌, ℕ, zero, suc, ◌<◌, ◌≤◌, true, List, [], ◌∷◌, ◌++◌, length, map, nat_le, take, get_or}
use Rattle.std.proofs.Common.{slice_get, ℤ, Bool, Some, None, refl, sym, ◌∙◌, ap, subst, arith}
use Rattle.std.specs.List.{All, list_all}
use Rattle.std.proofs.lemmas.{Bool.and_parts, Bool.Decides.nat_tests, List.Elements.All-cons, List.Elements.All-nil}
use Rattle.cs_base.proofs.Tests.{some_is}
use Rattle.cs_words.proofs.EachOpcode.{of_all}
use Rattle.cs_words.specs.declared.catalogue.Opcode.{Opcode}
use Rattle.cs_ir.specs.{Waves.Wave, declared.register.Reg.Reg}
use Rattle.cs_machine.specs.inner.Gathered.{IsFirstAt, StandsAt, HoldsOperand, no_register}
use Rattle.cs_signal.specs.declared.operand.Operand.{Operand}
use Rattle.cs_ugen.specs.{Units.moving_count, Units.opcode_of, declared.unit.UnitState.UnitState}
use Rattle.cs_voice_meaning.specs.VoiceWorld.{inputs_at}
use Rattle.cs_ugen.specs.Units as units

-- no opcode takes more than seven moving arguments
few_test : (o : Opcode) → nat_le (moving_count o) 7 ≡ true
few_test = of_all (λ o. nat_le (moving_count o) 7) refl

pub few : (k : UnitState) (n : ℕ) → n ≡ moving_count (opcode_of k) → n ≤ 7
few k n e = subst (λ m. m ≤ 7) (sym e) (let h = few_test (opcode_of k) in grind (arith, nat_tests))

-- an element at an index of a list satisfies what all elements do
pub each_read : {A : Type 0} (p : A → Bool) (xs : List A) (n : ℕ) (x : A) → list_all p xs ≡ true
    → slice_get xs n ≡ Some x → p x ≡ true
each_read p [] n x all is = absurd (cc)
each_read p (y ∷ xs) zero x all is = ap p (sym (some_is y x is)) ∙ (and_parts (p y) (list_all p xs) all).0
each_read p (y ∷ xs) (suc n) x all is = each_read p xs n x (and_parts (p y) (list_all p xs) all).1 is

-- an index without an element is at the end or after it
pub none_past : {A : Type 0} (xs : List A) (n : ℕ) → slice_get xs n ≡ None → length xs ≤ n
none_past [] n is = omega arith
none_past (y ∷ xs) zero is = absurd (cc)
none_past (y ∷ xs) (suc n) is = let far = none_past xs n is in omega (arith, far)

-- each of seven operands has the value of its register
pub seven_stand : (f : Reg → Wave) (rs : List Reg) (a b c d e g h : Operand)
    → (0 < length rs → HoldsOperand f a (get_or rs 0 no_register))
    → (1 < length rs → HoldsOperand f b (get_or rs 1 no_register))
    → (2 < length rs → HoldsOperand f c (get_or rs 2 no_register))
    → (3 < length rs → HoldsOperand f d (get_or rs 3 no_register))
    → (4 < length rs → HoldsOperand f e (get_or rs 4 no_register))
    → (5 < length rs → HoldsOperand f g (get_or rs 5 no_register))
    → (6 < length rs → HoldsOperand f h (get_or rs 6 no_register)) → length rs ≤ 7
    → (j : ℕ) → j < length rs → StandsAt f (a ∷ b ∷ c ∷ d ∷ e ∷ g ∷ h ∷ []) rs j
seven_stand f rs a b c d e g h x0 x1 x2 x3 x4 x5 x6 most zero low = x0 low
seven_stand f rs a b c d e g h x0 x1 x2 x3 x4 x5 x6 most (suc zero) low = x1 low
seven_stand f rs a b c d e g h x0 x1 x2 x3 x4 x5 x6 most (suc (suc zero)) low = x2 low
seven_stand f rs a b c d e g h x0 x1 x2 x3 x4 x5 x6 most (suc (suc (suc zero))) low = x3 low
seven_stand f rs a b c d e g h x0 x1 x2 x3 x4 x5 x6 most (suc (suc (suc (suc zero)))) low = x4 low
seven_stand f rs a b c d e g h x0 x1 x2 x3 x4 x5 x6 most (suc (suc (suc (suc (suc zero))))) low = x5 low
seven_stand f rs a b c d e g h x0 x1 x2 x3 x4 x5 x6 most (suc (suc (suc (suc (suc (suc zero)))))) low = x6 low
seven_stand f rs a b c d e g h x0 x1 x2 x3 x4 x5 x6 most (suc (suc (suc (suc (suc (suc (suc j))))))) low =
    absurd (omega (arith, low, most))

pub three_stand : (f : Reg → Wave) (rs : List Reg) (a b c : Operand)
    → (0 < length rs → HoldsOperand f a (get_or rs 0 no_register))
    → (1 < length rs → HoldsOperand f b (get_or rs 1 no_register))
    → (2 < length rs → HoldsOperand f c (get_or rs 2 no_register)) → length rs ≤ 3
    → (j : ℕ) → j < length rs → StandsAt f (a ∷ b ∷ c ∷ []) rs j
three_stand f rs a b c x0 x1 x2 most zero low = x0 low
three_stand f rs a b c x0 x1 x2 most (suc zero) low = x1 low
three_stand f rs a b c x0 x1 x2 most (suc (suc zero)) low = x2 low
three_stand f rs a b c x0 x1 x2 most (suc (suc (suc j))) low = absurd (omega (arith, low, most))

pub three_first : (f : Reg → Wave) (rs : List Reg) (a b c : ℤ)
    → (0 < length rs → a ≡ f (get_or rs 0 no_register) 0) → (1 < length rs → b ≡ f (get_or rs 1 no_register) 0)
    → (2 < length rs → c ≡ f (get_or rs 2 no_register) 0) → length rs ≤ 3
    → (j : ℕ) → j < length rs → IsFirstAt f (a ∷ b ∷ c ∷ []) rs j
three_first f rs a b c x0 x1 x2 most zero low = x0 low
three_first f rs a b c x0 x1 x2 most (suc zero) low = x1 low
three_first f rs a b c x0 x1 x2 most (suc (suc zero)) low = x2 low
three_first f rs a b c x0 x1 x2 most (suc (suc (suc j))) low = absurd (omega (arith, low, most))

pub seven_last : (P : Operand → Type 0) (a b c d e g h : Operand) → P a → P b → P c → P d → P e → P g → P h
    → All P (a ∷ b ∷ c ∷ d ∷ e ∷ g ∷ h ∷ [])
seven_last P a b c d e g h x0 x1 x2 x3 x4 x5 x6 =
    All-cons P a (b ∷ c ∷ d ∷ e ∷ g ∷ h ∷ []) x0
    (All-cons P b (c ∷ d ∷ e ∷ g ∷ h ∷ []) x1 (All-cons P c (d ∷ e ∷ g ∷ h ∷ []) x2 (All-cons P d (e ∷ g ∷ h ∷ []) x3
    (All-cons P e (g ∷ h ∷ []) x4 (All-cons P g (h ∷ []) x5 (All-cons P h [] x6 (All-nil P)))))))

-- operands with the values of registers, as many of them, are the registers' values
pub same_inputs : (f : Reg → Wave) (os : List Operand) (rs : List Reg) (points : List ℤ) → length rs ≤ length os
    → ((j : ℕ) → j < length rs → StandsAt f os rs j)
    → (λ j. units.inputs_at (take (length rs) os) j ++ points) ≡ inputs_at (map f rs) points
same_inputs f os rs points long h = λ i j. at os rs long h j i ++ points
  where
    at : (os : List Operand) (rs : List Reg) → length rs ≤ length os → ((j : ℕ) → j < length rs → StandsAt f os rs j)
        → (j : ℕ) → units.inputs_at (take (length rs) os) j ≡ map (λ (w : Wave). w j) (map f rs)
    at os [] long h j = refl
    at [] (r ∷ rs) long h j = absurd (omega (arith, long))
    at (o ∷ os) (r ∷ rs) long h j =
        λ i. h 0 (omega arith) j i ∷ at os rs (omega (arith, long)) (λ k low. h (suc k) (omega (arith, low))) j i

pub same_firsts : (f : Reg → Wave) (xs : List ℤ) (rs : List Reg) → length rs ≤ length xs
    → ((j : ℕ) → j < length rs → IsFirstAt f xs rs j) → take (length rs) xs ≡ map (λ (w : Wave). w 0) (map f rs)
same_firsts f xs [] long h = refl
same_firsts f [] (r ∷ rs) long h = absurd (omega (arith, long))
same_firsts f (x ∷ xs) (r ∷ rs) long h =
    λ i. h 0 (omega arith) i ∷ same_firsts f xs rs (omega (arith, long)) (λ k low. h (suc k) (omega (arith, low))) i
