-- Kinds of registers, which are determined by their numbers.
use Rattle.std.proofs.Common.{◌≡◌, ◌∙◌, ◌<◌, ◌^◌, ℕ, zero, suc, true, List, [], ◌∷◌, arith, eqb-true, ltb-true, refl}
use Rattle.std.proofs.Common.{sym, ap, eqb, eq-eqb}
use Rattle.std.specs.List.{list_all}
use Rattle.std.proofs.lemmas.{Bool.and_from, Bool.and_parts, Bool.Decides.nat_tests}
use Rattle.cs_base.specs.declared.resource.Rate.{Rate}
use Rattle.cs_ir.specs.{Flat.is_small, Machine.same_reg, Validity.has_register, declared.register.Counts.Counts}
use Rattle.cs_ir.specs.{declared.register.Kind.Kind, declared.register.Reg.Reg}
use Rattle.cs_ir.specs.Registers.{at_kind, kind_number, local, rate_of, same_kind}
use Rattle.cs_base.specs.declared.resource.Rate.TheVariants as rate
use Rattle.cs_ir.specs.declared.register.Kind.TheVariants as kind

kind_at : ℕ → Kind
kind_at zero = kind.LocalInit
kind_at (suc zero) = kind.LocalControl
kind_at (suc (suc zero)) = kind.Kept
kind_at (suc (suc (suc zero))) = kind.TemporaryInit
kind_at (suc (suc (suc (suc zero)))) = kind.TemporaryControl
kind_at (suc (suc (suc (suc (suc zero))))) = kind.LocalAudio
kind_at (suc (suc (suc (suc (suc (suc n)))))) = kind.TemporaryAudio

number_back : (k : Kind) → kind_at (kind_number k) ≡ k
unfolding kind_at
number_back kind.LocalInit = refl
number_back a = refl

pub kind_is : (j k : Kind) → same_kind j k ≡ true → j ≡ k
kind_is j k h =
    sym (number_back j) ∙ ap kind_at (eqb-true (kind_number j) (kind_number k) h) ∙ number_back k

pub kind_same : (k : Kind) → same_kind k k ≡ true
kind_same k = eq-eqb (kind_number k) (kind_number k) refl

-- a register is determined by its kind and its number
pub same_reg_is : (p q : Reg) → same_reg p q ≡ true → p ≡ q
same_reg_is p q h =
    let both = and_parts (same_kind p.kind q.kind) (eqb p.offset q.offset) h in
    let k = kind_is p.kind q.kind both.0 in
    let n = eqb-true p.offset q.offset both.1 in
    λ i. record { kind = k i; offset = n i }

pub same_reg_here : (q : Reg) → same_reg q q ≡ true
same_reg_here q = rw (kind_same q.kind, eq-eqb q.offset q.offset refl) refl

-- the rate of a local variable's register
pub local_rate : (r : Rate) → rate_of (local r) ≡ r
local_rate rate.Init = refl
local_rate a = refl

-- existing registers have 32-bit numbers
pub there_small : (c : Counts) (q : Reg) → has_register c q ≡ true → is_small q ≡ true
there_small c q there =
    let low : q.offset < at_kind c.registers q.kind = ltb-true _ _ there in
    let small : q.offset < 2 ^ 32 = omega (arith, low) in grind (arith, nat_tests)

pub all_small : (c : Counts) (qs : List Reg) → list_all (has_register c) qs ≡ true → list_all is_small qs ≡ true
all_small c [] h = refl
all_small c (q ∷ qs) h =
    let parts = and_parts (has_register c q) (list_all (has_register c) qs) h in
    and_from _ _ (there_small c q parts.0) (all_small c qs parts.1)
