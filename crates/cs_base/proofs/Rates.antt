-- The order of rates, and equality of rates and resources.
use Rattle.std.proofs.Common.{◌≡◌, ℕ, zero, suc, ◌≤◌, max, ◌⊎◌, inl, inr, Bool, true, false, ◌==◌, if◌then◌else◌, arith}
use Rattle.std.proofs.Common.{ap, sym, ◌∙◌, refl}
use Rattle.std.proofs.lemmas.{Bool.and_parts, Bool.Decides.nat_tests}
use Rattle.cs_base.specs.{declared.resource.Rate.Rate, declared.resource.Res.Res}
use Rattle.cs_base.specs.Rates.{how_often, same_rate, within, faster, res_kind, res_number, same_res}
use Rattle.cs_base.specs.declared.resource.Rate.TheVariants as rate
use Rattle.cs_base.specs.declared.resource.Res.TheVariants as res

equal : (m n : ℕ) → (m == n) ≡ true → m ≡ n
equal m n h = grind (arith, nat_tests)

rate_at : ℕ → Rate
rate_at zero = rate.Init
rate_at (suc zero) = rate.Control
rate_at (suc (suc n)) = rate.Audio

rate_at-how_often : (r : Rate) → rate_at (how_often r) ≡ r
unfolding rate_at
rate_at-how_often rate.Init = refl
rate_at-how_often rate.Control = refl
rate_at-how_often rate.Audio = refl

-- rates that change equally often are the same
pub as_often : (r s : Rate) → how_often r ≡ how_often s → r ≡ s
as_often r s e = sym (rate_at-how_often r) ∙ ap rate_at e ∙ rate_at-how_often s

pub same_rate_is : (r s : Rate) → same_rate r s ≡ true → r ≡ s
same_rate_is r s h = as_often r s (equal (how_often r) (how_often s) h)

pub same_rate_here : (r : Rate) → same_rate r r ≡ true
same_rate_here rate.Init = refl
same_rate_here rate.Control = refl
same_rate_here rate.Audio = refl

res_at : ℕ → ℕ → Res
res_at zero n = res.Gi n
res_at (suc zero) n = res.Gk n
res_at (suc (suc zero)) n = res.Ga n
res_at (suc (suc (suc zero))) n = res.ZakK n
res_at (suc (suc (suc (suc zero)))) n = res.ZakA n
res_at (suc (suc (suc (suc (suc zero))))) n = res.Control n
res_at (suc (suc (suc (suc (suc (suc zero)))))) n = res.Sound n
res_at (suc (suc (suc (suc (suc (suc (suc k))))))) n = res.Table n

res_at-of : (r : Res) → res_at (res_kind r) (res_number r) ≡ r
unfolding res_at
res_at-of (res.Gi n) = refl
res_at-of (res.Gk n) = refl
res_at-of (res.Ga n) = refl
res_at-of (res.ZakK n) = refl
res_at-of (res.ZakA n) = refl
res_at-of (res.Control n) = refl
res_at-of (res.Sound n) = refl
res_at-of (res.Table n) = refl

-- resources with the same kind and number are the same
pub kind_and_number : (r s : Res) → res_kind r ≡ res_kind s → res_number r ≡ res_number s → r ≡ s
kind_and_number r s k n =
    sym (res_at-of r) ∙ ap (λ x. res_at x (res_number r)) k ∙ ap (res_at (res_kind s)) n ∙ res_at-of s

pub same_res_is : (r s : Res) → same_res r s ≡ true → r ≡ s
same_res_is r s h =
    let both = and_parts (res_kind r == res_kind s) (res_number r == res_number s) h in
    kind_and_number r s (equal (res_kind r) (res_kind s) both.0) (equal (res_number r) (res_number s) both.1)

equal_self : (n : ℕ) → (n == n) ≡ true
equal_self n = grind (arith, nat_tests)

pub same_res_here : (r : Res) → same_res r r ≡ true
same_res_here (res.Gi n) = equal_self n
same_res_here (res.Gk n) = equal_self n
same_res_here (res.Ga n) = equal_self n
same_res_here (res.ZakK n) = equal_self n
same_res_here (res.ZakA n) = equal_self n
same_res_here (res.Control n) = equal_self n
same_res_here (res.Sound n) = equal_self n
same_res_here (res.Table n) = equal_self n

-- ---- the order

pub within_is : (r s : Rate) → within r s ≡ true → how_often r ≤ how_often s
within_is r s h = grind (arith, nat_tests)

pub is_within : (r s : Rate) → how_often r ≤ how_often s → within r s ≡ true
is_within r s h = grind (arith, nat_tests)

pub faster_as_often : (r s : Rate) → how_often (faster r s) ≡ max (how_often r) (how_often s)
faster_as_often rate.Init rate.Init = refl
faster_as_often rate.Init rate.Control = refl
faster_as_often rate.Init rate.Audio = refl
faster_as_often rate.Control rate.Init = refl
faster_as_often rate.Control rate.Control = refl
faster_as_often rate.Control rate.Audio = refl
faster_as_often rate.Audio rate.Init = refl
faster_as_often rate.Audio rate.Control = refl
faster_as_often rate.Audio rate.Audio = refl

pub within_once : (r s : Rate) → within r s ≡ true → within s r ≡ true → r ≡ s
within_once r s h k = as_often r s (omega (arith, within_is r s h, within_is s r k))

pub within_chain : (r s t : Rate) → within r s ≡ true → within s t ≡ true → within r t ≡ true
within_chain r s t h k = is_within r t (omega (arith, within_is r s h, within_is s t k))

pub within_either : (r s : Rate) → (within r s ≡ true) ⊎ (within s r ≡ true)
within_either rate.Init rate.Init = inl refl
within_either rate.Init rate.Control = inl refl
within_either rate.Init rate.Audio = inl refl
within_either rate.Control rate.Init = inr refl
within_either rate.Control rate.Control = inl refl
within_either rate.Control rate.Audio = inl refl
within_either rate.Audio rate.Init = inr refl
within_either rate.Audio rate.Control = inr refl
within_either rate.Audio rate.Audio = inl refl

pub within_faster : (r s : Rate) → (within r (faster r s) ≡ true) × (within s (faster r s) ≡ true)
within_faster r s =
    let often = faster_as_often r s in
    (is_within r (faster r s) (omega (arith, often)), is_within s (faster r s) (omega (arith, often)))

pub faster_is_one : (r s : Rate) → (faster r s ≡ r) ⊎ (faster r s ≡ s)
faster_is_one r s = one (within r s)
  where
    one : (b : Bool) → ((if b then s else r) ≡ r) ⊎ ((if b then s else r) ≡ s)
    one true = inr refl
    one false = inl refl
