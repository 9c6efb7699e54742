-- Names of frames' variables, including the instrument's own: different variables have different names.
use Rattle.std.proofs.Common.{◌≡◌, ◌∙◌, ℕ, zero, suc, true, false, List, refl, sym}
use Rattle.cs_words.specs.Names.{name_rate, is_global}
use Rattle.cs_udo.proofs.Fresh.{fresh_apart, stopped, framed_shared, framed_fresh, framed_rate, framed_global}
use Rattle.cs_udo_meaning.specs.Stands.{own_name, Fits}

pub own_shared : (f : ℕ) (x : List ℕ) → is_global x ≡ true → own_name f x ≡ x
own_shared zero x e = refl
own_shared (suc f) x e = framed_shared (suc f) x e

pub own_rate : (f : ℕ) (x : List ℕ) → name_rate (own_name f x) ≡ name_rate x
own_rate zero x = refl
own_rate (suc f) x = framed_rate (suc f) x

pub own_local : (f : ℕ) (x : List ℕ) → is_global (own_name f x) ≡ is_global x
own_local zero x = refl
own_local (suc f) x = framed_global (suc f) x

pub own_apart : (f g : ℕ) (x y : List ℕ) → is_global x ≡ false → is_global y ≡ false → Fits f x → Fits g y
    → own_name f x ≡ own_name g y → (f ≡ g) × (x ≡ y)
own_apart zero zero x y a b p q e = (refl, e)
own_apart zero (suc g) x y a b p q e = stopped (suc g) x y (p refl) (e ∙ framed_fresh (suc g) y b)
own_apart (suc f) zero x y a b p q e = stopped (suc f) y x (q refl) (sym e ∙ framed_fresh (suc f) x a)
own_apart (suc f) (suc g) x y a b p q e =
    fresh_apart (suc f) (suc g) x y (sym (framed_fresh (suc f) x a) ∙ e ∙ framed_fresh (suc g) y b)
