-- No two of the first definitions of tables in a plot have the same number.
use Rattle.std.proofs.Common.{◌≡◌, ℕ, zero, suc, ◌==◌, Bool, true, false, not, List, [], ◌∷◌, map, slice_get, Some}
use Rattle.std.proofs.Common.{cond, refl, sym, ◌∙◌, ap, subst}
use Rattle.std.specs.{List.filter, Option.is_some}
use Rattle.std.proofs.lemmas.Bool.{eq-eqb}
use Rattle.cs_base.proofs.Tests.{by_test, some_is}
use Rattle.cs_layout.specs.{Layouts.AreApart, declared.areas.LiveTable.LiveTable}
use Rattle.cs_meaning.specs.Plain.{Table}
use Rattle.cs_piece.specs.{Compositions.live_in, Tables.Given, Tables.firsts, inner.Marked.Differ, inner.Marked.NoneHas}

module _ {X : Type 0} (f : X → ℕ) where
  none_filter : (p : X → Bool) (n : ℕ) (xs : List X) → NoneHas f n xs → NoneHas f n (filter p xs)
  none_filter p n [] h = tt
  none_filter p n (x ∷ xs) h = by (p x) (none_filter p n xs h.1)
    where
      by : (b : Bool) → NoneHas f n (filter p xs) → NoneHas f n (cond b (x ∷ filter p xs) (filter p xs))
      by true later = (h.0, later)
      by false later = later

  pub differ_filter : (p : X → Bool) (xs : List X) → Differ f xs → Differ f (filter p xs)
  differ_filter p [] h = tt
  differ_filter p (x ∷ xs) h = by (p x) (differ_filter p xs h.1)
    where
      by : (b : Bool) → Differ f (filter p xs) → Differ f (cond b (x ∷ filter p xs) (filter p xs))
      by true later = (none_filter p (f x) xs h.0, later)
      by false later = later

  none_at : (n : ℕ) (xs : List X) (k : ℕ) (x : X) → NoneHas f n xs → slice_get xs k ≡ Some x → f x ≡ n → ⊥
  none_at n [] k x h e = absurd cc
  none_at n (y ∷ xs) zero x h e = λ same. h.0 (ap f (some_is y x e) ∙ same)
  none_at n (y ∷ xs) (suc k) x h e = none_at n xs k x h.1 e

  pub differ_at : (xs : List X) (p q : ℕ) (x y : X) → Differ f xs → slice_get xs p ≡ Some x → slice_get xs q ≡ Some y
      → f x ≡ f y → p ≡ q
  differ_at [] p q x y h e g same = absurd cc
  differ_at (z ∷ xs) zero zero x y h e g same = refl
  differ_at (z ∷ xs) zero (suc q) x y h e g same =
      absurd (none_at (f z) xs q y h.0 g (sym same ∙ ap f (sym (some_is z x e))))
  differ_at (z ∷ xs) (suc p) zero x y h e g same =
      absurd (none_at (f z) xs p x h.0 e (same ∙ ap f (sym (some_is z y g))))
  differ_at (z ∷ xs) (suc p) (suc q) x y h e g same = ap suc (differ_at xs p q x y h.1 e g same)

module _ {X Y : Type 0} (m : X → Y) (f : Y → ℕ) (g : X → ℕ) (same : (x : X) → f (m x) ≡ g x) where
  none_map : (n : ℕ) (xs : List X) → NoneHas g n xs → NoneHas f n (map m xs)
  none_map n [] h = tt
  none_map n (x ∷ xs) h = (λ e. h.0 (sym (same x) ∙ e), none_map n xs h.1)

  pub differ_map : (xs : List X) → Differ g xs → Differ f (map m xs)
  differ_map [] h = tt
  differ_map (x ∷ xs) h = (
    subst (λ n. NoneHas f n (map m xs)) (sym (same x)) (none_map (g x) xs h.0),
    differ_map xs h.1,
  )

-- the first definitions have different numbers
others_left : (x : Given) (gs : List Given)
    → NoneHas (λ (g : Given). g.number) x.number (filter (λ (h : Given). not (h.number == x.number)) gs)
others_left x [] = tt
others_left x (g ∷ gs) = by_test (g.number == x.number)
    (λ e. subst (λ b. NoneHas (λ (h : Given). h.number) x.number (cond (not b) (g ∷ rest) rest)) (sym e)
    (others_left x gs))
    (λ e. subst (λ b. NoneHas (λ (h : Given). h.number) x.number (cond (not b) (g ∷ rest) rest)) (sym e)
    (λ same. clash (g.number == x.number) e (eq-eqb g.number x.number same), others_left x gs))
  where
    rest : List Given
    rest = filter (λ (h : Given). not (h.number == x.number)) gs

    clash : (b : Bool) → b ≡ false → b ≡ true → ⊥
    clash b fails holds = absurd cc

pub firsts_differ : (gs : List Given) → Differ (λ (g : Given). g.number) (firsts gs)
firsts_differ [] = tt
firsts_differ (x ∷ gs) = (
  others_left x (firsts gs),
  differ_filter (λ (g : Given). g.number) (λ (h : Given). not (h.number == x.number)) (firsts gs) (firsts_differ gs),
)

pub live_apart : (tables : List Table) → Differ (λ (t : Table). t.number) tables → AreApart (live_in tables)
live_apart tables h p q t u e g same =
    differ_at (λ (l : LiveTable). l.number) (live_in tables) p q t u
    (differ_map (λ (x : Table). record { number = x.number; size = x.size }) (λ (l : LiveTable). l.number)
    (λ (x : Table). x.number) (λ x. refl) (filter (λ (x : Table). not (is_some x.frozen)) tables)
    (differ_filter (λ (x : Table). x.number) (λ (x : Table). not (is_some x.frozen)) tables h)) e g same
