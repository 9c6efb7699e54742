-- The definitions of tables, one more at a time.
use Rattle.std.proofs.Common.{◌≡◌, ℕ, zero, suc, ◌+◌, ◌==◌, ◌<◌, ◌⊎◌, inl, inr, ⊎_elim, Bool, true, false, not, List}
use Rattle.std.proofs.Common.{[], ◌∷◌, ◌++◌, length, get_or, slice_set, map, cond, refl, sym, ◌∙◌, ap, subst, arith}
use Rattle.std.specs.List.{filter}
use Rattle.std.proofs.lemmas.Bool.{eq-eqb, eqb-false, eqb-true, ne_eqb, cases_eq}
use Rattle.std.proofs.lemmas.List.{append-nil, get_or-set_same, get_or-set_other, map-append}
use Rattle.std.proofs.lemmas.{List.Sums.sum_by-append, List.Elements.filter-append}
use Rattle.cs_base.proofs.Tests.{by_test}
use Rattle.cs_piece.specs.Tables.{Given, firsts, times_given}
use Rattle.cs_piece.specs.{declared.tables.GivenTable.GivenTable, declared.tables.Firsts.Firsts}
use Rattle.cs_piece.specs.declared.tables.Times.{Times}
use Rattle.cs_piece.specs.inner.Marked.{StandFor, as_times, given_of, numbers_end, times_at}
use Rattle.cs_piece.specs.declared.tables.Times.TheVariants as times

-- a test whose result is known
cond_yes : {A : Type 0} (b : Bool) (x y : A) → b ≡ true → cond b x y ≡ x
cond_yes true x y e = refl
cond_yes false x y e = absurd cc

cond_no : {A : Type 0} (b : Bool) (x y : A) → b ≡ false → cond b x y ≡ y
cond_no true x y e = absurd cc
cond_no false x y e = refl

-- how often a number is defined, with one more definition at the end
plus_one : (n : ℕ) → n + (0 + 1) ≡ suc n
plus_one n = omega arith

plus_none : (n : ℕ) → n + (0 + 0) ≡ n
plus_none n = omega arith

pub given_here : (gs : List Given) (g : Given) → times_given g.number (gs ++ g ∷ []) ≡ suc (times_given g.number gs)
given_here gs g =
    sum_by-append (λ (h : Given). cond (h.number == g.number) 1 0) gs (g ∷ [])
    ∙ ap (λ m. times_given g.number gs + (0 + m)) (cond_yes (g.number == g.number) 1 0 (eq-eqb g.number g.number refl))
    ∙ plus_one (times_given g.number gs)

pub given_else : (n : ℕ) (gs : List Given) (g : Given) → (g.number ≡ n → ⊥)
    → times_given n (gs ++ g ∷ []) ≡ times_given n gs
given_else n gs g other =
    sum_by-append (λ (h : Given). cond (h.number == n) 1 0) gs (g ∷ [])
    ∙ ap (λ m. times_given n gs + (0 + m)) (cond_no (g.number == n) 1 0 (ne_eqb g.number n other))
    ∙ plus_none (times_given n gs)

-- how often a number is defined, with one more definition at the start
before : (n : ℕ) (x : Given) (gs : List Given)
    → times_given n (x ∷ gs) ≡ (0 + cond (x.number == n) 1 0) + times_given n gs
before n x gs = sum_by-append (λ (h : Given). cond (h.number == n) 1 0) (x ∷ []) gs

-- a number that wasn't defined before goes last
turned : (m n : ℕ) → (m == n) ≡ false → (n == m) ≡ false
turned m n e = ne_eqb n m (λ f. eqb-false m n e (sym f))

kept_last : (x g : Given) → (x.number == g.number) ≡ false → filter (λ h. not (h.number == x.number)) (g ∷ []) ≡ g ∷ []
kept_last x g e = cond_yes (not (g.number == x.number)) (g ∷ []) [] (ap not (turned x.number g.number e))

left_out : (x g : Given) → (x.number == g.number) ≡ true → filter (λ h. not (h.number == x.number)) (g ∷ []) ≡ []
left_out x g e = cond_no (not (g.number == x.number)) (g ∷ []) []
    (ap not (eq-eqb g.number x.number (sym (eqb-true x.number g.number e))))

none_before : (b : Bool) (n : ℕ) → (0 + cond b 1 0) + n ≡ 0 → (b ≡ false) × (n ≡ 0)
none_before true n e = absurd (omega (arith, e))
none_before false n e = (refl, omega (arith, e))

some_later : (b : Bool) (n : ℕ) → b ≡ false → 0 < (0 + cond b 1 0) + n → 0 < n
some_later true n e l = absurd cc
some_later false n e l = omega (arith, l)

pub first_now : (gs : List Given) (g : Given) → times_given g.number gs ≡ 0
    → firsts (gs ++ g ∷ []) ≡ firsts gs ++ g ∷ []
first_now [] g e = refl
first_now (x ∷ gs) g e =
    let none = none_before (x.number == g.number) (times_given g.number gs) (sym (before g.number x gs) ∙ e) in
    ap (λ l. x ∷ filter (λ (h : Given). not (h.number == x.number)) l) (first_now gs g none.1)
    ∙ ap (λ l. x ∷ l) (filter-append (λ (h : Given). not (h.number == x.number)) (firsts gs) (g ∷ []))
    ∙ ap (λ l. x ∷ (filter (λ (h : Given). not (h.number == x.number)) (firsts gs) ++ l)) (kept_last x g none.0)

-- a number that was defined before stays at its index
more_or_none : (n : ℕ) → (n ≡ 0) ⊎ (0 < n)
more_or_none zero = inl refl
more_or_none (suc n) = inr (omega arith)

pub not_first : (gs : List Given) (g : Given) → 0 < times_given g.number gs → firsts (gs ++ g ∷ []) ≡ firsts gs
not_first [] g l = absurd (omega (arith, l))
not_first (x ∷ gs) g l = by_test (x.number == g.number)
    (λ e. ⊎_elim
    (λ none. ap (λ s. x ∷ filter (λ (h : Given). not (h.number == x.number)) s) (first_now gs g none)
    ∙ ap (λ s. x ∷ s) (filter-append (λ (h : Given). not (h.number == x.number)) (firsts gs) (g ∷ []))
    ∙ ap (λ s. x ∷ (filter (λ (h : Given). not (h.number == x.number)) (firsts gs) ++ s)) (left_out x g e)
    ∙ ap (λ s. x ∷ s) (append-nil (filter (λ (h : Given). not (h.number == x.number)) (firsts gs))))
    (λ some. ap (λ s. x ∷ filter (λ (h : Given). not (h.number == x.number)) s) (not_first gs g some))
    (more_or_none (times_given g.number gs)))
    (λ e. ap (λ s. x ∷ filter (λ (h : Given). not (h.number == x.number)) s)
    (not_first gs g (some_later (x.number == g.number) (times_given g.number gs) e
    (subst (λ m. 0 < m) (before g.number x gs) l))))

-- how often a number is defined, from what the code stores
never_is : (m : ℕ) → as_times m ≡ times.Never → m ≡ 0
never_is zero e = refl
never_is (suc zero) e = absurd cc
never_is (suc (suc m)) e = absurd cc

given_is : (m : ℕ) → (as_times m ≡ times.Never → ⊥) → 0 < m
given_is zero e = absurd (e refl)
given_is (suc m) e = omega arith

again_is : (m : ℕ) → 0 < m → times.Again ≡ as_times (suc m)
again_is zero l = absurd (omega (arith, l))
again_is (suc m) l = refl

-- what represents the definitions, with one more of them
module _ (old new : Firsts) (x : GivenTable) (gs : List Given) (t u : Times) (stand : StandFor gs old)
    (long : length old.times.items ≡ numbers_end) (low : x.number < numbers_end)
    (is : t ≡ times_at old.times.items x.number)
    (times_new : new.times.items ≡ slice_set old.times.items x.number u) where
  told : t ≡ as_times (times_given x.number gs)
  told = is ∙ stand.times_are x.number low

  times_more : u ≡ as_times (suc (times_given x.number gs)) → (n : ℕ) → n < numbers_end
      → times_at (slice_set old.times.items x.number u) n ≡ as_times (times_given n (gs ++ given_of x ∷ []))
  times_more next n l = ⊎_elim
      (λ (e : n ≡ x.number). subst (λ m. times_at (slice_set old.times.items x.number u) m
      ≡ as_times (times_given m (gs ++ given_of x ∷ []))) (sym e)
      (get_or-set_same old.times.items x.number u times.Never (omega (arith, long, low)) ∙ next
      ∙ ap as_times (sym (given_here gs (given_of x)))))
      (λ (e : n ≡ x.number → ⊥). get_or-set_other old.times.items x.number n u times.Never e ∙ stand.times_are n l
      ∙ ap as_times (sym (given_else n gs (given_of x) (λ f. e (sym f))))) (cases_eq n x.number)

  pub stand_new : new.items.items ≡ old.items.items ++ x ∷ [] → t ≡ times.Never → u ≡ times.Once
      → StandFor (gs ++ given_of x ∷ []) new
  stand_new more never once =
      let none : times_given x.number gs ≡ 0 = never_is (times_given x.number gs) (sym told ∙ never) in
      record {
        firsts_are = ap (map given_of) more ∙ map-append given_of old.items.items (x ∷ [])
            ∙ ap (λ l. l ++ given_of x ∷ []) stand.firsts_are ∙ sym (first_now gs (given_of x) none);
        times_are = λ n l. ap (λ ts. times_at ts n) times_new
            ∙ times_more (once ∙ ap (λ m. as_times (suc m)) (sym none)) n l;
      }

  pub stand_same : new.items.items ≡ old.items.items → (t ≡ times.Never → ⊥) → u ≡ times.Again
      → StandFor (gs ++ given_of x ∷ []) new
  stand_same same given again =
      let some : 0 < times_given x.number gs = given_is (times_given x.number gs) (λ e. given (told ∙ e)) in
      record {
        firsts_are = ap (map given_of) same ∙ stand.firsts_are ∙ sym (not_first gs (given_of x) some);
        times_are = λ n l. ap (λ ts. times_at ts n) times_new
            ∙ times_more (again ∙ again_is (times_given x.number gs) some) n l;
      }

-- an element within the list doesn't depend on the default
pub any_default : {X : Type 0} (xs : List X) (i : ℕ) (d e : X) → i < length xs → get_or xs i d ≡ get_or xs i e
any_default [] i d e l = absurd (omega (arith, l))
any_default (x ∷ xs) zero d e l = refl
any_default (x ∷ xs) (suc i) d e l = any_default xs i d e (omega (arith, l))
