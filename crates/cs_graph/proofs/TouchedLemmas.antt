use Rattle.std.proofs.Common.{◌≡◌, ◌==◌, ◌≢◌, ◌||◌, ◌&&◌, ◌↔◌, ℕ, ◌+◌, ◌<◌, Bool, true, false, cond, List, length}
use Rattle.std.proofs.Common.{get_or, take, nat_lt, refl, sym, ap, ◌∙◌, subst, inl, inr, ⊎_elim, arith}
use Rattle.std.proofs.lemmas.Bool.{Decides.nat_tests, cases_eq, or_cases, or_left, or_right, eqb-true}
use Rattle.std.proofs.lemmas.List.Folds.{Any-from_list_any, list_any-from_Any, list_any_more}
use Rattle.std.specs.List.{list_any, Contains}
use Rattle.cs_cells.specs.declared.footprint.Footprint.{Footprint}
use Rattle.cs_graph.specs.{Conflict.UsesResource, Conflict.Clash, inner.Touched.lists}

pub Contains-from_test : (xs : List ℕ) (r : ℕ) → lists xs r ≡ true → Contains xs r
Contains-from_test xs r h = let a = Any-from_list_any (λ y. r == y) xs h in
    let same : r ≡ a.1 = eqb-true r a.1 a.4 in subst (Contains xs) (sym same) (a.0, a.2, a.3)

pub test-from_Contains : (xs : List ℕ) (r : ℕ) → Contains xs r → lists xs r ≡ true
test-from_Contains xs r h = list_any-from_Any (λ y. r == y) xs (h.0, r, h.1, h.2, grind (arith, nat_tests))

any-found : (f : ℕ → Bool) (xs : List ℕ) (r : ℕ) → Contains xs r → f r ≡ true → list_any f xs ≡ true
any-found f xs r h k = list_any-from_Any f xs (h.0, r, h.1, h.2, k)

module _ (F G : Footprint) (w u : ℕ → Bool) (writes : (y : ℕ) → w y ≡ lists F.writes y)
    (uses : (y : ℕ) → u y ≡ (lists F.uses y || lists F.writes y)) where
  used : (y : ℕ) → u y ≡ true → UsesResource F y
  used y h = ⊎_elim (λ k. inl (Contains-from_test F.uses y k)) (λ k. inr (Contains-from_test F.writes y k))
      (or_cases _ _ (sym (uses y) ∙ h))

  used' : (y : ℕ) → UsesResource F y → u y ≡ true
  used' y h = uses y ∙ ⊎_elim (λ k. or_left _ _ (test-from_Contains F.uses y k))
      (λ k. or_right _ _ (test-from_Contains F.writes y k)) h

  clash-tested : (list_any w G.uses || list_any u G.writes) ≡ true ↔ Clash F G
  clash-tested = (
    λ h. ⊎_elim
        (λ k. let a = Any-from_list_any w G.uses k in
        (a.1, inl (Contains-from_test F.writes a.1 (sym (writes a.1) ∙ a.4), inl (a.0, a.2, a.3))))
        (λ k. let a = Any-from_list_any u G.writes k in (a.1, inr (used a.1 a.4, (a.0, a.2, a.3))))
        (or_cases _ _ h),
    λ h. ⊎_elim
        (λ k. ⊎_elim
        (λ g. or_left _ _ (any-found w G.uses h.0 g (writes h.0 ∙ test-from_Contains F.writes h.0 k.0)))
        (λ g. or_right _ _ (any-found u G.writes h.0 g (used' h.0 (inr k.0))))
        k.1)
        (λ k. or_right _ _ (any-found u G.writes h.0 k.1 (used' h.0 k.0)))
        h.1,
  )

  pub clash-met : (b : Bool) (us ws : List ℕ) → us ≡ G.uses → ws ≡ G.writes → b ≡ (list_any w us || list_any u ws)
      → (b ≡ true) ↔ Clash F G
  clash-met b us ws a a' e = let k : b ≡ (list_any w G.uses || list_any u G.writes) = rw (← a, ← a') e in
      (λ h. clash-tested.0 (sym k ∙ h), λ h. k ∙ clash-tested.1 h)

pub or_with : (a b c : Bool) → a ≡ b → (a || c) ≡ (b || c)
or_with a b c e = ap (λ x. x || c) e

-- a property of the notes before t holds for an earlier note
pub of_earlier : (b x : Bool) (p t : ℕ) → p < t → b ≡ (nat_lt p t && x) → b ≡ x
of_earlier b x p t earlier e = grind (arith, nat_tests)

or_assoc : (a b c : Bool) → ((a || b) || c) ≡ (a || (b || c))
or_assoc true b c = refl
or_assoc false b c = refl

-- adding a note changes nothing for the earlier notes
pub others_same : (a b t : Bool) (p note : ℕ) → p ≢ note → t ≡ (a || (b && p == note)) → t ≡ a
others_same a b t p note apart e = grind (arith, nat_tests)

-- one more place is checked for conflicts
pub met_more : (f : ℕ → Bool) (xs : List ℕ) (i : ℕ) (m0 m m' u : Bool) → i < length xs → m' ≡ (m || u)
    → u ≡ f (get_or xs i 0)
    → m ≡ (m0 || list_any f (take i xs)) → m' ≡ (m0 || list_any f (take (i + 1) xs))
met_more f xs i m0 m m' u within e k before =
    rw (e, k, before, list_any_more f xs i 0 within) (or_assoc m0 (list_any f (take i xs)) (f (get_or xs i 0)))

-- a property of the first t notes, and of note t if it touches the place, is one of the first t + 1 notes
more : (p t : ℕ) (old new x y : Bool) → old ≡ (nat_lt p t && x) → (p ≡ t → y ≡ x) → new ≡ (old || (y && p == t))
    → new ≡ (nat_lt p (t + 1) && x)
more p t old new x y is same grown = ⊎_elim
    (λ (here : p ≡ t). let k = same here in grind (arith, nat_tests))
    (λ apart. grind (arith, nat_tests))
    (cases_eq p t)

or_parts : (a b c e : Bool) → ((a || (b && e)) || (c && e)) ≡ (a || ((b || c) && e))
or_parts true b c e = refl
or_parts false true true true = refl
or_parts false true true false = refl
or_parts false true false true = refl
or_parts false true false false = refl
or_parts false false c e = refl

or_none : (a b : Bool) → ((a || false) || b) ≡ (a || b)
or_none true b = refl
or_none false b = refl

module _ (p t : ℕ) (u w u' w' old mid new : Bool) (writes : p ≡ t → w' ≡ w) where
  pub users_more : (p ≡ t → u' ≡ u) → old ≡ (nat_lt p t && (u || w)) → mid ≡ (old || (u' && p == t))
      → new ≡ (mid || (w' && p == t)) → new ≡ (nat_lt p (t + 1) && (u || w))
  users_more uses before met now = more p t old new (u || w) (u' || w') before
      (λ here. rw (uses here, writes here) refl)
      (now ∙ ap (λ z. z || (w' && p == t)) met ∙ or_parts old u' w' (p == t))

  pub writers_more : old ≡ (nat_lt p t && w) → mid ≡ (old || false) → new ≡ (mid || (w' && p == t))
      → new ≡ (nat_lt p (t + 1) && w)
  writers_more before met now = more p t old new w w' before writes
      (now ∙ ap (λ z. z || (w' && p == t)) met ∙ or_none old (w' && p == t))

pub others_same_where : (a w b t : Bool) (p note : ℕ) → p ≢ note → t ≡ (a || (w && (b && p == note))) → t ≡ a
others_same_where a true b t p note apart e = others_same a b t p note apart e
others_same_where true false b t p note apart e = e
others_same_where false false b t p note apart e = e

pub meets_same : (w a b a' b' : Bool) → a ≡ a' → b ≡ b' → cond w a b ≡ cond w a' b'
meets_same true a b a' b' same same' = same
meets_same false a b a' b' same same' = same'
