-- A name among definitions: the definition that is found where the name is called.
use Rattle.std.proofs.lemmas.{Grind.common_steps, Option.none-some, Option.same_Some}
use Rattle.std.proofs.Common.{◌≡◌, ◌∙◌, ℕ, zero, suc, ◌+◌, ◌<◌, ◌≤◌, min, Bool, cond, true, false, not, if◌then◌else◌}
use Rattle.std.proofs.Common.{List, [], ◌∷◌, length, take, slice_get, Some, None, arith, refl, ap}
use Rattle.std.specs.{Option.option_or, Str.bytes_eq}
use Rattle.cs_grammar.specs.Tree.{Definition}
use Rattle.cs_udo.specs.{Library.place_among, ByName.ByName, ByName.with_item, ByName.with_items}

module _ {A : Type 0} (item : ByName A → Definition → A) where
  kept : (env : ByName A) (ds : List Definition) (x : List ℕ) (r : A) → env x ≡ Some r
      → with_items item env ds x ≡ Some r
  kept env [] x r e = e
  kept env (d ∷ ds) x r e =
      kept (with_item item env d) ds x r
      (ap (λ o. option_or o (if bytes_eq x d.name then Some (item env d) else None)) e)

  here : (env : ByName A) (d : Definition) (x : List ℕ) → env x ≡ None → bytes_eq x d.name ≡ true
      → with_item item env d x ≡ Some (item env d)
  here env d x none same = grind (arith, common_steps)

  elsewhere : (env : ByName A) (d : Definition) (x : List ℕ) → env x ≡ None → bytes_eq x d.name ≡ false
      → with_item item env d x ≡ None
  elsewhere env d x none other = grind (arith, common_steps)

  -- a name that none of the first definitions has
  pub unfound : (env : ByName A) (ds : List Definition) (n : ℕ) (x : List ℕ) → env x ≡ None
      → min n (length ds) ≤ place_among ds x → with_items item env (take n ds) x ≡ None
  unfound env (d ∷ ds) (suc n) x none h =
      grind (arith, common_steps, elsewhere, min, not, unfound (with_item item env d) ds n x)
  unfound env ds zero x none h = none
  unfound env [] (suc n) x none h = none

  -- a name that one of the first definitions has
  found_next : (env : ByName A) (c : Definition) (ds : List Definition) (n k : ℕ) (x : List ℕ) (d : Definition)
      → env x ≡ None → (b : Bool) → bytes_eq x c.name ≡ b → k ≡ cond (not b) (1 + place_among ds x) 0 → k < suc n
      → slice_get (c ∷ ds) k ≡ Some d
      → ((j : ℕ) → with_item item env c x ≡ None → j ≡ place_among ds x → j < n → slice_get ds j ≡ Some d
      → with_items item (with_item item env c) (take n ds) x
      ≡ Some (item (with_items item (with_item item env c) (take j ds)) d))
      → with_items item (with_item item env c) (take n ds) x ≡ Some (item (with_items item env (take k (c ∷ ds))) d)
  found_next env c ds n zero x d none true e p lt g rest =
      kept (with_item item env c) (take n ds) x (item env d)
      (here env c x none e ∙ ap (λ y. Some (item env y)) (same_Some c d g))
  found_next env c ds n (suc k) x d none false e p lt g rest =
      rest k (elsewhere env c x none e) (omega (arith, p)) (omega (arith, lt)) g
  found_next env c ds n _ x d none _ e p lt g rest = absurd (omega (arith, p))

  pub found : (env : ByName A) (ds : List Definition) (n k : ℕ) (x : List ℕ) (d : Definition) → env x ≡ None
      → k ≡ place_among ds x → k < n → slice_get ds k ≡ Some d
      → with_items item env (take n ds) x ≡ Some (item (with_items item env (take k ds)) d)
  found env [] n k x d none p lt g = absurd (none-some d g)
  found env (c ∷ ds) zero k x d none p lt g = absurd (omega (arith, lt))
  found env (c ∷ ds) (suc n) k x d none p lt g =
      found_next env c ds n k x d none (bytes_eq x c.name) refl p lt g (λ j. found (with_item item env c) ds n j x d)
