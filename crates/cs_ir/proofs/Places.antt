-- The places of the ops of steps.
use Rattle.std.proofs.Common.{◌≡◌, ◌∙◌, ◌+◌, ◌≤◌, ◌++◌, ℕ, zero, suc, true, List, [], ◌∷◌, length, Some, slice_get}
use Rattle.std.proofs.Common.{arith, refl, sym, ap, leb-true}
use Rattle.std.proofs.lemmas.{Bool.and_parts, List.append_assoc, List.length-append, List.length-map}
use Rattle.cs_ir.specs.Flat.{are_within, flat_from, flat_step, goes_within, is_within, moved_op, ops_at, place_of}
use Rattle.cs_ir.specs.Flat.{placed, size, window_of}
use Rattle.cs_ir.specs.{declared.op.Act.Act, declared.op.Op.Op, declared.step.Step.Step}
use Rattle.cs_ir.specs.declared.op.Act.TheVariants as act
use Rattle.cs_ir.specs.declared.step.Step.TheVariants as step

module _ (rs : List (List Op)) where
  -- ---- the number of ops of steps

  pub step_long : (f : ℕ → ℕ) (p : ℕ) (s : Step) → length (flat_step rs f p s) ≡ size rs s
  step_long f p (step.Do op) = refl
  step_long f p (step.Invoke c) = length-map (ops_at rs c.routine) (moved_op (window_of c) p)

  pub steps_long : (f : ℕ → ℕ) (p : ℕ) (ss : List Step) → length (flat_from rs f p ss) ≡ place_of rs (length ss) ss
  steps_long f p [] = refl
  steps_long f p (s ∷ ss) =
      let one = step_long f p s in
      let rest = steps_long f (p + size rs s) ss in
      length-append (flat_step rs f p s) (flat_from rs f (p + size rs s) ss) ∙ (λ i. one i + rest i)

  -- ---- places as steps are added

  pub place_more : (n : ℕ) (ss more : List Step) → n ≤ length ss → place_of rs n (ss ++ more) ≡ place_of rs n ss
  place_more zero ss more low = refl
  place_more (suc n) [] more low = absurd (omega (arith, low))
  place_more (suc n) (s ∷ ss) more low = ap (λ k. size rs s + k) (place_more n ss more (omega (arith, low)))

  -- a later step's ops don't come before an earlier step's ops
  pub place_later : (m n : ℕ) (ss : List Step) → m ≤ n → place_of rs m ss ≤ place_of rs n ss
  place_later zero n ss low = omega arith
  place_later (suc m) zero ss low = absurd (omega (arith, low))
  place_later (suc m) (suc n) [] low = omega arith
  place_later (suc m) (suc n) (s ∷ ss) low = let e = place_later m n ss (omega (arith, low)) in omega (arith, e)

  -- no place is beyond the end of all ops
  pub place_end : (n : ℕ) (ss : List Step) → place_of rs n ss ≤ place_of rs (length ss) ss
  place_end zero ss = omega arith
  place_end (suc n) [] = omega arith
  place_end (suc n) (s ∷ ss) = let e = place_end n ss in omega (arith, e)

  -- the place after a step
  pub place_next : (n : ℕ) (ss : List Step) (s : Step) → slice_get ss n ≡ Some s
      → place_of rs (suc n) ss ≡ place_of rs n ss + size rs s
  place_next n [] s is = absurd (cc)
  place_next zero (x ∷ ss) s is =
      let same : x ≡ s = cc in
      let e : size rs x + 0 ≡ 0 + size rs x = omega arith in e ∙ ap (λ y. 0 + size rs y) same
  place_next (suc n) (x ∷ ss) s is =
      let more = place_next n ss s is in omega (arith, more)

  -- ---- jumps that go to one of these steps, or to their end

  placed_alike : (f g : ℕ → ℕ) (n : ℕ) (a : Act) → ((to : ℕ) → to ≤ n → f to ≡ g to) → goes_within n a ≡ true
      → placed f a ≡ placed g a
  placed_alike f g n (act.Jump to) same low = ap act.Jump (same to (leb-true to n low))
  placed_alike f g n (act.Unless to) same low = ap act.Unless (same to (leb-true to n low))
  placed_alike f g n a same low = refl

  step_alike : (f g : ℕ → ℕ) (n p : ℕ) (s : Step) → ((to : ℕ) → to ≤ n → f to ≡ g to) → is_within n s ≡ true
      → flat_step rs f p s ≡ flat_step rs g p s
  step_alike f g n p (step.Do op) same low =
      ap (λ (a : Act). record op { act = a } ∷ []) (placed_alike f g n op.act same low)
  step_alike f g n p (step.Invoke c) same low = refl

  pub steps_alike : (f g : ℕ → ℕ) (n p : ℕ) (ss : List Step) → ((to : ℕ) → to ≤ n → f to ≡ g to)
      → are_within n ss ≡ true → flat_from rs f p ss ≡ flat_from rs g p ss
  steps_alike f g n p [] same low = refl
  steps_alike f g n p (s ∷ ss) same low =
      let parts = and_parts (is_within n s) (are_within n ss) low in
      let one = step_alike f g n p s same parts.0 in
      let rest = steps_alike f g n (p + size rs s) ss same parts.1 in
      λ i. one i ++ rest i

  -- ---- steps followed by other steps

  pub steps_both : (f : ℕ → ℕ) (p : ℕ) (ss more : List Step)
      → flat_from rs f p (ss ++ more) ≡ flat_from rs f p ss ++ flat_from rs f (p + place_of rs (length ss) ss) more
  steps_both f p [] more =
      let e : p ≡ p + 0 = omega arith in ap (λ k. flat_from rs f k more) e
  steps_both f p (s ∷ ss) more =
      let q = p + size rs s in
      let e : q + place_of rs (length ss) ss ≡ p + (size rs s + place_of rs (length ss) ss) = omega arith in
      ap (λ l. flat_step rs f p s ++ l) (steps_both f q ss more)
      ∙ sym (append_assoc (flat_step rs f p s) (flat_from rs f q ss)
      (flat_from rs f (q + place_of rs (length ss) ss) more))
      ∙ ap (λ k. (flat_step rs f p s ++ flat_from rs f q ss) ++ flat_from rs f k more) e
