use Rattle.std.proofs.lemmas.{Grind.common_steps, Bool.or_right, Bool.Decides.nat_tests}
use Rattle.std.proofs.Common.{◌≡◌, ◌==◌, ◌||◌, ◌&&◌, not, ℕ, ◌+◌, ◌<◌, ◌≤◌, max, true, false, List, refl, sym, ◌∙◌}
use Rattle.std.proofs.Common.{inl, inr, ⊎_elim, arith}
use Rattle.std.proofs.lemmas.Bool.{and_parts, both_ways, cases_eq, cases_lt, eqb-true, not-true, or_cases, or_left}
use Rattle.cs_graph.specs.{inner.Sets.has, declared.nearest.Known.Known, declared.nearest.Found.Found}
use Rattle.cs_graph.specs.inner.Nearest.{known_at, Has, LeadsIn, IsClosed, IsFound}

module _ (met : List ℕ) (known : List Known) (t : ℕ) where
  pub found_none : (found : Found) → ((p : ℕ) → has found.near p ≡ false) → ((p : ℕ) → has found.known.reach p ≡ false)
      → found.known.level ≡ 0 → IsFound met known t t found
  found_none found near reach level = grind (arith, common_steps, both_ways)

  -- a range of notes is skipped, since none of them conflicts with the note
  pub found_past : (from to : ℕ) (found : Found) → from ≤ to
      → ((p : ℕ) → from ≤ p → p < to → has met p ≡ false) → IsFound met known to t found
      → IsFound met known from t found
  found_past from to found low clear f = record {
    near = λ p h. let w = f.near p h in (omega (arith, low, w.0), w.1, w.2, w.3);
    rest = λ p a b h. f.rest p (behind p a h) b h;
    reach = λ p h. let w = f.reach p h in (w.0, omega (arith, low, w.1), w.2, w.3, w.4);
    all = λ p q a b h k. f.all p q (behind q a h) b h k;
    above = λ q a b h. f.above q (behind q a h) b h;
    greatest = λ h. let w = f.greatest h in (w.0, omega (arith, low, w.1), w.2, w.3, w.4);
    low = f.low;
  }
    where
      behind : (p : ℕ) → from ≤ p → Has met p → to ≤ p
      behind p a h = ⊎_elim (λ below. absurd (both_ways _ (clear p a below) h)) (λ k. k) (cases_lt p to)

  module _ (closed : IsClosed known t) (q : ℕ) (old new : Found) (within : q < t) (is_met : Has met q)
      (f : IsFound met known (q + 1) t old) where
    -- a note that leads to a note added before leads to a later conflicting note
    reached_by : Has old.known.reach q → (r : ℕ) × (q + 1 ≤ r) × (r < t) × Has met r × LeadsIn known q r
    reached_by h = let w = f.reach q
        h in (w.0, w.1, w.2, w.3, ⊎_elim (λ same. absurd (omega (arith, same, w.1))) (λ leads. leads) w.4)

    module _ (near : (p : ℕ) → has new.near p ≡ (has old.near p || (p == q && not (has old.known.reach q))))
        (level : new.known.level ≡ max old.known.level ((known_at known q).level + 1)) where
      levels_low : new.known.level ≤ t
      levels_low = let a : (known_at known q).level ≤ q = closed.low q within in omega (arith, f.low)

      levels_above : (r : ℕ) → q ≤ r → r < t → Has met r → (known_at known r).level < new.known.level
      levels_above r a b h = grind (arith, common_steps, cases_eq)

      levels_greatest : 0 < new.known.level
          → (r : ℕ) × (q ≤ r) × (r < t) × Has met r × (new.known.level ≡ (known_at known r).level + 1)
      levels_greatest h = ⊎_elim
          (λ here. (q, omega arith, within, is_met, omega arith))
          (λ old_. let w = f.greatest (omega arith) in (w.0, omega (arith, w.1), w.2, w.3, omega (arith, w.4)))
          (cases_lt old.known.level ((known_at known q).level + 1))

      new_one : (p : ℕ) → p ≡ q → has old.known.reach q ≡ false → (p == q && not (has old.known.reach q)) ≡ true
      new_one p here fresh = let test : (p == q) ≡ true = grind (arith, nat_tests) in rw (test, fresh) refl

      keeps_near : (p : ℕ) → Has old.near p → Has new.near p
      keeps_near p h = rw (near p) (or_left _ _ h)

      pub found_reached : Has old.known.reach q → ((p : ℕ) → has new.known.reach p ≡ has old.known.reach p)
          → IsFound met known q t new
      found_reached reached same = record {
        near = λ p h. ⊎_elim
            (λ k. let w = f.near p k in (omega (arith, w.0), w.1, w.2, w.3))
            (λ k. absurd (both_ways _ (not-true _ (and_parts _ _ k).1) reached))
            (or_cases _ _ (sym (near p) ∙ h));
        rest = λ p a b h. ⊎_elim
            (λ (here : p ≡ q). let w = reached_by reached in inr (w.0, w.2, w.3, rw here w.4))
            (λ apart. ⊎_elim (λ k. inl (keeps_near p k)) (λ k. inr k) (f.rest p (omega arith) b h))
            (cases_eq p q);
        reach = λ p h. let w = f.reach p (sym (same p) ∙ h) in (w.0, omega (arith, w.1), w.2, w.3, w.4);
        all = λ p r a b h k. same p ∙ ⊎_elim
            (λ (here : r ≡ q). ⊎_elim
            (λ (one : p ≡ r). rw (one, here) reached)
            (λ leads. let w = reached_by reached in
            f.all p w.0 w.1 w.2 w.3 (inr (closed.chained p q w.0 w.2 (rw (← here) leads) w.4)))
            k)
            (λ apart. f.all p r (omega arith) b h k)
            (cases_eq r q);
        above = levels_above;
        greatest = levels_greatest;
        low = levels_low;
      }

      pub found_nearest : has old.known.reach q ≡ false
          → ((p : ℕ) → has new.known.reach p ≡ (has old.known.reach p || p == q || has (known_at known q).reach p))
          → IsFound met known q t new
      found_nearest fresh grown = record {
        near = λ p h. ⊎_elim
            (λ k. let w = f.near p k in (omega (arith, w.0), w.1, w.2, w.3))
            (λ k. let here : p ≡ q = eqb-true p q (and_parts _ _ k).0 in (
              omega arith,
              omega arith,
              rw here is_met,
              λ r c m leads.
                  let leads' : LeadsIn known q r = rw (← here) leads in
                  let later : q < r = closed.earlier q r c leads' in
                  both_ways _ fresh (f.all q r (omega arith) c m (inr leads')),
            ))
            (or_cases _ _ (sym (near p) ∙ h));
        rest = λ p a b h. ⊎_elim
            (λ (here : p ≡ q). inl (near p ∙ or_right (has old.near p) _ (new_one p here fresh)))
            (λ apart. ⊎_elim (λ k. inl (keeps_near p k)) (λ k. inr k) (f.rest p (omega arith) b h))
            (cases_eq p q);
        reach = λ p h. ⊎_elim
            (λ k. ⊎_elim
            (λ k. let w = f.reach p k in (w.0, omega (arith, w.1), w.2, w.3, w.4))
            (λ k. (q, omega arith, within, is_met, inl (eqb-true p q k)))
            (or_cases _ _ k))
            (λ k. (q, omega arith, within, is_met, inr k))
            (or_cases _ _ (sym (grown p) ∙ h));
        all = λ p r a b h k. grown p ∙ ⊎_elim
            (λ (here : r ≡ q). ⊎_elim
            (λ (one : p ≡ r). or_left _ _
            (or_right (has old.known.reach p) (p == q) (let same : p ≡ q = one ∙ here in grind (arith, nat_tests))))
            (λ leads. or_right _ _ (let k : LeadsIn known p q = rw (← here) leads in k))
            k)
            (λ apart. or_left _ _ (or_left _ _ (f.all p r (omega arith) b h k)))
            (cases_eq r q);
        above = levels_above;
        greatest = levels_greatest;
        low = levels_low;
      }
