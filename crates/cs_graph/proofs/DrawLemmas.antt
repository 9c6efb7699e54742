-- The edges to one note, appended one by one.
use Rattle.std.proofs.Common.{◌≡◌, ℕ, zero, suc, ◌+◌, ◌-◌, ◌*◌, ◌/◌, ◌<◌, ◌≤◌, min, true, false, List, [], ◌∷◌, ◌++◌}
use Rattle.std.proofs.Common.{length, length-append, refl, sym, subst, inl, inr, ⊎_elim, arith}
use Rattle.std.proofs.lemmas.{Bool.both_ways, Bool.cases_eq, List.Quantifiers.all_pairs_push}
use Rattle.std.proofs.lemmas.List.Elements.{All-weaker, All-push}
use Rattle.std.specs.List.{All}
use Rattle.cs_graph.proofs.EdgeLemmas.{edge_kept, edge_new, edge_cases}
use Rattle.cs_graph.specs.{Graph.ComesBefore, Graph.Edge, inner.Growing.AreDrawnTo, inner.Sets.has}

before_more : (p t : ℕ) (xs : List (ℕ × ℕ)) → All (λ e. ComesBefore e (p, t)) xs
    → All (λ e. ComesBefore e (p + 1, t)) xs
before_more p t xs h = All-weaker (λ e. ComesBefore e (p, t)) (λ e. ComesBefore e (p + 1, t))
    (λ e k. ⊎_elim (λ l. inl l) (λ l. inr (l.0, omega (arith, l.1))) k) xs h

module _ (old : List (ℕ × ℕ)) (near : List ℕ) (t : ℕ) where
  pub drawn_skip : (edges : List (ℕ × ℕ)) (p : ℕ) → has near p ≡ false → AreDrawnTo old near t p edges
      → AreDrawnTo old near t (p + 1) edges
  drawn_skip edges p no_ d = record {
    ends = λ a b. (
      λ h. ⊎_elim (λ k. inl k) (λ k. inr (k.0, omega (arith, k.1), k.2)) ((d.ends a b).0 h),
      λ h. (d.ends a b).1 (⊎_elim (λ k. inl k)
          (λ k. inr (
            k.0,
            ⊎_elim (λ (same : a ≡ p). absurd (both_ways _ no_ (rw (← same) k.2)))
                (λ apart. omega (arith, k.1)) (cases_eq a p),
            k.2,
          )) h),
    );
    kept = d.kept;
    behind = d.behind;
    before = before_more p t edges d.before;
    ordered = d.ordered;
    few = omega (arith, d.few);
    long = d.long;
  }

  -- a block without members
  pub drawn_past : (edges : List (ℕ × ℕ)) (p n : ℕ) → ((i : ℕ) → p ≤ i → i < p + n → has near i ≡ false)
      → AreDrawnTo old near t p edges
      → AreDrawnTo old near t (p + n) edges
  drawn_past edges p zero none d = subst (λ q. AreDrawnTo old near t q edges) (let e : p ≡ p + 0 = omega arith in e) d
  drawn_past edges p (suc n) none d =
      subst (λ q. AreDrawnTo old near t q edges) (let e : (p + n) + 1 ≡ p + suc n = omega arith in e)
      (drawn_skip edges (p + n) (none (p + n) (omega arith) (omega arith))
      (drawn_past edges p n (λ i low high. none i low (omega (arith, high))) d))

  pub drawn_clear : (edges : List (ℕ × ℕ)) (block : ℕ) → block * 64 < t
      → ((i : ℕ) → i / 64 ≡ block → has near i ≡ false)
      → AreDrawnTo old near t (min t (block * 64)) edges → AreDrawnTo old near t (min t ((block + 1) * 64)) edges
  drawn_clear edges block low clear d =
      let n : ℕ = min t ((block + 1) * 64) - block * 64 in
      let a : min t (block * 64) ≡ block * 64 = omega (arith, low) in
      let e : block * 64 + n ≡ min t ((block + 1) * 64) = omega (arith, low) in
      subst (λ q. AreDrawnTo old near t q edges) e
      (drawn_past edges (block * 64) n
      (λ i from to. clear i (let q : i / 64 ≡ block = omega (arith, from, to) in q))
      (subst (λ q. AreDrawnTo old near t q edges) a d))

  pub drawn_push : (edges : List (ℕ × ℕ)) (p : ℕ) → has near p ≡ true → AreDrawnTo old near t p edges
      → AreDrawnTo old near t (p + 1) (edges ++ (p, t) ∷ [])
  drawn_push edges p yes_ d = record {
    ends = λ a b. (
      λ h. ⊎_elim
          (λ k. ⊎_elim (λ l. inl l) (λ l. inr (l.0, omega (arith, l.1), l.2)) ((d.ends a b).0 (h.0, k)))
          (λ k. inr (sym k.2, omega (arith, k.1), subst (λ x. has near x ≡ true) k.1 yes_))
          (edge_cases p t edges h.0 a b h.1),
      λ h. ⊎_elim
          (λ k. let w = (d.ends a b).1 (inl k) in (w.0, edge_kept p t edges w.0 a b w.1))
          (λ k. ⊎_elim
          (λ (same : a ≡ p). (
            length edges,
            subst (λ x. Edge (edges ++ (p, t) ∷ []) (length edges) x b) (sym same)
                (subst (λ x. Edge (edges ++ (p, t) ∷ []) (length edges) p x) (sym k.0) (edge_new p t edges)),
          ))
          (λ apart. let w = (d.ends a b).1
          (inr (k.0, omega (arith, k.1), k.2)) in (w.0, edge_kept p t edges w.0 a b w.1))
          (cases_eq a p))
          h,
    );
    kept = λ e a b h. edge_kept p t edges e a b (d.kept e a b h);
    behind = λ e a b h. ⊎_elim
        (λ k. d.behind e a b k)
        (λ k. inr (omega (arith, k.0, d.long), sym k.2))
        (edge_cases p t edges e a b h);
    before = All-push (λ e. ComesBefore e (p + 1, t)) edges (p, t) (before_more p t edges d.before)
        (inr (refl, omega arith));
    ordered = all_pairs_push ComesBefore edges (p, t) d.ordered (λ k e within. d.before k e within);
    few = omega (arith, d.few, length-append edges ((p, t) ∷ []));
    long = omega (arith, d.long, length-append edges ((p, t) ∷ []));
  }
