-- The conflicts, edges and levels of a small cycle, one by one.
use Rattle.std.proofs.Common.{◌≡◌, ℕ, zero, suc, ◌<◌, ◌≤◌, [], ◌∷◌, slice_index, slice_index_or, refl, subst, inl, inr}
use Rattle.std.proofs.Common.{⊎_elim, arith}
use Rattle.std.proofs.lemmas.Option.{none-some, same_Some}
use Rattle.std.specs.List.{Contains}
use Rattle.cs_graph.specs.Conflict.{Conflict, Leads, direct, beyond, Near, Chain, alone, further}
use Rattle.cs_graph.specs.{Examples.small_cycle, Examples.small_graph, inner.Index.HasEdge}
use Rattle.cs_graph.specs.Graph.{ComesBefore, Edge, IsGraphOf}
use Rattle.cs_graph.proofs.ConflictLemmas.{Leads-earlier}

here : Contains {X = ℕ} (7 ∷ []) 7
here = (0, omega arith, refl)

conflict_01 : Conflict small_cycle 0 1
conflict_01 = record { earlier = omega arith; within = omega arith; clash = (7, inl (here, inl here)) }

conflict_02 : Conflict small_cycle 0 2
conflict_02 = record { earlier = omega arith; within = omega arith; clash = (7, inl (here, inl here)) }

pub conflict_03 : Conflict small_cycle 0 3
conflict_03 = record { earlier = omega arith; within = omega arith; clash = (7, inl (here, inl here)) }

conflict_13 : Conflict small_cycle 1 3
conflict_13 = record { earlier = omega arith; within = omega arith; clash = (7, inr (inl here, here)) }

conflict_23 : Conflict small_cycle 2 3
conflict_23 = record { earlier = omega arith; within = omega arith; clash = (7, inr (inl here, here)) }

none_in_none : (r : ℕ) → ¬ (Contains {X = ℕ} [] r)
none_in_none r h = omega (arith, h.1)

pub readers_free : ¬ (Conflict small_cycle 1 2)
readers_free c = ⊎_elim (λ h. none_in_none c.clash.0 h.0) (λ h. none_in_none c.clash.0 h.1) c.clash.1

pub farther : ¬ (Near small_cycle 0 3)
farther n = n.no_longer_way 1 (direct 0 1 conflict_01) conflict_13

no_way : ¬ (Leads small_cycle 1 2)
no_way (direct _ _ c) = readers_free c
no_way (beyond _ q _ l c) = omega (arith, Leads-earlier small_cycle 1 q l, c.earlier)

near_01 : Near small_cycle 0 1
near_01 = record {
  conflict = conflict_01;
  no_longer_way =
      λ q l c. omega (arith, Leads-earlier small_cycle 0 q l, c.earlier);
}

near_02 : Near small_cycle 0 2
near_02 = record {
  conflict = conflict_02;
  no_longer_way = λ q l c. let e : q ≡ 1 =
      omega (arith, Leads-earlier small_cycle 0 q l, c.earlier) in readers_free
      (subst (λ x. Conflict small_cycle x 2) e c);
}

near_13 : Near small_cycle 1 3
near_13 = record {
  conflict = conflict_13;
  no_longer_way = λ q l c. let e : q ≡ 2 =
      omega (arith, Leads-earlier small_cycle 1 q l, c.earlier) in no_way (subst (λ x. Leads small_cycle 1 x) e l);
}

near_23 : Near small_cycle 2 3
near_23 = record {
  conflict = conflict_23;
  no_longer_way =
      λ q l c. omega (arith, Leads-earlier small_cycle 2 q l, c.earlier);
}

edge_near : (e p t : ℕ) → Edge small_graph.edges e p t → Near small_cycle p t
edge_near zero p t at = subst (λ z. Near small_cycle z.0 z.1) (same_Some (0, 1) (p, t) at) near_01
edge_near (suc zero) p t at = subst (λ z. Near small_cycle z.0 z.1) (same_Some (0, 2) (p, t) at) near_02
edge_near (suc (suc zero)) p t at = subst (λ z. Near small_cycle z.0 z.1) (same_Some (1, 3) (p, t) at) near_13
edge_near (suc (suc (suc zero))) p t at = subst (λ z. Near small_cycle z.0 z.1) (same_Some (2, 3) (p, t) at) near_23
edge_near (suc (suc (suc (suc e)))) p t at = absurd (none-some (p, t) at)

-- a property of each conflict, by cases
by_conflict : (P : ℕ → ℕ → Type 0) → P 0 1 → P 0 2 → P 0 3 → P 1 3 → P 2 3 → (p t : ℕ) → Conflict small_cycle p t
    → P p t
by_conflict P a b c d e p zero h = absurd (omega (arith, h.earlier))
by_conflict P a b c d e zero (suc zero) h = a
by_conflict P a b c d e (suc p) (suc zero) h = absurd (omega (arith, h.earlier))
by_conflict P a b c d e zero (suc (suc zero)) h = b
by_conflict P a b c d e (suc zero) (suc (suc zero)) h = absurd (readers_free h)
by_conflict P a b c d e (suc (suc p)) (suc (suc zero)) h = absurd (omega (arith, h.earlier))
by_conflict P a b c d e zero (suc (suc (suc zero))) h = c
by_conflict P a b c d e (suc zero) (suc (suc (suc zero))) h = d
by_conflict P a b c d e (suc (suc zero)) (suc (suc (suc zero))) h = e
by_conflict P a b c d e (suc (suc (suc p))) (suc (suc (suc zero))) h = absurd (omega (arith, h.earlier))
by_conflict P a b c d e p (suc (suc (suc (suc t)))) h = absurd (omega (arith, h.within))

near_edge : (p t : ℕ) → Near small_cycle p t → HasEdge small_graph.edges p t
near_edge p t n = by_conflict (λ x y. Near small_cycle x y → HasEdge small_graph.edges x y)
    (λ m. (0, refl)) (λ m. (1, refl)) (λ m. absurd (farther m)) (λ m. (2, refl)) (λ m. (3, refl)) p t n.conflict n

rises : (p t : ℕ) → Conflict small_cycle p t → slice_index small_graph.levels p < slice_index small_graph.levels t
rises = by_conflict (λ x y. slice_index small_graph.levels x < slice_index small_graph.levels y) (omega arith)
    (omega arith) (omega arith) (omega arith) (omega arith)

longest : (n t : ℕ) → Chain small_cycle n t → n ≤ slice_index small_graph.levels t
longest _ t (alone _) = omega arith
longest _ t (further n p _ c k) = omega (arith, longest n p c, rises p t k)

to_1 : Chain small_cycle 1 1
to_1 = further 0 0 1 (alone 0) conflict_01

chain : (t : ℕ) → t < 4 → Chain small_cycle (slice_index small_graph.levels t) t
chain zero l = alone 0
chain (suc zero) l = to_1
chain (suc (suc zero)) l = further 0 0 2 (alone 0) conflict_02
chain (suc (suc (suc zero))) l = further 1 1 3 to_1 conflict_13
chain (suc (suc (suc (suc t)))) l = absurd (omega arith)

ordered : (i j : ℕ) (d : ℕ × ℕ) → i < j → j < 4
    → ComesBefore (slice_index_or small_graph.edges i d) (slice_index_or small_graph.edges j d)
ordered i zero d l m = absurd (omega arith)
ordered zero (suc zero) d l m = inl (omega arith)
ordered (suc i) (suc zero) d l m = absurd (omega arith)
ordered zero (suc (suc zero)) d l m = inl (omega arith)
ordered (suc zero) (suc (suc zero)) d l m = inl (omega arith)
ordered (suc (suc i)) (suc (suc zero)) d l m = absurd (omega arith)
ordered zero (suc (suc (suc zero))) d l m = inl (omega arith)
ordered (suc zero) (suc (suc (suc zero))) d l m = inl (omega arith)
ordered (suc (suc zero)) (suc (suc (suc zero))) d l m = inr (refl, omega arith)
ordered (suc (suc (suc i))) (suc (suc (suc zero))) d l m = absurd (omega arith)
ordered i (suc (suc (suc (suc j)))) d l m = absurd (omega arith)

pub graph_is : IsGraphOf small_cycle small_graph
graph_is = record {
  notes = refl;
  near = λ p t. (λ h. edge_near h.0 p t h.1, near_edge p t);
  ordered = ordered;
  level = λ t l. record { chain = chain t l; longest = λ n c. longest n t c };
}
