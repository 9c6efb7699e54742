-- Chains of conflicts, and how the sets at a note represent them.
use Rattle.std.proofs.lemmas.{Grind.common_steps, Bool.cases_eq, Bool.cases_lt}
use Rattle.std.proofs.Common.{◌≡◌, ◌⊎◌, ◌↔◌, ℕ, zero, suc, ◌+◌, ◌<◌, ◌≤◌, true, List, [], ◌∷◌, ◌++◌, length, get_or}
use Rattle.std.proofs.Common.{refl, sym, subst, inl, inr, ⊎_elim, arith, length-append}
use Rattle.std.proofs.lemmas.List.{get_or_push, get_or_append_left}
use Rattle.cs_cells.specs.declared.footprint.Footprint.{Footprint}
use Rattle.cs_graph.specs.{inner.Sets.has, inner.Growing.IsKnown, inner.Growing.IsDrawn, inner.Index.HasEdge}
use Rattle.cs_graph.specs.{declared.nearest.Known.Known, declared.nearest.Found.Found}
use Rattle.cs_graph.specs.Conflict.{foot, Clash, Conflict, Leads, direct, beyond, Near, Chain, alone, further, IsLevel}
use Rattle.cs_graph.specs.Graph.{Reaches, step, onward, IsFit, IsLevelled}
use Rattle.cs_graph.specs.inner.Nearest.{known_at, Has, IsClosed, IsFound}

module _ (feet : List Footprint) where
  pub Leads-earlier : (p t : ℕ) → Leads feet p t → p < t
  Leads-earlier p t (direct _ _ c) = c.earlier
  Leads-earlier p t (beyond _ q _ l c) = let a : p < q = Leads-earlier p q l in omega (arith, c.earlier)

  pub Leads-join : (p q t : ℕ) → Leads feet p q → Leads feet q t → Leads feet p t
  Leads-join p q t a (direct _ _ c) = beyond p q t a c
  Leads-join p q t a (beyond _ r _ l c) = beyond p r t (Leads-join p q r a l) c

  pub IsClosed-known : (n : ℕ) (known : List Known) → IsKnown feet n known → IsClosed known n
  IsClosed-known n known k = record {
    earlier = λ p q within h. Leads-earlier p q ((k.leads p q within).0 h);
    chained = λ p q r within h g.
        let second = (k.leads q r within).0 g in
        let low : q < r = Leads-earlier q r second in
        (k.leads p r within).1 (Leads-join p q r ((k.leads p q (omega arith)).0 h) second);
    low = k.low;
  }

  -- the data found at note t
  module _ (t : ℕ) (within : t < length feet) (met : List ℕ) (known : List Known) (found : Found)
      (meets : (p : ℕ) → p < t → (has met p ≡ true) ↔ Clash (foot feet p) (foot feet t))
      (k : IsKnown feet t known) (f : IsFound met known 0 t found) where
    conflict-met : (p : ℕ) → p < t → Has met p → Conflict feet p t
    conflict-met p low h = record { earlier = low; within = within; clash = (meets p low).0 h }

    met-conflict : (p : ℕ) → Conflict feet p t → Has met p
    met-conflict p c = (meets p c.earlier).1 c.clash

    pub found-near : (p : ℕ) → Has found.near p → Near feet p t
    found-near p h = grind (arith, common_steps, conflict-met, met-conflict)

    pub found-rest : (p : ℕ) → Conflict feet p t → Has found.near p ⊎ ((q : ℕ) × Leads feet p q × Conflict feet q t)
    found-rest p c = ⊎_elim (λ h. inl h) (λ w. inr (w.0, (k.leads p w.0 w.1).0 w.3, conflict-met w.0 w.1 w.2))
        (f.rest p (omega arith) c.earlier (met-conflict p c))

    pub near-found : (p : ℕ) → Near feet p t → Has found.near p
    near-found p n = ⊎_elim (λ h. h) (λ w. absurd (n.no_longer_way w.0 w.1 w.2)) (found-rest p n.conflict)

    pub found-leads : (p : ℕ) → Has found.known.reach p ↔ Leads feet p t
    found-leads p = (
      λ h. let w = f.reach p h in let c = conflict-met w.0 w.2 w.3 in
          ⊎_elim (λ (same : p ≡ w.0). direct p t (subst (λ x. Conflict feet x t) (sym same) c))
          (λ l. beyond p w.0 t ((k.leads p w.0 w.2).0 l) c) w.4,
      λ l. leads-found p l,
    )
      where
        leads-found : (p : ℕ) → Leads feet p t → Has found.known.reach p
        leads-found p (direct _ _ c) = f.all p p (omega arith) c.earlier (met-conflict p c) (inl refl)
        leads-found p (beyond _ q _ l c) =
            f.all p q (omega arith) c.earlier (met-conflict q c) (inr ((k.leads p q c.earlier).1 l))

    abbrev more : List Known
    more = known ++ found.known ∷ []

    old_past : (q : ℕ) → q < t → known_at more q ≡ known_at known q
    old_past q low = get_or_append_left known (found.known ∷ []) _ q (omega (arith, low, k.long))

    new_past : known_at more t ≡ found.known
    new_past = get_or_push known found.known _ t k.long

    pub known_push : IsKnown feet (t + 1) more
    known_push = record {
      long = omega (arith, k.long, length-append known (found.known ∷ []));
      leads = λ p q low. ⊎_elim
          (λ (here : q ≡ t). rw (here, new_past) (found-leads p))
          (λ apart. rw (old_past q (omega arith)) (k.leads p q (omega arith)))
          (cases_eq q t);
      low = λ q low. ⊎_elim
          (λ (here : q ≡ t). rw (here, new_past) f.low)
          (λ apart. rw (old_past q (omega arith)) (k.low q (omega arith)))
          (cases_eq q t);
      above = λ p q low c. ⊎_elim
          (λ (here : q ≡ t). let c' : Conflict feet p t = subst (Conflict feet p) here c in
          rw (here, new_past, old_past p c'.earlier) (f.above p (omega arith) c'.earlier (met-conflict p c')))
          (λ apart. rw (old_past q (omega arith), old_past p (omega (arith, c.earlier))) (k.above p q (omega arith) c))
          (cases_eq q t);
      greatest = λ q low. ⊎_elim
          (λ (here : q ≡ t). rw (here, new_past)
          (λ h. let w = f.greatest h in (w.0, conflict-met w.0 w.2 w.3, rw (old_past w.0 w.2) w.4)))
          (λ apart. rw (old_past q (omega arith))
          (λ h. let w = k.greatest q (omega arith) h in (w.0, w.1, rw (old_past w.0 (omega (arith, w.1.earlier))) w.2)))
          (cases_eq q t);
    }

    pub level_push : (levels : List ℕ) → length levels ≡ t
        → ((q : ℕ) → q < t → get_or levels q 0 ≡ (known_at known q).level)
        → (q : ℕ) → q < t + 1 → get_or (levels ++ found.known.level ∷ []) q 0 ≡ (known_at more q).level
    level_push levels long same q low =
        grind (arith, common_steps, cases_eq, get_or_append_left, get_or_push, new_past, old_past)

    pub drawn_more : (old edges : List (ℕ × ℕ)) → IsDrawn feet t old
        → ((a b : ℕ) → HasEdge edges a b ↔ (HasEdge old a b ⊎ ((b ≡ t) × (a < t) × Has found.near a)))
        → IsDrawn feet (t + 1) edges
    drawn_more old edges d grown = record {
      each = λ p b h. ⊎_elim
          (λ g. let w = d.each p b g in (omega (arith, w.0), w.1))
          (λ g. (omega (arith, g.0), subst (Near feet p) (sym g.0) (found-near p g.2)))
          ((grown p b).0 h);
      near = λ p b low n. ⊎_elim
          (λ (here : b ≡ t). let n' : Near feet p t =
          subst (Near feet p) here n in (grown p b).1 (inr (here, n'.conflict.earlier, near-found p n')))
          (λ apart. (grown p b).1 (inl (d.near p b (omega arith) n)))
          (cases_eq b t);
      rest = λ p b low c. ⊎_elim
          (λ (here : b ≡ t). let c' : Conflict feet p t = subst (Conflict feet p) here c in ⊎_elim
          (λ h. inl ((grown p b).1 (inr (here, c'.earlier, h))))
          (λ w. inr (w.0, w.1, subst (Conflict feet w.0) (sym here) w.2))
          (found-rest p c'))
          (λ apart. ⊎_elim (λ h. inl ((grown p b).1 (inl h))) (λ w. inr w) (d.rest p b (omega arith) c))
          (cases_eq b t);
    }

  -- edges for all nearest conflicts form paths for all conflicts
  module _ (n : ℕ) (edges : List (ℕ × ℕ)) (whole : length feet ≤ n) (d : IsDrawn feet n edges) where
    Reaches-join : (p q t : ℕ) → Reaches edges p q → Reaches edges q t → Reaches edges p t
    Reaches-join p q t a (step e _ _ h) = onward e p q t a h
    Reaches-join p q t a (onward e _ r _ b h) = onward e p r t (Reaches-join p q r a b) h

    Reaches-leads : (m : ℕ) → ((a b : ℕ) → b ≤ a + m → Conflict feet a b → Reaches edges a b) → (p q : ℕ) → q ≤ p + m
        → Leads feet p q → Reaches edges p q
    Reaches-leads m ways p q near (direct _ _ c) = ways p q near c
    Reaches-leads m ways p q near (beyond _ r _ l c) = let low : p < r = Leads-earlier p r l in
        Reaches-join p r q (Reaches-leads m ways p r (omega (arith, c.earlier)) l) (ways r q (omega arith) c)

    Reaches-conflict : (m p t : ℕ) → t ≤ p + m → Conflict feet p t → Reaches edges p t
    Reaches-conflict zero p t near c = absurd (omega (arith, c.earlier))
    Reaches-conflict (suc m) p t near c = ⊎_elim
        (λ h. step h.0 p t h.1)
        (λ w. let low : p < w.0 = Leads-earlier p w.0 w.1 in
        Reaches-join p w.0 t (Reaches-leads m (Reaches-conflict m) p w.0 (omega (arith, w.2.earlier)) w.1)
        (Reaches-conflict m w.0 t (omega arith) w.2))
        (d.rest p t (omega (arith, c.within)) c)

    pub IsFit-drawn : IsFit feet edges
    IsFit-drawn = record {
      each = λ e p t h. (d.each p t (e, h)).1.conflict;
      all = λ p t c. Reaches-conflict t p t (omega arith) c;
    }

  -- levels computed from the earlier conflicting notes are the lengths of the longest chains
  module _ (levels : List ℕ) (r : IsLevelled feet levels) where
    chain_to : (m t : ℕ) → t < length feet → get_or levels t 0 ≡ m → Chain feet m t
    chain_to zero t within is = alone t
    chain_to (suc m) t within is = let w = r.greatest t within (omega arith) in
        further m w.0 t (chain_to m w.0 (omega (arith, w.1.earlier)) (omega (arith, w.2))) w.1

    chain_low : (m t : ℕ) → Chain feet m t → m ≤ get_or levels t 0
    chain_low m t (alone _) = omega arith
    chain_low m t (further n p _ ch c) = let low : n ≤ get_or levels p 0 =
        chain_low n p ch in omega (arith, r.above p t c)

    pub IsLevel-levelled : (t : ℕ) → t < length feet → IsLevel feet t (get_or levels t 0)
    IsLevel-levelled t within = record { chain = chain_to _ t within refl; longest = λ m ch. chain_low m t ch }

  pub levelled_known : (known : List Known) (levels : List ℕ) → IsKnown feet (length feet) known
      → ((q : ℕ) → q < length feet → get_or levels q 0 ≡ (known_at known q).level) → IsLevelled feet levels
  levelled_known known levels k same = record {
    none = λ t within no_. ⊎_elim
        (λ high. absurd (no_ (k.greatest t within (rw (← same t within) high)).0
        (k.greatest t within (rw (← same t within) high)).1))
        (λ low. omega arith)
        (cases_lt 0 (get_or levels t 0));
    above = λ p t c. rw (same p (omega (arith, c.earlier, c.within)), same t c.within) (k.above p t c.within c);
    greatest = λ t within high. let w = k.greatest t within (rw (← same t within) high) in
        (w.0, w.1, rw (same t within, same w.0 (omega (arith, w.1.earlier, within))) w.2);
  }
