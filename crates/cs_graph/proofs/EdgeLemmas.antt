-- Edges that are appended to a list of edges, and edges in order.
use Rattle.std.proofs.Common.{◌≡◌, ◌⊎◌, ℕ, zero, suc, ◌+◌, ◌<◌, ◌≤◌, List, [], ◌∷◌, ◌++◌, length, get_or, refl, sym, ap}
use Rattle.std.proofs.Common.{◌∙◌, subst, inl, inr, ⊎_elim, arith, slice_get}
use Rattle.std.proofs.lemmas.{Bool.cases_eq, List.get_or_push, List.get_or_append_left, Option.get_or_from_slice_get}
use Rattle.std.proofs.lemmas.Option.{none-some, some_pair_parts, same_Some, slice_get_within, slice_get-get_or}
use Rattle.std.specs.List.{All, AllPairs}
use Rattle.cs_graph.specs.{Graph.Edge, Graph.ComesBefore, Graph.StandTogether, inner.Growing.AreDrawnTo}
use Rattle.cs_graph.specs.inner.Index.{AreInto, range_at, AreEnds}
use Rattle.cs_graph.proofs.ReadAt.{read_at}

module _ (p t : ℕ) where
  abbrev grown : List (ℕ × ℕ) → List (ℕ × ℕ)
  grown xs = xs ++ (p, t) ∷ []

  pub edge_kept : (xs : List (ℕ × ℕ)) (e a b : ℕ) → Edge xs e a b → Edge (grown xs) e a b
  edge_kept [] e a b h = absurd (none-some _ h)
  edge_kept (x ∷ xs) zero a b h = h
  edge_kept (x ∷ xs) (suc e) a b h = edge_kept xs e a b h

  pub edge_new : (xs : List (ℕ × ℕ)) → Edge (grown xs) (length xs) p t
  edge_new [] = refl
  edge_new (x ∷ xs) = edge_new xs

  pub edge_cases : (xs : List (ℕ × ℕ)) (e a b : ℕ) → Edge (grown xs) e a b
      → Edge xs e a b ⊎ ((e ≡ length xs) × (p ≡ a) × (t ≡ b))
  edge_cases [] zero a b h = let w = some_pair_parts p a t b h in inr (refl, w.0, w.1)
  edge_cases [] (suc e) a b h = absurd (none-some _ h)
  edge_cases (x ∷ xs) zero a b h = inl h
  edge_cases (x ∷ xs) (suc e) a b h = ⊎_elim (λ k. inl k) (λ k. inr (ap suc k.0, k.1, k.2)) (edge_cases xs e a b h)

pub all_before : (xs : List (ℕ × ℕ)) (t : ℕ) → ((e a b : ℕ) → Edge xs e a b → b < t) → All (λ e. e.1 < t) xs
all_before xs t before k d within = before k (get_or xs k d).0 (get_or xs k d).1 (slice_get-get_or xs k d within)

-- the edges into the notes so far, and into one more note
module _ (old edges : List (ℕ × ℕ)) (near : List ℕ) (t : ℕ) (drawn : AreDrawnTo old near t t edges)
    (before : (e a b : ℕ) → Edge old e a b → b < t) where
  into_old : (q first end_ : ℕ) → q < t → AreInto old q first end_ → AreInto edges q first end_
  into_old q first end_ low into e = (
    λ h. let w = (into e).0 h in (w.0, drawn.kept e w.0 q w.1),
    λ h. ⊎_elim (λ k. (into e).1 (h.0, k)) (λ k. absurd (omega (arith, k.1, low))) (drawn.behind e h.0 q h.1),
  )

  into_new : AreInto edges t (length old) (length edges)
  into_new e = (
    λ h. let x : ℕ × ℕ = get_or edges e (0, 0) in
        let at_ : Edge edges e x.0 x.1 = slice_get-get_or edges e (0, 0) h.1 in (
          x.0,
          ⊎_elim
              (λ k. absurd (omega (arith, h.0, slice_get_within old e (x.0, x.1) k)))
              (λ k. subst (λ b. Edge edges e x.0 b) k.1 at_)
              (drawn.behind e x.0 x.1 at_),
        ),
    λ h. (
      ⊎_elim (λ k. absurd (omega (arith, before e h.0 t k))) (λ k. k.0) (drawn.behind e h.0 t h.1),
      slice_get_within edges e (h.0, t) h.1,
    ),
  )

  pub ranges_more : (into : List (ℕ × ℕ)) (x : ℕ × ℕ) → length into ≡ t → x ≡ (length old, length edges)
      → ((q : ℕ) → q < t → AreInto old q (range_at into q).0 (range_at into q).1)
      → (q : ℕ) → q < t + 1 → AreInto edges q (range_at (into ++ x ∷ []) q).0 (range_at (into ++ x ∷ []) q).1
  ranges_more into x long is each q low = ⊎_elim
      (λ (here : q ≡ t). rw (here, get_or_push into x (0, 0) t long, is) into_new)
      (λ apart. let below : q < t = omega arith in
      rw (get_or_append_left into (x ∷ []) (0, 0) q (omega (arith, long, below)))
      (into_old q (range_at into q).0 (range_at into q).1 below (each q below)))
      (cases_eq q t)

-- among edges in order, the edges into the same note are consecutive
module _ (edges : List (ℕ × ℕ)) (ordered : AllPairs ComesBefore edges) where
  up_to : (e f a b c d : ℕ) → e ≤ f → Edge edges e a b → Edge edges f c d → b ≤ d
  up_to e f a b c d low first last = ⊎_elim
      (λ (same : e ≡ f). let w =
      same_Some (a, b) (c, d) (sym first ∙ ap (slice_get edges) same ∙ last) in let s : b ≡ d =
      ap (λ z. z.1) w in omega (arith, s))
      (λ apart.
      let within : f < length edges = slice_get_within edges f (c, d) last in
      let at_e : get_or edges e (0, 0) ≡ (a, b) = get_or_from_slice_get edges e (a, b) (0, 0) first in
      let at_f : get_or edges f (0, 0) ≡ (c, d) = get_or_from_slice_get edges f (c, d) (0, 0) last in
      let k : ComesBefore (a, b) (c, d) =
      subst (λ z. ComesBefore z (c, d)) at_e
      (subst (λ z. ComesBefore (get_or edges e (0, 0)) z) at_f (ordered e f (0, 0) (omega arith) within)) in
      ⊎_elim (λ l. omega (arith, l)) (λ l. omega (arith, l.0)) k)
      (cases_eq e f)

  pub together : (t : ℕ) → StandTogether edges t
  together t e f g p q first last low high =
      let within : f < length edges = omega (arith, slice_get_within edges g (q, t) last) in
      let x : ℕ × ℕ = get_or edges f (0, 0) in
      let at_ : Edge edges f x.0 x.1 = slice_get-get_or edges f (0, 0) within in
      let same : x.1 ≡ t = omega (arith, up_to e f p t x.0 x.1 low first at_, up_to f g x.0 x.1 q t high at_ last) in
      (x.0, subst (λ b. Edge edges f x.0 b) same at_)

-- the stored range of the edges into a note
pub range_read : (edges : List (ℕ × ℕ)) (levels : List ℕ) (into : List (ℕ × ℕ)) → AreEnds edges levels into
    → (t : ℕ) (x : ℕ × ℕ) → t < length levels → x ≡ get_or into t x → AreInto edges t x.0 x.1
range_read edges levels into s t x within is =
    let low : t < length into = omega (arith, within, s.each) in
    subst (λ y. AreInto edges t y.0 y.1) (read_at into t x (0, 0) low is) (s.ranges t low)
