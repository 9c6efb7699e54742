-- The edges of a cycle, linked into lists by the note that they leave.
use Rattle.std.proofs.lemmas.{Grind.common_steps, Bool.cases_eq, List.get_or-replicate, List.length-replicate}
use Rattle.std.proofs.lemmas.List.{length-set}
use Rattle.std.proofs.Common.{◌≡◌, ◌≢◌, ℕ, ◌+◌, ◌<◌, ⊎_elim, List, length, get_or, set, sym, ap, ◌∙◌, subst, arith}
use Rattle.std.proofs.Common.{◌≤◌, replicate, Option, Some, None}
use Rattle.std.specs.Prelude.{IfSome, IfNone}
use Rattle.std.proofs.Common.{slice_get, get_or-set_same, get_or-set_other}
use Rattle.std.proofs.lemmas.Option.{same_Some, slice_get_within}
use Rattle.cs_graph.specs.Graph.{Edge, IsNextOut, NoneOut}
use Rattle.cs_graph.specs.inner.Index.{IsChained, Points}

-- no edge is linked yet
pub chained_none : (edges : List (ℕ × ℕ)) (notes : ℕ) (first next : List ℕ) → first ≡ replicate notes (length edges)
    → next ≡ replicate (length edges) (length edges)
    → (length first ≡ notes) × IsChained edges (length edges) first next
chained_none edges notes first next first_is next_is = rw (first_is, next_is) (
  length-replicate notes (length edges),
  record {
    each = length-replicate (length edges) (length edges);
    first = λ p low. subst (Points edges p (length edges))
        (sym (get_or-replicate notes p (length edges) 0 (omega (arith, low, length-replicate notes (length edges)))))
        (at_end p);
    next = λ e p t low at_. absurd (omega (arith, low, slice_get_within edges e (p, t) at_));
  },
)
  where
    at_end : (p : ℕ) → Points edges p (length edges) (length edges)
    at_end p = record {
      some = λ below. absurd (omega (arith, below));
      none = λ above e t at_. slice_get_within edges e (p, t) at_;
    }

module _ (edges : List (ℕ × ℕ)) (i from to : ℕ) (edge : Edge edges i from to) (first next : List ℕ)
    (low : from < length first)
    (chained : IsChained edges (i + 1) first next) where
  -- another note's first edge is unchanged
  points_on : (p x : ℕ) → p ≢ from → Points edges p (i + 1) x → Points edges p i x
  points_on p x n h = grind (arith, common_steps, same_Some)

  pub links : IsChained edges i (set first from i) (set next i (get_or first from 0))
  links =
      let within : i < length next = omega (arith, chained.each, slice_get_within edges i (from, to) edge) in
      let here : Points edges from i i = record {
        some = λ l. record { low = omega arith; below = l; edge = (to, edge); first = λ f t at_ m. m };
        none = λ l. absurd (omega (arith, slice_get_within edges i (from, to) edge));
      } in
      record {
        each = length-set next i (get_or first from 0) ∙ chained.each;
        first = λ p l. ⊎_elim
            (λ (e : p ≡ from). subst (Points edges p i)
            (sym (ap (λ z. get_or (set first from i) z 0) e ∙ get_or-set_same first from i 0 low))
            (subst (λ z. Points edges z i i) (sym e) here))
            (λ (n : p ≢ from). subst (Points edges p i) (sym (get_or-set_other first from p i 0 n))
            (points_on p (get_or first p 0) n (chained.first p (omega (arith, l, length-set first from i)))))
            (cases_eq p from);
        next = λ e p t l at_. ⊎_elim
            (λ (z : e ≡ i). let same_ : p ≡ from =
            ap (λ y. y.0) (same_Some _ _ (sym at_ ∙ ap (slice_get edges) z ∙ edge)) in
            subst (Points edges p (e + 1))
            (sym (ap (λ y. get_or (set next i (get_or first from 0)) y 0) z
            ∙ get_or-set_same next i (get_or first from 0) 0 within))
            (subst (λ y. Points edges y (e + 1) (get_or first from 0)) (sym same_)
            (subst (λ y. Points edges from (y + 1) (get_or first from 0)) (sym z) (chained.first from low))))
            (λ (n : e ≢ i). subst (Points edges p (e + 1)) (sym (get_or-set_other next i e (get_or first from 0) 0 n))
            (chained.next e p t (omega arith) at_))
            (cases_eq e i);
      }

-- the edge that a number denotes, unless the number means "none"
module _ (edges : List (ℕ × ℕ)) (p i x : ℕ) (points : Points edges p i x) where
  pub named_some : (o : Option ℕ) → IfSome o (λ e. (e ≡ x) × (e < length edges)) → IfSome o (IsNextOut edges p i)
  named_some None h = tt
  named_some (Some e) h =
      subst (IsNextOut edges p i) (sym h.0) (points.some (subst (λ z. z < length edges) h.0 h.1))

  pub named_none : (o : Option ℕ) → IfNone o (length edges ≤ x) → IfNone o (NoneOut edges p i)
  named_none None h = points.none h
  named_none (Some e) h = tt
