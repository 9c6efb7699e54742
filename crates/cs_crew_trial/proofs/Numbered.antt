-- Areas of the control variables 0, 1, 2 and so on, one after another.
use Rattle.std.proofs.Common.{◌≡◌, ℕ, ◌+◌, List, [], ◌∷◌, ◌++◌, length, slice_get, Some, refl, sym, ◌∙◌, ap, ⊎_elim}
use Rattle.std.proofs.Common.{arith}
use Rattle.std.proofs.lemmas.{List.Sums.sum_by_push, Option.slice_get_within}
use Rattle.cs_base.specs.declared.resource.Res.TheVariants.{Gk}
use Rattle.cs_cells.specs.{declared.footprint.Area.Area, Areas.IsLaid, Areas.word_count}
use Rattle.cs_cells.proofs.Laid.{laid_none, laid_more, at_push}

pub record Numbered (areas : List Area) (first : ℕ) : Type 0 where
  pub laid : IsLaid areas
  pub end : first ≡ word_count areas
  pub named : (place : ℕ) (a : Area) → slice_get areas place ≡ Some a → a.res ≡ Gk place

pub numbered_more : (areas : List Area) (first n last : ℕ) → length areas ≡ n → Numbered areas first → (a : Area)
    → a.res ≡ Gk n → a.first ≡ first → last ≡ first + a.length → Numbered (areas ++ a ∷ []) last
numbered_more areas first n last long so_far a named at end = record {
  laid = laid_more areas a so_far.laid (at ∙ so_far.end)
      (λ place h. let same : Gk place ≡ Gk n = sym (so_far.named place h.0 h.1) ∙ h.2 ∙ named in let equal : place ≡ n =
      cc in omega (arith, slice_get_within areas place h.0 h.1));
  end = let grown : word_count (areas ++ a ∷ []) ≡ word_count areas + a.length =
      sum_by_push (λ x. x.length) areas a in omega (arith, so_far.end);
  named = λ place b here. ⊎_elim (λ front. so_far.named place b front.0)
      (λ back. ap (λ x. x.res) back.1 ∙ named ∙ ap Gk (sym (back.0 ∙ long))) (at_push areas a place b here);
}
