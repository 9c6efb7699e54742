-- What is known about the plan of a cycle that a desk opens.
use Rattle.std.proofs.lemmas.{Grind.common_steps, List.append_assoc, List.length-map}
use Rattle.std.proofs.Common.{◌≡◌, ℕ, ◌-◌, ◌≤◌, List, [], ◌∷◌, ◌++◌, map, length, drop, Some, refl, sym, ap, ◌∙◌, subst}
use Rattle.std.proofs.{Common.arith, Common.slice_get, Math.Seq.drop-append_seam}
use Rattle.std.proofs.lemmas.Option.{slice_get_within, get_or_from_slice_get}
use Rattle.std.specs.List.{All}
use Rattle.cs_base.specs.Limits.{most_resources}
use Rattle.cs_board.specs.{Built.IsBuilt, Resting.IsLaying, Resting.wide, Plans.IsPlan, Views.cells_laid}
use Rattle.cs_board.specs.{Views.plan_laid, declared.view.Plan.Plan, declared.view.Still.Still}
use Rattle.cs_desk.specs.inner.Resting.{plan_over}
use Rattle.cs_desk.proofs.Laying.{laid_plan}
use Rattle.cs_cells.specs.Areas.{IsLaid, word_count, IsFootprint}
use Rattle.cs_cells.specs.{Cells.values, Cells.signed, Meaning.Meaning, Serial.AllValid, declared.footprint.Area.Area}
use Rattle.cs_graph.specs.Graph.{Dependencies, IsFit, LeadsForward, StandTogether}

all_at : {A : Type 0} (P : A → Type 0) (xs : List A) (t : ℕ) (x : A) → All P xs → slice_get xs t ≡ Some x → P x
all_at P xs t x h at_ = subst P (get_or_from_slice_get xs t x x at_) (h t x (slice_get_within xs t x at_))

pub is_plan : {J : Type 0} (M : Meaning J) (areas : List Area) (graph : Dependencies) (jobs : List J) (k : Plan J)
    → k.notes ≡ length jobs → k.edges ≡ graph.edges
    → k.areas ≡ areas → k.jobs ≡ jobs → length k.cells ≡ word_count areas → LeadsForward graph.edges (length jobs)
    → ((t : ℕ) → StandTogether graph.edges t)
    → IsFit (map M.foot jobs) graph.edges → All (λ j. M.areas j ≡ areas) jobs
    → All (λ j. IsFootprint (length areas) (M.foot j)) jobs
    → AllValid M jobs → IsLaid areas → length areas ≤ most_resources → IsPlan M k
is_plan M areas graph jobs k n e a j c forward together fit same_areas feet valid laid few = record {
  jobs = ap length j ∙ sym n;
  forward = subst (λ z. LeadsForward z k.notes) (sym e) (subst (LeadsForward graph.edges) (sym n) forward);
  together = subst (λ z. (t : ℕ) → StandTogether z t) (sym e) together;
  fit = subst (λ z. IsFit (map M.foot z) k.edges) (sym j) (subst (IsFit (map M.foot jobs)) (sym e) fit);
  footprints = λ t x at_. subst (λ z. IsFootprint (length z) (M.foot x)) (sym a)
      (all_at (λ y. IsFootprint (length areas) (M.foot y)) jobs t x feet (ap (λ z. slice_get z t) (sym j) ∙ at_));
  layout = λ t x at_. all_at (λ y. M.areas y ≡ areas) jobs t x same_areas (ap (λ z. slice_get z t) (sym j) ∙ at_)
      ∙ sym a;
  valid = subst (AllValid M) (sym j) valid;
  laid = subst IsLaid (sym a) laid;
  few = subst (λ z. length z ≤ most_resources) (sym a) few;
  cells = c ∙ ap word_count (sym a);
}

-- the last job is taken out of the vector
got : {A : Type 0} (xs ys : List A) (x : A) → slice_get (xs ++ x ∷ ys) (length xs) ≡ Some x
got [] ys x = refl
got (z ∷ xs) ys x = got xs ys x

pub popped : {A : Type 0} (X jobs others : List A) (job : A) → (jobs ++ job ∷ []) ++ others ≡ X
    → (jobs ++ drop (length jobs) X ≡ X) × (slice_get X (length jobs) ≡ Some job)
popped X jobs others job e = grind (arith, common_steps, append_assoc, drop-append_seam, got)

module _ {J : Type 0} where
  -- the plan of a desk with this number of words
  abbrev desk_plan : List Area → Still J → ℕ → Dependencies → List J → Plan J
  desk_plan areas w words graph jobs = record {
    notes = length jobs;
    edges = graph.edges;
    areas = areas;
    jobs = jobs;
    cells = values (cells_laid areas w);
    spare = words - wide areas (length jobs) (length graph.edges);
  }

  -- what was laid out follows a graph that was lent, which is the cycle's
  module _ (areas a1 : List Area) (w w1 : Still J) (lent graph : Dependencies) (jobs : List J) (same : lent ≡ graph)
      (same_areas : a1 ≡ areas) (h : IsLaying (plan_over areas w lent jobs) 0 (length lent.edges) w1)
      (cells : length (cells_laid areas w) ≡ word_count areas) where
    laid_now : IsLaying (plan_over areas w graph jobs) 0 (length graph.edges) w1
    laid_now = subst (λ z. IsLaying (plan_over areas w z jobs) 0 (length z.edges) w1) same h

    laid_over : plan_laid a1 w1 graph ≡ plan_over areas w graph jobs
    laid_over =
        laid_plan (plan_over areas w graph jobs) (length graph.edges) w1 a1 graph laid_now (sym same_areas) refl refl
        (length-map (cells_laid areas w) signed ∙ cells ∙ ap word_count (sym same_areas))

    pub begin_laid : IsLaying (plan_laid a1 w1 graph) 0 (length graph.edges) w1
    begin_laid = subst (λ k. IsLaying k 0 (length graph.edges) w1) (sym laid_over) laid_now

    -- the plan that is laid out is the desk's plan
    pub begin_plan : (words : ℕ) → length w.words ≡ words → plan_laid a1 w1 graph ≡ desk_plan areas w words graph jobs
    begin_plan words count = laid_over
        ∙ ap (λ n. record (plan_over areas w graph jobs) { spare = n - wide areas (length jobs) (length graph.edges) })
        count

  pub begin_built : (areas : List Area) (w : Still J) (words slots : ℕ) (graph : Dependencies) (jobs : List J)
      (k : Plan J) (n r c : ℕ) → k ≡ desk_plan areas w words graph jobs
      → length (cells_laid areas w) ≡ word_count areas → length graph.levels ≡ length jobs → n ≡ length graph.levels
      → length areas ≡ r → word_count areas ≡ c
      → length jobs ≤ slots → wide areas (length jobs) (length graph.edges) ≤ words → IsBuilt k graph n r c words slots
  begin_built areas w words slots graph jobs k n r c is cells levels n_is r_is c_is slots_are words_are =
      grind (arith, common_steps, length-map)
