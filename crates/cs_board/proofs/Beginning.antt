-- The words with which a cycle begins, and its first seat.
use Rattle.std.proofs.Common.{◌≡◌, ◌≤◌, [], ◌∷◌, MatchOption, true, false, Some, None, refl, sym, ap, ◌∙◌, subst, arith}
use Rattle.std.proofs.Common.{ext_get_or}
use Rattle.std.specs.Vec.{vec_capacity}
use Rattle.atomic_table.specs.Seated.{TableId}
use Rattle.cs_board.specs.Board.{view, first_of, IsViewOf, HasRoom, IsSeatOf}
use Rattle.cs_board.specs.{Resting.IsLaying, declared.board.BoardSeat.BoardSeat, Plans.IsPlan, Plans.edge_count}
use Rattle.cs_board.specs.{Views.opening_view, Words.all_words, declared.view.Plan.Plan, declared.view.Still.Still}
use Rattle.cs_cells.specs.Meaning.{Meaning}
use Rattle.cs_board.specs.Opening.{each_below, first_status, first_watch, opening_words}
use Rattle.cs_board.proofs.Opening.{length-each_below, at_each_below, roots_within}

module _ {J : Type 0} (k : Plan J) where
  -- a cycle that is laid out can begin
  module _ (w : Still J) (h : IsLaying k 0 (edge_count k) w) where
    pub all_laid : w.words ≡ all_words (opening_words k h.parts.cells h.parts.spare)
    all_laid =
        let status : h.parts.status ≡ each_below (first_status k.edges) k.notes =
        ext_get_or 0 h.parts.status (each_below (first_status k.edges) k.notes)
        (h.sized.status ∙ sym (length-each_below (first_status k.edges) k.notes))
        (λ i l. h.status i (omega arith) (omega (arith, l, h.sized.status))
        ∙ sym (at_each_below (first_status k.edges) k.notes i (omega (arith, l, h.sized.status)))) in
        let own : h.parts.own ≡ each_below (λ t. 0) k.notes = ext_get_or 0 h.parts.own (each_below (λ t. 0) k.notes)
        (h.sized.own ∙ sym (length-each_below (λ t. 0) k.notes))
        (λ i l. h.own i (omega arith) (omega (arith, l, h.sized.own))
        ∙ sym (at_each_below (λ t. 0) k.notes i (omega (arith, l, h.sized.own)))) in
        let watch : h.parts.watch ≡ each_below (first_watch k.edges) (edge_count k) =
        ext_get_or 0 h.parts.watch (each_below (first_watch k.edges) (edge_count k))
        (h.sized.watch ∙ sym (length-each_below (first_watch k.edges) (edge_count k)))
        (λ i l. h.watch i (omega (arith, l, h.sized.watch)) (omega (arith, l, h.sized.watch))
        ∙ sym (at_each_below (first_watch k.edges) (edge_count k) i (omega (arith, l, h.sized.watch)))) in
        h.words ∙ (λ i. all_words (record {
          cells = h.parts.cells;
          turns = h.turns i;
          status = status i;
          own = own i;
          watch = watch i;
          spare =
              h.parts.spare;
        }))

pub opening_knows : {J : Type 0} (k : Plan J) → IsViewOf k (opening_view k)
opening_knows k = record { plan = refl; live = refl; owes_in = roots_within k.edges k.notes; playing = refl }

module _ {J : Type 0} where
  -- the first seat of a board
  pub first_seat : (M : Meaning J) (k : Plan J) (id : TableId) (seat : BoardSeat J) (jobs : _) → IsPlan M k
      → seat.badge.table_id ≡ id → seat.badge.views ≡ opening_view k ∷ []
      → seat.room ≡ Some jobs → jobs.items ≡ [] → k.notes ≤ vec_capacity jobs
      → IsSeatOf M k id seat × (view seat ≡ opening_view k)
  first_seat M k id seat jobs whole table views room empty long =
      let sees : view seat ≡ opening_view k = ap first_of views in (
        record {
          whole = whole;
          table = table;
          one = views ∙ ap (λ v. v ∷ []) (sym sees);
          knows = subst (IsViewOf k) (sym sees) (opening_knows k);
          note = λ d e. absurd (let n : None ≡ Some d = ap (λ v. v.doing) (sym sees) ∙ e in cc);
          room = subst (λ v. HasRoom k v seat) (sym sees)
              (subst (λ r. MatchOption r (true ≡ false) (λ z. (true ≡ true) × (z.items ≡ [])
              × (k.notes ≤ vec_capacity z))) (sym room) (refl, empty, long));
        },
        sees,
      )
