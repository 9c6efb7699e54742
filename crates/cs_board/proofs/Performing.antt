-- A view of which only the image changed, and the note that has run.
use Rattle.std.proofs.lemmas.{Grind.common_steps, Option.same_Some}
use Rattle.std.proofs.Common.{◌≡◌, ℕ, suc, ◌+◌, Option, Some, sym, ap, ◌∙◌, subst, arith, slice_get, true, ◌||◌}
use Rattle.atomic_table.specs.declared.shared.Seat.{Seat}
use Rattle.cs_board.specs.inner.Banks.{imageless, frame_of, IsAtWork}
use Rattle.cs_board.specs.{Board.plan, Board.IsViewOf, inner.Sittings.deed, inner.Sittings.IsSittingOf}
use Rattle.cs_board.specs.{declared.board.Board.Board, Views.does, declared.view.Berth.Berth, declared.view.Doing.Doing}
use Rattle.cs_board.specs.{declared.view.Plan.Plan, declared.view.View.View}
use Rattle.cs_cells.specs.{Cells.Cells, Cells.covers, Meaning.Meaning, Meaning.Uses, Meaning.Writes}
use Rattle.cs_cells.proofs.SerialRun.{before-suc}
use Rattle.cs_board.specs.Plans.{IsPlan, before_at, uses_at, writes_at, uses_of, writes_of}

module _ {J : Type 0} where
  same_but : (v w : View J) (o : Option Doing) → w.doing ≡ o → imageless w ≡ imageless v → w ≡ record v { doing = o }
  same_but v w o e h = λ i. record (h i) { doing = e i }

  pub reimage : (v w : View J) (d : Doing) (X : Cells) → v.doing ≡ Some d → imageless w ≡ imageless v
      → (deed w).image ≡ X → w ≡ does v (record d { image = X })
  reimage v w d X doing h image = grind (arith, common_steps, same_Some, same_but)

  -- a view that knows the board's plan knows it with any image
  pub view_bare : (k : Plan J) (v : View J) → IsViewOf k v → IsViewOf k (imageless v)
  view_bare k v h = record { plan = h.plan; live = h.live; owes_in = h.owes_in; playing = h.playing }

-- a seat that does a note is at work, with any image
pub works_at : {J : Type 0} (M : Meaning J) (board : Board J) (sitting : Seat (Berth J) (View J)) (name : ℕ) (d : Doing)
    → IsSittingOf M board sitting → sitting.me.0.doing ≡ Some d → IsAtWork M (frame_of board sitting name)
works_at M board sitting name d h doing = grind (arith, common_steps, view_bare)

module _ {J : Type 0} (M : Meaning J) (k : Plan J) (whole : IsPlan M k) (t : ℕ) (j : J)
    (at_ : slice_get k.jobs t ≡ Some j) where
  pub used_of : (a : ℕ) → Uses M j a → uses_at M k t a ≡ true
  used_of a u = subst (λ o. (covers k.areas (uses_of M o) a || covers k.areas (writes_of M o) a) ≡ true) (sym at_)
      (subst (λ z. (covers z (M.foot j).uses a || covers z (M.foot j).writes a) ≡ true) (whole.layout t j at_) u)

  pub written_of : (a : ℕ) → Writes M j a → writes_at M k t a ≡ true
  written_of a u = subst (λ o. covers k.areas (writes_of M o) a ≡ true) (sym at_)
      (subst (λ z. covers z (M.foot j).writes a ≡ true) (whole.layout t j at_) u)

  pub leaves_is : M.leaves j (before_at M k t) ≡ before_at M k (t + 1)
  leaves_is = sym (before-suc M k.jobs k.cells t j at_) ∙ (let e : suc t ≡ t + 1 = omega arith in ap (before_at M k) e)
