-- The first seat after another was split off it, and after it has joined that one again.
use Rattle.std.proofs.lemmas.Grind.{common_steps}
use Rattle.std.proofs.Common.{◌≡◌, ℕ, suc, sym, ap, ◌∙◌, arith}
use Rattle.cs_board.specs.{Board.plan, Board.name, Board.view, Board.IsSeatOf, declared.board.Board.Board}
use Rattle.cs_board.specs.{declared.board.BoardSeat.BoardSeat, Views.given_view, Views.joined, Views.kept_view}
use Rattle.cs_board.specs.Views.{opening_view}
use Rattle.cs_board.specs.declared.view.{Plan.Plan, View.View}
use Rattle.cs_cells.specs.Meaning.{Meaning}
use Rattle.cs_pool.proofs.Numbers.{without_greatest}
use Rattle.cs_pool.specs.{Working.IsDone, Working.IsReady, Numbered.IsFirst, Numbered.down}

module _ {J : Type 0} where
  -- v before the split, w after it: w has one more seat out, with the highest number
  pub next_made : (v w : View J) → w ≡ kept_view v → w.made ≡ suc v.made
  next_made v w is = ap (λ x. x.made) is ∙ omega arith

  pub leads_kept : (v w : View J) → IsFirst v.made v → w ≡ kept_view v → IsFirst w.made w
  leads_kept v w h is = grind (arith, common_steps, next_made)

  -- k is the first seat's view, o the view of the seat that comes back, which was split off last
  pub leads_joined : (n : ℕ) (k o j : View J) → IsFirst (suc n) k → o.number ≡ n → j ≡ joined k o → IsFirst n j
  leads_joined n k o j h number joins = grind (arith, common_steps, without_greatest)

  -- the first seat when a cycle begins: no other was split off yet
  pub opened_leads : (v : View J) (k : Plan J) → v ≡ opening_view k → IsFirst v.made v
  opened_leads v k is = record {
    first = ap (λ w. w.first) is;
    out = ap (λ w. w.out) is ∙ ap down (sym (ap (λ w. w.made) is));
  }

module _ {J : Type 0} (M : Meaning J) (board : Board J) where
  pub ready_kept : (s t : BoardSeat J) → IsReady M board s → IsSeatOf M (plan board) (name board) t
      → view t ≡ kept_view (view s) → IsReady M board t
  ready_kept s t ready of is = grind (arith, common_steps)

  -- the first seat when a cycle begins
  pub opened_ready : (s : BoardSeat J) → IsSeatOf M (plan board) (name board) s → view s ≡ opening_view (plan board)
      → IsReady M board s
  opened_ready s of is = record {
    of = of;
    idle = record {
      doing = ap (λ v. v.doing) is;
      closing = ap (λ v. v.closing) is;
      moving = ap (λ v. v.moving) is;
    };
  }

  -- a seat that was split off has nothing to do yet
  pub given_done : (s : BoardSeat J) (v : View J) → IsSeatOf M (plan board) (name board) s → view s ≡ given_view v
      → IsDone M board s
  given_done s v of is = record {
    of = of;
    idle = record {
      doing = ap (λ w. w.doing) is;
      closing = ap (λ w. w.closing) is;
      moving = ap (λ w. w.moving) is;
    };
    owes = ap (λ w. w.owes) is;
  }

  -- the first seat is done after it has joined another one
  pub joined_done : (s t : BoardSeat J) (o : View J) → IsDone M board s → IsSeatOf M (plan board) (name board) t
      → view t ≡ joined (view s) o → IsDone M board t
  joined_done s t o done of is = record {
    of = of;
    idle = record {
      doing = ap (λ w. w.doing) is ∙ done.idle.doing;
      closing = ap (λ w. w.closing) is ∙ done.idle.closing;
      moving = ap (λ w. w.moving) is ∙ done.idle.moving;
    };
    owes = ap (λ w. w.owes) is ∙ done.owes;
  }
