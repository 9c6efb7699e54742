-- A seat during a call, and after it.
use Rattle.std.proofs.lemmas.Option.{same_Some}
use Rattle.std.proofs.Common.{◌≡◌, ℕ, ◌<◌, ◌≤◌, [], true, false, Option, Some, None, sym, ap, ◌∙◌, subst, IfSome}
use Rattle.std.proofs.Common.{IfNone, MatchOption}
use Rattle.std.specs.Vec.{vec_capacity}
use Rattle.atomic_table.specs.{Seated.TableId, declared.shared.Seat.Seat}
use Rattle.cs_board.specs.Board.{plan, name, view, note_in, note_of, HasRoom, IsViewOf, IsSeatOf, IsIdle, IsClaimed}
use Rattle.cs_board.specs.{Views.fresh, Views.began, inner.Sittings.HasClaimed, inner.Sittings.IsSittingOf}
use Rattle.cs_board.specs.{declared.board.Board.Board, declared.board.BoardSeat.BoardSeat, declared.view.Berth.Berth}
use Rattle.cs_board.specs.{declared.view.Doing.Doing, declared.view.Plan.Plan, declared.view.View.View}
use Rattle.cs_cells.specs.Meaning.{Meaning}
use Rattle.cs_board.proofs.Stepping.{place_after}

-- a view that does a note does no other note
pub note_here : (o : Option Doing) (e : Doing) (n m : ℕ) → o ≡ Some e → e.note ≡ n → n < m
    → (d : Doing) → o ≡ Some d → (d.note ≡ n) × (d.note < m)
note_here o e n m h is low d f = let x : e ≡ d = same_Some _ _ (sym h ∙ f) in
    (ap (λ z. z.note) (sym x) ∙ is, subst (λ z. z < m) (sym is ∙ ap (λ z. z.note) x) low)

pub none_here : (o : Option Doing) (n m : ℕ) → o ≡ None → (d : Doing) → o ≡ Some d → (d.note ≡ n) × (d.note < m)
none_here o n m h d f = absurd (let x : None ≡ Some d = sym h ∙ f in cc)

module _ {J : Type 0} where
  pub room_kept : (k : Plan J) (v w : View J) (seat : BoardSeat J) → HasRoom k v seat → w.first ≡ v.first
      → HasRoom k w seat
  room_kept k v w seat h first =
      subst (λ b. MatchOption seat.room (b ≡ false) (λ z. (b ≡ true) × (z.items ≡ []) × (k.notes ≤ vec_capacity z)))
      (sym first) h

module _ {J : Type 0} (M : Meaning J) where
  -- after a step that changes neither what the seat does nor whether it is the first
  pub may_rise : (b : Board J) (seat at : BoardSeat J) (s s' : Seat (Berth J) (View J)) (w : View J)
      → IsSeatOf M (plan b) (name b) seat → IsSittingOf M b s → s.me ≡ (view seat, []) → HasRoom (plan b) (view seat) at
      → at.note ≡ seat.note → s'.table_id ≡ s.table_id → s'.me ≡ (w, s.me.1) → IsViewOf (plan b) w
      → w.doing ≡ s.me.0.doing → w.first ≡ s.me.0.first
      → IsSittingOf M b s' × (s'.me.1 ≡ []) × ((d : Doing) → s'.me.0.doing ≡ Some d → (d.note ≡ at.note)
      × (d.note < (plan b).notes)) × HasRoom (plan b) s'.me.0 at
  may_rise b seat at s s' w h sat was room note table me knows doing first = (
    place_after M b s s' w s.me.1 sat table me knows,
    ap (λ z. z.1) me ∙ ap (λ z. z.1) was,
    λ d e. let n = h.note d (sym (ap (λ z. z.0.doing) me ∙ doing ∙ ap (λ z. z.0.doing) was) ∙ e) in
        (n.0 ∙ sym note, n.1),
    room_kept (plan b) (view seat) s'.me.0 at room (ap (λ z. z.0.first) me ∙ first ∙ ap (λ z. z.0.first) was),
  )

  module _ (k : Plan J) where
    -- a try that won a note
    pub began_has : (v : View J) (t : ℕ) → IsViewOf k v → IsIdle v → t < k.notes → HasClaimed M k (began M v t) t
    began_has v t h idle low = record {
      within = low;
      doing = λ i. Some (fresh M (h.plan i) t);
      closing = idle.closing;
      moving = idle.moving;
    }

    pub note_won : (o : Option ℕ) (v : View J) (n : ℕ) (P : Type 0) → IfSome o (HasClaimed M k v)
        → IfNone o (IsIdle v × P) → IfSome o (λ t. n ≡ t) → (d : Doing) → v.doing ≡ Some d
        → (d.note ≡ n) × (d.note < k.notes)
    note_won None v n P some none is = none_here v.doing n k.notes none.0.doing
    note_won (Some t) v n P some none is =
        note_here v.doing (fresh M k t) n k.notes some.doing (sym is) (subst (λ z. z < k.notes) (sym is) some.within)

    pub won_claimed : (o : Option ℕ) (v : View J) → v.plan ≡ k → IfSome o (HasClaimed M k v)
        → IfSome o (λ t. IsClaimed M v × (note_of v ≡ t) × (t < k.notes))
    won_claimed None v p h = tt
    won_claimed (Some t) v p h = (
      record {
        doing = h.doing ∙ sym (λ i. Some (fresh M (p i) (note_in (h.doing i))));
        closing = h.closing;
        moving = h.moving;
      },
      ap note_in h.doing,
      h.within,
    )

    -- what a seat does, it does for the note that it stores
    pub does_here : (f : Plan J → ℕ → Doing) → ((p : Plan J) (t : ℕ) → (f p t).note ≡ t) → (id : TableId)
        (seat : BoardSeat J) → IsSeatOf M k id seat
        → (view seat).doing ≡ Some (f (view seat).plan (note_of (view seat)))
        → ((view seat).doing ≡ Some (f k seat.note)) × (seat.note < k.notes)
    does_here f named id seat h e =
        let v = view seat in
        let n = h.note (f v.plan (note_of v)) e in
        let is : note_of v ≡ seat.note = sym (named v.plan (note_of v)) ∙ n.0 in
        (e ∙ (λ i. Some (f (h.knows.plan i) (is i))), subst (λ z. z < k.notes) n.0 n.1)
