-- What the calls of a mailbox promise about its two ends. No other thread has an end of it, so what is out is
-- known at every moment: the caller can't give out a seat of an earlier cycle, nor begin a cycle while a
-- helper still has its share of the last one.
use Rattle.std.specs.Prelude.{◌≡◌, ◌+◌, ℕ, [], ◌∷◌, Option, Some, None, IfSome, IfNone}
use Rattle.std.specs.Int.{from_bool}
use Rattle.cs_board.specs.{declared.board.Board.Board, declared.board.BoardSeat.BoardSeat}
use Rattle.cs_cells.specs.Meaning.{Meaning}
use Rattle.cs_pool.specs.{Letters.errand, Letters.caller, Letters.helper, declared.mailbox.CallerEnd.CallerEnd}
use Rattle.cs_pool.specs.{declared.mailbox.HelperEnd.HelperEnd, declared.mailbox.Mailbox.Mailbox}
use Rattle.cs_pool.specs.{declared.mailbox.Returned.Returned, declared.view.Tasks.Tasks, Working.IsThrough}
use Rattle.cs_pool.specs.declared.letter.MailboxLetter.TheVariants.{Nothing}

module _ {J : Type 0} where
  -- the helper's tasks so far, as the caller's end knows
  abbrev pub tasks : CallerEnd J → Tasks
  tasks end = end.seat.me.0.tasks

  -- how many tasks the helper was given
  abbrev pub given : CallerEnd J → ℕ
  given end = (tasks end).given

  -- how many tasks the helper has begun and given back
  abbrev pub served : CallerEnd J → ℕ
  served end = (tasks end).served

  -- the caller's end of this mailbox: nothing is out, and it has the slot, so that it can give a task
  -- immediately
  pub record HasNothingOut (box : Mailbox J) (end : CallerEnd J) : Type 0 where
    pub table : end.seat.table_id ≡ box.table.shared.table_id
    pub me : end.seat.me ≡ (caller (tasks end) None, (0, Nothing) ∷ [])

  -- the caller's end of this mailbox: this seat of this board is out
  pub record HasOut (box : Mailbox J) (end : CallerEnd J) (board : Board J) (seat : BoardSeat J) : Type 0 where
    pub table : end.seat.table_id ≡ box.table.shared.table_id
    pub me : end.seat.me ≡ (caller (tasks end) (Some (errand board seat)), [])

  -- the caller's end of this mailbox: some seat of some board is out
  pub record HasSomethingOut (box : Mailbox J) (end : CallerEnd J) : Type 0 where
    pub board : Board J
    pub seat : BoardSeat J
    pub out : HasOut box end board seat

  -- the helper's end of this mailbox: the helper is free
  pub record IsFree (box : Mailbox J) (end : HelperEnd J) : Type 0 where
    pub table : end.seat.table_id ≡ box.table.shared.table_id
    pub me : end.seat.me ≡ (helper None, [])

  -- the helper's end of this mailbox: the helper works at this seat of this board, and has the slot for its
  -- answer
  pub record IsOnDuty (box : Mailbox J) (end : HelperEnd J) (board : Board J) (seat : BoardSeat J) : Type 0 where
    pub table : end.seat.table_id ≡ box.table.shared.table_id
    pub me : end.seat.me ≡ (helper (Some (errand board seat)), (0, Nothing) ∷ [])

module _ {J : Type 0} (M : Meaning J) where
  -- The caller looked for what was out; the mailbox and its end are box' and end' afterwards. The seat
  -- belongs to the caller again, after the helper's work or as it was given, or it is still out.
  pub record LooksFor (box box' : Mailbox J) (end end' : CallerEnd J) (found : Option (Returned J)) : Type 0 where
    pub some : (b : Board J) (s : BoardSeat J) → HasOut box end b s → IfSome found (λ r. IsThrough M b s r.seat)
    pub home : IfSome found (λ _. HasNothingOut box' end')
    pub none : (b : Board J) (s : BoardSeat J) → HasOut box end b s → IfNone found (HasOut box' end' b s)
    -- one more task was served if the helper had begun it, and none was given
    pub counted : IfSome found (λ r. (served end' ≡ served end + from_bool r.begun) × (given end' ≡ given end))
    pub same : IfNone found (tasks end' ≡ tasks end)
