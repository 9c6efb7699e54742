-- What each kind of step on a mailbox lets the end that makes it know. st is the step, m the end before it, r
-- the word that was found, n the end after it; e is what is out, t a task, s a seat. M is what jobs mean.
use Rattle.std.specs.Prelude.{◌≡◌, ◌≢◌, ℕ, [], ◌∷◌, Some, None, IfSome}
use Rattle.std.specs.Arc.{arc_value}
use Rattle.atomic_table.specs.Table.{Me, Step}
use Rattle.cs_board.specs.declared.board.BoardSeat.{BoardSeat}
use Rattle.cs_cells.specs.Meaning.{Meaning}
use Rattle.cs_pool.specs.{Working.IsDone, Working.IsThrough, inner.Exchange.beginning, declared.letter.Task.Task}
use Rattle.cs_pool.specs.{declared.view.Knows.Knows, declared.view.Role.TheVariants.Holder}
use Rattle.cs_pool.specs.Letters.{errand_of, task_in, caller, helper, one_given, one_served}
use Rattle.cs_pool.specs.declared.letter.MailboxLetter.{MailboxLetter}
use Rattle.cs_pool.specs.declared.letter.TheConstants.{GIVEN, BACK}
use Rattle.cs_pool.specs.declared.letter.MailboxLetter.TheVariants as letter

-- an end's view with the slots that it has taken
abbrev pub Sat : Type 0 → Type 0
Sat J = Me (MailboxLetter J) (Knows J)

-- a relation between a step, the end before it, the word found and the end after it
abbrev pub Tells : Type 0 → Type 1
Tells J = Step (MailboxLetter J) → Sat J → ℕ → Sat J → Type 0

module _ {J : Type 0} where
  -- the first end takes the content of the slot
  abbrev pub fetched : Tells J
  fetched st m r n = n ≡ (beginning Holder, (0, letter.Nothing) ∷ [])

  -- the task that the caller has written into the slot is out, and counts as given
  abbrev pub gave : Tells J
  gave st m r n = n ≡ (caller (one_given m.0.tasks) (task_in m.1), [])

  -- the helper's answer is in the slot, and the helper is free again
  abbrev pub gave_back : Tells J
  gave_back st m r n = n ≡ (helper None, [])

  -- the caller knows what it knew before
  abbrev pub closed : Tells J
  closed st m r n = n ≡ m

module _ {J : Type 0} (M : Meaning J) where
  -- the helper found a task and works at it, or found none
  abbrev pub took : Tells J
  took st m r n =
      (r ≡ GIVEN → (t : Task J) × (n ≡ (helper (Some (errand_of t)), (0, letter.Task t) ∷ []))
      × IsDone M (arc_value t.board) t.seat)
      × (r ≢ GIVEN → n ≡ m)

  -- the caller found the seat that was out, after its work, so that one more task counts as served, or found
  -- no answer
  abbrev pub collected : Tells J
  collected st m r n =
      (r ≡ BACK → (s : BoardSeat J) × (n ≡ (caller (one_served m.0.tasks) None, (0, letter.Answer s) ∷ []))
      × IfSome m.0.out (λ e. IsThrough M e.board e.seat s))
      × (r ≢ BACK → n ≡ m)

  -- the caller found the task as it was given, or found it taken
  abbrev pub withdrew : Tells J
  withdrew st m r n =
      (r ≡ GIVEN → (t : Task J) × (n ≡ (caller m.0.tasks None, (0, letter.Task t) ∷ []))
      × IfSome m.0.out (λ e. (t.seat ≡ e.seat) × IsDone M e.board e.seat))
      × (r ≢ GIVEN → n ≡ m)
