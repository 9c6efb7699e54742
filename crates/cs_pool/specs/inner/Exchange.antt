-- The rule of a mailbox: the invariant between any two steps of its two ends, whatever the interleaving. M is
-- what jobs mean, w the mailbox's word, h the content of its slot (none while an end has taken it), c and d
-- what the caller and the helper know, e what is out, s the state of the mailbox.
use Rattle.std.specs.Prelude.{◌≡◌, ◌≢◌, ◌⊎◌, ℕ, [], ◌∷◌, Some, None, MatchOption}
use mathlib.Core.Option.{some, none}
use Rattle.atomic_table.specs.Table.{State}
use Rattle.cs_board.specs.declared.board.BoardSeat.{BoardSeat}
use Rattle.cs_cells.specs.Meaning.{Meaning}
use Rattle.cs_pool.specs.{Working.IsDone, Working.IsThrough, Letters.errand_of, Letters.no_tasks}
use Rattle.cs_pool.specs.{declared.letter.MailboxLetter.MailboxLetter, declared.letter.Task.Task}
use Rattle.cs_pool.specs.{declared.view.Errand.Errand, declared.view.Knows.Knows, declared.view.Role.Role}
use Rattle.cs_pool.specs.declared.letter.TheConstants.{EMPTY, GIVEN, TAKEN, BACK, OVER}
use Rattle.cs_pool.specs.declared.view.Role.TheVariants.{Maker, Holder, Caller, Helper}
use mathlib.Core.Option as maybe
use Rattle.cs_pool.specs.declared.letter.MailboxLetter.TheVariants as letter

module _ {J : Type 0} where
  -- the view of the first end of a mailbox that is being made
  abbrev pub beginning : Role → Knows J
  beginning r = record { role = r; out = None; tasks = no_tasks }

module _ {J : Type 0} (M : Meaning J) where
  -- The task is in the slot, and the helper hasn't begun it: its seat and its board are those that are out,
  -- and the seat owes nothing.
  pub record IsGiven (w : ℕ) (h : maybe.Option (MailboxLetter J)) (e : Errand J) : Type 0 where
    pub word : w ≡ GIVEN
    pub task : Task J
    pub home : h ≡ some (letter.Task task)
    pub same : errand_of task ≡ e
    pub ready : IsDone M e.board e.seat

  -- The helper has taken the task out of the slot.
  pub record IsTaken (w : ℕ) (h : maybe.Option (MailboxLetter J)) : Type 0 where
    pub word : w ≡ TAKEN
    pub home : h ≡ none

  -- The answer is in the slot: it is the seat that is out, after its work.
  pub record IsBack (w : ℕ) (h : maybe.Option (MailboxLetter J)) (e : Errand J) : Type 0 where
    pub word : w ≡ BACK
    pub answer : BoardSeat J
    pub home : h ≡ some (letter.Answer answer)
    pub through : IsThrough M e.board e.seat answer

  -- Nothing is out, and the caller has the slot.
  pub record IsHome (w : ℕ) (h : maybe.Option (MailboxLetter J)) : Type 0 where
    pub word : (w ≡ EMPTY) ⊎ (w ≡ OVER)
    pub home : h ≡ none

  -- What is out was given, or then taken, or then brought back.
  abbrev pub IsAbroad : ℕ → maybe.Option (MailboxLetter J) → Errand J → Type 0
  IsAbroad w h e = IsGiven w h e ⊎ (IsTaken w h ⊎ IsBack w h e)

  -- What is out, the word and the slot agree with the views of the two ends.
  pub record Facts (w : ℕ) (h : maybe.Option (MailboxLetter J)) (c d : Knows J) : Type 0 where
    pub roles : (c.role ≡ Caller) × (d.role ≡ Helper)
    -- the word is GIVEN, TAKEN or BACK if and only if the caller knows of a seat that is out
    pub out : MatchOption c.out (IsHome w h) (IsAbroad w h)
    -- the word is TAKEN if and only if the helper works at a seat, and this is the seat that is out
    pub duty : MatchOption d.out (w ≢ TAKEN) (λ e. (w ≡ TAKEN) × (c.out ≡ Some e))

  -- The mailbox has its two ends.
  pub record IsShared (s : State (MailboxLetter J) (Knows J)) : Type 0 where
    pub word : ℕ
    pub home : maybe.Option (MailboxLetter J)
    pub caller : Knows J
    pub helper : Knows J
    pub words : s.words ≡ word ∷ []
    pub homes : s.homes ≡ home ∷ []
    pub views : s.views ≡ caller ∷ helper ∷ []
    pub facts : Facts word home caller helper

module _ {J : Type 0} where
  -- The mailbox has one end so far, and the content of its slot is there, or with that end.
  pub record IsBegun (r : Role) (h : maybe.Option (MailboxLetter J)) (s : State (MailboxLetter J) (Knows J)) : Type
      0 where
    pub words : s.words ≡ EMPTY ∷ []
    pub homes : s.homes ≡ h ∷ []
    pub views : s.views ≡ beginning r ∷ []

-- The mailbox is being made, or has its two ends.
abbrev pub Always : {J : Type 0} → Meaning J → State (MailboxLetter J) (Knows J) → Type 0
Always M s = IsBegun Maker (some letter.Nothing) s ⊎ (IsBegun Holder none s ⊎ IsShared M s)
