-- How a piece is prepared, or isn't: one lemma for each return.
use Rattle.std.proofs.Common.{◌≡◌, ℕ, List, [], Some, None, Ok, Err, refl, ap, sym, subst, ◌∙◌}
use Rattle.cs_base.specs.declared.refusal.Refusal.{Refusal}
use Rattle.cs_edge.specs.{Files.ShelfTold, Moves.SinkTold}
use Rattle.cs_piece.specs.Setups.{composition_of}
use Rattle.cs_arguments.specs.{Orders.asked_in, Orders.piece_in, Reading.Asked, Reading.Text, Reading.reading}
use Rattle.cs_command.specs.declared.reading.Unread.{Unread}
use Rattle.cs_play.specs.Preparing.{HasNoPiece, IsPrepared, IsRefused, IsUnprepared}
use Rattle.cs_play.specs.declared.preparing.Prepared.{Prepared}
use Rattle.cs_play.specs.inner.Faulted.{IsNotLoaded, name_in, load_status, unread_status}
use Rattle.cs_report.specs.{Status.refusal, Talk.Says, Talk.message_of, declared.status.Status.Status}
use Rattle.cs_source.specs.{Loaded.CannotRead, Loaded.IsLoaded, declared.loading.LoadFault.LoadFault}
use Rattle.cs_base.specs.declared.refusal.Refusal.TheVariants as why
use Rattle.cs_command.specs.declared.reading.Unread.TheVariants as unasked
use Rattle.cs_report.specs.declared.status.Status.TheVariants as status
use Rattle.cs_source.specs.declared.loading.LoadFault.TheVariants as unloaded

module _ {F : Type 0} (tells : F → ShelfTold) (words : List Text) (before now : F) where
  -- a piece for an order that the arguments ask for
  pub is_prepared : (p : Prepared) → reading words ≡ Some (asked_in p.order)
      → IsLoaded (tells before) (tells now) p.order.width (piece_in p.order.source) (Ok (composition_of p.setup))
      → IsPrepared tells words before now p
  is_prepared p e loaded = record { asked = e; loaded = loaded }

  -- THERE IS NO PIECE

  module _ (talk talk' : SinkTold) where
    abbrev Ends : Status → Type 0
    Ends s = IsUnprepared tells s words before now talk talk'

    -- the status is the one that was printed
    ends_as : (r s : Status) (name : List ℕ) → r ≡ s → HasNoPiece tells s name words before now
        → Says talk talk' (message_of r name) → Ends r
    ends_as r s name e cause says =
        let P : Status → Type 0 = λ x. HasNoPiece tells x name words before now in
        record { name = name; cause = subst P (sym e) cause; line = says }

    -- arguments that can't be read
    by_unread : (u : Unread) (r : Status) → r ≡ unread_status u → (u ≡ unasked.Usage → reading words ≡ None)
        → now ≡ before
        → Says talk talk' (message_of r []) → Ends r
    by_unread unasked.Usage r e none same says = ends_as r status.Usage [] e (none refl, same) says
    by_unread unasked.OutOfMemory r e none same says =
        ends_as r status.OutOfMemory [] e (ap (λ (s : F). (tells s).faults) same) says

    -- a refusal is the cause of its status
    by_refusal : (r : Refusal) (name : List ℕ) → IsRefused tells r words before now
        → HasNoPiece tells (refusal r) name words before now
    by_refusal (why.Csd f) name is = is
    by_refusal (why.Orc f) name is = is
    by_refusal (why.Score f) name is = is
    by_refusal (why.Limit h) name is = is

    -- a source that can't be read, or is refused
    module _ (asked : Asked) (e : reading words ≡ Some asked) where
      abbrev Refuses : Refusal → Type 0
      Refuses r = IsLoaded (tells before) (tells now) asked.width asked.piece (Err r)

      by_cause : (s : LoadFault)
          → ((r : Refusal) → s ≡ unloaded.Refused r → Refuses r)
          → ((name : _) → s ≡ unloaded.Unread name → CannotRead (tells before) (tells now) asked.piece name.now)
          → (s ≡ unloaded.OutOfMemory → (tells now).faults ≡ (tells before).faults)
          → HasNoPiece tells (load_status s) (name_in s) words before now
      by_cause (unloaded.Unread name) means unread calm = (asked, e, unread name refl)
      by_cause (unloaded.Refused r) means unread calm = by_refusal r [] (asked, e, means r refl)
      by_cause unloaded.OutOfMemory means unread calm = calm refl

      pub by_stop : (s : LoadFault) (r : Status) → IsNotLoaded s r talk talk'
          → ((q : Refusal) → s ≡ unloaded.Refused q → Refuses q)
          → ((name : _) → s ≡ unloaded.Unread name → CannotRead (tells before) (tells now) asked.piece name.now)
          → (s ≡ unloaded.OutOfMemory → (tells now).faults ≡ (tells before).faults)
          → IsUnprepared tells r words before now talk talk'
      by_stop s r h means unread calm =
          let P : Status → Type 0 = λ x. Says talk talk' (message_of x (name_in s)) in
          ends_as r (load_status s) (name_in s) h.status_is (by_cause s means unread calm)
          (subst P (sym h.status_is) h.line)

-- arguments that can't be read: the shelf received no call
pub unasked_ends : {F : Type 0} (tells : F → ShelfTold) (words : List Text) (shelf : F) (talk talk' : SinkTold)
    (u : Unread) (r t : Status)
    → r ≡ t → t ≡ unread_status u → (u ≡ unasked.Usage → reading words ≡ None) → Says talk talk' (message_of t [])
    → IsUnprepared tells r words shelf shelf talk talk'
unasked_ends tells words shelf talk talk' u r t e h none says =
    let P : Status → Type 0 = λ x. Says talk talk' (message_of x []) in
    by_unread tells words shelf shelf talk talk' u r (e ∙ h) none refl (subst P (sym e) says)
