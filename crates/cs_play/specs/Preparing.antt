-- What the arguments and the source that they ask for lead to before anything is performed: a piece, or the
-- reason why there is none.
use Rattle.std.specs.Prelude.{ℕ, ◌≡◌, ◌⊎◌, List, Some, None, Ok, Err}
use Rattle.cs_edge.specs.{Files.ShelfTold, Moves.SinkTold}
use Rattle.cs_piece.specs.Setups.{composition_of}
use Rattle.cs_base.specs.declared.refusal.Refusal.{Refusal}
use Rattle.cs_arguments.specs.{Orders.asked_in, Orders.piece_in, Reading.Asked, Reading.Text, Reading.reading}
use Rattle.cs_source.specs.Loaded.{CannotRead, IsLoaded, WasRead}
use Rattle.cs_report.specs.{Talk.Says, Talk.message_of, declared.status.Status.Status}
use Rattle.cs_play.specs.declared.preparing.Prepared.{Prepared}
use Rattle.cs_base.specs.declared.refusal.Refusal.TheVariants as why
use Rattle.cs_report.specs.declared.status.Status.TheVariants as status

-- the arguments ask for something for which P holds
abbrev pub Reads : List Text → (Asked → Type 0) → Type 0
Reads words P = (asked : Asked) × (reading words ≡ Some asked) × P asked

module _ {F : Type 0} (tells : F → ShelfTold) where
  -- The shelf received no call, or was read for the source in the arguments, completely or up to some point.
  abbrev pub IsReadFor : List Text → F → F → Type 0
  IsReadFor words before now = (now ≡ before) ⊎ Reads words (λ asked. WasRead (tells before) (tells now) asked.piece)

  -- A piece: the arguments ask for it, and its source means the composition of the setup.
  pub record IsPrepared (words : List Text) (before now : F) (p : Prepared) : Type 0 where
    pub asked : reading words ≡ Some (asked_in p.order)
    pub loaded : IsLoaded (tells before) (tells now) p.order.width (piece_in p.order.source)
        (Ok (composition_of p.setup))

  -- the source means this refusal
  abbrev pub IsRefused : Refusal → List Text → F → F → Type 0
  IsRefused r words before now =
      Reads words (λ asked. IsLoaded (tells before) (tells now) asked.width asked.piece (Err r))

  -- Why there is no piece, for each status. Usage: the arguments have no reading, and the shelf received no
  -- call. ShelfFault: `name`, the file opened last, can't be read. The refusals: the source means this
  -- refusal. OutOfMemory may happen at any time, without a failed call of the shelf.
  abbrev pub HasNoPiece : Status → List ℕ → List Text → F → F → Type 0
  HasNoPiece status.Usage name words before now = (reading words ≡ None) × (now ≡ before)
  HasNoPiece status.ShelfFault name words before now =
      Reads words (λ asked. CannotRead (tells before) (tells now) asked.piece name)
  HasNoPiece (status.OrcRefused f) name words before now = IsRefused (why.Orc f) words before now
  HasNoPiece (status.ScoreRefused f) name words before now = IsRefused (why.Score f) words before now
  HasNoPiece (status.Limit h) name words before now = IsRefused (why.Limit h) words before now
  HasNoPiece (status.CsdRefused f) name words before now = IsRefused (why.Csd f) words before now
  HasNoPiece status.OutOfMemory name words before now = (tells now).faults ≡ (tells before).faults
  HasNoPiece _ name words before now = ⊥

  -- No piece was made. `talk` has the line of the status, or a prefix of it if its count of faults rose.
  pub record IsUnprepared (s : Status) (words : List Text) (before now : F) (talk_before talk_now : SinkTold) : Type
      0 where
    pub name : List ℕ
    pub cause : HasNoPiece s name words before now
    pub line : Says talk_before talk_now (message_of s name)
