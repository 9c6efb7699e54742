use Rattle.std.specs.Prelude.{ℕ, ◌≡◌, ◌≤◌, ◌⊎◌, Bool, true, false, List, [], ◌∷◌, ◌++◌, replicate, Option, None, Some}
use Rattle.cs_edge.specs.{declared.moves.Move.Move, Told.Follows, Told.IsFront, Told.Rose}
use Rattle.cs_edge.specs.declared.moves.Move.TheVariants.{Begin, Write, End}

-- the list has grown by this call
abbrev pub GrownBy : Move → List Move → List Move → Type 0
GrownBy move before now = now ≡ before ++ move ∷ []

-- the list has grown by calls that satisfy P
abbrev pub Grown : (List Move → Type 0) → List Move → List Move → Type 0
Grown P before now = (more : List Move) × P more × (now ≡ before ++ more)

-- any number of the same call, possibly none
abbrev pub AreAll : Move → List Move → Type 0
AreAll move moves = (k : ℕ) × (moves ≡ replicate k move)

-- a `begin` with this name, and then any number of the other call
abbrev pub IsRun : List ℕ → Move → List Move → Type 0
IsRun name move moves = (k : ℕ) × (moves ≡ Begin name ∷ replicate k move)

-- the calls for an entire file: a `begin` with its name, writes, and an `end`
abbrev pub IsWhole : List ℕ → List Move → Type 0
IsWhole name moves = (k : ℕ) × (moves ≡ (Begin name ∷ replicate k Write) ++ End ∷ [])

-- the calls are a prefix of a list that satisfies P
abbrev pub IsFrontOf : (List Move → Type 0) → List Move → Type 0
IsFrontOf P moves = (whole : List Move) × P whole × IsFront moves whole

-- the contents of a sink: the name begun, the bytes taken since, and whether an `end` has succeeded since
pub record Held : Type 0 where
  pub name : Option (List ℕ)
  pub bytes : List ℕ
  pub ended : Bool

-- no file
abbrev pub no_file : Held
no_file = record { name = None; bytes = []; ended = false }

-- a file with this name and these bytes, not ended
abbrev pub open_file : List ℕ → List ℕ → Held
open_file name bytes = record { name = Some name; bytes = bytes; ended = false }

-- a file with this name and these bytes, ended
abbrev pub ended_file : List ℕ → List ℕ → Held
ended_file name bytes = record { name = Some name; bytes = bytes; ended = true }

-- a sink has taken these further bytes
abbrev pub TakenMore : List ℕ → Held → Held → Type 0
TakenMore bytes before now = now ≡ record { name = before.name; bytes = before.bytes ++ bytes; ended = before.ended }

-- a sink was ended
abbrev pub IsEnded : Held → Held → Type 0
IsEnded before now = now ≡ record { name = before.name; bytes = before.bytes; ended = true }

-- the state that a sink tells: its contents, the calls made on it, and its fault count
pub record SinkTold : Type 0 where
  pub held : Option Held
  pub moves : Option (List Move)
  pub faults : ℕ

-- A sink has taken these further bytes, in any number of writes, none of which failed.
pub record WroteMore (before now : SinkTold) (bytes : List ℕ) : Type 0 where
  pub taken : Follows before.held now.held (TakenMore bytes)
  pub made : Follows before.moves now.moves (Grown (AreAll Write))
  pub same : now.faults ≡ before.faults

-- A sink has taken a prefix of these bytes, in any number of writes, and a write failed.
pub record WrotePart (before now : SinkTold) (bytes : List ℕ) : Type 0 where
  pub front : List ℕ
  pub is_front : IsFront front bytes
  pub taken : Follows before.held now.held (TakenMore front)
  pub made : Follows before.moves now.moves (Grown (AreAll Write))
  pub rose : Rose before.faults now.faults
  pub later : before.faults ≤ now.faults

-- A sink was begun with this name and has since taken exactly these bytes, in any number of writes; it wasn't
-- ended. No call failed.
pub record Wrote (before now : SinkTold) (name bytes : List ℕ) : Type 0 where
  pub taken : Follows before.held now.held (λ _ held. held ≡ open_file name bytes)
  pub made : Follows before.moves now.moves (Grown (IsRun name Write))
  pub same : now.faults ≡ before.faults

-- A sink was begun with this name, has taken exactly these bytes, and was ended. No call failed.
pub record Finished (before now : SinkTold) (name bytes : List ℕ) : Type 0 where
  pub taken : Follows before.held now.held (λ _ held. held ≡ ended_file name bytes)
  pub made : Follows before.moves now.moves (Grown (IsWhole name))
  pub same : now.faults ≡ before.faults

-- the contents of a sink that was to be begun with this name, if its `begin` failed, if its writes stopped
-- somewhere in these bytes, or if its `end` failed
abbrev pub HoldsFront : List ℕ → List ℕ → Held → Held → Type 0
HoldsFront name bytes before now =
    (now ≡ before)
    ⊎ ((now ≡ no_file)
    ⊎ ((front : List ℕ) × IsFront front bytes × (now ≡ open_file name front)))

-- Only a prefix of the calls for an entire file was made: no call at all, only the `begin`, a part of the
-- writes, or everything except the `end`.
pub record Stopped (before now : SinkTold) (name bytes : List ℕ) : Type 0 where
  pub taken : Follows before.held now.held (HoldsFront name bytes)
  pub made : Follows before.moves now.moves (Grown (IsFrontOf (IsWhole name)))
  pub later : before.faults ≤ now.faults
