use Rattle.std.specs.Prelude.{ℕ, ◌≡◌, ◌+◌, ◌-◌, ◌^◌, ◌↔◌, min, List, [], ◌∷◌, if◌then◌else◌, Option, None, Some, Result}
use Rattle.std.specs.Prelude.{IsErr, Contains, zero, suc}
use Rattle.cs_edge.specs.declared.files.NamedBytes.{NamedBytes}
use Rattle.cs_edge.specs.{declared.moves.Move.Move, declared.fakes.script.Script.Script, declared.fakes.kept.Kept.Kept}
use Rattle.cs_edge.specs.{declared.fakes.taken.Taken.Taken, Moves.Held}

-- the number of the next call after `made` calls, from 1; it stays at its maximum
abbrev pub next_call : ℕ → ℕ
next_call made = min (made + 1) (2 ^ 64 - 1)

-- The call was counted, and it failed if and only if its number is listed.
pub record FailsAsListed {T E : Type 0} (before now : Script) (result : Result T E) : Type 0 where
  pub counted : now.calls ≡ next_call before.calls
  pub fails : IsErr result ↔ Contains before.failing now.calls
  pub same : now.failing ≡ before.failing

-- the bytes of the file at an index; empty for `None`
abbrev pub bytes_at : Option ℕ → List NamedBytes → List ℕ
bytes_at None files = []
bytes_at (Some place) [] = []
bytes_at (Some zero) (file ∷ files) = file.bytes
bytes_at (Some (suc place)) (file ∷ files) = bytes_at (Some place) files

-- the calls that are told
abbrev pub told_moves : Kept → Option (List Move)
told_moves k = if k.told then Some k.moves else None

-- the contents that a sink in memory tells
abbrev pub told_taken : Taken → Option Held
told_taken t = if t.told then Some (record { name = t.name; bytes = t.bytes.items; ended = t.ended }) else None
