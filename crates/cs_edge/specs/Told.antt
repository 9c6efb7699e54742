use Rattle.std.specs.Prelude.{ℕ, ◌≡◌, ◌<◌, ◌≤◌, ◌-◌, ◌^◌, ◌⊎◌, List, ◌++◌, Option, None, Some, Result, IsErr, IsOk, ⊤}

-- If something is told after a call, it was told before the call, and the two states satisfy P. If nothing is
-- told any more, the claim is empty.
abbrev pub Follows : {A : Type 0} → Option A → Option A → (A → A → Type 0) → Type 0
Follows before None P = ⊤
Follows None (Some now) P = ⊥
Follows (Some before) (Some now) P = P before now

-- a fault count rose: it is greater than before, or it is at its maximum
abbrev pub Rose : ℕ → ℕ → Type 0
Rose before now = (before < now) ⊎ (2 ^ 64 - 1 ≤ now)

-- a fault count never falls; the call returned an error only if the count rose, and succeeded only if it is
-- unchanged
pub record HasCause {T E : Type 0} (before now : ℕ) (result : Result T E) : Type 0 where
  pub later : before ≤ now
  pub rose : IsErr result → Rose before now
  pub same : IsOk result → now ≡ before

-- `front` is a prefix of a list
abbrev pub IsFront : {A : Type 0} → List A → List A → Type 0
IsFront front whole = (rest : List _) × (whole ≡ front ++ rest)
