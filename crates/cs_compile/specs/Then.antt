-- Steps, each of which goes on from the value of the one before, up to the first refusal.
use Rattle.std.specs.Prelude.{◌≡◌, Result, Ok, Err}

-- after a result: Q goes on from a value, and a refusal is the final result
abbrev pub GoesOn : {A B E : Type 0} → (A → Result B E → Type 0) → Result A E → Result B E → Type 0
GoesOn Q (Ok a) r = Q a r
GoesOn Q (Err e) r = r ≡ Err e

-- P comes first. If its result is a value, Q goes on from it; if it is a refusal, that is the final result.
pub record Then {A B E : Type 0} (P : Result A E → Type 0) (Q : A → Result B E → Type 0) (r : Result B E) : Type 0 where
  pub first : Result A E
  pub first_is : P first
  pub after : GoesOn Q first r

-- a step that is a function has one result
abbrev pub Is : {A E : Type 0} → Result A E → Result A E → Type 0
Is answer r = r ≡ answer
