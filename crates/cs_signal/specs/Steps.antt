-- The obligations of a unit of any opcode: its steps one by one, its steps over a cycle, and its formula.
use Rattle.std.specs.Prelude.{ℕ, ◌≡◌, ◌+◌, ◌<◌, zero, suc, List, [], ◌∷◌, ◌++◌, length, map, take, ℤ}
use Rattle.std.specs.List.{range_with_len}
use Rattle.cs_base.specs.declared.resource.Rate.{Rate}
use Rattle.cs_signal.specs.{Operands.argument, Pace.Pace}

-- n steps from frame j on, where `at` maps a frame to its inputs: the unit afterwards, and the results in
-- order
abbrev pub run : {S : Type 0} → (S → List ℤ → S × ℤ) → (ℕ → List ℤ) → S → ℕ → ℕ → S × List ℤ
run step at s j zero = (s, [])
run step at s j (suc n) =
    let here = step s (at j) in
    let rest = run step at here.0 (j + 1) n in
    (rest.0, here.1 ∷ rest.1)

-- A unit is defined by its start and its step. The formula computes its last result from the inputs of all
-- steps so far. `Stands` relates a unit to the steps that it has performed.
pub record IsUnit {S : Type 0} (formula : Rate → Pace → List ℤ → List (List ℤ) → ℤ) (start : Rate → Pace → List ℤ → S)
    (step : S → List ℤ → S × ℤ) (Stands : S → Rate → Pace → List ℤ → List (List ℤ) → Type 0) : Type 0 where
  pub starts : (rate : Rate) (pace : Pace) (init : List ℤ) → Stands (start rate pace init) rate pace init []
  pub answers : (s : S) (rate : Rate) (pace : Pace) (init : List ℤ) (before : List (List ℤ)) (inputs : List ℤ)
      → Stands s rate pace init before → (step s inputs).1 ≡ formula rate pace init (before ++ inputs ∷ [])
  pub goes_on : (s : S) (rate : Rate) (pace : Pace) (init : List ℤ) (before : List (List ℤ)) (inputs : List ℤ)
      → Stands s rate pace init before → Stands (step s inputs).0 rate pace init (before ++ inputs ∷ [])

-- the inputs of n steps from frame j on
abbrev pub inputs_of : (ℕ → List ℤ) → ℕ → ℕ → List (List ℤ)
inputs_of at j n = map at (range_with_len j n)

-- The outcome of n steps from frame j on, of a unit that has performed the steps `before`. Result k is the
-- formula over all steps up to its own, and afterwards the unit has performed all of them.
pub record HasAnswered {S : Type 0} (formula : Rate → Pace → List ℤ → List (List ℤ) → ℤ)
    (Stands : S → Rate → Pace → List ℤ → List (List ℤ) → Type 0) (rate : Rate) (pace : Pace) (init : List ℤ)
    (before : List (List ℤ)) (at : ℕ → List ℤ) (j n : ℕ) (s : S) (results : List ℤ) : Type 0 where
  pub long : length results ≡ n
  pub each : (k : ℕ) → k < n
      → argument results k ≡ formula rate pace init (before ++ inputs_of at j (k + 1))
  pub stands : Stands s rate pace init (before ++ inputs_of at j n)

-- all steps of a unit return the results of its formula
abbrev pub AnswersByFormula : {S : Type 0} → (Rate → Pace → List ℤ → List (List ℤ) → ℤ) → (S → List ℤ → S × ℤ)
    → (S → Rate → Pace → List ℤ → List (List ℤ) → Type 0) → Type 0
AnswersByFormula {S} formula step Stands = (s : S) (rate : Rate) (pace : Pace) (init : List ℤ)
    (before : List (List ℤ)) (at : ℕ → List ℤ) (j n : ℕ) → Stands s rate pace init before
    → HasAnswered formula Stands rate pace init before at j n (run step at s j n).0 (run step at s j n).1

-- all results of these steps by the formula, each over the steps up to its own
abbrev pub results_by : (Rate → Pace → List ℤ → List (List ℤ) → ℤ) → Rate → Pace → List ℤ → List (List ℤ) → List ℤ
results_by formula rate pace init steps =
    map (λ n. formula rate pace init (take (n + 1) steps)) (range_with_len 0 (length steps))
