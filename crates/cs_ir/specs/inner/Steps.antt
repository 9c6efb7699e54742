-- Steps of a draft when the target of a jump is set.
use Rattle.std.specs.Prelude.{ℕ, zero, suc, List, [], ◌∷◌}
use Rattle.cs_ir.specs.{Codes.aimed, declared.step.Step.Step}
use Rattle.cs_ir.specs.declared.step.Step.TheVariants as step

-- the step with its target set to `to`, if it is a jump
abbrev pub aimed_step : ℕ → Step → Step
aimed_step to (step.Do op) = step.Do (record op { act = aimed to op.act })
aimed_step to (step.Invoke c) = step.Invoke c

-- steps in which the target of one step is set
abbrev pub aim_step : ℕ → ℕ → List Step → List Step
aim_step n to [] = []
aim_step zero to (s ∷ steps) = aimed_step to s ∷ steps
aim_step (suc n) to (s ∷ steps) = s ∷ aim_step n to steps
