-- The resources that steps touch, step by step, and keys that distinguish touches.
use Rattle.std.specs.Prelude.{ℕ, List, [], ◌∷◌}
use Rattle.std.specs.List.{flat_map}
use Rattle.cs_base.specs.{Rates.res_kind, Rates.res_number, declared.resource.Res.Res}
use Rattle.cs_ir.specs.{Flat.ops_at, declared.op.Op.Op, declared.op.Reach.Reach, declared.step.Step.Step}
use Rattle.cs_ir.specs.{declared.touches.Touch.Touch, declared.touches.Touches.Touches}
use Rattle.cs_ir.specs.Resources.{Access, Stock, act_touches, may_use, may_write, ops_touch}
use Rattle.cs_words.specs.declared.catalogue.Space.TheVariants as space
use Rattle.cs_ir.specs.declared.op.Reach.TheVariants as reach
use Rattle.cs_ir.specs.declared.step.Step.TheVariants as step
use Rattle.cs_ir.specs.declared.touches.Access as code
use Rattle.cs_ir.specs.declared.touches.Access.TheVariants as access
use Rattle.cs_ir.specs.declared.touches.Touch.TheVariants as touch

-- the code's question about touched resources, as the definitions write it
abbrev pub access_of : code.Access → Access
access_of access.Use = may_use
access_of access.Write = may_write

-- the stored touches
abbrev pub kept : Access → Touches → List Touch
kept may_use t = t.used.items
kept may_write t = t.written.items

-- the resources that a step's own op touches
abbrev pub step_touches : Access → Stock → Step → List Res
step_touches t stock (step.Do op) = act_touches t stock op.act
step_touches t stock (step.Invoke c) = []

-- the number of the routine that a step invokes, as a list
abbrev pub step_invokes : Step → List ℕ
step_invokes (step.Do op) = []
step_invokes (step.Invoke c) = c.routine ∷ []

-- the resources that the steps' own ops touch
abbrev pub own_touches : Access → Stock → List Step → List Res
own_touches t stock steps = flat_map (step_touches t stock) steps

-- the numbers of the routines that steps invoke
abbrev pub invoked : List Step → List ℕ
invoked steps = flat_map step_invokes steps

-- the resources that the routines with these numbers touch
abbrev pub routines_touch : Access → Stock → List (List Op) → List ℕ → List Res
routines_touch t stock routines numbers = flat_map (λ n. ops_touch t stock (ops_at routines n)) numbers

-- keys of touches: two touches are equal if and only if their keys are
abbrev pub reach_key : ℕ → Reach → ℕ × ℕ × ℕ × ℕ
reach_key what reach.Nothing = (what, 0, 0, 0)
reach_key what (reach.Span first last) = (what, 1, first, last)
reach_key what reach.Any = (what, 2, 0, 0)

-- the key of a touch
abbrev pub key_of : Touch → ℕ × ℕ × ℕ × ℕ
key_of (touch.One g) = (0, res_kind g, res_number g, 0)
key_of (touch.Tables r) = reach_key 1 r
key_of (touch.Places space.Control r) = reach_key 2 r
key_of (touch.Places space.Audio r) = reach_key 3 r
