-- Steps and routines, and the flat list of ops that they expand to.
use Rattle.std.specs.Prelude.{ℕ, zero, suc, Bool, true, ◌&&◌, ◌+◌, ◌*◌, ◌≤◌, ◌++◌, ◌^◌, List, [], ◌∷◌, length, map}
use Rattle.std.specs.{Prelude.nat_le, Prelude.nat_lt, Prelude.slice_index_or, List.list_all}
use Rattle.cs_base.specs.{Rates.at_rate, declared.per_rate.PerRate.PerRate, declared.resource.Rate.Rate}
use Rattle.cs_ir.specs.{declared.op.Act.Act, declared.op.Op.Op, declared.register.Kind.Kind, declared.register.Reg.Reg}
use Rattle.cs_ir.specs.{declared.step.Call.Call, declared.step.Step.Step}
use Rattle.cs_ir.specs.declared.op.Act.TheVariants as act
use Rattle.cs_ir.specs.declared.register.Kind.TheVariants as kind
use Rattle.cs_ir.specs.declared.step.Step.TheVariants as step

-- The first register of each kind and the first unit of a routine: its local variables of each rate, its kept
-- values, its units. Routines share temporaries.
pub record Begins : Type 0 where
  pub locals : PerRate ℕ
  pub kept : ℕ
  pub unit : ℕ

-- the window of a complete code, in which everything begins at 0
abbrev pub no_window : Begins
no_window = record { locals = record { init = 0; control = 0; audio = 0 }; kept = 0; unit = 0 }

-- the window of a call, relative to the caller's
abbrev pub window_of : Call → Begins
window_of c = record { locals = c.locals; kept = c.kept; unit = c.unit }

-- the sum of two numbers for each rate
abbrev pub sums : PerRate ℕ → PerRate ℕ → PerRate ℕ
sums ns by = record { init = ns.init + by.init; control = ns.control + by.control; audio = ns.audio + by.audio }

-- the window `w`, moved further by another one
abbrev pub further : Begins → Begins → Begins
further w by = record { locals = sums w.locals by.locals; kept = w.kept + by.kept; unit = w.unit + by.unit }

-- the number of the first register of a kind
abbrev pub begin_of : Begins → Kind → ℕ
begin_of w kind.LocalInit = w.locals.init
begin_of w kind.LocalControl = w.locals.control
begin_of w kind.Kept = w.kept
begin_of w kind.TemporaryInit = 0
begin_of w kind.TemporaryControl = 0
begin_of w kind.LocalAudio = w.locals.audio
begin_of w kind.TemporaryAudio = 0

-- ---- an op of a routine in a window, after as many ops as its place states

-- a register of a routine, in a window
abbrev pub moved_reg : Begins → Reg → Reg
moved_reg w q = record { kind = q.kind; offset = begin_of w q.kind + q.offset }

-- an act of a routine, in a window and after `place` ops
abbrev pub moved_act : Begins → ℕ → Act → Act
moved_act w place (act.Start opcode u) = act.Start opcode (w.unit + u)
moved_act w place (act.Unit opcode u reach) = act.Unit opcode (w.unit + u) reach
moved_act w place (act.Jump to) = act.Jump (place + to)
moved_act w place (act.Unless to) = act.Unless (place + to)
moved_act w place a = a

-- an op of a routine, in a window and after `place` ops
abbrev pub moved_op : Begins → ℕ → Op → Op
moved_op w place op = record {
  act = moved_act w place op.act;
  into = moved_reg w op.into;
  from = map (moved_reg w) op.from;
}

-- the ops of a routine, in a window and after `place` ops
abbrev pub moved_ops : Begins → ℕ → List Op → List Op
moved_ops w place ops = map (moved_op w place) ops

-- ---- steps

-- the ops of a routine by its number; none if there is no such routine
abbrev pub ops_at : List (List Op) → ℕ → List Op
ops_at routines n = slice_index_or routines n []

-- the number of ops that a step expands to
abbrev pub size : List (List Op) → Step → ℕ
size routines (step.Do op) = 1
size routines (step.Invoke c) = length (ops_at routines c.routine)

-- the place of the first op of step n; the number of all ops if there is no such step
abbrev pub place_of : List (List Op) → ℕ → List Step → ℕ
place_of routines zero steps = 0
place_of routines (suc n) [] = 0
place_of routines (suc n) (s ∷ steps) = size routines s + place_of routines n steps

-- rewrites a jump's target from a step number to the index in the flat list of ops at which that step's ops
-- begin
abbrev pub placed : (ℕ → ℕ) → Act → Act
placed place (act.Jump to) = act.Jump (place to)
placed place (act.Unless to) = act.Unless (place to)
placed place a = a

-- the ops of a step; `here` is the place of its first op
abbrev pub flat_step : List (List Op) → (ℕ → ℕ) → ℕ → Step → List Op
flat_step routines place here (step.Do op) = record op { act = placed place op.act } ∷ []
flat_step routines place here (step.Invoke c) = moved_ops (window_of c) here (ops_at routines c.routine)

-- the ops of steps; `here` is the place of the first op
abbrev pub flat_from : List (List Op) → (ℕ → ℕ) → ℕ → List Step → List Op
flat_from routines place here [] = []
flat_from routines place here (s ∷ steps) =
    flat_step routines place here s ++ flat_from routines place (here + size routines s) steps

-- the ops of steps that invoke these routines
abbrev pub flat : List (List Op) → List Step → List Op
flat routines steps = flat_from routines (λ to. place_of routines to steps) 0 steps

-- the ops of routines, each of which invokes only earlier ones
abbrev pub more_routines : List (List Op) → List (List Step) → List (List Op)
more_routines routines [] = routines
more_routines routines (steps ∷ rest) = more_routines (routines ++ flat routines steps ∷ []) rest

-- the ops of all routines, in order
abbrev pub flat_routines : List (List Step) → List (List Op)
flat_routines list = more_routines [] list

-- ---- jumps

-- whether a jump goes to one of n steps, or to the end
abbrev pub goes_within : ℕ → Act → Bool
goes_within n (act.Jump to) = nat_le to n
goes_within n (act.Unless to) = nat_le to n
goes_within n a = true

-- whether a step's jump goes to one of n steps, or to the end
abbrev pub is_within : ℕ → Step → Bool
is_within n (step.Do op) = goes_within n op.act
is_within n (step.Invoke c) = true

-- whether the jumps of all steps go to one of n steps, or to the end
abbrev pub are_within : ℕ → List Step → Bool
are_within n steps = list_all (is_within n) steps

-- ---- numbers that fit

-- whether a register's number fits into 32 bits
abbrev pub is_small : Reg → Bool
is_small q = nat_lt q.offset (2 ^ 32)

-- whether every begin of a window, plus a 32-bit number, fits into 64 bits
abbrev pub leaves_room : Begins → Bool
leaves_room w =
    nat_le w.locals.init (2 ^ 63) && nat_le w.locals.control (2 ^ 63) && nat_le w.locals.audio (2 ^ 63)
    && nat_le w.kept (2 ^ 63) && nat_le w.unit (2 ^ 63)

-- A window of a routine, which may nest `depth` levels deeper: each level adds a 32-bit number, and the sum
-- leaves room for the next.
pub record IsLow (depth : ℕ) (w : Begins) : Type 0 where
  pub locals : (r : Rate) → at_rate w.locals r + depth * 2 ^ 32 ≤ 2 ^ 63
  pub kept : w.kept + depth * 2 ^ 32 ≤ 2 ^ 63
  pub unit : w.unit + depth * 2 ^ 32 ≤ 2 ^ 63
