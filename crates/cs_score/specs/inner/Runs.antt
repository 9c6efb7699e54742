-- The list of values that a run represents.
use Rattle.std.specs.Prelude.{ℤ, ◌++◌, drop, length, List, [], Option, Some, None}
use Rattle.std.specs.{declared.rc.Rc.Rc, Global.Global, Rc.rc_value}
use Rattle.cs_score.specs.declared.values.Run.{Run}
use Rattle.cs_score.specs.declared.values.Run.TheVariants.{Last, Over'}

-- a run's own values replace the first values of the run below
abbrev pub run_items : Run → List ℤ
run_items (Last own) = own
run_items (Over' own p below) = own ++ drop (length own) (run_items below)

-- the values of an optional run; none if there is no run
abbrev pub items_of : Option (Rc Run Global) → List ℤ
items_of None = []
items_of (Some run) = run_items (rc_value run)
