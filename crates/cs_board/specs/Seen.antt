-- The plan of a board's cycle, as its first seat saw it.
use Rattle.std.specs.Prelude.{List, [], ◌∷◌}
use Rattle.atomic_table.specs.declared.badge.Badge.{Badge}
use Rattle.cs_board.specs.{Views.no_plan, declared.view.Plan.Plan, declared.view.View.View}

module _ {J : Type 0} where
  -- the plan in the first view
  abbrev pub plan_in : List (View J) → Plan J
  plan_in [] = no_plan
  plan_in (v ∷ vs) = v.plan

  -- the plan that a badge shows
  abbrev pub plan_seen : Badge (View J) → Plan J
  plan_seen badge = plan_in badge.views
