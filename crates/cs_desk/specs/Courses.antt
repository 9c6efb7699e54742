-- The graph that is reused from cycle to cycle.
use Rattle.std.specs.Prelude.{◌≡◌, List, length}
use Rattle.cs_cells.specs.declared.footprint.Footprint.{Footprint}
use Rattle.cs_graph.specs.Graph.{IsFit, IsLevelled}
use Rattle.cs_desk.specs.declared.course.Course.{Course}

-- the course belongs to jobs with these footprints
pub record IsCourseOf (feet : List Footprint) (course : Course) : Type 0 where
  pub feet_are : course.feet.items ≡ feet
  pub notes : length course.graph.value.levels ≡ length feet
  pub fit : IsFit feet course.graph.value.edges
  pub levelled : IsLevelled feet course.graph.value.levels
