-- What the jobs of a control cycle have to satisfy, and the jobs and the desk after they have run.
use Rattle.std.specs.Prelude.{◌≡◌, List, map, length, All}
use Rattle.cs_cells.specs.{Areas.IsFootprint, Meaning.Meaning, Serial.serial_cells, Serial.serial_jobs}
use Rattle.cs_desk.specs.{Desk.areas, Desk.cells, Desk.note_room, Desk.word_room, Desk.HasRoom, declared.desk.Desk.Desk}
use Rattle.cs_graph.specs.Graph.{Dependencies, IsFit}

module _ {J K : Type 0} (M : Meaning K) where
  -- The desk's layout is the layout of each of these jobs.
  abbrev pub AreOver : Desk J → List K → Type 0
  AreOver desk given = All (λ j. M.areas j ≡ areas desk) given

  -- These jobs, in serial order, can be played as a cycle on the desk, in the order of this graph.
  pub record IsCycle (graph : Dependencies) (desk : Desk J) (given : List K) : Type 0 where
    pub notes : length graph.levels ≡ length given
    pub fit : IsFit (map M.foot given) graph.edges
    pub over : AreOver desk given
    pub footprints : All (λ j. IsFootprint (length (areas desk)) (M.foot j)) given
    pub room : HasRoom desk (length given) (length graph.edges)

  -- The cycle of the jobs `given` was played on the desk, as if they had run one by one in serial order:
  -- `played` are the jobs afterwards, and `rested` is the desk afterwards.
  pub record WasPlayed (desk : Desk J) (given played : List K) (rested : Desk J) : Type 0 where
    pub jobs_are : played ≡ serial_jobs M given (cells desk)
    pub cells_are : cells rested ≡ serial_cells M given (cells desk)
    -- what stays the same, so that the next cycle can follow
    pub notes : length played ≡ length given
    pub footprints : map M.foot played ≡ map M.foot given
    pub layouts : map M.areas played ≡ map M.areas given
    pub areas_are : areas rested ≡ areas desk
    pub count : length (cells rested) ≡ length (cells desk)
    pub note_room_is : note_room rested ≡ note_room desk
    pub word_room_is : word_room rested ≡ word_room desk
