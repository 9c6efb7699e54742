-- The plain world: shared resources are one map of values, and each unit is the list of all its inputs so
-- far.
use Rattle.std.specs.Prelude.{ℕ, ℤ, Bool, ◌+◌, ◌++◌, List, [], map, if◌then◌else◌}
use Rattle.std.specs.List.{range_with_len}
use Rattle.cs_base.specs.{Rates.same_res, declared.resource.Rate.Rate, declared.resource.Res.Res}
use Rattle.cs_words.specs.declared.catalogue.Opcode.{Opcode}
use Rattle.cs_ir.specs.{Waves.Wave, Waves.silence, Worlds.World}
use Rattle.cs_meaning.specs.Model.{State, WorldModel, fresh_state, world_of}
pub use Rattle.cs_meaning.specs.Model.{Cause, no_table, delay_too_long, out_to, out_to_numbered}
pub use Rattle.cs_meaning.specs.Pieces.{Piece, Table, head_value, index, added, steps_of, step_at, table_number}
pub use Rattle.cs_meaning.specs.Pieces.{find_table, is_there, points_of, read_points, is_live, stored}
pub use Rattle.cs_meaning.specs.Pieces.{places_of_indices, is_delay, has_place, at_place, is_between, is_cleared}

-- a unit: its opcode, its rate, its settled values, and its inputs in each step so far
pub record History : Type 0 where
  pub opcode : Opcode
  pub rate : Rate
  pub settled : List ℤ
  pub inputs : List (List ℤ)

-- the state of the plain world
abbrev pub Plain : Type 0
Plain = State (Res → Wave) History

-- the state as a note begins
abbrev pub fresh : (Res → Wave) → Plain
fresh = fresh_state

-- the state as a note goes on in its next cycle
abbrev pub next_cycle : (Res → Wave) → Plain → Plain
next_cycle shared x = record x { shared = shared; outs = λ c. silence }

-- one resource is assigned a value
abbrev pub shared_with : Res → Wave → (Res → Wave) → Res → Wave
shared_with g w f h = if same_res h g then w else f h

-- some resources become silent
abbrev pub silenced : (Res → Bool) → (Res → Wave) → Res → Wave
silenced clears f g = if clears g then silence else f g

-- The inputs of the first n steps of a cycle: for each step, the moving arguments and the points of the
-- table.
abbrev pub inputs_of : List Wave → List ℤ → ℕ → List (List ℤ)
inputs_of ws points n = map (λ j. map (λ w. w j) ws ++ points) (range_with_len 0 n)

-- a unit with a state over a cycle: all these inputs are added to its history, and its result at each frame
-- is the generator of its history
abbrev pub has_had : Piece → List Wave → List ℤ → History → History
has_had piece ws points h = record h { inputs = h.inputs ++ inputs_of ws points (steps_of piece.head.ksmps h.rate) }

-- the result of a unit at each frame of a cycle
abbrev pub generated : Piece → History → List Wave → List ℤ → Wave
generated piece h ws points =
    λ j. piece.generators.gen h.opcode h.rate h.settled (h.inputs ++ inputs_of ws points (step_at h.rate j + 1))

-- the plain world of a piece
abbrev pub plain_model : Piece → WorldModel (Res → Wave) History
plain_model piece = record {
  piece = piece;
  load = λ g shared. shared g;
  save = shared_with;
  clear = silenced;
  start = λ opcode r is. record { opcode = opcode; rate = r; settled = is; inputs = [] };
  delay = piece.generators.delay;
  table = λ h. table_number h.settled;
  plays = λ r ws points h. (has_had piece ws points h, generated piece h ws points);
}

-- the plain world of a piece
abbrev pub plain : Piece → World Plain
plain piece = world_of (plain_model piece)
