-- The view of the first seat, computed from what the table was made of.
use Rattle.std.specs.Prelude.{Some, replicate}
use Rattle.cs_board.specs.{Views.resting_view, declared.plays.Key.Key, declared.view.View.View}
use Rattle.cs_board.specs.declared.view.Berth.TheVariants.{Vacant}

-- the board rests, with all slots vacant
abbrev pub first_view : {J : Type 0} → Key → View J
first_view key = resting_view key.layout.value
    (record { words = key.words.value.items; homes = replicate key.slots.value (Some Vacant) })
