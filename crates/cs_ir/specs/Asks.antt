-- The note that a note schedules.
use Rattle.std.specs.Prelude.{ℕ, ℤ, pos, List, drop, take, slice_index_or}
use Rattle.cs_base.specs.{Limits.greatest_field, Numbers.whole_below}
use Rattle.cs_ir.specs.declared.ask.Ask.{Ask}

-- the value at an index, counted from 0; a missing one is 0
abbrev pub value_at : List ℤ → ℕ → ℤ
value_at values n = slice_index_or values n (pos 0)

-- The note that these values describe. Its instrument is the first value rounded down; the next two values
-- are the time until it begins and its duration, in seconds. Its further p-fields follow, from p4 to the last
-- that a text can read.
abbrev pub ask_of : List ℤ → Ask
ask_of values = record {
  number = whole_below (value_at values 0);
  when = value_at values 1;
  dur = value_at values 2;
  more = drop 3 (take greatest_field values);
}
