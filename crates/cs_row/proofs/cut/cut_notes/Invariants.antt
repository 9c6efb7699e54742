use Rattle.std.proofs.Common.{◌≡◌, ◌≤◌, length, take}
use Rattle.std.specs.Vec.{vec_len, vec_capacity}
use Rattle.cs_row.specs.Cuts.{IsCut}
use Rattle.cs_row.proofs.cut.cut_notes.Given as goal

-- the notes so far are cut
abbrev pub invariant-loop-at : goal.invariant-loop-at
invariant-loop-at g l = record {
  low : l.at ≤ length l.notes;
  cut : IsCut g.J.Job.means l.most (take l.at l.notes) l.cuts.items;
  few : vec_len l.cuts ≤ l.at;
  capacity : vec_capacity l.cuts ≡ vec_capacity l.initial.cuts;
}
