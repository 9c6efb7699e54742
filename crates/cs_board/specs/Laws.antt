-- Consequences of the rule for the notes that seats do, and for those that they finished. k is a plan, s the
-- state of the board; i and j are seats, v and w their views, d and e what they do, t is a note and p an
-- earlier one, a an address.
use Rattle.std.specs.Prelude.{◌≡◌, ℕ, ◌<◌, Some, slice_index, true, false}
use mathlib.Core.Option.{some}
use lib.ListN.{get_elem?}
use Rattle.atomic_table.specs.Table.{State}
use Rattle.cs_cells.specs.{Cells.cell, Meaning.Meaning}
use Rattle.cs_graph.specs.Conflict.{Conflict}
use Rattle.cs_board.specs.{Counts.same, Counts.total, Facts.has_done, Plans.feet, Plans.uses_at, Plans.writes_at}
use Rattle.cs_board.specs.{Plans.before_at, Words.status_at, declared.view.Berth.Berth, declared.view.Doing.Doing}
use Rattle.cs_board.specs.{declared.view.Plan.Plan, declared.view.View.View, declared.words.TheConstants.DONE}

module _ {J : Type 0} (k : Plan J) (s : State (Berth J) (View J)) where
  -- No note is done by two seats. Each Done note is among the notes of exactly one seat, once, and no other
  -- note is.
  pub record DoneOnce : Type 0 where
    pub doing : (i j : ℕ) (v w : View J) (d e : Doing) → get_elem? s.views i ≡ some v → get_elem? s.views j ≡ some w
        → v.doing ≡ Some d → w.doing ≡ Some e → d.note ≡ e.note → i ≡ j
    pub mine : (t : ℕ) → t < k.notes → total (has_done t) s.views ≡ same (slice_index s.words (status_at k t)) DONE

  -- While a seat does a note, every earlier note that conflicts with it is Done.
  abbrev pub EarlierDone : Meaning J → Type 0
  EarlierDone M = (id : ℕ) (v : View J) (d : Doing) (p : ℕ) → get_elem? s.views id ≡ some v → v.doing ≡ Some d
      → Conflict (feet M k) p d.note → slice_index s.words (status_at k p) ≡ DONE

  -- While a seat does a note, the note's image has the serial run's value in each cell that the note uses and
  -- doesn't write.
  abbrev pub SeenBefore : Meaning J → Type 0
  SeenBefore M = (id : ℕ) (v : View J) (d : Doing) (a : ℕ) → get_elem? s.views id ≡ some v → v.doing ≡ Some d
      → uses_at M k d.note a ≡ true → writes_at M k d.note a ≡ false → cell d.image a ≡ cell (before_at M k d.note) a
