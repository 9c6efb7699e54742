-- The memory of a row.
use Rattle.std.specs.{Prelude.◌≡◌, Prelude.◌≤◌, Prelude.ℕ, Prelude.[], Prelude.length, Vec.vec_capacity}
use Rattle.cs_row.specs.declared.row.RowRoom.{RowRoom}

module _ {J : Type 0} where
  -- memory without notes, with a block of `block` values
  pub record IsEmptied (block : ℕ) (room : RowRoom J) : Type 0 where
    pub notes : room.notes.items ≡ []
    pub sum : length room.sum.items ≡ block

  -- the memory is large enough for `most` notes
  abbrev pub IsWide : ℕ → RowRoom J → Type 0
  IsWide most room = most ≤ vec_capacity room.notes
