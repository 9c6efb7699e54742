use Rattle.std.specs.Prelude.{◌≡◌, ◌||◌, ℕ, List, length, true}
use Rattle.cs_cells.specs.{declared.footprint.Area.Area, declared.footprint.Footprint.Footprint}
use Rattle.cs_cells.specs.Cells.{Cells, cell, covers, Agree}

-- The meaning of a kind of job: the layout and the footprint of each job, the job and the cells after its
-- run, and the property that every job in the code has.
pub record Meaning (J : Type 0) : Type 1 where
  pub areas : J → List Area
  pub foot : J → Footprint
  pub after : J → Cells → J
  pub leaves : J → Cells → Cells
  pub valid : J → Type 0

module _ {J : Type 0} (M : Meaning J) where
  -- the job's footprint contains the cell's resource, as used or as written: a resource that is written also
  -- counts as used
  abbrev pub Uses : J → ℕ → Type 0
  Uses j a = (covers (M.areas j) (M.foot j).uses a || covers (M.areas j) (M.foot j).writes a) ≡ true

  -- the job's footprint contains the cell's resource as written
  abbrev pub Writes : J → ℕ → Type 0
  Writes j a = covers (M.areas j) (M.foot j).writes a ≡ true

  -- The frame law: the effect of a run is a function of the job and of the used cells, and only written cells
  -- change.
  pub record Frames : Type 0 where
    pub job : (j : J) (c d : Cells) → M.valid j → Agree (Uses j) c d → M.after j c ≡ M.after j d
    pub cells : (j : J) (c d : Cells) → M.valid j → Agree (Uses j) c d → Agree (Uses j) (M.leaves j c) (M.leaves j d)
    pub others : (j : J) (c : Cells) (a : ℕ) → M.valid j → ¬ (Writes j a) → cell (M.leaves j c) a ≡ cell c a
    pub long : (j : J) (c : Cells) → length (M.leaves j c) ≡ length c
    pub valid_after : (j : J) (c : Cells) → M.valid j → M.valid (M.after j c)
    pub foot_after : (j : J) (c : Cells) → M.foot (M.after j c) ≡ M.foot j
    pub areas_after : (j : J) (c : Cells) → M.areas (M.after j c) ≡ M.areas j
