-- The values that the code stores together with the fields of a statement.
use Rattle.std.specs.Prelude.{◌≡◌, ◌-◌, ◌≤◌, ℕ, ℤ, drop, length, List, Ok}
use Rattle.cs_base.specs.declared.fault.ScoreKind.TheVariants.{NothingToCarry}
use Rattle.cs_score.specs.declared.field.Field.{Field}
use Rattle.cs_score.specs.Notes.{values_of}

-- the values of a statement's fields from p4 on
abbrev pub AreValues : List Field → List ℤ → Type 0
AreValues fields more =
    (values_of NothingToCarry (drop 3 fields) ≡ Ok more) × (length more ≡ length fields - 3)

-- all fields after the written ones belong to a statement whose values from p4 on are `before`
pub record IsTakenFrom (written : ℕ) (fields : List Field) (before : List ℤ) : Type 0 where
  pub within : written ≤ length fields
  pub values : values_of NothingToCarry (drop (written - 3) (drop 3 fields)) ≡ Ok (drop (written - 3) before)
  pub len : length (drop (written - 3) before) ≡ length (drop (written - 3) (drop 3 fields))
