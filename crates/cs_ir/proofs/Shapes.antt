-- The shape of a valid op's opcode.
use Rattle.std.proofs.Common.{◌≡◌, ◌&&◌, true, List, length, refl}
use Rattle.std.specs.List.{list_all}
use Rattle.std.proofs.lemmas.Bool.{and_parts}
use Rattle.cs_base.specs.declared.resource.Rate.{Rate}
use Rattle.cs_words.specs.Catalogue.{row_of, unit_takes}
use Rattle.cs_words.specs.{declared.catalogue.Opcode.Opcode, declared.catalogue.Shape.Shape}
use Rattle.cs_ir.specs.{Units.is_unit, declared.register.Reg.Reg}
use Rattle.cs_ir.specs.Validity.{is_still, may_run_at, runs_with, starts_with}
use Rattle.cs_words.specs.declared.catalogue.Shape.TheVariants as shape

pub shape_is : (s : Shape) → is_unit s ≡ true → s ≡ shape.Unit
shape_is shape.Unit h = refl
shape_is a h = absurd (cc)

-- an opcode that is started, or that runs as a unit, is a unit
pub started_shape : (o : Opcode) (r : Rate) (xs : List Reg) → starts_with (row_of o) r xs ≡ true
    → (row_of o).shape ≡ shape.Unit
started_shape o r xs h =
    let outer = and_parts (is_unit (row_of o).shape && unit_takes (row_of o) (length xs) && list_all is_still xs)
    (may_run_at (row_of o) r) h in
    let middle = and_parts (is_unit (row_of o).shape && unit_takes (row_of o) (length xs)) (list_all is_still xs)
    outer.0 in
    shape_is (row_of o).shape (and_parts (is_unit (row_of o).shape) (unit_takes (row_of o) (length xs)) middle.0).0

pub run_shape : (o : Opcode) (r : Rate) (xs : List Reg) → (is_unit (row_of o).shape && runs_with (row_of o) r xs) ≡ true
    → (row_of o).shape ≡ shape.Unit
run_shape o r xs h = shape_is (row_of o).shape (and_parts (is_unit (row_of o).shape) (runs_with (row_of o) r xs) h).0
