-- A live table as a curve over a bank.
use Rattle.std.specs.Prelude.{ℕ, ◌≡◌, ◌+◌, ◌≤◌, true}
use Rattle.cs_gen.specs.Points.{guard_place, len_of}
use Rattle.cs_ugen.specs.Points.{is_len}
use Rattle.cs_cells.specs.{Access.Access, declared.footprint.Area.Area}
use Rattle.cs_machine.specs.Access.{CanGet}

-- the name of the loan, the bank, and the table's area
pub record LiveOver (B : Type 0) : Type 0 where
  pub name : ℕ
  pub bank : B
  pub area : Area

-- The area has a table's points, which may be read, with `len` of them before the guard point, and the guard
-- point at index `guard`.
pub record IsLive (access : Access) (area : Area) (len guard : ℕ) : Type 0 where
  pub read : CanGet access area
  pub small : area.first + area.length ≤ 65536
  pub power : is_len (len_of area.length) ≡ true
  pub len_is : len ≡ len_of area.length
  pub guard_is : guard ≡ guard_place area.length
