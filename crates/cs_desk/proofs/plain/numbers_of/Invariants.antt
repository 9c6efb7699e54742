use Rattle.std.proofs.Common.{◌≡◌, ◌≤◌, take}
use Rattle.std.specs.Vec.{vec_capacity}
use Rattle.cs_desk.proofs.plain.numbers_of.Given as goal

abbrev pub invariant-loop-addr : goal.invariant-loop-addr
invariant-loop-addr g l =
    (g.B.Bank.cells l.bank ≡ g.B.Bank.cells l.initial.bank) × (g.B.Bank.rest l.bank ≡ g.B.Bank.rest l.initial.bank)
    × (l.numbers.items ≡ take l.addr (g.B.Bank.cells l.initial.bank)) × (l.count ≤ vec_capacity l.numbers)
