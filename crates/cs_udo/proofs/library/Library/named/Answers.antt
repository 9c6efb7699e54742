use Rattle.std.proofs.lemmas.Grind.{common_steps}
use Rattle.std.proofs.Common.{arith}
use Rattle.cs_udo.proofs.Places.{read_one, found_one, found_none, place_is, none_in_front}
use Rattle.cs_udo.proofs.library.Library.named.Goals as goal

pub returns-then-place-min-clause-found : goal.returns-then-place-min-clause-found
returns-then-place-min-clause-found c = grind (arith, common_steps, place_is, read_one)

pub returns-then-place-min-clause-defined : goal.returns-then-place-min-clause-defined
returns-then-place-min-clause-defined c = grind (arith, common_steps, found_one, read_one)

pub returns-else-place-min-clause-found : goal.returns-else-place-min-clause-found
returns-else-place-min-clause-found c =
    none_in_front c.args.self.now.definitions.now c.args.self.now.names c.args.visible c.place-place.result
    c.args.name.now c.args.self.now.named
    c.place-place.ensures (omega (arith, c.if-place-min.false, c.min.ensures))

pub returns-else-place-min-clause-defined : goal.returns-else-place-min-clause-defined
returns-else-place-min-clause-defined c = grind (arith, common_steps, found_none)
