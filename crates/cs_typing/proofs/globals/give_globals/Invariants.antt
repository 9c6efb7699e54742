use Rattle.std.proofs.Common.{◌≡◌, drop}
use Rattle.cs_typing.specs.Typing.{given_globals}
use Rattle.cs_typing.proofs.globals.give_globals.Given as goal

abbrev pub invariant-loop-name : goal.invariant-loop-name
invariant-loop-name l =
    given_globals l.t (drop l.name-index l.names) ≡ given_globals l.initial.t l.names
