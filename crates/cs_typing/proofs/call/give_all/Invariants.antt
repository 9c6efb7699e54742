use Rattle.std.proofs.Common.{◌≡◌, drop}
use Rattle.cs_typing.specs.{inner.Held.known_of, inner.Routines.all_given_in, inner.Routines.known_in}
use Rattle.cs_typing.proofs.call.give_all.Given as goal

abbrev pub invariant-loop-name : goal.invariant-loop-name
invariant-loop-name l =
    known_in l.names.shared (all_given_in (known_of l.names).locals (drop l.name-index l.results))
    ≡ known_in l.initial.names.shared (all_given_in (known_of l.initial.names).locals l.results)
