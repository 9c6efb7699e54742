use Rattle.std.proofs.Common.{◌≡◌, ◌++◌, drop, map}
use Rattle.cs_typing.specs.{inner.Held.known_of, inner.Routines.variable_in}
use Rattle.cs_typing.proofs.call.variables.Given as goal

abbrev pub invariant-loop-name : goal.invariant-loop-name
invariant-loop-name l =
    l.made ++ map (variable_in (known_of l.names)) (drop l.name-index l.results) ≡ map (variable_in (known_of l.names))
    l.results
