use Rattle.std.proofs.Common.{◌≡◌, drop}
use Rattle.cs_typing.specs.{inner.Held.locals_of, inner.Routines.all_given_in, inner.Routines.no_locals}
use Rattle.cs_typing.proofs.invoke.inputs_of.Given as goal

abbrev pub invariant-loop-name : goal.invariant-loop-name
invariant-loop-name l =
    all_given_in (locals_of l.made) (drop l.name-index l.definition.names) ≡ all_given_in no_locals l.definition.names
