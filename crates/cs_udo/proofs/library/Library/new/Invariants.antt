use Rattle.std.proofs.Common.{◌≡◌, map, take}
use Rattle.cs_udo.proofs.library.Library.new.Given as goal

abbrev pub invariant-loop-definition : goal.invariant-loop-definition
invariant-loop-definition l = l.names ≡ map (λ u. u.name) (take l.definition-index l.definitions)
