-- The contents of the code's tables of names.
use Rattle.std.specs.{BTreeMap.get_by, Cmp.Lexicographic.slice_cmp, Ordering.nat_cmp}
use Rattle.cs_typing.specs.{declared.known.KnownNames.KnownNames, declared.known.Scope.Scope}
use Rattle.cs_typing.specs.inner.Routines.{KnownInBody, Locals, known_in}

-- the local variables of a body
abbrev pub locals_of : Scope → Locals
locals_of s = record { number = λ x. get_by (λ k. slice_cmp nat_cmp x k.now) s.numbers; counts = s.counts }

-- The names known at this point of a body.
abbrev pub known_of : KnownNames → KnownInBody
known_of n = known_in n.shared (locals_of n.scope)
