-- The expansion of an orchestra with user-defined opcodes.
use Rattle.std.specs.Prelude.{Option, Some, None, Result, Ok, Err}
use Rattle.cs_base.specs.{declared.fault.OrcFault.OrcFault, declared.limit.LimitHit.LimitHit}
use Rattle.cs_base.specs.declared.refusal.Refusal.{Refusal}
use Rattle.cs_grammar.specs.Tree.{Orchestra}
use Rattle.cs_udo.specs.{Expanded.expanded_orchestra, Refused.first_fault, Counted.first_limit}
use Rattle.cs_base.specs.declared.refusal.Refusal.TheVariants as refusal

-- the orchestra, unless it exceeds a limit
abbrev pub within : Option LimitHit → Orchestra → Result Orchestra Refusal
within None o = Ok o
within (Some passed) o = Err (refusal.Limit passed)

-- the result `next`, unless a call is refused
abbrev pub unless : Option OrcFault → Result Orchestra Refusal → Result Orchestra Refusal
unless None next = next
unless (Some broken) next = Err (refusal.Orc broken)

-- An orchestra with its calls expanded; or its first refused call; or, if no call is refused, the first limit
-- that it exceeds.
abbrev pub expanding : Orchestra → Result Orchestra Refusal
expanding o = unless (first_fault o) (within (first_limit o) (expanded_orchestra o))
