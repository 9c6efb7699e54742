-- Faults, one after another.
use Rattle.std.specs.Prelude.{List, [], ◌∷◌, Option, Some, None}
use Rattle.cs_base.specs.declared.fault.OrcFault.{OrcFault}
use Rattle.cs_udo.specs.{Expanded.Opcodes, Refused.uppermost_of, declared.refuse.Site.Site}
use Rattle.cs_udo.specs.Library.{definitions_of, opcodes_of}

-- the opcodes that are defined before the calls
abbrev pub opcodes_at : Site → Opcodes
opcodes_at s = opcodes_of (definitions_of s.library.now) s.visible

-- an option as a list
abbrev pub listed : {A : Type 0} → Option A → List A
listed None = []
listed (Some x) = x ∷ []

-- the earliest of one fault and several others
abbrev pub after_faults : Option OrcFault → List OrcFault → Option OrcFault
after_faults first [] = first
after_faults first (f ∷ rest) = after_faults (uppermost_of first (Some f)) rest
