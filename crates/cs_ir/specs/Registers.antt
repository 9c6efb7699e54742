-- Registers by kind: the rate of each kind, the number of registers, and the limit of the numbers used.
use Rattle.std.specs.Prelude.{ℕ, Bool, ◌+◌, ◌^◌, ◌==◌, max, min, List, [], ◌∷◌, slice_index_or, if◌then◌else◌}
use Rattle.cs_base.specs.declared.resource.Rate.{Rate}
use Rattle.cs_ir.specs.{declared.register.Kind.Kind, declared.register.Reg.Reg}
use Rattle.cs_ir.specs.declared.register.RegisterCounts.{RegisterCounts}
use Rattle.cs_base.specs.declared.resource.Rate.TheVariants as rate
use Rattle.cs_ir.specs.declared.register.Kind.TheVariants as kind

-- the kind of a local variable of a rate
abbrev pub local : Rate → Kind
local rate.Init = kind.LocalInit
local rate.Control = kind.LocalControl
local rate.Audio = kind.LocalAudio

-- the kind of a temporary of a rate
abbrev pub temporary : Rate → Kind
temporary rate.Init = kind.TemporaryInit
temporary rate.Control = kind.TemporaryControl
temporary rate.Audio = kind.TemporaryAudio

-- the rate at which the value of a register of this kind changes
abbrev pub rate_of : Kind → Rate
rate_of kind.LocalInit = rate.Init
rate_of kind.LocalControl = rate.Control
rate_of kind.Kept = rate.Init
rate_of kind.TemporaryInit = rate.Init
rate_of kind.TemporaryControl = rate.Control
rate_of kind.LocalAudio = rate.Audio
rate_of kind.TemporaryAudio = rate.Audio

-- the rate at which a register's value changes
abbrev pub rate_at : Reg → Rate
rate_at q = rate_of q.kind

-- the number of each kind; a-rate kinds come last
abbrev pub kind_number : Kind → ℕ
kind_number kind.LocalInit = 0
kind_number kind.LocalControl = 1
kind_number kind.Kept = 2
kind_number kind.TemporaryInit = 3
kind_number kind.TemporaryControl = 4
kind_number kind.LocalAudio = 5
kind_number kind.TemporaryAudio = 6

-- whether two kinds are the same
abbrev pub same_kind : Kind → Kind → Bool
same_kind k j = kind_number k == kind_number j

-- the number of registers of a kind; register numbers have 32 bits
abbrev pub at_kind : RegisterCounts → Kind → ℕ
at_kind counts k = min (slice_index_or counts.counts (kind_number k) 0) (2 ^ 32)

-- one more than the number of a register of kind k; 0 for a register of any other kind
abbrev pub reg_limit : Kind → Reg → ℕ
reg_limit k q = if same_kind q.kind k then q.offset + 1 else 0

-- the greatest value of f on the items of a list; 0 for an empty list
abbrev pub most : {X : Type 0} → (X → ℕ) → List X → ℕ
most f [] = 0
most f (x ∷ xs) = max (f x) (most f xs)

-- one more than the greatest number of a register of kind k in a list
abbrev pub regs_limit : Kind → List Reg → ℕ
regs_limit k qs = most (reg_limit k) qs
