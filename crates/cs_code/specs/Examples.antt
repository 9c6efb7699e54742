-- Three small instruments, with their codes written by hand.
use Rattle.std.specs.Prelude.{ℕ, pos, ◌*ℤ◌, ◌≡◌, List, [], ◌∷◌}
use Rattle.cs_base.specs.{Numbers.one, declared.resource.Rate.Rate}
use Rattle.cs_ir.specs.{declared.op.Act.Act, declared.op.Code.Code, declared.op.Op.Op, Registers.local}
use Rattle.cs_ir.specs.{Registers.temporary, declared.register.Counts.Counts, declared.register.Reg.Reg}
use Rattle.cs_typed.specs.declared.tree.Var.TheVariants.{Local}
use Rattle.cs_base.specs.declared.resource.Rate.TheVariants as rate
use Rattle.cs_words.specs.declared.catalogue.Opcode.TheVariants as opcode
use Rattle.cs_words.specs.declared.sign.BinOp.TheVariants as sign
use Rattle.cs_ir.specs.declared.op.Act.TheVariants as act
use Rattle.cs_ir.specs.declared.op.Reach.TheVariants as reach
use Rattle.cs_ir.specs.declared.register.Kind.TheVariants as kind
use Rattle.cs_typed.specs.TypedTree as typed

-- k1 = k1 + 1
abbrev pub counter : typed.Block
counter =
    typed.andthen (typed.set 1 rate.Control (Local rate.Control 0)
    (typed.pair rate.Control sign.Add (typed.var rate.Control (Local rate.Control 0)) (typed.number rate.Init one)))
    typed.no_stmt

-- a1 oscili k1, 440, 1
-- out a1
abbrev pub tone : typed.Block
tone =
    typed.andthen (typed.call 1 rate.Audio (Local rate.Audio 0 ∷ []) opcode.Oscili
    (typed.value (typed.var rate.Control (Local rate.Control 0)) ∷ typed.value (typed.number rate.Init (pos 440 *ℤ one))
    ∷ typed.value (typed.number rate.Init one) ∷ []))
    (typed.andthen (typed.call 2 rate.Audio [] opcode.Out
    (typed.value (typed.var rate.Audio (Local rate.Audio 0)) ∷ [])) typed.no_stmt)

-- k1 = k1 + k2 + k1 + k2
abbrev pub terms : typed.Block
terms =
    let first = typed.var rate.Control (Local rate.Control 0) in
    let second = typed.var rate.Control (Local rate.Control 1) in
    let plus = typed.pair rate.Control sign.Add in
    typed.andthen (typed.set 1 rate.Control (Local rate.Control 0) (plus (plus (plus first second) first) second))
    typed.no_stmt

-- the register of a local variable
abbrev at : Rate → ℕ → Reg
at r n = record { kind = local r; offset = n }

abbrev kept : ℕ → Reg
kept n = record { kind = kind.Kept; offset = n }

abbrev between : Rate → ℕ → Reg
between r n = record { kind = temporary r; offset = n }

-- the numbers of registers, in this order: i-rate locals, k-rate locals, kept values, i-rate temporaries,
-- k-rate temporaries, a-rate locals, a-rate temporaries
abbrev counts_of : List ℕ → ℕ → Counts
counts_of registers units = record { registers = record { counts = registers }; units = units }

abbrev op : Act → Reg → List Reg → Op
op a into from = record { act = a; into = into; from = from }

-- As a note begins the constant 1 is kept, and in each cycle it is added.
abbrev pub counter_init : List Op
counter_init = op (act.Const one) (kept 0) [] ∷ []

-- the ops of `counter` in a cycle
abbrev pub counter_perf : List Op
counter_perf = op (act.Pair sign.Add) (at rate.Control 0) (at rate.Control 0 ∷ kept 0 ∷ []) ∷ []

-- the registers and units of `counter`
abbrev pub counter_counts : Counts
counter_counts = counts_of (0 ∷ 1 ∷ 1 ∷ 0 ∷ 0 ∷ 0 ∷ 0 ∷ []) 0

-- Nothing is kept, and one temporary holds each sum in turn.
abbrev pub terms_perf : List Op
terms_perf =
    op (act.Pair sign.Add) (between rate.Control 0) (at rate.Control 0 ∷ at rate.Control 1 ∷ [])
    ∷ op (act.Pair sign.Add) (between rate.Control 0) (between rate.Control 0 ∷ at rate.Control 0 ∷ [])
    ∷ op (act.Pair sign.Add) (at rate.Control 0) (between rate.Control 0 ∷ at rate.Control 1 ∷ [])
    ∷ []

-- the registers and units of `terms`
abbrev pub terms_counts : Counts
terms_counts = counts_of (0 ∷ 2 ∷ 0 ∷ 0 ∷ 1 ∷ 0 ∷ 0 ∷ []) 0

-- As a note begins the frequency is kept and the unit is started on its table; in each cycle the unit runs
-- and its signal is output.
abbrev pub tone_init : List Op
tone_init =
    op (act.Const (pos 440 *ℤ one)) (kept 0) []
    ∷ op (act.Const one) (between rate.Init 0) []
    ∷ op (act.Start opcode.Oscili 0) (between rate.Audio 0) (between rate.Init 0 ∷ [])
    ∷ []

-- the ops of `tone` in a cycle
abbrev pub tone_perf : List Op
tone_perf =
    op (act.Unit opcode.Oscili 0 (reach.Span 1 1)) (at rate.Audio 0) (at rate.Control 0 ∷ kept 0 ∷ [])
    ∷ op (act.Out 0) (at rate.Audio 0) (at rate.Audio 0 ∷ [])
    ∷ []

-- the registers and units of `tone`
abbrev pub tone_counts : Counts
tone_counts = counts_of (0 ∷ 1 ∷ 1 ∷ 1 ∷ 0 ∷ 1 ∷ 1 ∷ []) 1

-- a code with these ops, over these registers and units
abbrev pub IsMadeOf : List Op → Counts → Code → Type 0
IsMadeOf ops counts code = (code.ops ≡ ops) × (code.counts ≡ counts)
