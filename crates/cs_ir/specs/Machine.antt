-- The run of a code: a fold over its ops. An op is performed unless a jump skips it or the world has refused
-- something.
use Rattle.std.specs.Prelude.{ℕ, Bool, not, ◌&&◌, ◌+◌, ◌==◌, List, [], ◌∷◌, map, nat_le, if◌then◌else◌}
use Rattle.cs_words.specs.{Catalogue.row_of, Catalogue.result_count, declared.catalogue.Opcode.Opcode}
use Rattle.cs_ir.specs.{Registers.rate_at, Registers.same_kind, Values.holds, Values.negated, Values.applied}
use Rattle.cs_ir.specs.{Worlds.World, declared.op.Act.Act, declared.op.Op.Op, declared.register.Reg.Reg}
use Rattle.cs_ir.specs.Waves.{Wave, held, silence, constant, both, chosen, operand, first_values}
use Rattle.cs_base.specs.Rates.{res_rate}
use Rattle.cs_ir.specs.declared.op.Act.TheVariants as act

-- whether two registers are the same
abbrev pub same_reg : Reg → Reg → Bool
same_reg p q = same_kind p.kind q.kind && p.offset == q.offset

-- registers of which one is set to a value
abbrev pub put : (Reg → Wave) → Reg → Wave → Reg → Wave
put f r w q = if same_reg q r then w else f q

-- A machine in a world: its registers, the place of the next op to be performed, and the world's state.
pub record Machine (W : Type 0) : Type 0 where
  pub regs : Reg → Wave
  pub next : ℕ
  pub world : W

-- a machine at the beginning of a code
abbrev pub new_machine : {W : Type 0} → W → Machine W
new_machine x = record { regs = λ r. silence; next = 0; world = x }

-- a machine with the same registers at the beginning of a code, in another state of the world
abbrev pub again : {W : Type 0} → W → Machine W → Machine W
again x m = record { regs = m.regs; next = 0; world = x }

-- a machine in another state of the world
abbrev pub in_world : {W : Type 0} → W → Machine W → Machine W
in_world x m = record m { world = x }

-- a register is written, with the value as stored at its rate
abbrev pub write : {W : Type 0} → ℕ → Reg → Wave → Machine W → Machine W
write ksmps into w m = record m { regs = put m.regs into (held ksmps (rate_at into) w) }

-- whether an opcode has a result, which is written to a register
abbrev pub gives : Opcode → Bool
gives opcode = not (result_count (row_of opcode) == 0)

-- an opcode has run: the new state of the world, and the result in a register if the opcode has one
abbrev pub written : {W : Type 0} → ℕ → Opcode → Reg → W × Wave → Machine W → Machine W
written ksmps opcode into (x, w) m =
    if gives opcode then write ksmps into w (in_world x m) else in_world x m

-- the effect of an act
abbrev pub acts : {W : Type 0} → World W → Act → Reg → List Wave → Machine W → Machine W
acts o (act.Const n) into ws m = write o.ksmps into (constant n) m
acts o (act.Field k) into ws m = write o.ksmps into (constant (o.field k)) m
acts o (act.Head h) into ws m = write o.ksmps into (constant (o.head h)) m
acts o act.Copy into ws m = write o.ksmps into (operand 0 ws) m
acts o act.Neg into ws m = write o.ksmps into (λ j. negated (operand 0 ws j)) m
acts o (act.Pair b) into ws m = write o.ksmps into (both b (operand 0 ws) (operand 1 ws)) m
acts o act.Pick into ws m = write o.ksmps into (chosen (operand 0 ws) (operand 1 ws) (operand 2 ws)) m
acts o (act.Call f) into ws m = write o.ksmps into (λ j. applied f (operand 0 ws j)) m
acts o (act.Load g) into ws m = write o.ksmps into (o.load g m.world) m
acts o (act.Save g) into ws m = in_world (o.save g (held o.ksmps (res_rate g) (operand 0 ws)) m.world) m
acts o (act.Start opcode u) into ws m = in_world (o.start opcode (rate_at into) u (first_values ws) m.world) m
acts o (act.Unit opcode u reach) into ws m =
    written o.ksmps opcode into (o.does opcode (rate_at into) u reach ws m.world) m
acts o act.Seek into ws m = in_world (o.seek (first_values ws) m.world) m
acts o (act.Store reach) into ws m = in_world (o.store (rate_at into) reach ws m.world) m
acts o (act.Zak opcode reach) into ws m = written o.ksmps opcode into (o.zak opcode reach ws m.world) m
acts o (act.Jump to) into ws m = record m { next = to }
acts o (act.Unless to) into ws m = record m { next = if holds (operand 0 ws 0) then m.next else to }
acts o (act.Out c) into ws m = in_world (o.out c (operand 0 ws) m.world) m
acts o act.OutAt into ws m = in_world (o.out_at (operand 0 ws) (operand 1 ws) m.world) m
acts o act.Turnoff into ws m = in_world (o.turnoff m.world) m
acts o act.Ask into ws m = in_world (o.ask (first_values ws) m.world) m

-- An op at a place is performed if no jump goes past it and the world has refused nothing.
abbrev pub is_done : {W : Type 0} → World W → ℕ → Machine W → Bool
is_done o place m = nat_le m.next place && not (o.refused m.world)

-- one op is performed, unless it is skipped
abbrev pub step : {W : Type 0} → World W → ℕ → Op → Machine W → Machine W
step o place op m = if is_done o place m then acts o op.act op.into (map m.regs op.from) m else m

-- the run of the ops from a place on, one after another
abbrev pub run : {W : Type 0} → World W → ℕ → List Op → Machine W → Machine W
run o place [] m = m
run o place (op ∷ ops) m = run o (place + 1) ops (step o place op m)
