-- A control cycle refuses nothing, schedules no note, and starts no delay.
use Rattle.std.proofs.Common.{arith, ◌≡◌, ℕ, ℤ, ◌+◌, Bool, true, false, List, ◌∷◌, map, Option, None, if◌then◌else◌}
use Rattle.std.proofs.Common.{refl, ◌∙◌, [], ap}
use Rattle.std.proofs.lemmas.{Grind.common_steps, Bool.and_parts}
use Rattle.cs_ir.specs.{Registers.rate_at, Cycles.is_of_cycle, Cycles.are_of_cycle, Waves.Wave, Waves.operand}
use Rattle.cs_ir.specs.{declared.op.Act.Act, declared.op.Op.Op, declared.register.Reg.Reg}
use Rattle.cs_ir.specs.Machine.{Machine, acts, is_done, step, run, write}
use Rattle.cs_meaning.specs.{Model.Cause, Model.State, Model.WorldModel, Model.world_of, Pieces.index}
use Rattle.cs_meaning.proofs.Rest.{Rest, rest, unit_rest, store_rest, zak_rest, numbered_rest}
use Rattle.cs_voice_meaning.specs.{VoiceWorld.voice_model, Voices.Sounding, Voices.IsSound, Voices.begins, Voices.cycle}
use Rattle.cs_ir.specs.declared.op.Act.TheVariants as act

-- the parts of a state that only the beginning of a voice changes
pub record Settled : Type 0 where
  pub delays : ℕ
  pub asks : List (List ℤ)
  pub cause : Option Cause

abbrev settled_of : Rest → Settled
settled_of r = record { delays = r.delays; asks = r.asks; cause = r.cause }

abbrev pub settled : {S U : Type 0} → State S U → Settled
settled x = settled_of (rest x)

module _ {S U : Type 0} (model : WorldModel S U) where
  written_steady : (b : Bool) (into : Reg) (p : State S U × Wave) (m : Machine (State S U)) (z : State S U)
      → settled p.0 ≡ settled z
      → settled (if b then write model.piece.head.ksmps into p.1 (record m { world = p.0 }) else record m
      { world = p.0 }).world ≡ settled z
  written_steady true into p m z h = h
  written_steady false into p m z h = h

  acts_steady : (t : Act) (into : Reg) (ws : List Wave) (m : Machine (State S U)) → is_of_cycle t ≡ true
      → settled (acts (world_of model) t into ws m).world ≡ settled m.world
  acts_steady (act.Start opcode k) into ws m h = absurd (cc)
  acts_steady (act.Unit opcode k reach) into ws m h = grind (arith, common_steps, unit_rest, written_steady)
  acts_steady act.Seek into ws m h = absurd (cc)
  acts_steady (act.Store reach) into ws m h =
      ap settled_of (store_rest model (rate_at into) reach ws (index (operand 2 ws 0)) m.world)
  acts_steady (act.Zak opcode reach) into ws m h = grind (arith, common_steps, written_steady, zak_rest)
  acts_steady act.OutAt into ws m h =
      ap settled_of (numbered_rest model (index (operand 0 ws 0)) (operand 1 ws) m.world)
  acts_steady act.Ask into ws m h = absurd (cc)
  acts_steady _ into ws m h = refl

  either_steady : (b : Bool) (n m : Machine (State S U)) (z : State S U) → settled n.world ≡ settled z
      → settled m.world ≡ settled z → settled (if b then n else m).world ≡ settled z
  either_steady true n m z h k = h
  either_steady false n m z h k = k

  -- ops of a control cycle don't change these parts
  pub run_steady : (place : ℕ) (ops : List Op) (m : Machine (State S U)) → are_of_cycle ops ≡ true
      → settled (run (world_of model) place ops m).world ≡ settled m.world
  run_steady place [] m h = refl
  run_steady place (op ∷ ops) m h =
      let both = and_parts (is_of_cycle op.act) (are_of_cycle ops) h in
      run_steady (place + 1) ops (step (world_of model) place op m) both.1
      ∙ either_steady _ _ _ m.world (acts_steady _ _ _ _ both.0) refl

pub cycle_steady : (v : Sounding) (cells : ℕ → ℤ) → IsSound v
    → ((cycle v cells).world.cause ≡ None) × ((cycle v cells).world.asks ≡ [])
    × ((cycle v cells).world.delays ≡ v.delays)
cycle_steady v cells s =
    let e = run_steady (voice_model v.sheet.areas v.sheet.piece) 0 v.sheet.perf (begins v cells) s.perf_acts in
    (ap (λ z. z.cause) e, ap (λ z. z.asks) e, ap (λ z. z.delays) e)
