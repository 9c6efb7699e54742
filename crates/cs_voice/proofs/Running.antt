-- A code that is run op by op; ops that a jump skips do nothing.
use Rattle.std.proofs.Common.{◌≡◌, ℕ, ℤ, zero, suc, ◌+◌, ◌-◌, ◌<◌, ◌≤◌, Bool, true, false, not, ◌&&◌, List, [], ◌∷◌}
use Rattle.std.proofs.Common.{length, drop, map, nat_le, slice_get, Some, None, if◌then◌else◌, refl, sym, ◌∙◌, ap}
use Rattle.std.proofs.{Common.arith, Math.Bool.and-false}
use Rattle.std.proofs.lemmas.{Bool.Decides.nat_tests, List.drop-drop, List.drop_all, List.drop_more}
use Rattle.std.proofs.lemmas.Option.{get_or_from_slice_get, slice_get_within}
use Rattle.cs_ir.specs.{Machine.Machine, Machine.acts, Machine.run, Machine.step, Values.holds, Waves.Wave}
use Rattle.cs_ir.specs.{Waves.operand, Worlds.World, declared.op.Act.Act, declared.op.Op.Op, declared.register.Reg.Reg}
use Rattle.cs_cells.specs.declared.footprint.Area.{Area}
use Rattle.cs_meaning.specs.Pieces.{Piece}
use Rattle.cs_machine.specs.{States.machine_of, declared.state.State.State}
use Rattle.cs_voice_meaning.specs.VoiceWorld.{VoiceState, voice_world}
use Rattle.cs_voice.specs.{inner.Coming.IsUpTo, inner.Jumps.GoesOn}
use Rattle.cs_ir.specs.declared.op.Act.TheVariants as act

-- The machine after an op is this state on these cells, and the next op that is done is at another index: the
-- next one, or the one to which the op jumps.
pub record HasMoved (place result : ℕ) (asked : List (List ℤ)) (m : Machine VoiceState) (new : State) (after : ℕ → ℤ)
    : Type 0 where
  pub next : ℕ
  pub machine : machine_of new after next asked None ≡ m
  pub below : next ≤ result
  pub there : place + 1 < result → next ≡ result

-- the ops from the index of one of them on
from_op : (ops : List Op) (n : ℕ) (op : Op) → slice_get ops n ≡ Some op → drop n ops ≡ op ∷ drop (n + 1) ops
from_op ops n op e =
    drop_more ops n op (slice_get_within ops n op e)
    ∙ ap (λ x. x ∷ drop (n + 1) ops) (get_or_from_slice_get ops n op op e)

module _ {W : Type 0} (o : World W) where
  skipped : (place : ℕ) (op : Op) (m : Machine W) → place < m.next → step o place op m ≡ m
  skipped place op m far =
      let e : nat_le m.next place ≡ false = grind (arith, nat_tests) in
      ap (λ b. if b && not (o.refused m.world) then acts o op.act op.into (map m.regs op.from) m else m) e

  -- ops that a jump skips do nothing
  left_out : (k place : ℕ) (ops : List Op) (m : Machine W) → (0 < k → m.next ≡ place + k)
      → run o place ops m ≡ run o (place + k) (drop k ops) m
  left_out zero place ops m h = ap (λ p. run o p ops m) (let here : place ≡ place + 0 = omega arith in here)
  left_out (suc k) place [] m h = refl
  left_out (suc k) place (x ∷ ops) m h =
      let next : m.next ≡ place + suc k = h (omega arith) in
      let before : place < m.next = omega (arith, next) in
      let there : place + 1 + k ≡ place + suc k = omega arith in
      ap (run o (place + 1) ops) (skipped place x m before)
      ∙ left_out k (place + 1) ops m (λ some. let e : m.next ≡ place + 1 + k = omega (arith, next) in e)
      ∙ ap (λ p. run o p (drop k ops) m) there

  past : (ops : List Op) (place to : ℕ) (m : Machine W) → place ≤ to → (place < to → m.next ≡ to)
      → run o place (drop place ops) m ≡ run o to (drop to ops) m
  past ops place to m later there =
      let k : ℕ = to - place in
      let sum : place + k ≡ to = omega (arith, later) in
      left_out k place (drop place ops) m (λ some. there (omega (arith, some, sum)) ∙ sym sum)
      ∙ ap (λ l. run o (place + k) l m) (drop-drop k place ops) ∙ ap (λ p. run o p (drop p ops) m) sum

  -- ops after a refusal do nothing
  stops : (ops : List Op) (place : ℕ) (m : Machine W) → o.refused m.world ≡ true → run o place ops m ≡ m
  stops [] place m e = refl
  stops (x ∷ ops) place m e =
      let n : Machine W = acts o x.act x.into (map m.regs x.from) m in
      ap (run o (place + 1) ops) (ap (λ b. if nat_le m.next place && not b then n else m) e
      ∙ ap (λ b. if b then n else m) (and-false (nat_le m.next place))) ∙ stops ops (place + 1) m e

  -- an op that isn't skipped is done if nothing was refused
  done_here : (place : ℕ) (op : Op) (m : Machine W) → m.next ≤ place → o.refused m.world ≡ false
      → step o place op m ≡ acts o op.act op.into (map m.regs op.from) m
  done_here place op m near goes =
      let e : nat_le m.next place ≡ true = grind (arith, nat_tests) in
      let n : Machine W = acts o op.act op.into (map m.regs op.from) m in
      ap (λ b. if b && not (o.refused m.world) then n else m) e ∙ ap (λ b. if not b then n else m) goes

  pub begins : (ops : List Op) (m : Machine W) → m.next ≡ 0 → IsUpTo o ops m 0 m
  begins ops m e = record { next = omega arith; same = refl }

module _ {W : Type 0} {o : World W} {ops : List Op} {first : Machine W} {place : ℕ} {m : Machine W}
    (u : IsUpTo o ops first place m) where
  -- the run from an op on: the op, and the run from the next index on
  op_done : {op : Op} {n : Machine W} → slice_get ops place ≡ Some op → o.refused m.world ≡ false
      → n ≡ acts o op.act op.into (map m.regs op.from) m
      → run o 0 ops first ≡ run o (place + 1) (drop (place + 1) ops) n
  op_done {op} at goes e =
      u.same ∙ ap (λ rest. run o place rest m) (from_op ops place op at)
      ∙ ap (run o (place + 1) (drop (place + 1) ops)) (done_here o place op m u.next goes ∙ sym e)

  -- an op is done, and the run goes on after it or where it jumps to
  pub goes_on : {to : ℕ} {op : Op} {n : Machine W} → slice_get ops place ≡ Some op → o.refused m.world ≡ false
      → n ≡ acts o op.act op.into (map m.regs op.from) m → place < to → n.next ≤ to → (place + 1 < to → n.next ≡ to)
      → IsUpTo o ops first to n
  goes_on {to} {op} {n} at goes e later near there = record {
    next = near;
    same = op_done at goes e ∙ past o ops (place + 1) to n (omega (arith, later)) there;
  }

  -- the end of the code; or a refusal before it
  pub ends : length ops ≤ place → run o 0 ops first ≡ m
  ends h = u.same ∙ ap (λ rest. run o place rest m) (drop_all place ops h)

  pub refuses : {op : Op} {n : Machine W} → slice_get ops place ≡ Some op → o.refused m.world ≡ false
      → n ≡ acts o op.act op.into (map m.regs op.from) m → o.refused n.world ≡ true → run o 0 ops first ≡ n
  refuses {op} {n} at goes e stopped = op_done at goes e ∙ stops o (drop (place + 1) ops) (place + 1) n stopped

-- a jump changes neither state nor cells
module _ (areas : List Area) (piece : Piece) (s : State) (cells : ℕ → ℤ) (more : List (List ℤ)) where
  pub jumped : (t : Act) (into : Reg) (ws : List Wave) (place to : ℕ) → GoesOn t ws place to → (next : ℕ) → next ≤ place
      → HasMoved place to more (acts (voice_world areas piece) t into ws (machine_of s cells next more None)) s cells
  jumped (act.Jump later) into ws place to g next near =
      record { next = later; machine = refl; below = omega (arith, g); there = λ far. sym g }
  jumped (act.Unless later) into ws place to g next near = by (holds (operand 0 ws 0)) g
    where
      by : (b : Bool) → to ≡ (if b then place + 1 else later)
          → HasMoved place to more (record (machine_of s cells next more None) { next = if b then next else later }) s
          cells
      by true h = record {
        next = next;
        machine = refl;
        below = omega (arith, near, h);
        there =
            λ far. absurd (omega (arith, far, h));
      }
      by false h = record { next = later; machine = refl; below = omega (arith, h); there = λ far. sym h }
  jumped _ into ws place to g next near = absurd g
