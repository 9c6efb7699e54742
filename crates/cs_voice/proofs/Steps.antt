-- The ops of a code in a control cycle, one after another.
use Rattle.std.proofs.Common.{◌≡◌, ℕ, ℤ, ◌+◌, ◌<◌, ◌≤◌, true, List, [], length, map, slice_get, Some, None, refl, sym}
use Rattle.std.proofs.Common.{◌∙◌, ap, subst, arith}
use Rattle.cs_ir.specs.{Cycles.is_of_cycle, Validity.is_fine, declared.op.Op.Op, Machine.acts}
use Rattle.cs_ir.proofs.Fine.{fine_at}
use Rattle.cs_cells.specs.{Access.Access, declared.footprint.Area.Area}
use Rattle.cs_machine.specs.{Registers.values, declared.state.State.State, declared.state.NoteSetting.NoteSetting}
use Rattle.cs_voice_meaning.specs.{VoiceWorld.voice_world, Voices.has_channel}
use Rattle.cs_machine.specs.States.{Does, IsStateIn, machine_of}
use Rattle.cs_voice.specs.{Ready.CanBeDone, Ready.DoesOp, Ready.IsReady, inner.Jumps.GoesOn, inner.Coming.HasComeTo}
use Rattle.cs_voice.specs.Cycles.{CanRun, Context, HasRun}
use Rattle.cs_machine.proofs.Gathered.{each_read}
use Rattle.cs_voice.proofs.{Ops.all_at, Running.HasMoved, Running.begins, Running.ends, Running.goes_on, Running.jumped}

-- An op at an index of a code can be done in a control cycle on a bank: it may be done, is valid there, and
-- is one of a cycle.
pub record CanStep (access : Access) (at : NoteSetting) (c : Context) (end place : ℕ) (op : Op)
    (s : State) : Type 0 where
  pub ready : IsReady access at c.piece c.kinds c.stock op s
  pub counts : s.regs.counts ≡ c.counts
  pub fine : is_fine s.regs.counts end place op ≡ true
  pub acts : is_of_cycle op.act ≡ true

-- An op at an index was done, whatever jump may have come before.
pub record HasStepped (areas : List Area) (c : Context) (op : Op) (place result : ℕ) (old : State) (before : ℕ → ℤ)
    (new : State) (after : ℕ → ℤ) : Type 0 where
  pub moved : (next : ℕ) → next ≤ place → HasMoved place result []
      (acts (voice_world areas c.piece) op.act op.into (map (values old.regs) op.from)
      (machine_of old before next [] None)) new after
  pub state : IsStateIn areas c.piece c.kinds c.counts new

-- ---- what a code that can be run requires of each op

module _ {access : Access} {at : NoteSetting} {c : Context} {ops : List Op} {s : State}
    (h : CanRun access at c ops s) where
  -- each op of a code that can be run can be done
  pub can_step : {n : ℕ} {op : Op} → slice_get ops n ≡ Some op → CanStep access at c (length ops) n op s
  can_step {n} {op} e =
      let there : is_fine s.regs.counts (length ops) n op ≡ true =
      ap (λ k. is_fine k (length ops) n op) h.state.registers
      ∙ ap (λ k. is_fine c.counts (length ops) k op) (let p : n ≡ 0 + n = omega arith in p)
      ∙ fine_at c.counts (length ops) 0 ops n op h.fine e in
      record {
        ready = record {
          setting = h.setting;
          placed = h.placed;
          spaces = h.spaces;
          zak = h.zak;
          state = subst (λ k. IsStateIn at.layout.now c.piece c.kinds k s) (sym h.state.registers) h.state;
          end = length ops;
          place = n;
          fine = there;
          named = all_at _ ops n op h.named e;
          channel = each_read (λ (o : Op). has_channel c.piece.head.nchnls o.act) ops n op h.channels e;
          can = all_at _ ops n op h.can e;
        };
        counts = h.state.registers;
        fine = there;
        acts = each_read (λ (o : Op). is_of_cycle o.act) ops n op h.acts e;
      }

  -- the code can still be run from another state of it
  pub can_go_on : {t : State} → IsStateIn at.layout.now c.piece c.kinds c.counts t → CanRun access at c ops t
  can_go_on st = record {
    setting = h.setting;
    placed = h.placed;
    spaces = h.spaces;
    zak = h.zak;
    state = st;
    fine = h.fine;
    named = h.named;
    channels = h.channels;
    acts = h.acts;
    can = h.can;
  }

module _ {access : Access} {at : NoteSetting} {c : Context} {s : State} {end place : ℕ} {op : Op}
    (h : CanStep access at c end place op s) where
  pub can_be_done : CanBeDone access at op s
  can_be_done = record { piece = c.piece; kinds = c.kinds; stock = c.stock; ready = h.ready }

  -- what the op does there
  pub does_step : {before : ℕ → ℤ} {t : State} {after : ℕ → ℤ} → DoesOp access at op s before t after
      → HasStepped at.layout.now c op place (place + 1) s before t after
  does_step {before} {t} {after} d =
      let does : Does at.layout.now c.piece c.kinds c.counts op.act op.into op.from s before t after =
      subst (λ n. Does at.layout.now c.piece c.kinds n op.act op.into op.from s before t after) h.counts
      (d c.piece c.kinds c.stock h.ready) in
      record {
        moved = λ next near. record {
          next = next;
          machine = does.machine next [] None;
          below = omega (arith, near);
          there = λ far. absurd (omega (arith, far));
        };
        state = does.state;
      }

  -- a jump changes neither state nor cells
  pub jump_step : (before : ℕ → ℤ) (to : ℕ) → GoesOn op.act (map (values s.regs) op.from) place to
      → HasStepped at.layout.now c op place to s before s before
  jump_step before to g = record {
    moved = jumped at.layout.now c.piece s before [] op.act op.into (map (values s.regs) op.from) place to g;
    state = subst (λ n. IsStateIn at.layout.now c.piece c.kinds n s) h.counts h.ready.state;
  }

-- ---- the loop

pub begun : (areas : List Area) (c : Context) (ops : List Op) (old : State) (before : ℕ → ℤ)
    → IsStateIn areas c.piece c.kinds c.counts old → HasComeTo areas c ops 0 old before old before
begun areas c ops old before st = record {
  next = 0;
  up = begins (voice_world areas c.piece) ops (machine_of old before 0 [] None) refl;
  state = st;
}

module _ {areas : List Area} {c : Context} {ops : List Op} {old : State} {before : ℕ → ℤ} {place : ℕ} {s : State}
    {cells : ℕ → ℤ} (h : HasComeTo areas c ops place old before s cells) where
  pub came_on : {to : ℕ} {op : Op} {t : State} {after : ℕ → ℤ} → slice_get ops place ≡ Some op → place < to
      → HasStepped areas c op place to s cells t after → HasComeTo areas c ops to old before t after
  came_on at later d = let k = d.moved h.next h.up.next in record {
    next = k.next;
    up = goes_on h.up at refl k.machine later k.below k.there;
    state = d.state;
  }

  pub ended : length ops ≤ place → HasRun areas c ops old before s cells
  ended far = record { next = h.next; machine = sym (ends h.up far); state = h.state }
