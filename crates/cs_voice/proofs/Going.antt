-- A code that is done from op to op, in a control cycle or as a note begins.
use Rattle.std.proofs.Common.{◌≡◌, ℕ, ℤ, ◌+◌, ◌<◌, ◌≤◌, ◌⊎◌, inl, inr, Bool, true, List, length, map, slice_get, Option}
use Rattle.std.proofs.Common.{Some, None, refl, sym, ◌∙◌, ap, subst, arith}
use Rattle.cs_ir.specs.{Cycles.is_of_cycle, Validity.is_fine, declared.ask.Ask.Ask, declared.op.Act.Act}
use Rattle.cs_ir.specs.{declared.op.Code.Code, declared.op.Op.Op}
use Rattle.cs_cells.specs.Access.{Access}
use Rattle.cs_machine.specs.{Registers.values, declared.state.NoteSetting.NoteSetting, declared.state.State.State}
use Rattle.cs_voice_meaning.specs.Voices.{Sheet}
use Rattle.cs_voice.specs.{Codes.CanGo, Codes.CanStart, Codes.Finding, Codes.HasStarted, Cycles.CanRun, Cycles.Context}
use Rattle.cs_voice.specs.{Cycles.HasRun, Passing.CanPass, Passing.IsDone, Passing.Passes, Ready.CanBeDone}
use Rattle.cs_voice.specs.{Ready.DoesOp, Ready.is_here, declared.begin.StartRefusal.StartRefusal}
use Rattle.cs_voice.specs.{declared.tables.Finds.Finds, inner.Jumps.GoesOn, inner.Jumps.is_start}
use Rattle.cs_voice.specs.inner.Coming.{HasGoneOn, IsDoneTo, IsOfNoCycle, Outset}
use Rattle.cs_voice.proofs.{Ops.fine_here, Passed.CanDoOp, Steps.CanStep}
use Rattle.cs_ir.specs.declared.op.Act.TheVariants as act
use Rattle.cs_voice.proofs.Passed as passed
use Rattle.cs_voice.proofs.Steps as steps

-- each op of a code that can be done can be done, as one of a sheet that begins or as one of a control cycle
abbrev pub CanDoBy : Access → NoteSetting → Finding → Op → State → Type 0
CanDoBy access at None op now = ⊥
CanDoBy access at (Some f) op now = (s : Sheet) × (f.0.at ≡ at) × CanDoOp access f.0 f.1 op s now

abbrev pub CanDoHere : Access → NoteSetting → Finding → Op → State → Type 0
CanDoHere access at finding op now =
    ((c : Context) × (end : ℕ) × (place : ℕ) × CanStep access at c end place op now) ⊎ CanDoBy access at finding op now

-- a cycle starts nothing, looks for no table and schedules no note
pub starts_not : (t : Act) → is_of_cycle t ≡ true → is_start t ≡ true → ⊥
starts_not act.Seek h s = absurd cc
starts_not t h s = absurd cc

-- ---- one op

module _ (access : Access) (at : NoteSetting) (op : Op) (now : State) where
  pub can_start : (finding : Finding) → is_start op.act ≡ true → CanDoHere access at finding op now
      → CanStart finding op now
  can_start finding st (inl (c, end, place, h)) = absurd (starts_not op.act h.acts st)
  can_start None st (inr h) = absurd h
  can_start (Some f) st (inr (s, same, h)) =
      (s, record { found = h.begin.found; playable = h.begin.playable; fine = h.fine; state = h.begin.state })

  pub can_act : (finding : Finding) → CanDoHere access at finding op now → CanBeDone access at op now
  can_act finding (inl (c, end, place, h)) = steps.can_be_done h
  can_act None (inr h) = absurd h
  can_act (Some f) (inr (s, same, h)) = subst (λ x. CanBeDone access x op now) same (passed.can_be_done h)

-- ---- a code

module _ {earlier later : Access} (alike : later ≡ earlier) {at : NoteSetting} {finding : Finding} {o : Outset}
    {place : ℕ} {now : State} {cells : ℕ → ℤ} {given : List Ask}
    (done : IsDoneTo earlier at finding o place now cells given) {op : Op} (is : slice_get o.ops place ≡ Some op) where
  -- the op can be done in a cycle, with the bank before and with the bank now
  step_first : (c : Context) → CanRun earlier at c o.ops o.first → CanStep earlier at c (length o.ops) place op now
  step_first c can = steps.can_step (steps.can_go_on can (done.cycle c can).state) is

  step_now : (c : Context) → CanRun earlier at c o.ops o.first → CanStep later at c (length o.ops) place op now
  step_now c can =
      subst (λ access. CanStep access at c (length o.ops) place op now) (sym alike) (step_first c can)

  -- the op can be done as one of a sheet that begins
  op_now : (f : Finds) (ms : List Bool) (code : Code) (s : Sheet) → finding ≡ Some (f, ms) → f.at ≡ at
      → code.ops ≡ o.ops → CanPass earlier f ms code s o.first → CanDoOp later f ms op s now
  op_now f ms code s found same eq can =
      passed.able_again (done.passes f ms code s found same eq can) alike can (ap (λ xs. slice_get xs place) eq ∙ is)

  pub can_here : CanGo earlier at finding o.ops o.first → CanDoHere later at finding op now
  can_here can = by finding refl can
    where
      by : (x : Finding) → finding ≡ x → CanGo earlier at x o.ops o.first → CanDoHere later at x op now
      by x e (inl (c, h)) = inl (c, length o.ops, place, step_now c h)
      by None e (inr h) = absurd h
      by (Some f) e (inr (code, s, same, eq, h)) = inr (s, same, op_now f.0 f.1 code s e same eq h)

  pub fine_now : CanGo earlier at finding o.ops o.first → (end : ℕ) × (is_fine now.regs.counts end place op ≡ true)
  fine_now can = by finding refl can
    where
      by : (x : Finding) → finding ≡ x → CanGo earlier at x o.ops o.first
          → (end : ℕ) × (is_fine now.regs.counts end place op ≡ true)
      by x e (inl (c, h)) = (length o.ops, (step_first c h).fine)
      by None e (inr h) = absurd h
      by (Some f) e (inr (code, s, same, eq, h)) =
          let u = done.passes f.0 f.1 code s e same eq h in (
            length code.ops,
            subst (λ k. is_fine k (length code.ops) place op ≡ true) (sym (u.counted ∙ h.counts))
                (fine_here code place op h.valid (ap (λ xs. slice_get xs place) eq ∙ is)),
          )

  -- a jump
  pub done_jump : (to : ℕ) → place < to → GoesOn op.act (map (values now.regs) op.from) place to
      → IsDoneTo earlier at finding o to now cells given
  done_jump to later on = record {
    cycle = λ c can. steps.came_on (done.cycle c can) is later (steps.jump_step (step_first c can) cells to on);
    passes = λ f ms code s found same eq can. passed.passed_jump (done.passes f ms code s found same eq can) to op
        (ap (λ xs. slice_get xs place) (can.same ∙ eq) ∙ is) later on;
  }

  -- an op that was done on cells
  pub done_act : (new : State) (after : ℕ → ℤ) → is_here op.act ≡ true → DoesOp later at op now cells new after
      → IsDoneTo earlier at finding o (place + 1) new after given
  done_act new after here does = record {
    cycle = λ c can. steps.came_on (done.cycle c can) is (omega arith) (steps.does_step (step_now c can) does);
    passes = λ f ms code s found same eq can. passed.passed_one (done.passes f ms code s found same eq can)
        can.begin.playable (ap (λ xs. slice_get xs place) (can.same ∙ eq) ∙ is)
        (passed.done_here (op_now f ms code s found same eq can) here
        (subst (λ x. DoesOp later x op now cells new after) (sym same) does));
  }

  -- an op that only the code that begins a note has is in no control cycle
  pub never : is_start op.act ≡ true → IsOfNoCycle earlier at o
  never st c can = starts_not op.act (step_first c can).acts st

  -- what such an op does as a note begins, to its end or to a refusal
  pub done_start : (new : State) (asks : List Ask) (refused : Option StartRefusal) → is_start op.act ≡ true
      → HasStarted finding op now given new asks refused
      → HasGoneOn earlier at finding o (place + 1) new cells asks refused
  done_start new asks refused st started = by refused did
    where
      did : (f : Finds) (ms : List Bool) (code : Code) (s : Sheet) → finding ≡ Some (f, ms) → f.at ≡ at
          → code.ops ≡ o.ops → CanPass earlier f ms code s o.first → IsDone s op now cells given new cells asks refused
      did f ms code s found same eq can =
          let h = op_now f ms code s found same eq can in
          (subst (λ x. HasStarted x op now given new asks refused) found started) s cells (record {
            found = h.begin.found;
            playable = h.begin.playable;
            fine = h.fine;
            state = h.begin.state;
          })

      by : (x : Option StartRefusal) → ((f : Finds) (ms : List Bool) (code : Code) (s : Sheet)
          → finding ≡ Some (f, ms) → f.at ≡ at → code.ops ≡ o.ops
          → CanPass earlier f ms code s o.first → IsDone s op now cells given new cells asks x)
          → HasGoneOn earlier at finding o (place + 1) new cells asks x
      by None did = record {
        cycle = λ c can. absurd (never st c can);
        passes = λ f ms code s found same eq can. passed.passed_one (done.passes f ms code s found same eq can)
            can.begin.playable (ap (λ xs. slice_get xs place) (can.same ∙ eq) ∙ is) (did f ms code s found same eq can);
      }
      by (Some x) did = record {
        cycle = never st;
        passes = λ f ms code s found same eq can. passed.passed_refused (done.passes f ms code s found same eq can)
            (ap (λ xs. slice_get xs place) (can.same ∙ eq) ∙ is) (did f ms code s found same eq can);
      }

-- ---- a complete code

module _ (access : Access) (at : NoteSetting) (finding : Finding) (o : Outset) where
  -- nothing has been done yet
  pub done_none : IsDoneTo access at finding o 0 o.first o.before o.asked
  done_none = record {
    cycle = λ c can. steps.begun at.layout.now c o.ops o.first o.before can.state;
    passes = λ f ms code s found same eq can. passed.passed_none s o.first o.before o.asked can.begin.state;
  }

  -- everything has been done, or nothing more after a refusal
  pub all_cycle : (place : ℕ) (now : State) (cells : ℕ → ℤ) (given : List Ask) (refused : Option StartRefusal)
      → length o.ops ≤ place → HasGoneOn access at finding o place now cells given refused
      → (c : Context) → CanRun access at c o.ops o.first
      → (refused ≡ None) × HasRun at.layout.now c o.ops o.first o.before now cells
  all_cycle place now cells given None far done c can =
      (refl, steps.ended (done.cycle c can) far)
  all_cycle place now cells given (Some x) far done c can = absurd (done.cycle c can)

  pub all_passed : (place : ℕ) (now : State) (cells : ℕ → ℤ) (given : List Ask) (refused : Option StartRefusal)
      → length o.ops ≤ place → HasGoneOn access at finding o place now cells given refused
      → (f : Finds) (ms : List Bool) (code : Code) (s : Sheet) → finding ≡ Some (f, ms) → f.at ≡ at
      → code.ops ≡ o.ops → CanPass access f ms code s o.first
      → Passes s o.first o.before o.asked now cells given refused
  all_passed place now cells given None far done f ms code s found same eq can =
      passed.passed_all (done.passes f ms code s found same eq can)
      (let e : length s.init ≡ length o.ops = ap length (can.same ∙ eq) in omega (arith, far, e))
  all_passed place now cells given (Some x) far done f ms code s found same eq can =
      done.passes f ms code s found same eq can
