-- The steps of a routine, done where it is invoked: the ops that a code has there, and how far the code has
-- been done.
use Rattle.std.proofs.Common.{◌≡◌, ◌∙◌, ◌+◌, ◌≤◌, ◌<◌, ◌++◌, ◌&&◌, ℕ, ℤ, zero, suc, Bool, true, false, List, [], ◌∷◌}
use Rattle.std.proofs.Common.{length, map, nat_le, nat_lt, slice_get, Option, Some, None, if◌then◌else◌, arith, refl}
use Rattle.std.proofs.Common.{sym, ap, subst, ltb-true, ◌⊎◌, inl, inr}
use Rattle.std.specs.{List.list_all, Option.option_map}
use Rattle.std.proofs.lemmas.{Bool.and_parts, Bool.Decides.nat_tests, List.length-map, Option.slice_get-map}
use Rattle.cs_base.proofs.Tests.{by_test}
use Rattle.cs_ir.proofs.Places.{place_end, place_later, place_next, step_long, steps_long}
use Rattle.cs_ir.proofs.Twice.{ops_twice, whole_ops}
use Rattle.cs_ir.specs.Flat.{Begins, flat, flat_from, flat_step, further, moved_act, moved_op, moved_ops, moved_reg}
use Rattle.cs_ir.specs.Flat.{no_window, ops_at, place_of, placed, size, window_of}
use Rattle.cs_ir.specs.{Registers.rate_at, Validity.finds, Validity.has_register, Validity.is_fine, Validity.takes_from}
use Rattle.cs_ir.specs.{Values.holds, Waves.operand, declared.ask.Ask.Ask, declared.op.Act.Act, declared.op.Code.Code}
use Rattle.cs_ir.specs.{declared.op.Op.Op, declared.register.Reg.Reg, declared.step.Call.Call, declared.step.Step.Step}
use Rattle.cs_cells.specs.Access.{Access}
use Rattle.cs_machine.specs.{Registers.values, declared.state.NoteSetting.NoteSetting, declared.state.State.State}
use Rattle.cs_voice_meaning.specs.Voices.{Sheet}
use Rattle.cs_voice.specs.Codes.{CanGo, CanStart, Finding, HasStarted}
use Rattle.cs_voice.specs.{Cycles.CanRun, Cycles.Context, Cycles.HasRun, Passing.CanPass, Passing.Passes}
use Rattle.cs_voice.specs.{Ready.CanBeDone, Ready.DoesOp, Ready.is_here, declared.begin.StartRefusal.StartRefusal}
use Rattle.cs_voice.specs.{declared.tables.Finds.Finds, inner.Coming.Outset, inner.Jumps.GoesOn, inner.Jumps.is_start}
use Rattle.cs_voice.specs.inner.Coming.{AreOfNoCycle, CanDoOps, DoesOps, HasGoneOn, IsDoneTo, IsOfNoCycle, LieFrom}
use Rattle.cs_words.specs.declared.catalogue.Opcode.{Opcode}
use Rattle.cs_voice.proofs.{Fitting.found, Fitting.parts, Passed.none_if}
use Rattle.cs_voice.proofs.Going.{CanDoHere, all_cycle, all_passed, can_act, can_here, can_start, done_act, done_jump}
use Rattle.cs_voice.proofs.Going.{done_none, done_start, fine_now, never}
use Rattle.cs_ir.specs.declared.op.Act.TheVariants as act
use Rattle.cs_ir.specs.declared.step.Step.TheVariants as step

-- ---- lists

got_behind : {A : Type 0} (xs ys : List A) (n : ℕ) → slice_get (xs ++ ys) (length xs + n) ≡ slice_get ys n
got_behind [] ys n = let e : 0 + n ≡ n = omega arith in ap (slice_get ys) e
got_behind (x ∷ xs) ys n =
    let e : suc (length xs) + n ≡ suc (length xs + n) = omega arith in
    ap (slice_get (x ∷ (xs ++ ys))) e ∙ got_behind xs ys n

got_before : {A : Type 0} (xs ys : List A) (n : ℕ) → n < length xs → slice_get (xs ++ ys) n ≡ slice_get xs n
got_before [] ys n low = absurd (omega arith)
got_before (x ∷ xs) ys zero low = refl
got_before (x ∷ xs) ys (suc n) low = got_before xs ys n (omega (arith, low))

-- an element of a list after each was changed
got_mapped : {A B : Type 0} (f : A → B) (xs : List A) (n : ℕ) (x : A) → slice_get xs n ≡ Some x
    → slice_get (map f xs) n ≡ Some (f x)
got_mapped f xs n x is = slice_get-map f xs n ∙ ap (option_map f) is

mapped_both : {A B : Type 0} (f : A → B) (xs ys : List A) (k n : ℕ) → slice_get xs (k + n) ≡ slice_get ys n
    → slice_get (map f xs) (k + n) ≡ slice_get (map f ys) n
mapped_both f xs ys k n same = slice_get-map f xs (k + n) ∙ ap (option_map f) same ∙ sym (slice_get-map f ys n)

-- ---- the ops of a code where steps are done

module _ (rs : List (List Op)) where
  -- the ops of a step among the ops of all steps
  step_lies : (f : ℕ → ℕ) (p : ℕ) (ss : List Step) (at : ℕ) (s : Step) (n : ℕ) → slice_get ss at ≡ Some s
      → n < size rs s → slice_get (flat_from rs f p ss) (place_of rs at ss + n)
      ≡ slice_get (flat_step rs f (p + place_of rs at ss) s) n
  step_lies f p [] at s n is low = absurd (cc)
  step_lies f p (x ∷ ss) zero s n is low =
      let same : x ≡ s = cc in
      let here : p ≡ p + 0 = omega arith in
      let none : 0 + n ≡ n = omega arith in
      ap (slice_get (flat_step rs f p x ++ flat_from rs f (p + size rs x) ss)) none
      ∙ got_before (flat_step rs f p x) (flat_from rs f (p + size rs x) ss) n
      (let long = step_long rs f p x in let e : size rs x ≡ size rs s = ap (size rs) same in omega (
        arith,
        low,
        long,
        e,
      ))
      ∙ ap (λ k. slice_get (flat_step rs f k x) n) here ∙ ap (λ y. slice_get (flat_step rs f (p + 0) y) n) same
  step_lies f p (x ∷ ss) (suc at) s n is low =
      let long = step_long rs f p x in
      let on : size rs x + place_of rs at ss + n ≡ length (flat_step rs f p x) + (place_of rs at ss + n) =
      omega (arith, long) in
      let behind : p + size rs x + place_of rs at ss ≡ p + (size rs x + place_of rs at ss) = omega arith in
      ap (slice_get (flat_step rs f p x ++ flat_from rs f (p + size rs x) ss)) on
      ∙ got_behind (flat_step rs f p x) (flat_from rs f (p + size rs x) ss) (place_of rs at ss + n)
      ∙ step_lies f (p + size rs x) ss at s n is low ∙ ap (λ k. slice_get (flat_step rs f k s) n) behind

  module _ (ss : List Step) (w : Begins) (whole : List Op) (p : ℕ) (lie : LieFrom whole p (moved_ops w p (flat rs ss)))
      (at : ℕ) where
    -- the ops of a step end within the ops of all steps
    room : (s : Step) → slice_get ss at ≡ Some s → place_of rs at ss + size rs s ≤ length (flat rs ss)
    room s is =
        let next = place_next rs at ss s is in
        let end = place_end rs (suc at) ss in
        let long = steps_long rs (λ to. place_of rs to ss) 0 ss in
        omega (arith, next, end, long)

    -- an op, with its jump turned into one to a step's first op
    pub op_lies : (op : Op) → slice_get ss at ≡ Some (step.Do op) → slice_get whole (p + place_of rs at ss)
        ≡ Some (moved_op w p (record op { act = placed (λ to. place_of rs to ss) op.act }))
    op_lies op is =
        let low = room (step.Do op) is in
        let all : length (moved_ops w p (flat rs ss)) ≡ length (flat rs ss) = length-map (flat rs ss) (moved_op w p) in
        let none : place_of rs at ss ≡ place_of rs at ss + 0 = omega arith in
        lie (place_of rs at ss) (omega (arith, low, all)) ∙ got_mapped (moved_op w p) (flat rs ss) (place_of rs at ss)
        (record op { act = placed (λ to. place_of rs to ss) op.act }) (ap (slice_get (flat rs ss)) none
        ∙ step_lies (λ to. place_of rs to ss) 0 ss at (step.Do op) 0 is (omega arith))

    -- the ops that a call invokes, in the windows of both
    pub call_lies : (c : Call) → slice_get ss at ≡ Some (step.Invoke c) → LieFrom whole (p + place_of rs at ss)
        (moved_ops (further w (window_of c)) (p + place_of rs at ss) (ops_at rs c.routine))
    call_lies c is n low =
        let q = place_of rs at ss in
        let ops = ops_at rs c.routine in
        let inner = moved_ops (window_of c) q ops in
        let short : length (moved_ops (further w (window_of c)) (p + q) ops) ≡ length ops =
        length-map ops (moved_op (further w (window_of c)) (p + q)) in
        let high = room (step.Invoke c) is in
        let all : length (moved_ops w p (flat rs ss)) ≡ length (flat rs ss) = length-map (flat rs ss) (moved_op w p) in
        let on : p + q + n ≡ p + (q + n) = omega arith in
        ap (slice_get whole) on ∙ lie (q + n) (omega (arith, low, short, high, all))
        ∙ mapped_both (moved_op w p) (flat rs ss) inner q n
        (step_lies (λ to. place_of rs to ss) 0 ss at (step.Invoke c) n is (omega (arith, low, short))
        ∙ (let none : 0 + q ≡ q = omega arith in
        ap (λ k. slice_get (moved_ops (window_of c) k ops) n) none))
        ∙ ap (λ l. slice_get l n) (ops_twice w (window_of c) p q ops)

-- ---- steps that come after another

place_back : (rs : List (List Op)) (ss : List Step) (at to : ℕ) → place_of rs at ss < place_of rs to ss → at < to
place_back rs ss at to far = by_test (nat_lt at to) (λ yes. ltb-true at to yes)
    (λ no. let high : to ≤ at = grind (arith, nat_tests) in
    let near = place_later rs to at ss high in absurd (omega (arith, far, near)))

place_on : (rs : List (List Op)) (ss : List Step) (at to : ℕ) (op : Op) → slice_get ss at ≡ Some (step.Do op)
    → at < to → place_of rs at ss < place_of rs to ss
place_on rs ss at to op is later =
    let next = place_next rs at ss (step.Do op) is in
    let far = place_later rs (suc at) to ss (omega (arith, later)) in omega (arith, next, far)

-- the ops of all steps come before the place after the last step
pub place_last : (rs : List (List Op)) (ss : List Step) (at : ℕ) → length ss ≤ at
    → place_of rs at ss ≡ length (flat rs ss)
place_last rs ss at far =
    let long = steps_long rs (λ to. place_of rs to ss) 0 ss in
    let end = place_end rs at ss in
    let last = place_later rs (length ss) at ss far in omega (arith, long, end, last)

-- ---- an op in its window

abbrev pub is_jump : Act → Bool
is_jump (act.Jump to) = true
is_jump (act.Unless to) = true
is_jump _ = false

-- for an op that is no jump the index makes no difference
placed_same : (w : Begins) (p : ℕ) (place : ℕ → ℕ) (a : Act) → is_jump a ≡ false
    → moved_act w p (placed place a) ≡ moved_act w 0 a
placed_same w p place (act.Jump to) other = absurd (cc)
placed_same w p place (act.Unless to) other = absurd (cc)
placed_same w p place _ other = refl

pub here_same : (w : Begins) (p : ℕ) (place : ℕ → ℕ) (op : Op) → is_jump op.act ≡ false
    → moved_op w p (record op { act = placed place op.act }) ≡ moved_op w 0 op
here_same w p place op other =
    let does = placed_same w p place op.act other in
    λ i. record { act = does i; into = moved_reg w op.into; from = map (moved_reg w) op.from }

-- an op in a window is of the same kind
pub moved_start : (w : Begins) (a : Act) → is_start (moved_act w 0 a) ≡ is_start a
moved_start w act.Seek = refl
moved_start w a = refl

-- ops by their kind: those that only the code that begins a note has, and those that are done on cells
pub is_started : (a : Act) → ((opcode : Opcode) × (u : ℕ) × (a ≡ act.Start opcode u)) ⊎ ((a ≡ act.Seek) ⊎ (a ≡ act.Ask))
    → is_start a ≡ true
is_started a (inl (opcode, u, is)) = ap is_start is
is_started a (inr (inl is)) = ap is_start is
is_started a (inr (inr is)) = ap is_start is

pub start_stays : (a : Act) → is_start a ≡ true → is_jump a ≡ false
start_stays (act.Jump to) st = absurd (cc)
start_stays (act.Unless to) st = absurd (cc)
start_stays _ st = refl

module _ (a : Act) (not_jump : (to : ℕ) → a ≡ act.Jump to → ⊥) (not_unless : (to : ℕ) → a ≡ act.Unless to → ⊥) where
  pub stays : is_jump a ≡ false
  stays = by a not_jump not_unless
    where
      by : (b : Act) → ((to : ℕ) → b ≡ act.Jump to → ⊥) → ((to : ℕ) → b ≡ act.Unless to → ⊥) → is_jump b ≡ false
      by (act.Jump to) j u = absurd (j to refl)
      by (act.Unless to) j u = absurd (u to refl)
      by _ j u = refl

  pub is_there : (w : Begins) → ((opcode : Opcode) (u : ℕ) → a ≡ act.Start opcode u → ⊥) → (a ≡ act.Seek → ⊥)
      → (a ≡ act.Ask → ⊥) → is_here (moved_act w 0 a) ≡ true
  is_there w not_start not_seek not_ask = by a not_jump not_unless not_start not_seek not_ask
    where
      by : (b : Act) → ((to : ℕ) → b ≡ act.Jump to → ⊥) → ((to : ℕ) → b ≡ act.Unless to → ⊥)
          → ((opcode : Opcode) (u : ℕ) → b ≡ act.Start opcode u → ⊥) → (b ≡ act.Seek → ⊥) → (b ≡ act.Ask → ⊥)
          → is_here (moved_act w 0 b) ≡ true
      by (act.Jump to) j u s k n = absurd (j to refl)
      by (act.Unless to) j u s k n = absurd (u to refl)
      by (act.Start opcode v) j u s k n = absurd (s opcode v refl)
      by act.Seek j u s k n = absurd (k refl)
      by act.Ask j u s k n = absurd (n refl)
      by _ j u s k n = refl

-- ---- how far a code has been done

-- Every code in which the steps occur, done up to them, has gone on up to one of the steps.
pub record Comes (access : Access) (at : NoteSetting) (finding : Finding) (rs : List (List Op))
    (ss : List Step) (w : Begins) (old : State) (before : ℕ → ℤ) (asked : List Ask) (i : ℕ) (now : State)
    (cells : ℕ → ℤ) (given : List Ask) (refused : Option StartRefusal) : Type 0 where
  pub up_to : (o : Outset) (p : ℕ) → LieFrom o.ops p (moved_ops w p (flat rs ss))
      → IsDoneTo access at finding o p old before asked
      → HasGoneOn access at finding o (p + place_of rs i ss) now cells given refused

-- The bank before and the bank now allow the same.
module _ {earlier later : Access} (alike : later ≡ earlier) (x y : Finding) (same : y ≡ x) where
  now_so : (P : Access → Finding → Type 0) → P earlier x → P later y
  now_so P h = subst (λ access. P access y) (sym alike) (subst (P earlier) (sym same) h)

  then_so : (P : Access → Finding → Type 0) → P later y → P earlier x
  then_so P h = subst (λ access. P access x) alike (subst (P later) same h)

-- Steps that can be done have been done up to one of them; with the bank as it is and with what is found now,
-- the same can be done as at first.
pub record IsAt {R : Type 0} (access : R → Access) (r q : R) (at : NoteSetting) (x y : Finding) (rs : List (List Op))
    (ss : List Step) (w : Begins) (old : State) (before : ℕ → ℤ) (asked : List Ask) (i : ℕ) (now : State)
    (cells : ℕ → ℤ) (given : List Ask) : Type 0 where
  pub able : CanDoOps (access r) at x w (flat rs ss) old before asked
  pub comes : Comes (access r) at x rs ss w old before asked i now cells given None
  pub same : y ≡ x
  pub rest : q ≡ r

module _ {R : Type 0} {access : R → Access} {r q : R} {at : NoteSetting} {x y : Finding} {rs : List (List Op)}
    {ss : List Step} {w : Begins} {old : State} {before : ℕ → ℤ} {asked : List Ask} {i : ℕ} {now : State}
    {cells : ℕ → ℤ} {given : List Ask} (here : IsAt access r q at x y rs ss w old before asked i now cells given) where
  same_access : access q ≡ access r
  same_access = ap access here.rest

  -- the code goes on
  pub goes_on : {v : R} {z : Finding} {j : ℕ} {new : State} {after : ℕ → ℤ} {asks : List Ask} → z ≡ y → v ≡ q
      → Comes (access r) at x rs ss w old before asked j new after asks None
      → IsAt access r v at x z rs ss w old before asked j new after asks
  goes_on found rest comes = record {
    able = here.able;
    comes = comes;
    same = found ∙ here.same;
    rest = rest ∙ here.rest;
  }

  -- ---- an op

  module _ {op : Op} (is : slice_get ss i ≡ Some (step.Do op)) where
    -- the op as it occurs in a code
    abbrev there : ℕ → Op
    there p = moved_op w p (record op { act = placed (λ to. place_of rs to ss) op.act })

    done : IsDoneTo (access r) at x here.able.outset (here.able.place + place_of rs i ss) now cells given
    done = here.comes.up_to here.able.outset here.able.place here.able.lie here.able.done

    -- the op is valid there
    fine : (end : ℕ) × (is_fine now.regs.counts end (here.able.place + place_of rs i ss) (there here.able.place) ≡ true)
    fine = fine_now same_access done (op_lies rs ss w here.able.outset.ops here.able.place here.able.lie i op is)
        here.able.can

    pub reads : list_all (has_register now.regs.counts) (map (moved_reg w) op.from) ≡ true
    reads = (parts now.regs.counts fine.0 (here.able.place + place_of rs i ss) (there here.able.place) fine.1).from

    -- a jump goes to a later step
    goes_later : (to : ℕ) {a : Act} → op.act ≡ a → finds now.regs.counts fine.0 (here.able.place + place_of rs i ss)
        (moved_act w here.able.place (placed (λ to. place_of rs to ss) a))
        ≡ (nat_lt (here.able.place + place_of rs i ss) (here.able.place + place_of rs to ss)
        && nat_le (here.able.place + place_of rs to ss) fine.0) → i < to
    goes_later to {a} is_a jumps =
        let far = ltb-true _ _ (and_parts (nat_lt (here.able.place + place_of rs i ss) (here.able.place + place_of rs
        to ss)) (nat_le (here.able.place + place_of rs to ss) fine.0)
        (sym jumps ∙ subst (λ b. finds now.regs.counts fine.0 (here.able.place + place_of rs i ss)
        (moved_act w here.able.place (placed (λ to. place_of rs to ss) b)) ≡ true) is_a
        (found now.regs.counts fine.0 (here.able.place + place_of rs i ss) (there here.able.place) fine.1))).0 in
        place_back rs ss i to (omega (arith, far))

    pub jump_later : (to : ℕ) → op.act ≡ act.Jump to → i < to
    jump_later to jump = goes_later to jump refl

    pub unless_later : (to : ℕ) → op.act ≡ act.Unless to → i < to
    unless_later to jump = goes_later to jump refl

    -- a condition is one register
    pub unless_one : (to : ℕ) → op.act ≡ act.Unless to → length (map (moved_reg w) op.from) ≡ 1
    unless_one to jump = one_of (map (moved_reg w) op.from)
        (subst (λ a. takes_from (moved_act w here.able.place (placed (λ to. place_of rs to ss) a)) (rate_at op.into)
        (map (moved_reg w) op.from) ≡ true) jump
        (parts now.regs.counts fine.0 (here.able.place + place_of rs i ss) (there here.able.place) fine.1).takes)
      where
        one_of : (xs : List Reg) → takes_from (act.Unless (here.able.place + place_of rs to ss)) (rate_at op.into) xs ≡
            true → length xs ≡ 1
        one_of (y ∷ []) h = refl
        one_of ys h = absurd (cc)

    next : place_of rs (suc i) ss ≡ place_of rs i ss + 1
    next = place_next rs i ss (step.Do op) is

    comes_to : (goal : ℕ) → i < goal → ((p : ℕ) → GoesOn (moved_act w p (placed (λ to. place_of rs to ss) op.act))
        (map (values now.regs) (map (moved_reg w) op.from)) (p + place_of rs i ss) (p + place_of rs goal ss))
        → Comes (access r) at x rs ss w old before asked goal now cells given None
    comes_to goal later goes = record {
      up_to = λ o p lie first.
          done_jump same_access (here.comes.up_to o p lie
          first) (op_lies rs ss w o.ops p lie i op is) (p + place_of rs goal ss)
          (let far = place_on rs ss i goal op is later in omega (arith, far)) (goes p);
    }

    pub comes_jump : (to : ℕ) → op.act ≡ act.Jump to
        → Comes (access r) at x rs ss w old before asked to now cells given None
    comes_jump to jump = comes_to to (jump_later to jump)
        (λ p. subst (λ a. GoesOn (moved_act w p (placed (λ to. place_of rs to ss) a))
        (map (values now.regs) (map (moved_reg w) op.from)) (p + place_of rs i ss) (p + place_of rs to ss)) (sym jump)
        refl)

    comes_unless : (to goal : ℕ) → op.act ≡ act.Unless to → i < goal → ((p : ℕ) → p + place_of rs goal ss
        ≡ (if holds (operand 0 (map (values now.regs) (map (moved_reg w) op.from)) 0) then p + place_of rs i ss + 1
        else p + place_of rs to ss)) → Comes (access r) at x rs ss w old before asked goal now cells given None
    comes_unless to goal jump later goes = comes_to goal later
        (λ p. subst (λ a. GoesOn (moved_act w p (placed (λ to. place_of rs to ss) a))
        (map (values now.regs) (map (moved_reg w) op.from)) (p + place_of rs i ss) (p + place_of rs goal ss)) (sym
        jump) (goes p))

    pub comes_held : (to : ℕ) → op.act ≡ act.Unless to
        → holds (operand 0 (map (values now.regs) (map (moved_reg w) op.from)) 0) ≡ true
        → Comes (access r) at x rs ss w old before asked (i + 1) now cells given None
    comes_held to jump held = comes_unless to (i + 1) jump (omega arith)
        (λ p. (let one : i + 1 ≡ suc i = omega arith in
        let behind : p + place_of rs (i + 1) ss ≡ p + place_of rs i ss + 1 =
        ap (λ k. p + place_of rs k ss) one ∙ (let e : p + place_of rs (suc i) ss ≡ p + place_of rs i ss + 1 =
        omega (arith, next) in e) in behind)
        ∙ sym (ap (λ b. if b then p + place_of rs i ss + 1 else p + place_of rs to ss) held))

    pub comes_not : (to : ℕ) → op.act ≡ act.Unless to
        → holds (operand 0 (map (values now.regs) (map (moved_reg w) op.from)) 0) ≡ false
        → Comes (access r) at x rs ss w old before asked to now cells given None
    comes_not to jump held = comes_unless to to jump (unless_later to jump)
        (λ p. sym (ap (λ b. if b then p + place_of rs i ss + 1 else p + place_of rs to ss) held))

    -- an op that is no jump
    module _ (other : is_jump op.act ≡ false) where
      lies : (o : Outset) (p : ℕ) → LieFrom o.ops p (moved_ops w p (flat rs ss))
          → slice_get o.ops (p + place_of rs i ss) ≡ Some (moved_op w 0 op)
      lies o p lie = op_lies rs ss w o.ops p lie i op is ∙ ap Some (here_same w p (λ to. place_of rs to ss) op other)

      can_do : CanDoHere (access q) at x (moved_op w 0 op) now
      can_do = can_here same_access done (lies here.able.outset here.able.place here.able.lie) here.able.can

      pub can_begin : is_start op.act ≡ true → {d : Op} → d ≡ moved_op w 0 op → CanStart y d now
      can_begin st is_it = subst (λ z. CanStart y z now) (sym is_it) (subst (λ z. CanStart z (moved_op w 0 op) now)
          (sym here.same) (can_start (access q) at (moved_op w 0 op) now x (moved_start w op.act ∙ st) can_do))

      pub can_be_done : {d : Op} → d ≡ moved_op w 0 op → CanBeDone (access q) at d now
      can_be_done is_it = subst (λ z. CanBeDone (access q) at z now) (sym is_it)
          (can_act (access q) at (moved_op w 0 op) now x can_do)

      pub comes_act : {new : State} {after : ℕ → ℤ} → is_here (moved_act w 0 op.act) ≡ true → {d : Op}
          → d ≡ moved_op w 0 op → DoesOp (access q) at d now cells new after
          → Comes (access r) at x rs ss w old before asked (i + 1) new after given None
      comes_act {new} {after} is_one is_it does = record {
        up_to = λ o p lie first.
            let one : i + 1 ≡ suc i = omega arith in
            let on : p + place_of rs i ss + 1 ≡ p + place_of rs (suc i) ss = omega (arith, next) in
            subst (λ k. IsDoneTo (access r) at x o k new after given) (on ∙ ap (λ k. p + place_of rs k ss) (sym one))
            (done_act same_access (here.comes.up_to o p lie first) (lies o p lie) new after is_one
            (subst (λ z. DoesOp (access q) at z now cells new after) is_it does));
      }

      pub never_op : is_start op.act ≡ true → AreOfNoCycle (access r) at x w (flat rs ss) old before asked
      never_op st = record {
        never = λ o p lie first. never same_access (here.comes.up_to o p lie first) (lies o p lie)
            (moved_start w op.act ∙ st);
      }

      pub gone_start : {new : State} {asks : List Ask} {refused : Option StartRefusal} → is_start op.act ≡ true
          → {d : Op} → d ≡ moved_op w 0 op → HasStarted y d now given new asks refused
          → Comes (access r) at x rs ss w old before asked (i + 1) new cells asks refused
      gone_start {new} {asks} {refused} st is_it started = record {
        up_to = λ o p lie first.
            let one : i + 1 ≡ suc i = omega arith in
            let on : p + place_of rs i ss + 1 ≡ p + place_of rs (suc i) ss = omega (arith, next) in
            subst (λ k. HasGoneOn (access r) at x o k new cells asks refused)
            (on ∙ ap (λ k. p + place_of rs k ss) (sym one)) (done_start same_access (here.comes.up_to o p
            lie first) (lies o p lie) new asks refused (moved_start w op.act ∙ st)
            (subst (λ z. HasStarted z (moved_op w 0 op) now given new asks refused) here.same
            (subst (λ z. HasStarted y z now given new asks refused) is_it started)));
      }

  -- ---- a call

  module _ {c : Call} (is : slice_get ss i ≡ Some (step.Invoke c)) where
    pub can_call : CanDoOps (access q) at y (further w (window_of c)) (ops_at rs c.routine) now cells given
    can_call = record {
      outset = here.able.outset;
      place = here.able.place + place_of rs i ss;
      lie = call_lies rs ss w here.able.outset.ops here.able.place here.able.lie i c is;
      can = now_so same_access x y here.same
          (λ a z. CanGo a at z here.able.outset.ops here.able.outset.first) here.able.can;
      done = now_so same_access x y here.same
          (λ a z. IsDoneTo a at z here.able.outset (here.able.place + place_of rs i ss) now cells given)
          (here.comes.up_to here.able.outset here.able.place here.able.lie here.able.done);
    }

    pub gone_call : {new : State} {after : ℕ → ℤ} {asks : List Ask} {refused : Option StartRefusal}
        → DoesOps (access q) at y (further w (window_of c)) (ops_at rs c.routine) now cells given new after asks
        refused → Comes (access r) at x rs ss w old before asked (i + 1) new after asks refused
    gone_call {new} {after} {asks} {refused} does = record {
      up_to = λ o p lie first.
          let one : i + 1 ≡ suc i = omega arith in
          let next = place_next rs i ss (step.Invoke c) is in
          let on : p + place_of rs i ss + length (ops_at rs c.routine) ≡ p + place_of rs (suc i) ss =
          omega (arith, next) in
          then_so same_access x y here.same
          (λ a z. HasGoneOn a at z o (p + place_of rs (i + 1) ss) new after asks refused)
          (subst (λ k. HasGoneOn (access q) at y o k new after asks refused)
          (on ∙ ap (λ k. p + place_of rs k ss) (sym one))
          (does.goes o (p + place_of rs i ss) (call_lies rs ss w o.ops p lie i c is) (now_so same_access x y here.same
          (λ a z. IsDoneTo a at z o (p + place_of rs i ss) now cells given) (here.comes.up_to o p lie first))));
    }

    pub never_call : AreOfNoCycle (access q) at y (further w (window_of c)) (ops_at rs c.routine) now cells given
        → AreOfNoCycle (access r) at x w (flat rs ss) old before asked
    never_call none = record {
      never = λ o p lie first. then_so same_access x y here.same (λ a z. IsOfNoCycle a at o)
          (none.never o (p + place_of rs i ss) (call_lies rs ss w o.ops p lie i c is) (now_so same_access x y here.same
          (λ a z. IsDoneTo a at z o (p + place_of rs i ss) now cells given) (here.comes.up_to o p lie first)));
    }

-- ---- ends

-- none of the steps has been done
pub at_first : {R : Type 0} {access : R → Access} {r : R} {at : NoteSetting} {x : Finding} {rs : List (List Op)}
    {ss : List Step} {w : Begins} {old : State} {before : ℕ → ℤ} {asked : List Ask}
    → CanDoOps (access r) at x w (flat rs ss) old before asked
    → IsAt access r r at x x rs ss w old before asked 0 old before asked
at_first {R} {access} {r} {at} {x} {rs} {ss} {w} {old} {before} {asked} able = record {
  able = able;
  comes = record {
    up_to = λ o p lie first. let here : p ≡ p + 0 = omega arith in
        subst (λ k. IsDoneTo (access r) at x o k old before asked) here first;
  };
  same = refl;
  rest = refl;
}

module _ {access : Access} {at : NoteSetting} {x : Finding} {rs : List (List Op)} {ss : List Step}
    {w : Begins} {old : State} {before : ℕ → ℤ} {asked : List Ask} {i : ℕ} {now : State} {cells : ℕ → ℤ}
    {given : List Ask} where
  -- nothing was refused
  pub comes_on : {refused : Option StartRefusal} → ((r : StartRefusal) → refused ≡ Some r → ⊥)
      → Comes access at x rs ss w old before asked i now cells given refused
      → Comes access at x rs ss w old before asked i now cells given None
  comes_on {refused} none comes =
      subst (Comes access at x rs ss w old before asked i now cells given) (none_if refused none) comes

  -- something was refused, in every code in which the steps occur
  pub does_refused : {refused : Option StartRefusal} {r : StartRefusal} → refused ≡ Some r
      → Comes access at x rs ss w old before asked i now cells given refused
      → DoesOps access at x w (flat rs ss) old before asked now cells given (Some r)
  does_refused is comes = record {
    goes = λ o p lie first.
        subst (λ z. HasGoneOn access at x o (p + place_of rs i ss) now cells given z) is (comes.up_to o p lie first);
  }

  -- all steps have been done
  pub does_all : length ss ≤ i → Comes access at x rs ss w old before asked i now cells given None
      → DoesOps access at x w (flat rs ss) old before asked now cells given None
  does_all far comes = record {
    goes = λ o p lie first.
        subst (λ k. IsDoneTo access at x o (p + k) now cells given) (place_last rs ss i far)
        (comes.up_to o p lie first);
  }

-- a routine that doesn't exist has no ops
pub does_nothing : (access : Access) (at : NoteSetting) (x : Finding) (w : Begins) (ops : List Op)
    (old : State) (before : ℕ → ℤ) (asked : List Ask) → ops ≡ []
    → DoesOps access at x w ops old before asked old before asked None
does_nothing access at x w ops old before asked none = record {
  goes = λ o p lie first.
      let here : p ≡ p + length ops = (let e : length ops ≡ 0 = ap length none in omega (arith, e)) in
      subst (λ k. IsDoneTo access at x o k old before asked) here first;
}

-- the same ops in the same window can be done too
pub can_as : {access : Access} {at : NoteSetting} {x : Finding} {w v : Begins} {ops more : List Op}
    {now : State} {cells : ℕ → ℤ} {given : List Ask} → w ≡ v → ops ≡ more
    → CanDoOps access at x w ops now cells given → CanDoOps access at x v more now cells given
can_as {access} {at} {x} {w} {v} {ops} {more} {now} {cells} {given} same alike can =
    subst (λ u. CanDoOps access at x u more now cells given) same
    (subst (λ os. CanDoOps access at x w os now cells given) alike can)

pub does_as : {access : Access} {at : NoteSetting} {x : Finding} {w v : Begins} {ops more : List Op}
    {old new : State} {before after : ℕ → ℤ} {asked given : List Ask} {refused : Option StartRefusal} → w ≡ v
    → ops ≡ more → DoesOps access at x w ops old before asked new after given refused
    → DoesOps access at x v more old before asked new after given refused
does_as {access} {at} {x} {w} {v} {ops} {more} {old} {new} {before} {after} {asked} {given} {refused} same
    alike does =
    subst (λ u. DoesOps access at x u more old before asked new after given refused) same
    (subst (λ os. DoesOps access at x w os old before asked new after given refused) alike does)

pub never_as : {access : Access} {at : NoteSetting} {x : Finding} {w v : Begins} {ops more : List Op}
    {old : State} {before : ℕ → ℤ} {asked : List Ask} → w ≡ v → ops ≡ more
    → AreOfNoCycle access at x w ops old before asked → AreOfNoCycle access at x v more old before asked
never_as {access} {at} {x} {w} {v} {ops} {more} {old} {before} {asked} same alike none =
    subst (λ u. AreOfNoCycle access at x u more old before asked) same
    (subst (λ os. AreOfNoCycle access at x w os old before asked) alike none)

-- ---- a complete code

lie_whole : (ops : List Op) → LieFrom ops 0 (moved_ops no_window 0 ops)
lie_whole ops n low =
    let here : 0 + n ≡ n = omega arith in
    ap (slice_get ops) here ∙ sym (ap (λ l. slice_get l n) (whole_ops ops))

module _ (access : Access) (at : NoteSetting) (x : Finding) (ops : List Op) (old : State)
    (before : ℕ → ℤ) (asked : List Ask) where
  whole : Outset
  whole = record { ops = ops; first = old; before = before; asked = asked }

  pub can_all : CanGo access at x ops old → CanDoOps access at x no_window ops old before asked
  can_all can = record {
    outset = record { ops = ops; first = old; before = before; asked = asked };
    place = 0;
    lie = lie_whole ops;
    can = can;
    done = done_none access at x (record { ops = ops; first = old; before = before; asked = asked });
  }

  gone : (new : State) (after : ℕ → ℤ) (given : List Ask) (refused : Option StartRefusal)
      → DoesOps access at x no_window ops old before asked new after given refused
      → HasGoneOn access at x whole (0 + length ops) new after given refused
  unfolding whole
  gone new after given refused does = does.goes whole 0 (lie_whole ops) (done_none access at x whole)

  pub run_cycle : (new : State) (after : ℕ → ℤ) (given : List Ask) (refused : Option StartRefusal)
      → DoesOps access at x no_window ops old before asked new after given refused
      → (c : Context) → CanRun access at c ops old → (refused ≡ None) × HasRun at.layout.now c ops old before new after
  unfolding whole
  run_cycle new after given refused does c can =
      all_cycle access at x whole (0 + length ops) new after given refused (omega arith)
      (gone new after given refused does) c can

  pub run_passes : (new : State) (after : ℕ → ℤ) (given : List Ask) (refused : Option StartRefusal)
      → DoesOps access at x no_window ops old before asked new after given refused
      → (f : Finds) (ms : List Bool) (code : Code) (s : Sheet) → x ≡ Some (f, ms) → f.at ≡ at → code.ops ≡ ops
      → CanPass access f ms code s old → Passes s old before asked new after given refused
  unfolding whole
  run_passes new after given refused does f ms code s found same eq can =
      all_passed access at x whole (0 + length ops) new after given refused (omega arith)
      (gone new after given refused does) f ms code s found same eq can

  pub run_never : AreOfNoCycle access at x no_window ops old before asked
      → (c : Context) → CanRun access at c ops old → ⊥
  unfolding whole
  run_never none c can = none.never whole 0 (lie_whole ops) (done_none access at x whole) c can
