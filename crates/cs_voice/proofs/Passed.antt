-- The code that begins a note, op by op.
use Rattle.std.proofs.Common.{◌≡◌, ℕ, ℤ, ◌+◌, ◌<◌, ◌≤◌, Bool, true, not, ◌&&◌, List, [], ◌∷◌, ◌++◌, length, map}
use Rattle.std.proofs.Common.{slice_get, Option, Some, None, if◌then◌else◌, refl, sym, ◌∙◌, ap, subst, append_assoc}
use Rattle.std.proofs.Common.{arith}
use Rattle.std.specs.Option.{option_map}
use Rattle.std.proofs.lemmas.{Bool.Decides.nat_tests, List.append-nil, List.map-append}
use Rattle.cs_base.specs.declared.resource.Rate.{Rate}
use Rattle.cs_words.specs.declared.catalogue.Opcode.{Opcode}
use Rattle.cs_ir.specs.{Registers.rate_at, Asks.ask_of, Cycles.are_of_cycle, Cycles.is_of_cycle, Machine.Machine}
use Rattle.cs_ir.specs.{Machine.acts, Machine.in_world, Waves.first_values, declared.ask.Ask.Ask, declared.op.Act.Act}
use Rattle.cs_ir.specs.{declared.op.Code.Code, declared.op.Op.Op, declared.register.Counts.Counts}
use Rattle.cs_ugen.specs.Units.{IsUnitOpcode}
use Rattle.cs_ir.proofs.Shapes.{started_shape}
use Rattle.cs_ir.specs.Validity.{finds, is_fine, takes_from}
use Rattle.cs_voice.specs.Ready.{CanBeDone, DoesOp, IsReady, is_here}
use Rattle.cs_machine.specs.{Access.AreSpaces, Access.spaces_of, Registers.values, declared.state.State.State}
use Rattle.cs_cells.specs.{Access.Access, Access.AllowsBelow, Areas.word_count, declared.footprint.Area.Area}
use Rattle.cs_meaning.specs.Model.{no_table, refused_for, seek}
use Rattle.cs_meaning.specs.Pieces.{Piece, find_table, is_there, table_number}
use Rattle.cs_voice_meaning.specs.Placing.{HasArea, IsPlaced}
use Rattle.cs_voice_meaning.specs.VoiceWorld.{VoiceState, voice_model, voice_world}
use Rattle.cs_voice_meaning.specs.{Follows.ActNamed, Follows.Kinds, Voices.Sheet, Voices.IsPlayable}
use Rattle.cs_voice_meaning.proofs.Steady.{run_steady}
use Rattle.cs_typed.specs.TypedTree.{header_of_head}
use Rattle.cs_machine.specs.States.{CanDo, Does, IsStateIn, machine_of}
use Rattle.cs_voice.specs.Passing.{CanBegin, CanPass, IsDone, IsFound, IsOpOf, IsStateOf, Passes}
use Rattle.cs_voice.specs.{Tables.CanAllBePlayed, Tables.tables_of, Starting.Starts, Starting.cause_of}
use Rattle.cs_voice.specs.{declared.tables.Finds.Finds, inner.Begun.Seeks, inner.Coming.IsPassed, inner.Jumps.GoesOn}
use Rattle.cs_voice.specs.declared.begin.StartRefusal.{StartRefusal}
use Rattle.cs_voice.proofs.{Fitting.found, Fitting.parts, Ops.can_do, Ops.op_of}
use Rattle.cs_voice.proofs.Running.{begins, ends, goes_on, jumped, refuses}
use Rattle.cs_ir.specs.declared.op.Act.TheVariants as act

-- an act that is done here starts nothing, looks for no table and schedules no note
steady_here : (t : Act) → is_here t ≡ true → is_of_cycle t ≡ true
steady_here (act.Start o u) h = absurd cc
steady_here act.Seek h = absurd cc
steady_here act.Ask h = absurd cc
steady_here t h = refl

steady_one : (op : Op) → is_of_cycle op.act ≡ true → are_of_cycle (op ∷ []) ≡ true
steady_one op e = ap (λ b. b && true) e

-- an op of a code that can begin a note can be done
pub record CanDoOp (access : Access) (finds : Finds) (ms : List Bool) (op : Op) (s : Sheet) (now : State) : Type 0 where
  pub begin : CanBegin access finds ms s now
  pub fine : IsOpOf s now.regs.counts op

-- With a bank of all cells an op that isn't a jump, a start or the scheduling of a note may be done, and it
-- does what its sheet says.
module _ {access : Access} {finds : Finds} {ms : List Bool} {s : Sheet} {op : Op} {old : State}
    (can : CanDoOp access finds ms op s old) where
  here : s.areas ≡ finds.at.layout.now
  here = sym can.begin.found.setting.layout

  ready : (p : IsPlayable s) → IsReady access finds.at s.piece p.kinds p.stock op old
  unfolding here
  ready p = record {
    setting = record {
      layout = refl;
      head = can.begin.found.setting.head;
      spaces = can.begin.found.setting.spaces;
      fields = can.begin.found.setting.fields;
    };
    placed = subst (λ areas. IsPlaced areas p.stock s.piece) here p.placed;
    spaces = subst AreSpaces here can.begin.found.places;
    zak = subst (λ areas. spaces_of areas ≡ finds.at.spaces) here
        (can.begin.found.spaces ∙ can.begin.found.setting.spaces);
    state = subst (λ areas. IsStateIn areas s.piece p.kinds old.regs.counts old) here (can.begin.state.in_piece p);
    end = can.fine.end;
    place = can.fine.place;
    fine = can.fine.fine;
    named = subst (λ areas. ActNamed p.stock p.kinds (HasArea areas) op.act (rate_at op.into)) here (can.fine.named p);
    channel = can.fine.channel;
    can = subst (λ areas. CanDo access areas p.stock op.act) here
        (can_do access s.areas p.stock p.kinds op.act (rate_at op.into) p.placed.laid can.begin.bank
        (can.fine.named p));
  }

  pub can_be_done : CanBeDone access finds.at op old
  can_be_done =
      let p = can.begin.playable in record { piece = s.piece; kinds = p.kinds; stock = p.stock; ready = ready p }

  pub done_here : is_here op.act ≡ true → {new : State} {before after : ℕ → ℤ} {asked : List Ask}
      → DoesOp access finds.at op old before new after → IsDone s op old before asked new after asked None
  done_here at {new} {before} {after} {asked} does = record {
    more = [];
    asks = sym (append-nil asked);
    machine = λ next earlier. ap (λ e. machine_of new after next e None) (append-nil earlier)
        ∙ (own can.begin.playable).machine next earlier None;
    state = record {
      in_piece = λ q. (own q).state;
      delays =
          let kept = run_steady (voice_model s.areas s.piece) 0 (op ∷ []) (machine_of old before 0 [] None)
          (steady_one op (steady_here op.act at)) in
          let same : new.delays ≡ old.delays =
          ap (λ m. m.world.delays) ((own can.begin.playable).machine 0 [] None) ∙ ap (λ z. z.delays) kept in
          let low = can.begin.state.delays in
          omega arith;
    };
  }
    where
      own : (q : IsPlayable s)
          → Does s.areas s.piece q.kinds old.regs.counts op.act op.into op.from old before new after
      own q = subst (λ areas. Does areas s.piece q.kinds old.regs.counts op.act op.into op.from old before new after)
          can.begin.found.setting.layout (does s.piece q.kinds q.stock (ready q))

-- a note is scheduled
pub done_ask : (s : Sheet) (op : Op) (old : State) (cells : ℕ → ℤ) (asked : List Ask) → op.act ≡ act.Ask
    → IsStateOf s old.regs.counts old
    → IsDone s op old cells asked old cells (asked ++ ask_of (first_values (map (values old.regs) op.from)) ∷ []) None
done_ask s op old cells asked is state = record {
  more = first_values (map (values old.regs) op.from) ∷ [];
  asks = refl;
  machine = λ next earlier. ap
      (λ t. acts (voice_world s.areas s.piece) t op.into (map (values old.regs) op.from)
      (machine_of old cells next earlier None)) (sym is);
  state = state;
}

-- a unit is started, or is refused
pub done_start : (s : Sheet) (op : Op) (o : Opcode) (u : ℕ) (areas : List Area) (old new : State) (cells : ℕ → ℤ)
    (asked : List Ask) (refused : Option StartRefusal) → op.act ≡ act.Start o u → areas ≡ s.areas → IsPlayable s
    → ((p : IsPlayable s) → Starts areas s.piece p.kinds old.regs.counts o (rate_at op.into) u
    (first_values (map (values old.regs) op.from)) old new refused)
    → IsDone s op old cells asked new cells asked refused
done_start s op o u areas old new cells asked refused is same p starts = record {
  more = [];
  asks = sym (append-nil asked);
  machine = λ next earlier. ap (λ e. machine_of new cells next e (option_map cause_of refused)) (append-nil earlier)
      ∙ (own p).machine cells next earlier
      ∙ ap (λ t. acts (voice_world s.areas s.piece) t op.into (map (values old.regs) op.from)
      (machine_of old cells next earlier None)) (sym is);
  state = record { in_piece = λ q. (own q).state; delays = (own p).delays };
}
  where
    own : (q : IsPlayable s)
        → Starts s.areas s.piece q.kinds old.regs.counts o (rate_at op.into) u (first_values (map (values old.regs)
        op.from)) old new refused
    own q = subst (λ x. Starts x s.piece q.kinds old.regs.counts o (rate_at op.into) u
        (first_values (map (values old.regs) op.from)) old new refused) same (starts q)

pub passed_none : (s : Sheet) (first : State) (before : ℕ → ℤ) (asked : List Ask) → IsStateOf s first.regs.counts first
    → IsPassed s first before asked 0 first before asked
passed_none s first before asked state = record {
  next = 0;
  more = [];
  asks = sym (append-nil asked);
  up = begins (voice_world s.areas s.piece) s.init (machine_of first before 0 [] None) refl;
  counted = refl;
  state = state;
}

more_asked : (asked now new : List Ask) (some more : List (List ℤ)) → now ≡ asked ++ map ask_of some
    → new ≡ now ++ map ask_of more → new ≡ asked ++ map ask_of (some ++ more)
more_asked asked now new some more e f =
    f ∙ ap (λ xs. xs ++ map ask_of more) e ∙ append_assoc asked (map ask_of some) (map ask_of more)
    ∙ ap (λ xs. asked ++ xs) (sym (map-append ask_of some more))

module _ {s : Sheet} {first : State} {before : ℕ → ℤ} {asked : List Ask} {place : ℕ} {now : State} {cells : ℕ → ℤ}
    {asks : List Ask} (u : IsPassed s first before asked place now cells asks) where
  -- a jump
  pub passed_jump : (to : ℕ) (op : Op) → slice_get s.init place ≡ Some op → place < to
      → GoesOn op.act (map (values now.regs) op.from) place to → IsPassed s first before asked to now cells asks
  passed_jump to op at later g =
      let k = jumped s.areas s.piece now cells u.more op.act op.into (map (values now.regs) op.from) place to g u.next
      u.up.next in
      record {
        next = k.next;
        more = u.more;
        asks = u.asks;
        up = goes_on u.up at refl k.machine later k.below k.there;
        counted = u.counted;
        state = u.state;
      }

  -- an op was done
  pub passed_one : {new : State} {after : ℕ → ℤ} {asks_new : List Ask} {op : Op} → IsPlayable s
      → slice_get s.init place ≡ Some op → IsDone s op now cells asks new after asks_new None
      → IsPassed s first before asked (place + 1) new after asks_new
  passed_one {new} {after} {asks_new} p at d = record {
    next = u.next;
    more = u.more ++ d.more;
    asks = more_asked asked asks asks_new u.more d.more u.asks d.asks;
    up = goes_on u.up at refl (d.machine u.next u.more) (omega arith) (let r = u.up.next in omega arith)
        (λ far. absurd (omega (arith, far)));
    counted = (d.state.in_piece p).registers ∙ u.counted;
    state = subst (λ c. IsStateOf s c new) u.counted d.state;
  }

  -- the end of the code, or a refusal
  pub passed_all : length s.init ≤ place → Passes s first before asked now cells asks None
  passed_all h = record {
    next = u.next;
    more = u.more;
    asks = u.asks;
    machine = ends u.up h;
    state = u.state;
  }

  pub passed_refused : {new : State} {after : ℕ → ℤ} {asks_new : List Ask} {op : Op} {refused : StartRefusal}
      → slice_get s.init place ≡ Some op → IsDone s op now cells asks new after asks_new (Some refused)
      → Passes s first before asked new after asks_new (Some refused)
  passed_refused {new} {after} {asks_new} at d = record {
    next = u.next;
    more = u.more ++ d.more;
    asks = more_asked asked asks asks_new u.more d.more u.asks d.asks;
    machine = refuses u.up at refl (d.machine u.next u.more) refl;
    state = subst (λ c. IsStateOf s c new) u.counted d.state;
  }

  -- the next op can be done, with a bank that allows the same
  pub able_again : {earlier later : Access} {finds : Finds} {ms : List Bool} {code : Code} {op : Op} → later ≡ earlier
      → CanPass earlier finds ms code s first → slice_get code.ops place ≡ Some op → CanDoOp later finds ms op s now
  able_again {earlier} {later} {finds} {ms} {code} {op} alike can at = record {
    begin = record {
      found = can.begin.found;
      playable = can.begin.playable;
      state = subst (λ k. IsStateOf s k now) (sym u.counted) u.state;
      bank = subst (λ access. AllowsBelow access (word_count s.areas)) (sym alike) can.begin.bank;
    };
    fine = op_of s code now.regs.counts place op can.begin.playable can.same can.valid (u.counted ∙ can.counts) at;
  }

-- the unit and the arguments of a start
starts_at : (counts : Counts) (end place u : ℕ) (o : Opcode) → finds counts end place (act.Start o u) ≡ true
    → u < counts.units
starts_at counts end place u o f = grind (arith, nat_tests)

pub start_there : (counts : Counts) (end place u : ℕ) (o : Opcode) (op : Op) → is_fine counts end place op ≡ true
    → op.act ≡ act.Start o u → u < counts.units
start_there counts end place u o op fine is =
    starts_at counts end place u o (subst (λ t. finds counts end place t ≡ true) is (found counts end place op fine))

pub start_takes : (counts : Counts) (end place u : ℕ) (o : Opcode) (op : Op) → is_fine counts end place op ≡ true
    → op.act ≡ act.Start o u → IsUnitOpcode o
start_takes counts end place u o op fine is =
    started_shape o (rate_at op.into) op.from
    (subst (λ t. takes_from t (rate_at op.into) op.from ≡ true) is (parts counts end place op fine).takes)

-- a start, and the scheduling of a note, as they are done
pub started_op : (finds : Finds) (ms : List Bool) (s : Sheet) (op : Op) (o : Opcode) (u v : ℕ) (r : Rate)
    (settled : List ℤ) (old new : State) (cells : ℕ → ℤ) (asked : List Ask) (refused : Option StartRefusal)
    → op.act ≡ act.Start o u → v ≡ u → r ≡ rate_at op.into → IsFound finds ms s → IsPlayable s → IsOpOf s
    old.regs.counts op → IsStateOf s old.regs.counts old → settled ≡ first_values (map (values old.regs) op.from)
    → ((piece : Piece) (kinds : Kinds) (counts : Counts) → piece.head ≡ header_of_head finds.at.head.now
    → piece.tables ≡ tables_of finds.tables.now ms
    → kinds v ≡ (o, r) → IsStateIn finds.at.layout.now piece kinds counts old
    → Starts finds.at.layout.now piece kinds counts o r v settled old new refused)
    → IsDone s op old cells asked new cells asked refused
started_op finds ms s op o u v r settled old new cells asked refused is unit_is rate_is found playable fine state same
    starts =
    done_start s op o u finds.at.layout.now old new cells asked refused is found.setting.layout playable
    (λ p. subst (λ xs. Starts finds.at.layout.now s.piece p.kinds old.regs.counts o (rate_at op.into) u xs old new
    refused) same
    (subst (λ w. Starts finds.at.layout.now s.piece p.kinds old.regs.counts o w u settled old new refused) rate_is
    (subst (λ k. Starts finds.at.layout.now s.piece p.kinds old.regs.counts o r k settled old new refused) unit_is
    (starts s.piece p.kinds old.regs.counts found.setting.head found.tables
    (ap p.kinds unit_is ∙ (subst (λ t. ActNamed p.stock p.kinds (HasArea s.areas) t (rate_at op.into)) is
    (fine.named p)).0 ∙ ap (λ w. (o, w)) (sym rate_is))
    (subst (λ areas. IsStateIn areas s.piece p.kinds old.regs.counts old) (sym found.setting.layout)
    (state.in_piece p))))))

-- a look for a table
sought : (s : Sheet) (old : State) (cells : ℕ → ℤ) (next : ℕ) (earlier : List (List ℤ)) (is : List ℤ)
    (refused : Option StartRefusal) → Seeks s.piece.tables (table_number is) refused
    → machine_of old cells next earlier (option_map cause_of refused)
    ≡ in_world (seek (voice_model s.areas s.piece) is (machine_of old cells next earlier None).world)
    (machine_of old cells next earlier None)
sought s old cells next earlier is refused h = by refused h
  where
    m : Machine VoiceState
    m = machine_of old cells next earlier None

    looks : Bool → Machine VoiceState
    looks there = in_world (if not there then refused_for (no_table (table_number is)) m.world else m.world) m

    by : (refused : Option StartRefusal) → Seeks s.piece.tables (table_number is) refused
        → machine_of old cells next earlier (option_map cause_of refused) ≡ looks
        (is_there (find_table s.piece.tables (table_number is)))
    by None there = sym (ap looks there)
    by (Some r) (missing, cause) =
        ap (λ q. machine_of old cells next earlier (Some (cause_of q))) cause ∙ sym (ap looks missing)

pub sought_op : (finds : Finds) (ms : List Bool) (s : Sheet) (op : Op) (settled : List ℤ) (old : State) (cells : ℕ → ℤ)
    (asked : List Ask) (refused : Option StartRefusal)
    → op.act ≡ act.Seek → IsFound finds ms s → IsStateOf s old.regs.counts old
    → settled ≡ first_values (map (values old.regs) op.from)
    → Seeks (tables_of finds.tables.now ms) (table_number settled) refused
    → IsDone s op old cells asked old cells asked refused
sought_op finds ms s op settled old cells asked refused is found state same seeks = record {
  more = [];
  asks = sym (append-nil asked);
  machine = λ next earlier. ap (λ e. machine_of old cells next e (option_map cause_of refused)) (append-nil earlier)
      ∙ sought s old cells next earlier (first_values (map (values old.regs) op.from)) refused
      (subst (λ xs. Seeks s.piece.tables (table_number xs) refused) same
      (subst (λ ts. Seeks ts (table_number settled) refused) (sym found.tables) seeks))
      ∙ ap (λ t. acts (voice_world s.areas s.piece) t op.into (map (values old.regs) op.from)
      (machine_of old cells next earlier None)) (sym is);
  state = state;
}

pub asked_op : (s : Sheet) (op : Op) (settled : List ℤ) (old : State) (cells : ℕ → ℤ) (asked given : List Ask)
    → op.act ≡ act.Ask → IsStateOf s old.regs.counts old
    → settled ≡ first_values (map (values old.regs) op.from) → given ≡ asked ++ ask_of settled ∷ []
    → IsDone s op old cells asked old cells given None
asked_op s op settled old cells asked given is state same new =
    subst (λ xs. IsDone s op old cells asked old cells xs None) (sym (new ∙ ap (λ vs. asked ++ ask_of vs ∷ []) same))
    (done_ask s op old cells asked is state)

-- each table that can be played
pub all_played : (finds : Finds) (ms : List Bool) (s : Sheet) → IsFound finds ms s
    → CanAllBePlayed finds.at.layout.now (tables_of finds.tables.now ms)
all_played finds ms s found =
    subst (λ areas. CanAllBePlayed areas (tables_of finds.tables.now ms)) (sym found.setting.layout)
    (subst (λ ts. CanAllBePlayed s.areas ts) found.tables found.can_be_played)

pub none_if : (o : Option StartRefusal) → ((x : StartRefusal) → o ≡ Some x → ⊥) → o ≡ None
none_if None h = refl
none_if (Some x) h = absurd (h x refl)
