-- The meaning of a note's codes and the voice's world, combined.
use Rattle.std.proofs.Common.{◌≡◌, ℕ, ℤ, ◌+◌, ◌<◌, ◌≤◌, length, true, false, List, [], ◌∷◌, Option, Some, None, refl}
use Rattle.std.proofs.Common.{sym, ◌∙◌, ap, subst, arith}
use Rattle.std.specs.Option.{is_some}
use Rattle.std.proofs.lemmas.{List.append-nil, Bool.Decides.nat_tests}
use Rattle.cs_base.specs.{Rates.res_rate, declared.resource.Rate.Rate, declared.resource.Res.Res}
use Rattle.cs_ir.specs.{Registers.rate_at, Machine.Machine, Machine.new_machine, Machine.again, Machine.run}
use Rattle.cs_ir.specs.{Resources.Stock, Waves.Wave, declared.op.Act.Act, declared.op.Op.Op, declared.register.Reg.Reg}
use Rattle.cs_cells.specs.{Areas.word_count, Cells.Cells, Cells.cell, Cells.in_area, declared.footprint.Area.Area}
use Rattle.cs_cells.proofs.Laid.{area_within}
use Rattle.cs_meaning.specs.{Core.Block, Notes.Note, Notes.reg}
use Rattle.cs_meaning.specs.Plain.{Piece, Plain, Cause, plain, fresh, next_cycle}
use Rattle.cs_code.specs.Means.{RegisterPlan, StandsInMachine, Means, MeansIn}
use Rattle.cs_voice_meaning.specs.Placing.{area_of, wave_of, HasArea}
use Rattle.cs_ugen.specs.Generators.{pace_of, the_generators}
use Rattle.cs_voice_meaning.specs.{VoiceWorld.VoiceState, VoiceWorld.fresh_voice, Voices.performed, Voices.left_by}
use Rattle.cs_voice_meaning.specs.Follows.{Kinds, ActNamed, AreNamed, OpsNamed, SameState, Alike}
use Rattle.cs_voice_meaning.specs.Voices.{Sheet, Sounding, IsPlayable, IsUsed, initialised, begins, cycle, voice_of}
use Rattle.cs_voice_meaning.proofs.Notes.{do_alike, begins_same}
use Rattle.cs_voice_meaning.proofs.OnAllCells.{performed_on_all, left_on_all}
use Rattle.cs_voice_meaning.proofs.{Placed.area_at, Placed.wave_same, Shared.roomy, Steady.cycle_steady}
use Rattle.cs_piece.specs.VoicesOfNotes.{begun_note, next_note, Hold, IsVoiceOf, Begins, GoesOn, Perform}
use Rattle.cs_ir.specs.declared.op.Act.TheVariants as act

-- ---- the registers of a voice and of a note

at : (f g : Reg → Wave) → f ≡ g → (q : Reg) → f q ≡ g q
at f g e q = λ i. e i q

-- ---- what holds for some resources holds for more

all_wider : (N M : Res → Type 0) → ((g : Res) → N g → M g) → (gs : List Res) → AreNamed N gs → AreNamed M gs
all_wider N M wide [] h = tt
all_wider N M wide (g ∷ gs) h = (wide g h.0, all_wider N M wide gs h.1)

act_wider : (stock : Stock) (kinds : Kinds) (N M : Res → Type 0) → ((g : Res) → N g → M g) → (a : Act) (r : Rate)
    → ActNamed stock kinds N a r → ActNamed stock kinds M a r
act_wider stock kinds N M wide (act.Load g) r h = wide g h
act_wider stock kinds N M wide (act.Save g) r h = (wide g h.0, h.1)
act_wider stock kinds N M wide (act.Unit opcode u reach) r h = (h.0, all_wider N M wide _ h.1)
act_wider stock kinds N M wide (act.Store reach) r h = all_wider N M wide _ h
act_wider stock kinds N M wide (act.Zak opcode reach) r h = all_wider N M wide _ h
act_wider stock kinds N M wide (act.Start opcode u) r h = h
act_wider stock kinds N M wide _ r h = tt

pub ops_wider : (stock : Stock) (kinds : Kinds) (N M : Res → Type 0) → ((g : Res) → N g → M g) → (ops : List Op)
    → OpsNamed stock kinds N ops → OpsNamed stock kinds M ops
ops_wider stock kinds N M wide [] h = tt
ops_wider stock kinds N M wide (op ∷ ops) h =
    (act_wider stock kinds N M wide op.act (rate_at op.into) h.0, ops_wider stock kinds N M wide ops h.1)

-- ---- the cells that a cycle leaves

low : (area : Area) (a n : ℕ) → area.first + area.length ≤ n → in_area (Some area) a ≡ true → a < n
low area a n h inside = grind (arith, nat_tests)

module _ (s : Sheet) (playable : IsPlayable s) where
  -- each cell of an area exists
  near : (g : Res) (area : Area) (c : Cells) (a : ℕ) → word_count s.areas ≤ length c → area_of s.areas g ≡ Some area
      → in_area (Some area) a ≡ true → a < length c
  near g area c a long has inside =
      let p = area_at s.areas g area has in
      let within = area_within s.areas p.0 area playable.placed.laid p.1 in
      low area a (length c) (omega (arith, within, long)) inside

  same_wave : (g : Res) (c d : ℕ → ℤ) → HasArea s.areas g
      → ((area : Area) (a : ℕ) → area_of s.areas g ≡ Some area → in_area (Some area) a ≡ true → c a ≡ d a)
      → wave_of (area_of s.areas g) (res_rate g) c ≡ wave_of (area_of s.areas g) (res_rate g) d
  same_wave g c d has same =
      ap (λ o. wave_of o (res_rate g) c) has.1 ∙ wave_same (res_rate g) has.0 c d
      (roomy s.areas playable.stock s.piece playable.placed g has.0 has.1) (λ a. same has.0 a has.1)
      ∙ sym (ap (λ o. wave_of o (res_rate g) d) has.1)

  module _ (body : Block) (plan : RegisterPlan)
      (means : (piece : Piece) → MeansIn (plain piece) plan body s.init s.perf)
      (gen : s.piece.generators ≡ the_generators (pace_of s.piece.head)) where
    abbrev Same : List (List ℤ) → VoiceState → Plain → Type 0
    Same earlier = SameState (HasArea s.areas) s.areas playable.kinds (pace_of s.piece.head) earlier

    voice_stands : (t : Note Plain) (m : Machine VoiceState) (n : Machine Plain) (earlier : List (List ℤ))
        → Alike (Same earlier) m n → StandsInMachine plan t n → t.world.cause ≡ None
        → IsVoiceOf s plan playable.kinds (voice_of s m) t
    voice_stands t m n earlier a st plays =
        let w : Same earlier m.world t.world = subst (λ w. Same earlier m.world w) st.world a.world in record {
          sheet = refl;
          locals = λ r k. at m.regs n.regs a.regs (reg r k) ∙ st.locals r k;
          kept = λ p k is. at m.regs n.regs a.regs _ ∙ st.kept p k is;
          units = w.units;
          delays = w.delays;
          outs = w.outs;
          ended = w.ended;
          plays = plays;
        }

    begins_so : (cells : ℕ → ℤ) (shared : Res → Wave) → Hold s.areas cells shared
        → Begins s body plan playable.kinds cells shared
    begins_so cells shared hold =
        let n : Machine Plain = run (plain s.piece) 0 s.init (new_machine (fresh shared)) in
        let a : Alike (Same []) (initialised s cells) n =
        do_alike s.areas playable.stock s.piece playable.kinds [] playable.placed gen s.init
        (new_machine (fresh_voice cells)) (new_machine (fresh shared)) playable.init_uses (record {
          regs = refl;
          next = refl;
          world =
              begins_same (HasArea s.areas) s.areas playable.kinds (pace_of s.piece.head) cells shared hold;
        }) in
        let st : StandsInMachine plan (begun_note s.piece body shared) n = (means s.piece).starts (fresh shared) in
        let w : Same [] (initialised s cells).world (begun_note s.piece body shared).world =
        subst (λ w. Same [] (initialised s cells).world w) st.world a.world in record {
          cause = w.cause;
          asks = sym w.asks;
          cells = w.shared;
          voice = voice_stands (begun_note s.piece body shared) (initialised s cells) n [] a st;
        }

    none_refused : (c : Option Cause) → c ≡ None → is_some c ≡ false
    none_refused None e = refl
    none_refused (Some x) e = absurd (cc)

    module _ (w : Sounding) (t : Note Plain) (c : Cells) (shared : Res → Wave) (long : word_count s.areas ≤ length c)
        (hold : Hold s.areas (cell c) shared) (stands : IsVoiceOf s plan playable.kinds w t) where
      -- the voice, from the sheet that it plays from
      abbrev v : Sounding
      v = record w { sheet = s }

      same_voice : v ≡ w
      same_voice = ap (λ z. record w { sheet = z }) (sym stands.sheet)

      abbrev before : Machine Plain
      before = record { regs = w.regs; next = 0; world = t.world }

      abbrev y : Plain
      y = next_cycle shared t.world

      alike : Alike (Same t.world.asks) (cycle v (cell c)) (run (plain s.piece) 0 s.perf (again y before))
      alike =
          do_alike s.areas playable.stock s.piece playable.kinds t.world.asks playable.placed gen s.perf
          (begins v (cell c)) (again y before)
          (ops_wider playable.stock playable.kinds (IsUsed s) (HasArea s.areas) (λ g u. (u.0, u.1)) s.perf
          playable.perf_uses) (record {
            regs = refl;
            next = refl;
            world = record {
              shared = hold;
              units = stands.units;
              delays = stands.delays;
              outs = refl;
              ended = stands.ended;
              asks = sym (append-nil t.world.asks);
              cause = sym stands.plays;
            };
          })

      means_so : StandsInMachine plan (next_note s.piece body shared t) (run (plain s.piece) 0 s.perf (again y before))
      means_so = (means s.piece).goes_on t before y
          (record { locals = stands.locals; kept = stands.kept; world = refl })
          (none_refused t.world.cause stands.plays)

      world_so : Same t.world.asks (cycle v (cell c)).world (next_note s.piece body shared t).world
      world_so = subst (λ z. Same t.world.asks (cycle v (cell c)).world z) means_so.world alike.world

      voice_so : IsVoiceOf s plan playable.kinds (performed v c) (next_note s.piece body shared t)
      voice_so =
          subst (λ z. IsVoiceOf s plan playable.kinds z (next_note s.piece body shared t))
          (sym (performed_on_all v c playable)) (voice_stands (next_note s.piece body shared t) (cycle v (cell c))
          (run (plain s.piece) 0 s.perf (again y before)) t.world.asks alike means_so
          (sym world_so.cause ∙ (cycle_steady v (cell c) playable).0))

      cells_so : Hold s.areas (cell (left_by v c)) (next_note s.piece body shared t).world.shared
      cells_so g has =
          same_wave g (cell (left_by v c)) (cycle v (cell c)).world.shared has
          (λ area a e inside. left_on_all v c a playable (near g area c a long e inside)) ∙ world_so.shared g has

      goes_on_so : GoesOn s body plan playable.kinds w t c shared
      goes_on_so = subst (λ z. GoesOn s body plan playable.kinds z t c shared) same_voice
          (record { voice = voice_so; cells = cells_so })

    pub perform_so : Perform plan playable.kinds s body
    perform_so = record {
      begins = begins_so;
      goes_on = λ v t c shared long stands hold. goes_on_so v t c shared long hold stands;
    }

-- codes that mean the statements and can be played are performed
pub performs : (s : Sheet) (body : Block) (means : Means body s.init s.perf) (playable : IsPlayable s)
    → s.piece.generators ≡ the_generators (pace_of s.piece.head) → Perform means.plan playable.kinds s body
performs s body means playable gen = perform_so s playable body means.plan means.each gen
