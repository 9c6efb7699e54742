-- A voice has the same effect over the cells that it sees as over all cells.
use Rattle.std.proofs.Common.{◌≡◌, ℕ, ℤ, pos, ◌<◌, Bool, true, false, List, ◌∷◌, length, Option, Some, None, []}
use Rattle.std.proofs.Common.{if◌then◌else◌, refl, sym, ◌∙◌, ap, arith}
use Rattle.std.proofs.lemmas.{Bool.or_right, Grind.common_steps}
use Rattle.cs_base.proofs.Tests.{by_test}
use Rattle.cs_base.specs.declared.resource.Res.{Res}
use Rattle.cs_ir.specs.{Machine.Machine, Waves.Wave, declared.op.Op.Op, declared.register.Reg.Reg}
use Rattle.cs_ir.specs.Resources.{Stock, act_writes}
use Rattle.cs_cells.specs.Cells.{Cells, cell, covers, in_area}
use Rattle.cs_voice_meaning.specs.{Placing.area_of, Follows.AreNamed, Follows.Alike, Follows.BothOrNone}
use Rattle.cs_voice_meaning.specs.VoiceWorld.{Playing, VoiceState, voice_world}
use Rattle.cs_voice_meaning.specs.Voices.{Sounding, may_use, may_write, seen, begins, cycle, voice_of, performed}
use Rattle.cs_voice_meaning.specs.Voices.{left_by, IsWritten, OpsWritten, IsSound}
use Rattle.cs_voice_meaning.proofs.{Alikes.run_alike, FrameLaw.left_at, Written.run_keeps}
use Rattle.cs_voice_meaning.proofs.SameWorlds.{SameSeen, IsSeen, same_follows}

itself : {A : Type 0} (o : Option A) → BothOrNone (λ p q. p ≡ q) o o
itself None = tt
itself (Some p) = refl

one_unit : {A : Type 0} (o k : Option A) → BothOrNone (λ p q. p ≡ q) o k → o ≡ k
one_unit None None h = refl
one_unit (Some p) (Some q) h = ap (λ z. Some z) h
one_unit _ _ h = absurd h

-- a machine that sees only the cells that the voice may use runs like a machine that sees all cells
pub cycle_seen : (v : Sounding) (c : ℕ → ℤ) → IsSound v
    → Alike (SameSeen (λ a. may_use v.sheet a ≡ true)) (cycle v (seen v.sheet c)) (cycle v c)
cycle_seen v c s = run_alike _ _ _ _ _ _ (same_follows _ _ _ _ _ s.placed) _ _ _ _ s.perf_uses (record {
  regs = refl;
  next = refl;
  world = record {
    shared = λ a used. ap (λ b. if b then c a else pos 0) used;
    units = λ u. itself (v.units u);
    delays = refl;
    outs = refl;
    ended = refl;
    asks = refl;
    cause = refl;
  };
})

without : (v : Sounding) (a : ℕ) → may_write v.sheet a ≡ false → (gs : List Res) → AreNamed (IsWritten v.sheet) gs
    → AreNamed (λ g. in_area (area_of v.sheet.areas g) a ≡ false) gs
without v a un [] h = tt
without v a un (g ∷ gs) h = grind (arith, common_steps, by_test, without v a un gs h.1)

ops_without : (v : Sounding) (stock : Stock) (a : ℕ) → may_write v.sheet a ≡ false → (ops : List Op)
    → OpsWritten stock (IsWritten v.sheet) ops → OpsWritten stock (λ g. in_area (area_of v.sheet.areas g) a ≡ false) ops
ops_without v stock a un [] h = tt
ops_without v stock a un (op ∷ ops) h = (without v a un (act_writes stock op.act) h.0, ops_without v stock a un ops h.1)

-- a cell that the voice may not write keeps its value
pub cycle_keeps : (v : Sounding) (c : ℕ → ℤ) (a : ℕ) → IsSound v → may_write v.sheet a ≡ false
    → (cycle v c).world.shared a ≡ c a
cycle_keeps v c a s un = run_keeps _ _ _ _ s.placed _ _ _ (ops_without v _ _ un _ s.perf_writes)

voice_by : Sounding → (Reg → Wave) → (ℕ → Option Playing) → ℕ → (ℕ → Wave) → Bool → Sounding
voice_by v regs units delays outs ended =
    record v { regs = regs; units = units; delays = delays; outs = outs; ended = ended }

same_after : (v : Sounding) (m n : Machine VoiceState) → Alike (SameSeen (λ a. may_use v.sheet a ≡ true)) m n
    → voice_of v.sheet m ≡ voice_of v.sheet n
unfolding voice_by
same_after v m n e = grind (arith, common_steps, one_unit, voice_by)

-- the voice after a cycle is the same as if it had performed over all cells
pub performed_on_all : (v : Sounding) (c : Cells) → IsSound v → performed v c ≡ voice_of v.sheet (cycle v (cell c))
performed_on_all v c s = same_after v (cycle v (seen v.sheet (cell c))) (cycle v (cell c)) (cycle_seen v (cell c) s)

-- the cells after a cycle are the same as if the voice had performed over all cells
pub left_on_all : (v : Sounding) (c : Cells) (a : ℕ) → IsSound v → a < length c
    → cell (left_by v c) a ≡ (cycle v (cell c)).world.shared a
left_on_all v c a s near =
    left_at v _ _ near
    ∙ by_test _ (λ yes. ap (λ b. if b then (cycle v (seen v.sheet (cell c))).world.shared a else cell c a) yes
    ∙ (cycle_seen v _ s).world.shared a (or_right (covers v.sheet.zones v.sheet.foot.uses a) (may_write v.sheet a) yes))
    (λ no. ap (λ b. if b then (cycle v (seen v.sheet (cell c))).world.shared a else cell c a) no
    ∙ sym (cycle_keeps v _ _ s no))
