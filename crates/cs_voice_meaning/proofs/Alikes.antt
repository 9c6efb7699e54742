-- A code has the same effect in two worlds of which one follows the other.
use Rattle.std.proofs.Common.{◌≡◌, ℕ, ℤ, ◌+◌, ◌&&◌, not, Bool, true, false, List, ◌∷◌, map, nat_le, if◌then◌else◌, refl}
use Rattle.std.proofs.Common.{[], ◌∙◌, ap, subst, arith}
use Rattle.cs_base.specs.{Rates.res_rate, declared.resource.Rate.Rate, declared.resource.Res.Res}
use Rattle.cs_ir.specs.{Registers.rate_at, Values.holds, Values.negated, Values.applied, Validity.has_value}
use Rattle.cs_ir.specs.{Resources.Stock, Resources.tables_within, Resources.unit_uses, Resources.zak_uses, Worlds.World}
use Rattle.cs_ir.specs.{declared.op.Act.Act, declared.op.Op.Op, declared.op.Reach.Reach, declared.register.Reg.Reg}
use Rattle.cs_ir.specs.Machine.{Machine, write, gives, acts, is_done, step, run}
use Rattle.cs_ir.specs.Waves.{Wave, held, constant, both, chosen, operand, first_values}
use Rattle.cs_words.specs.declared.catalogue.Opcode.{Opcode}
use Rattle.cs_ugen.specs.Units.{IsUnitOpcode}
use Rattle.cs_voice_meaning.specs.Follows.{Kinds, AreNamed, ActNamed, OpsNamed, Alike}
use Rattle.std.proofs.lemmas.Grind.{common_steps}
use Rattle.cs_ir.specs.declared.op.Act.TheVariants as act

-- A world follows another for the named resources: every action in related states has the same result, and
-- leaves the states related.
pub record Follows {V W : Type 0} (stock : Stock) (kinds : Kinds) (N : Res → Type 0) (o : World V) (u : World W)
    (R : V → W → Type 0) : Type 0 where
  pub ksmps : o.ksmps ≡ u.ksmps
  pub field : o.field ≡ u.field
  pub head : o.head ≡ u.head
  pub load : (g : Res) (x : V) (y : W) → N g → R x y → o.load g x ≡ u.load g y
  pub save : (g : Res) (w : Wave) (x : V) (y : W) → N g → has_value g ≡ true → R x y
      → R (o.save g (held o.ksmps (res_rate g) w) x) (u.save g (held o.ksmps (res_rate g) w) y)
  pub start : (opcode : Opcode) (r : Rate) (n : ℕ) (is : List ℤ) (x : V) (y : W) → kinds n ≡ (opcode, r)
      → IsUnitOpcode opcode → R x y → R (o.start opcode r n is x) (u.start opcode r n is y)
  pub does : (opcode : Opcode) (r : Rate) (n : ℕ) (reach : Reach) (ws : List Wave) (x : V) (y : W)
      → kinds n ≡ (opcode, r) → AreNamed N (unit_uses stock opcode reach) → R x y
      → R (o.does opcode r n reach ws x).0 (u.does opcode r n reach ws y).0
      × (held o.ksmps r (o.does opcode r n reach ws x).1 ≡ held o.ksmps r (u.does opcode r n reach ws y).1)
  pub seek : (is : List ℤ) (x : V) (y : W) → R x y → R (o.seek is x) (u.seek is y)
  pub store : (r : Rate) (reach : Reach) (ws : List Wave) (x : V) (y : W)
      → AreNamed N (tables_within stock reach) → R x y → R (o.store r reach ws x) (u.store r reach ws y)
  pub zak : (opcode : Opcode) (reach : Reach) (ws : List Wave) (x : V) (y : W)
      → AreNamed N (zak_uses stock opcode reach) → R x y → R (o.zak opcode reach ws x).0 (u.zak opcode reach ws y).0
      × ((o.zak opcode reach ws x).1 ≡ (u.zak opcode reach ws y).1)
  pub out : (c : ℕ) (w : Wave) (x : V) (y : W) → R x y → R (o.out c w x) (u.out c w y)
  pub out_at : (k w : Wave) (x : V) (y : W) → R x y → R (o.out_at k w x) (u.out_at k w y)
  pub turnoff : (x : V) (y : W) → R x y → R (o.turnoff x) (u.turnoff y)
  pub ask : (is : List ℤ) (x : V) (y : W) → R x y → R (o.ask is x) (u.ask is y)
  pub refused : (x : V) (y : W) → R x y → o.refused x ≡ u.refused y

module _ {V W : Type 0} (stock : Stock) (kinds : Kinds) (N : Res → Type 0) (o : World V) (u : World W)
    (R : V → W → Type 0) (f : Follows stock kinds N o u R) where
  either_alike : (b c : Bool) (p m : Machine V) (q n : Machine W) → b ≡ c → Alike R p q → Alike R m n
      → Alike R (if b then p else m) (if c then q else n)
  either_alike true true p m q n e here there = here
  either_alike false false p m q n e here there = there
  either_alike _ _ p m q n e here there = absurd (cc)

  -- only the world changes
  moved : (m : Machine V) (n : Machine W) (x : V) (y : W) → R x y → Alike R m n
      → Alike R (record m { world = x }) (record n { world = y })
  moved m n x y r a = record { regs = a.regs; next = a.next; world = r }

  write_alike : (into : Reg) (w v : Wave) (m : Machine V) (n : Machine W)
      → held o.ksmps (rate_at into) w ≡ held o.ksmps (rate_at into) v → Alike R m n
      → Alike R (write o.ksmps into w m) (write u.ksmps into v n)
  write_alike into w v m n e a = grind (arith, common_steps)

  written_alike : (b : Bool) (into : Reg) (p : V × Wave) (q : W × Wave) (m : Machine V) (n : Machine W) → R p.0 q.0
      → held o.ksmps (rate_at into) p.1 ≡ held o.ksmps (rate_at into) q.1 → Alike R m n
      → Alike R (if b then write o.ksmps into p.1 (record m { world = p.0 }) else record m { world = p.0 })
      (if b then write u.ksmps into q.1 (record n { world = q.0 }) else record n { world = q.0 })
  written_alike true into p q m n r e a = write_alike _ _ _ _ _ e (moved _ _ _ _ r a)
  written_alike false into p q m n r e a = moved m n p.0 q.0 r a

  acts_alike : (a : Act) (into : Reg) (ws : List Wave) (m : Machine V) (n : Machine W)
      → ActNamed stock kinds N a (rate_at into) → Alike R m n → Alike R (acts o a into ws m) (acts u a into ws n)
  acts_alike (act.Const z) into ws m n h a = write_alike into (constant z) (constant z) m n refl a
  acts_alike (act.Field k) into ws m n h a =
      write_alike _ _ _ _ _ (ap (λ g. held o.ksmps (rate_at into) (constant (g k))) f.field) a
  acts_alike (act.Head k) into ws m n h a =
      write_alike _ _ _ _ _ (ap (λ g. held o.ksmps (rate_at into) (constant (g k))) f.head) a
  acts_alike act.Copy into ws m n h a = write_alike into (operand 0 ws) (operand 0 ws) m n refl a
  acts_alike act.Neg into ws m n h a = write_alike _ _ _ _ _ refl a
  acts_alike (act.Pair b) into ws m n h a = write_alike _ _ _ _ _ refl a
  acts_alike act.Pick into ws m n h a = write_alike _ _ _ _ _ refl a
  acts_alike (act.Call g) into ws m n h a = write_alike _ _ _ _ _ refl a
  acts_alike (act.Load g) into ws m n h a =
      write_alike _ _ _ _ _ (ap (λ w. held o.ksmps (rate_at into) w) (f.load g m.world n.world h a.world)) a
  acts_alike (act.Save g) into ws m n h a =
      let w : Wave = operand 0 ws in
      moved m n _ _ (subst (λ k. R (o.save g (held o.ksmps (res_rate g) w) m.world)
      (u.save g (held k (res_rate g) w) n.world)) f.ksmps (f.save g w m.world n.world h.0 h.1 a.world)) a
  acts_alike (act.Start opcode k) into ws m n h a =
      moved m n _ _ (f.start opcode (rate_at into) k (first_values ws) m.world n.world h.0 h.1 a.world) a
  acts_alike (act.Unit opcode k reach) into ws m n h a =
      let d = f.does opcode (rate_at into) k reach ws m.world n.world h.0 h.1 a.world in
      written_alike _ _ _ _ _ _ d.0 d.1 a
  acts_alike act.Seek into ws m n h a = moved m n _ _ (f.seek (first_values ws) m.world n.world a.world) a
  acts_alike (act.Store reach) into ws m n h a =
      moved m n _ _ (f.store (rate_at into) reach ws m.world n.world h a.world) a
  acts_alike (act.Zak opcode reach) into ws m n h a =
      let d = f.zak opcode reach ws m.world n.world h a.world in
      written_alike _ _ _ _ _ _ d.0 (ap (held o.ksmps (rate_at into)) d.1) a
  acts_alike (act.Jump to) into ws m n h a = record { regs = a.regs; next = refl; world = a.world }
  acts_alike (act.Unless to) into ws m n h a =
      record { regs = a.regs; next = ap (λ k. if holds (operand 0 ws 0) then k else to) a.next; world = a.world }
  acts_alike (act.Out c) into ws m n h a = moved m n _ _ (f.out c (operand 0 ws) m.world n.world a.world) a
  acts_alike act.OutAt into ws m n h a =
      moved m n _ _ (f.out_at (operand 0 ws) (operand 1 ws) m.world n.world a.world) a
  acts_alike act.Turnoff into ws m n h a = moved m n _ _ (f.turnoff m.world n.world a.world) a
  acts_alike act.Ask into ws m n h a = moved m n _ _ (f.ask (first_values ws) m.world n.world a.world) a

  step_alike : (place : ℕ) (op : Op) (m : Machine V) (n : Machine W) → ActNamed stock kinds N op.act (rate_at op.into)
      → Alike R m n → Alike R (step o place op m) (step u place op n)
  step_alike place op m n h a =
      let done : is_done o place m ≡ is_done u place n =
      ap (λ k. nat_le k place && not (o.refused m.world)) a.next
      ∙ ap (λ b. nat_le n.next place && not b) (f.refused m.world n.world a.world) in
      let args : map m.regs op.from ≡ map n.regs op.from = ap (λ g. map g op.from) a.regs in
      either_alike _ _ _ _ _ _ done
      (subst (λ ws. Alike R (acts o op.act op.into (map m.regs op.from) m) (acts u op.act op.into ws n)) args
      (acts_alike _ _ _ _ _ h a)) a

  pub run_alike : (place : ℕ) (ops : List Op) (m : Machine V) (n : Machine W) → OpsNamed stock kinds N ops → Alike R m n
      → Alike R (run o place ops m) (run u place ops n)
  run_alike place [] m n h a = a
  run_alike place (op ∷ ops) m n h a =
      run_alike (place + 1) ops (step o place op m) (step u place op n) h.1 (step_alike place op m n h.0 a)
