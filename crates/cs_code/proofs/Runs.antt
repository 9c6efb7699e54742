-- The run of a code: in parts, with skipped ops, and with written registers.
use Rattle.std.proofs.Common.{◌≡◌, ℕ, ◌+◌, ◌<◌, ◌≤◌, ◌≢◌, pos, Bool, true, false, ◌&&◌, List, [], ◌∷◌, ◌++◌, length}
use Rattle.std.proofs.Common.{map, nat_le, nat_lt, if◌then◌else◌, refl, sym, ◌∙◌, ap, arith, add-zero, le-leb, ne_eqb}
use Rattle.std.proofs.Common.{append_assoc, subst}
use Rattle.std.proofs.lemmas.Bool.Decides.{nat_tests}
use Rattle.cs_base.proofs.Tests.{by_test}
use Rattle.cs_base.specs.declared.resource.Rate.{Rate}
use Rattle.cs_ir.proofs.RegisterKinds.{kind_is, same_reg_here}
use Rattle.cs_ir.specs.Machine.{Machine, same_reg, put, acts, step, run}
use Rattle.cs_ir.specs.{Waves.Wave, Waves.held, Worlds.World, declared.op.Op.Op, Registers.rate_of, Registers.same_kind}
use Rattle.cs_ir.specs.{Registers.temporary, declared.register.Kind.Kind, declared.register.Reg.Reg}
use Rattle.cs_meaning.specs.Notes.{reg}
use Rattle.cs_code.specs.inner.Spots.{kept_reg, temp}
use Rattle.cs_base.specs.declared.resource.Rate.TheVariants as rate
use Rattle.cs_ir.specs.declared.register.Kind.TheVariants as kind

above : (a b : ℕ) → b < a → nat_le a b ≡ false
above a b h = grind (arith, nat_tests)

and_false : (b : Bool) → (b && false) ≡ false
and_false true = refl
and_false false = refl

-- A machine whose next op is at or before a place, in a world that has refused nothing.
pub record Live {W : Type 0} (o : World W) (place : ℕ) (m : Machine W) : Type 0 where
  pub next : m.next ≤ place
  pub going : o.refused m.world ≡ false

module _ {W : Type 0} (o : World W) where
  pub run_append : (place : ℕ) (a b : List Op) (m : Machine W)
      → run o place (a ++ b) m ≡ run o (place + length a) b (run o place a m)
  run_append place [] b m = ap (λ p. run o p b m) (sym (add-zero place))
  run_append place (x ∷ a) b m =
      let e : place + 1 + length a ≡ place + length (x ∷ a) = omega arith in
      run_append (place + 1) a b (step o place x m) ∙ ap (λ p. run o p b (run o (place + 1) a (step o place x m))) e

  pub live_step : (place : ℕ) (op : Op) (m : Machine W) → Live o place m
      → step o place op m ≡ acts o op.act op.into (map m.regs op.from) m
  live_step place op m l = rw (le-leb m.next place l.next, l.going) refl

  pub skip_step : (place : ℕ) (op : Op) (m : Machine W) → place < m.next → step o place op m ≡ m
  skip_step place op m h = rw (above m.next place h) refl

  pub run_past : (place : ℕ) (ops : List Op) (m : Machine W) → place + length ops ≤ m.next → run o place ops m ≡ m
  run_past place [] m h = refl
  run_past place (op ∷ ops) m h =
      let there : place < m.next = omega arith in
      ap (run o (place + 1) ops) (skip_step place op m there) ∙ run_past (place + 1) ops m (omega arith)

  pub refused_step : (place : ℕ) (op : Op) (m : Machine W) → o.refused m.world ≡ true → step o place op m ≡ m
  refused_step place op m h = rw (h, and_false (nat_le m.next place)) refl

  pub run_refused : (place : ℕ) (ops : List Op) (m : Machine W) → o.refused m.world ≡ true → run o place ops m ≡ m
  run_refused place [] m h = refl
  run_refused place (op ∷ ops) m h =
      ap (run o (place + 1) ops) (refused_step place op m h) ∙ run_refused (place + 1) ops m h

  -- one op after other ops
  pub run_snoc : (place : ℕ) (a : List Op) (op : Op) (m : Machine W) → Live o (place + length a) (run o place a m)
      → run o place (a ++ op ∷ []) m ≡ acts o op.act op.into (map (run o place a m).regs op.from) (run o place a m)
  run_snoc place a op m l = run_append place a (op ∷ []) m ∙ live_step (place + length a) op (run o place a m) l

-- ---- registers

-- a register that is no temporary, or a temporary below a number
abbrev pub UnderOf : ℕ → Kind → ℕ → Type 0
UnderOf d kind.TemporaryInit n = n < d
UnderOf d kind.TemporaryControl n = n < d
UnderOf d kind.TemporaryAudio n = n < d
UnderOf d _ n = Unit {0}

abbrev pub Under : ℕ → Reg → Type 0
Under d q = UnderOf d q.kind q.offset

under_of : (d e : ℕ) (k : Kind) (n : ℕ) → d ≤ e → UnderOf d k n → UnderOf e k n
under_of d e kind.TemporaryInit n low h = omega (arith, low, h)
under_of d e kind.TemporaryControl n low h = omega (arith, low, h)
under_of d e kind.TemporaryAudio n low h = omega (arith, low, h)
under_of d e _ n low h = tt

pub under_more : (d e : ℕ) (q : Reg) → d ≤ e → Under d q → Under e q
under_more d e q low h = under_of d e q.kind q.offset low h

pub under_temp : (r : Rate) (d e : ℕ) → d < e → Under e (temp r d)
under_temp rate.Init d e h = h
under_temp a d e h = h

pub temp_rate : (r : Rate) → rate_of (temporary r) ≡ r
temp_rate rate.Init = refl
temp_rate a = refl

pub under_local : (r : Rate) (n d : ℕ) → Under d (reg r n)
under_local rate.Init n d = tt
under_local a n d = tt

pub apart : (p q : Reg) → (p.kind ≡ q.kind → p.offset ≢ q.offset) → same_reg p q ≡ false
apart p q h = by_test (same_kind p.kind q.kind)
    (λ e. rw (e, ne_eqb p.offset q.offset (h (kind_is p.kind q.kind e))) refl)
    (λ e. rw e refl)

-- a temporary below number d is different from all temporaries from d on
under_temporary : (d : ℕ) (r : Rate) (n : ℕ) → UnderOf d (temporary r) n → n < d
under_temporary d rate.Init n h = h
under_temporary d a n h = h

under_apart_of : (d : ℕ) (r : Rate) (k : Kind) (n : ℕ) → UnderOf d k n → k ≡ temporary r → n ≢ d
under_apart_of d r k n h e same =
    absurd (let low = under_temporary d r n (subst (λ x. UnderOf d x n) e h) in omega (arith, low, same))

pub under_apart : (d : ℕ) (r : Rate) (p : Reg) → Under d p → same_reg p (temp r d) ≡ false
under_apart d r p h = apart p (temp r d) (under_apart_of d r p.kind p.offset h)

-- a local variable is no kept value, and locals of different rates are different
pub local_not_kept : (r : Rate) (n at : ℕ) → same_reg (reg r n) (kept_reg at) ≡ false
local_not_kept rate.Init n at = refl
local_not_kept a n at = refl

pub kept_not_local : (r : Rate) (n at : ℕ) → same_reg (kept_reg at) (reg r n) ≡ false
kept_not_local rate.Init n at = refl
kept_not_local a n at = refl

-- a register after it was written
pub put_here : (g : Reg → Wave) (q : Reg) (w : Wave) → put g q w q ≡ w
put_here g q w = rw (same_reg_here q) refl

pub put_other : (g : Reg → Wave) (q : Reg) (w : Wave) (p : Reg) → same_reg p q ≡ false → put g q w p ≡ g p
put_other g q w p h = rw h refl

-- ---- signals

twice : {A : Type 0} (b : Bool) (x y : A) → (if b then (if b then x else y) else y) ≡ (if b then x else y)
twice true x y = refl
twice false x y = refl

pub held_again : (k : ℕ) (r : Rate) (w : Wave) → held k r (held k r w) ≡ held k r w
held_again k rate.Audio w = λ i j. twice (nat_lt j k) (w j) (pos 0) i
held_again k a w = refl

-- ---- lists

pub two_lists : {A : Type 0} (a b c : List A) → (a ++ (b ++ [])) ++ c ≡ a ++ (b ++ c)
two_lists a b c = simp append_assoc

pub three_lists : {A : Type 0} (a b c d : List A) → (a ++ (b ++ (c ++ []))) ++ d ≡ a ++ (b ++ (c ++ d))
three_lists a b c d = simp append_assoc
