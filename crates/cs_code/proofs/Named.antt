-- The units and channels that a note's code may name.
use Rattle.std.proofs.Common.{◌≡◌, ℕ, zero, suc, ◌+◌, ◌≤◌, Bool, true, false, not, ◌||◌, List, [], ◌∷◌, ◌++◌, length}
use Rattle.std.proofs.Common.{Some, if◌then◌else◌, slice_get, refl, ◌∙◌, ap, arith, length-append}
use Rattle.cs_base.proofs.Rates.{same_rate_is}
use Rattle.cs_base.specs.{Rates.same_rate, declared.resource.Rate.Rate}
use Rattle.cs_ir.specs.{Cycles.is_of_cycle, Registers.rate_at, declared.op.Act.Act}
use Rattle.cs_meaning.specs.Core.{Stmt, Block, Arms, unit, out, choose, no_stmt, andthen, otherwise, arm}
use Rattle.cs_meaning.specs.{Notes.reg, When.cycle}
use Rattle.cs_code.specs.{declared.frame.Progress.Progress, inner.Spots.temp, inner.Code.code, inner.Code.target}
use Rattle.cs_code.specs.inner.Kept.{past, past_parts, past_stmt, past_block, past_arms}
use Rattle.cs_typed.specs.{TypedTree.number, declared.tree.Var.Var as Variable, declared.tree.Var.TheVariants.Local}
use Rattle.cs_code.specs.Names.{UnitKind, stmt_units, block_units, arms_units}
use Rattle.cs_ir.proofs.RegisterKinds.{local_rate}
use Rattle.cs_code.proofs.Runs.{temp_rate}
use Rattle.cs_base.specs.declared.resource.Rate.TheVariants as rate
use Rattle.cs_ir.specs.declared.op.Act.TheVariants as act
use Rattle.cs_code.specs.declared.frame.Pass.TheVariants as pass

-- ---- places in lists

front_at : {A : Type 0} (a b : List A) (i : ℕ) (x : A) → slice_get a i ≡ Some x → slice_get (a ++ b) i ≡ Some x
front_at [] b i x h = absurd (cc)
front_at (y ∷ a) b zero x h = h
front_at (y ∷ a) b (suc i) x h = front_at a b i x h

back_at : {A : Type 0} (a b : List A) (i : ℕ) (x : A) → slice_get b i ≡ Some x
    → slice_get (a ++ b) (length a + i) ≡ Some x
back_at [] b i x h = ap (slice_get b) (let e : 0 + i ≡ i = omega arith in e) ∙ h
back_at (y ∷ a) b i x h =
    let e : length (y ∷ a) + i ≡ suc (length a + i) = omega arith in
    ap (slice_get ((y ∷ a) ++ b)) e ∙ back_at a b i x h

-- the items of a part of a list are at places of the complete list
abbrev pub At : List UnitKind → ℕ → List UnitKind → Type 0
At units k part = (i : ℕ) (x : UnitKind) → slice_get part i ≡ Some x → slice_get units (k + i) ≡ Some x

pub at_front : (units : List UnitKind) (k : ℕ) (a b : List UnitKind) → At units k (a ++ b) → At units k a
at_front units k a b h = λ i x e. h i x (front_at a b i x e)

pub at_back : (units : List UnitKind) (k n : ℕ) (a b : List UnitKind) → n ≡ k + length a → At units k (a ++ b)
    → At units n b
at_back units k n a b is h = λ i x e.
    let same : n + i ≡ k + (length a + i) = omega arith in
    ap (slice_get units) same ∙ h (length a + i) x (back_at a b i x e)

pub at_one : (units : List UnitKind) (k : ℕ) (x : UnitKind) → At units k (x ∷ []) → slice_get units k ≡ Some x
at_one units k x h = ap (slice_get units) (let e : k ≡ k + 0 = omega arith in e) ∙ h 0 x refl

-- ---- numbers of units

mutual
  pub stmt_count : (p : Progress) (s : Stmt) → (past_stmt p s).unit ≡ p.unit + length (stmt_units s)
  stmt_count p (unit r vs opcode reach xs is) = refl
  stmt_count p (choose r arms) = arms_count p arms
  stmt_count p a = omega arith

  pub block_count : (p : Progress) (b : Block) → (past_block p b).unit ≡ p.unit + length (block_units b)
  block_count p no_stmt = omega arith
  block_count p (andthen s b) =
      let first = stmt_count p s in
      let rest = block_count (past_stmt p s) b in
      let both = length-append (stmt_units s) (block_units b) in
      omega arith

  arms_count : (p : Progress) (arms : Arms) → (past_arms p arms).unit ≡ p.unit + length (arms_units arms)
  arms_count p (otherwise b) = block_count p b
  arms_count p (arm c b rest) =
      let q : Progress = past_parts (past p.part c) p in
      let first = block_count q b in
      let others = arms_count (past_block q b) rest in
      let both = length-append (block_units b) (arms_units rest) in
      omega arith

-- ---- channels: at most as many values are output as there are channels

abbrev mutual
  pub Narrow : ℕ → Stmt → Type 0
  Narrow channels (out r es) = length es ≤ channels
  Narrow channels (choose r arms) = NarrowArms channels arms
  Narrow channels a = Unit {0}

  pub NarrowBlock : ℕ → Block → Type 0
  NarrowBlock channels no_stmt = Unit {0}
  NarrowBlock channels (andthen s b) = Narrow channels s × NarrowBlock channels b

  pub NarrowArms : ℕ → Arms → Type 0
  NarrowArms channels (otherwise b) = NarrowBlock channels b
  NarrowArms channels (arm c b rest) = NarrowBlock channels b × NarrowArms channels rest

-- a unit's result has the unit's rate
pub target_rate : (r : Rate) (vs : List Variable) → rate_at (target r vs) ≡ r
target_rate r (Local q x ∷ vs) = into (same_rate q r) refl
  where
    into : (b : Bool) → same_rate q r ≡ b → rate_at (if b then reg q x else temp r 0) ≡ r
    into true e = local_rate q ∙ same_rate_is q r e
    into false e = temp_rate r
target_rate r a = temp_rate r

-- an act of a cycle starts no unit, looks up no table and schedules no note; as a note begins any act is
-- allowed
abbrev pub suits : Bool → Act → Bool
suits cycles a = is_of_cycle a || not cycles
