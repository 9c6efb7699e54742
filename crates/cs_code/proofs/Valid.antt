-- The code of a note is valid: its acts accept their operands, and its jumps go forward. It names its units
-- with their opcodes and rates, and only channels that the piece has. The code of a cycle starts no unit,
-- looks up no table and schedules no note.
use Rattle.std.proofs.Common.{◌≡◌, ℕ, zero, suc, ◌+◌, ◌<◌, ◌≤◌, Bool, true, false, not, ◌&&◌, ◌||◌, nat_le, nat_lt}
use Rattle.std.proofs.Common.{le-leb, lt-ltb, List, [], ◌∷◌, ◌++◌, length, Option, Some, None, if◌then◌else◌, refl, sym}
use Rattle.std.proofs.Common.{◌∙◌, ap, ap₂, slice_get, subst, arith, length-append}
use Rattle.std.specs.{List.list_all, Prelude.slice_index_or}
use Rattle.std.proofs.lemmas.Option.{slice_get_within}
use Rattle.cs_base.proofs.Rates.{same_rate_is}
use Rattle.cs_base.specs.Rates.{same_rate, within, is_audio, is_init, res_rate}
use Rattle.cs_base.specs.declared.resource.Rate.{Rate}
use Rattle.cs_words.specs.Catalogue.{row_of, takes, moving_letters, unit_takes}
use Rattle.cs_words.specs.{declared.catalogue.Letter.Letter, declared.catalogue.Opcode.Opcode}
use Rattle.cs_ir.proofs.RegisterKinds.{kind_same, local_rate}
use Rattle.cs_ir.specs.{Cycles.are_of_cycle, Cycles.is_of_cycle, Units.is_unit, Units.is_zak, Validity.fine_from}
use Rattle.cs_ir.specs.{Waves.if_init, declared.op.Act.Act, declared.op.Op.Op, declared.op.Reach.Reach}
use Rattle.cs_ir.specs.{declared.register.Counts.Counts, declared.register.Reg.Reg, Limits.ops_limit, Registers.at_kind}
use Rattle.cs_ir.specs.{Registers.rate_at, Registers.reg_limit, Registers.regs_limit, declared.register.Kind.Kind}
use Rattle.cs_ir.specs.Validity.{takes_from, suits_operator, suits_function, take_all, as_sounds, stores_with, is_still}
use Rattle.cs_ir.specs.Validity.{may_run_at, bound_at, has_value, runs_with, has_register, writes, finds, is_fine}
use Rattle.cs_meaning.specs.Core.{Stmt, Block, Arms, set, unit, zak, store, out, out_at, ask, turnoff, choose, no_stmt}
use Rattle.cs_meaning.specs.{Core.andthen, Core.otherwise, Core.arm, Notes.reg, When.When, When.beginning, When.cycle}
use Rattle.cs_code.specs.{declared.frame.Pass.Pass, declared.frame.Progress.Progress}
use Rattle.cs_code.specs.inner.Kept.{start, past, past_parts, past_stmt, past_block}
use Rattle.cs_typed.specs.TypedTree.{Expression, number, var, field, head, neg, pair, pick, apply}
use Rattle.cs_typed.specs.{WellRated.node_rate, declared.tree.Var.Var as Variable}
use Rattle.cs_typed.specs.declared.tree.Var.TheVariants.{Local, Global}
use Rattle.cs_code.specs.Names.{AllNamed, Names, UnitKind, arms_units, block_units, stmt_units}
use Rattle.cs_code.specs.inner.Spots.{direct, kept_or, kept_reg, op_of, reg_or, spot, spots, temp}
use Rattle.cs_code.specs.inner.Code.{unless_there, copied, own, code, operand_code, operands_code, kept_code, keep_code}
use Rattle.cs_code.specs.inner.Code.{keep_all_code, set_code, target, given_code, on_code, run_code, start_code}
use Rattle.cs_code.specs.inner.Code.{unit_code, zak_code, seek_code, store_code, ask_code, out_ops, out_at_ops}
use Rattle.cs_code.specs.inner.Code.{arm_code, cond_code, cond_reg, choice_code, pass_code, pass_block_code}
use Rattle.cs_code.specs.inner.Code.{chosen_code, all_code}
use Rattle.cs_code.proofs.Named.{At, Narrow, NarrowArms, NarrowBlock, at_back, at_front, at_one, block_count}
use Rattle.cs_code.proofs.{Named.stmt_count, Named.suits, Named.target_rate, Performs.arm_length, Runs.temp_rate}
use Rattle.cs_code.proofs.Ranked.{Ranked, AllRanked, AllInit, AllSound, Paired, rated, RankedSet, GivenTo, RankedRun}
use Rattle.cs_code.proofs.Ranked.{RankedUnit, RankedStore, RankedStmt, RankedBlock, RankedArms}
use Rattle.cs_base.specs.declared.resource.Rate.TheVariants as rate
use Rattle.cs_ir.specs.declared.op.Act.TheVariants as act
use Rattle.cs_code.specs.declared.frame.Pass.TheVariants as pass

-- a jump goes to a later op, and not beyond the end
abbrev pub Lands : ℕ → ℕ → Act → Type 0
Lands end place (act.Jump to) = (place < to) × (to ≤ end)
Lands end place (act.Unless to) = (place < to) × (to ≤ end)
Lands end place _ = Unit {0}

-- an act that isn't a jump continues with the next op
abbrev pub Stays : Act → Type 0
Stays (act.Jump to) = ⊥
Stays (act.Unless to) = ⊥
Stays _ = Unit {0}

lands : (end place : ℕ) (a : Act) → Stays a → Lands end place a
lands end place (act.Jump to) s = absurd s
lands end place (act.Unless to) s = absurd s
lands end place a s = tt

-- a statement that contains no statements
abbrev Alone : Stmt → Type 0
Alone (choose r arms) = ⊥
Alone _ = Unit {0}

-- ---- rates

pub within_self : (r : Rate) → within r r ≡ true
within_self rate.Init = refl
within_self a = refl

pub init_within : (r : Rate) → within rate.Init r ≡ true
init_within rate.Init = refl
init_within a = refl

-- the register that holds a value has the value's rate
rate_kept : (when : When) (r : Rate) (at d : ℕ) → rate_at (reg_or (kept_or when r at None) (temp r d)) ≡ r
rate_kept beginning r at d = temp_rate r
rate_kept cycle rate.Init at d = refl
rate_kept cycle a at d = refl

rate_local : (when : When) (r : Rate) (at d : ℕ) (q : Reg) → rate_at q ≡ r
    → rate_at (reg_or (kept_or when r at (Some q)) (temp r d)) ≡ r
rate_local cycle rate.Init at d q h = refl
rate_local a e at d q h = h

spot_rate : (when : When) (at : ℕ) (e : Expression) (d : ℕ) → Ranked e → rate_at (spot when at e d) ≡ node_rate e
spot_rate when at (var r (Local q n)) d h = rate_local when r at d (reg q n) (local_rate q ∙ h)
spot_rate when at w d h = rate_kept when (node_rate w) at d

-- registers of the same rates
abbrev SameRates : List Reg → List Reg → Type 0
SameRates [] [] = Unit {0}
SameRates (p ∷ ps) (q ∷ qs) = (rate_at p ≡ rate_at q) × SameRates ps qs
SameRates _ _ = ⊥

spots_rates : (when : When) (at : ℕ) (es : List Expression) (d : ℕ) → AllRanked es
    → SameRates (spots when at es d) (rated es)
spots_rates when at [] d h = tt
spots_rates when at (e ∷ es) d h =
    (spot_rate when at e d h.0 ∙ sym (local_rate (node_rate e)), spots_rates when (past at e) es (d + 1) h.1)

same_takes : (ls : List Letter) (bound : Rate) (ps qs : List Reg) → SameRates ps qs
    → take_all ls bound ps ≡ take_all ls bound qs
same_takes (l ∷ ls) bound (p ∷ ps) (q ∷ qs) h = ap₂ ◌&&◌ (ap (takes l bound) h.0) (same_takes ls bound ps qs h.1)
same_takes ls bound [] [] h = refl
same_takes ls bound (p ∷ ps) (q ∷ qs) h = refl
same_takes ls bound ps qs h = absurd h

same_all : (t : Rate → Bool) (ps qs : List Reg) → SameRates ps qs
    → list_all (λ x. t (rate_at x)) ps ≡ list_all (λ x. t (rate_at x)) qs
same_all t [] [] h = refl
same_all t (p ∷ ps) (q ∷ qs) h = ap₂ ◌&&◌ (ap t h.0) (same_all t ps qs h.1)
same_all t [] (q ∷ qs) h = absurd h
same_all t (p ∷ ps) [] h = absurd h

same_length : (ps qs : List Reg) → SameRates ps qs → length ps ≡ length qs
same_length [] [] h = refl
same_length (p ∷ ps) (q ∷ qs) h = ap suc (same_length ps qs h.1)
same_length [] (q ∷ qs) h = absurd h
same_length (p ∷ ps) [] h = absurd h

same_sound : (r : Rate) (p q : Reg) → rate_at p ≡ rate_at q → as_sounds r p ≡ as_sounds r q
same_sound r p q h = ap (λ y. if is_audio r then is_audio y else not (is_audio y)) h

same_stores : (r : Rate) (ps qs : List Reg) → SameRates ps qs → stores_with r ps ≡ stores_with r qs
same_stores r [] [] h = refl
same_stores r (a ∷ []) (x ∷ []) h = refl
same_stores r (a ∷ (b ∷ [])) (x ∷ (y ∷ [])) h = refl
same_stores r (a ∷ (b ∷ (c ∷ []))) (x ∷ (y ∷ (z ∷ []))) h =
    ap₂ ◌&&◌ (ap₂ ◌&&◌ (same_sound r a x h.0) (same_sound r b y h.1.0)) (ap is_init h.1.1.0)
same_stores r (a ∷ (b ∷ (c ∷ (d ∷ ps)))) (x ∷ (y ∷ (z ∷ (t ∷ qs)))) h = refl
same_stores r [] (x ∷ qs) h = absurd h
same_stores r (a ∷ ps) [] h = absurd h
same_stores r (a ∷ []) (x ∷ (y ∷ qs)) h = absurd h.1
same_stores r (a ∷ (b ∷ ps)) (x ∷ []) h = absurd h.1
same_stores r (a ∷ (b ∷ [])) (x ∷ (y ∷ (z ∷ qs))) h = absurd h.1.1
same_stores r (a ∷ (b ∷ (c ∷ ps))) (x ∷ (y ∷ [])) h = absurd h.1.1
same_stores r (a ∷ (b ∷ (c ∷ []))) (x ∷ (y ∷ (z ∷ (t ∷ qs)))) h = absurd h.1.1.1
same_stores r (a ∷ (b ∷ (c ∷ (d ∷ ps)))) (x ∷ (y ∷ (z ∷ []))) h = absurd h.1.1.1

init_still : (es : List Expression) → AllInit es → list_all is_still (rated es) ≡ true
init_still [] h = refl
init_still (e ∷ es) h = rw (h.0, init_still es h.1) refl

length_rated : (es : List Expression) → length (rated es) ≡ length es
length_rated [] = refl
length_rated (e ∷ es) = ap suc (length_rated es)

pub two : (a b : Bool) → a ≡ true → b ≡ true → (a && b) ≡ true
two a b h k = rw (h, k) refl

three : (a b c : Bool) → a ≡ true → b ≡ true → c ≡ true → (a && b && c) ≡ true
three a b c h k l = rw (h, k, l) refl

four : (a b c d : Bool) → a ≡ true → b ≡ true → c ≡ true → d ≡ true → (a && b && c && d) ≡ true
four a b c d h k l m = rw (h, k, l, m) refl

-- a condition isn't in an a-rate register
cond_held : (way : Pass) (at : ℕ) (c : Expression) → Ranked c → is_audio (node_rate c) ≡ false
    → is_audio (rate_at (cond_reg way at c)) ≡ false
cond_held pass.Initialisation at c h held = refl
cond_held pass.Performance at c h held = ap is_audio (spot_rate cycle at c 0 h) ∙ held

-- ---- ops that are right

module _ (cycles : Bool) (channels : ℕ) (units : List UnitKind) where
  -- an op is right: it names existing things, is allowed in its pass, and its act accepts its operands
  abbrev pub Right : Op → Type 0
  Right op = (Names channels units op.act (rate_at op.into) × (suits cycles op.act ≡ true))
      × (takes_from op.act (rate_at op.into) op.from ≡ true)

  -- the ops are right, and none of them is a jump
  abbrev pub Plain : List Op → Type 0
  Plain [] = Unit {0}
  Plain (op ∷ ops) = Right op × Stays op.act × Plain ops

  both : (a b : List Op) → Plain a → Plain b → Plain (a ++ b)
  both [] b h k = k
  both (op ∷ a) b h k = (h.0, h.1, both a b h.2 k)

  -- operands that an act accepts are accepted for any register of this rate
  takes_into : (a : Act) (r : Rate) (x : Reg) (qs : List Reg) → rate_at x ≡ r → takes_from a r qs ≡ true
      → takes_from a (rate_at x) qs ≡ true
  takes_into a r x qs is h = subst (λ q. takes_from a q qs ≡ true) (sym is) h

  operand_by : (when : When) (e : Expression) (at d : ℕ)
      → ((x : Reg) → rate_at x ≡ node_rate e → Plain (own when at e x d)) → Plain (operand_code when at e d)
  operand_by when e at d h = by (direct when at e)
    where
      by : (there : Option Reg) → Plain (unless_there there (own when at e (temp (node_rate e) d) d))
      by (Some q) = tt
      by None = h (temp (node_rate e) d) (temp_rate (node_rate e))

  own_plain : (when : When) (e : Expression) (at : ℕ) (x : Reg) → rate_at x ≡ node_rate e → (d : ℕ) → Ranked e
      → Plain (own when at e x d)
  own_plain when (number r n) at x is d h = (((tt, refl), takes_into (act.Const n) r x [] is refl), tt, tt)
  own_plain when (var r (Local q n)) at x is d h = (
    ((tt, refl), takes_into act.Copy r x (reg q n ∷ []) is (ap (λ y. within y r) (local_rate q ∙ h) ∙ within_self r)),
    tt,
    tt,
  )
  own_plain when (var r (Global g)) at x is d h = (((tt, refl), takes_into (act.Load g) r x [] is h), tt, tt)
  own_plain when (field r k) at x is d h = (((tt, refl), takes_into (act.Field k) r x [] is refl), tt, tt)
  own_plain when (head r k) at x is d h = (((tt, refl), takes_into (act.Head k) r x [] is refl), tt, tt)
  own_plain when (neg r a) at x is d h =
      let q : Reg = spot when at a d in
      both (operand_code when at a d) (op_of act.Neg x (q ∷ []) ∷ [])
      (operand_by when a at d (λ v into. own_plain when a at v into d h.1)) (
        ((tt, refl), takes_into act.Neg r x (q ∷ []) is (ap (λ y. within y r) (spot_rate when at a d h.1) ∙ h.0)),
        tt,
        tt,
      )
  own_plain when (pair r b y z) at x is d h =
      let p : Reg = spot when at y d in
      let q : Reg = spot when (past at y) z (d + 1) in
      let last : List Op = op_of (act.Pair b) x (p ∷ q ∷ []) ∷ [] in
      let second : List Op = operand_code when (past at y) z (d + 1) in
      both (operand_code when at y d) (second ++ last)
      (operand_by when y at d (λ v into. own_plain when y at v into d h.3)) (both second last
      (operand_by when z (past at y) (d + 1) (λ v into. own_plain when z (past at y) v into (d + 1) h.4)) (
        (
          (tt, refl),
          takes_into (act.Pair b) r x (p ∷ q ∷ []) is
              (three (within (rate_at p) r) (within (rate_at q) r) (suits_operator b r)
              (ap (λ w. within w r) (spot_rate when at y d h.3) ∙ h.0)
              (ap (λ w. within w r) (spot_rate when (past at y) z (d + 1) h.4) ∙ h.1) h.2),
        ),
        tt,
        tt,
      ))
  own_plain when (pick r c y z) at x is d h =
      let next : ℕ = past (past at c) y in
      let o : Reg = spot when at c d in
      let p : Reg = spot when (past at c) y (d + 1) in
      let q : Reg = spot when next z (d + 1 + 1) in
      let last : List Op = op_of act.Pick x (o ∷ p ∷ q ∷ []) ∷ [] in
      let second : List Op = operand_code when (past at c) y (d + 1) in
      let third : List Op = operand_code when next z (d + 1 + 1) in
      both (operand_code when at c d) (second ++ (third ++ last))
      (operand_by when c at d (λ v into. own_plain when c at v into d h.4)) (both second (third ++ last)
      (operand_by when y (past at c) (d + 1) (λ v into. own_plain when y (past at c) v into (d + 1) h.5))
      (both third last (operand_by when z next (d + 1 + 1) (λ v into. own_plain when z next v into (d + 1 + 1) h.6)) (
        (
          (tt, refl),
          takes_into act.Pick r x (o ∷ p ∷ q ∷ []) is
              (four (not (is_audio (rate_at o))) (within (rate_at o) r) (within (rate_at p) r) (within (rate_at q) r)
              (ap not (ap is_audio (spot_rate when at c d h.4) ∙ h.0))
              (ap (λ w. within w r) (spot_rate when at c d h.4) ∙ h.1)
              (ap (λ w. within w r) (spot_rate when (past at c) y (d + 1) h.5) ∙ h.2)
              (ap (λ w. within w r) (spot_rate when next z (d + 1 + 1) h.6) ∙ h.3)),
        ),
        tt,
        tt,
      )))
  own_plain when (apply r g a) at x is d h =
      let q : Reg = spot when at a d in
      both (operand_code when at a d) (op_of (act.Call g) x (q ∷ []) ∷ [])
      (operand_by when a at d (λ v into. own_plain when a at v into d h.1)) (
        (
          (tt, refl),
          takes_into (act.Call g) r x (q ∷ []) is (ap (suits_function g r) (spot_rate when at a d h.1) ∙ h.0),
        ),
        tt,
        tt,
      )

  operand_plain : (when : When) (e : Expression) (at d : ℕ) → Ranked e → Plain (operand_code when at e d)
  operand_plain when e at d h = operand_by when e at d (λ x into. own_plain when e at x into d h)

  operands_plain : (when : When) (es : List Expression) (at d : ℕ) → AllRanked es → Plain (operands_code when at es d)
  operands_plain when [] at d h = tt
  operands_plain when (e ∷ es) at d h =
      both (operand_code when at e d) (operands_code when (past at e) es (d + 1)) (operand_plain when e at d h.0)
      (operands_plain when es (past at e) (d + 1) h.1)

  -- a copy of a value that is in a register, or the value's own code
  code_from : (when : When) (e : Expression) (at : ℕ) (x : Reg) → rate_at x ≡ node_rate e → (d : ℕ) → Ranked e
      → (there : Option Reg) → direct when at e ≡ there → Plain (copied there x (own when at e x d))
  code_from when e at x is d h (Some q) there =
      let rated : rate_at q ≡ node_rate e =
      ap (λ o. rate_at (reg_or o (temp (node_rate e) d))) (sym there) ∙ spot_rate when at e d h in (
        (
          (tt, refl),
          takes_into act.Copy (node_rate e) x (q ∷ []) is
              (ap (λ y. within y (node_rate e)) rated ∙ within_self (node_rate e)),
        ),
        tt,
        tt,
      )
  code_from when e at x is d h None there = own_plain when e at x is d h

  code_plain : (when : When) (e : Expression) (at : ℕ) (x : Reg) → rate_at x ≡ node_rate e → (d : ℕ) → Ranked e
      → Plain (code when at e x d)
  code_plain when e at x is d h = code_from when e at x is d h (direct when at e) refl

  when_init : (r : Rate) (once each : List Op) → (r ≡ rate.Init → Plain once) → Plain each → Plain (if_init r once each)
  when_init rate.Init once each h k = h refl
  when_init r once each h k = k

  kept_plain : (e : Expression) (at : ℕ) → Ranked e → node_rate e ≡ rate.Init → Plain (kept_code at e)
  kept_plain e at h is = code_plain beginning e 0 (kept_reg at) (sym is) 0 h

  keep_plain : (e : Expression) (at : ℕ) → Ranked e → Plain (keep_code at e)
  keep_plain (neg r a) at h =
      when_init r (kept_code at (neg r a)) (keep_code at a) (kept_plain (neg r a) at h) (keep_plain a at h.1)
  keep_plain (pair r b y z) at h =
      when_init r (kept_code at (pair r b y z)) (keep_code at y ++ keep_code (past at y) z)
      (kept_plain (pair r b y z) at h)
      (both (keep_code at y) (keep_code (past at y) z) (keep_plain y at h.3) (keep_plain z (past at y) h.4))
  keep_plain (pick r c y z) at h =
      let first : List Op = keep_code at c in
      let second : List Op = keep_code (past at c) y in
      let third : List Op = keep_code (past (past at c) y) z in
      when_init r (kept_code at (pick r c y z)) (first ++ (second ++ third)) (kept_plain (pick r c y z) at h)
      (both first (second ++ third) (keep_plain c at h.4)
      (both second third (keep_plain y (past at c) h.5) (keep_plain z (past (past at c) y) h.6)))
  keep_plain (apply r g a) at h =
      when_init r (kept_code at (apply r g a)) (keep_code at a) (kept_plain (apply r g a) at h) (keep_plain a at h.1)
  keep_plain e at h = when_init (node_rate e) (kept_code at e) [] (kept_plain e at h) tt

  keep_all_plain : (es : List Expression) (at : ℕ) → AllRanked es → Plain (keep_all_code at es)
  keep_all_plain [] at h = tt
  keep_all_plain (e ∷ es) at h =
      both (keep_code at e) (keep_all_code (past at e) es) (keep_plain e at h.0) (keep_all_plain es (past at e) h.1)

  set_plain : (when : When) (at : ℕ) (v : Variable) (e : Expression) → RankedSet v e → Plain (set_code when at v e)
  set_plain when at (Local q n) e h = by_rate (same_rate (node_rate e) q) refl
    where
      by_rate : (b : Bool) → same_rate (node_rate e) q ≡ b → Plain (if b then code when at e (reg q n) 0
          else operand_code when at e 0 ++ (op_of act.Copy (reg q n) (spot when at e 0 ∷ []) ∷ []))
      by_rate true is = code_plain when e at (reg q n) (local_rate q ∙ sym (same_rate_is (node_rate e) q is)) 0 h.1
      by_rate false is =
          let x : Reg = spot when at e 0 in
          both (operand_code when at e 0) (op_of act.Copy (reg q n) (x ∷ []) ∷ []) (operand_plain when e at 0 h.1) (
            (
              (tt, refl),
              takes_into act.Copy q (reg q n) (x ∷ []) (local_rate q)
                  (ap (λ y. within y q) (spot_rate when at e 0 h.1) ∙ h.0),
            ),
            tt,
            tt,
          )
  set_plain when at (Global g) e h =
      both (operand_code when at e 0) (op_of (act.Save g) (spot when at e 0) (spot when at e 0 ∷ []) ∷ [])
      (operand_plain when e at 0 h.1)
      (((tt, refl), ap (λ y. has_value g && within y (res_rate g)) (spot_rate when at e 0 h.1) ∙ h.0), tt, tt)

  given_plain : (r : Rate) (vs : List Variable) → GivenTo r vs → Plain (given_code r vs)
  given_plain r [] h = tt
  given_plain r (Local q n ∷ vs) h = by_rate (same_rate q r)
    where
      by_rate : (b : Bool) → Plain (if b then [] else op_of act.Copy (reg q n) (temp r 0 ∷ []) ∷ [])
      by_rate true = tt
      by_rate false = (
        (
          (tt, refl),
          takes_into act.Copy q (reg q n) (temp r 0 ∷ []) (local_rate q) (ap (λ y. within y q) (temp_rate r) ∙ h),
        ),
        tt,
        tt,
      )
  given_plain r (Global g ∷ vs) h =
      (((tt, refl), ap (λ y. has_value g && within y (res_rate g)) (temp_rate r) ∙ h), tt, tt)

  -- an op on values that it accepts, followed by the remaining code for its result
  on_plain : (when : When) (at : ℕ) (a : Act) (into : Reg) (es : List Expression) → AllRanked es
      → Names channels units a (rate_at into) → suits cycles a ≡ true
      → takes_from a (rate_at into) (spots when at es 0) ≡ true → Stays a → Plain (on_code when at a into es)
  on_plain when at a into es ranked here done takes stays =
      both (operands_code when at es 0) (op_of a into (spots when at es 0) ∷ []) (operands_plain when es at 0 ranked)
      (((here, done), takes), stays, tt)

  run_plain : (when : When) (at : ℕ) (a : Act) (r : Rate) (vs : List Variable) (xs : List Expression) → AllRanked xs
      → GivenTo r vs → Names channels units a r → suits cycles a ≡ true
      → takes_from a r (spots when at xs 0) ≡ true → Stays a → Plain (run_code when at a r vs xs)
  run_plain when at a r vs xs ranked given here done takes stays =
      let ps : List Reg = spots when at xs 0 in
      let rated = target_rate r vs in
      both (operands_code when at xs 0) (op_of a (target r vs) ps ∷ given_code r vs)
      (operands_plain when xs at 0 ranked) (
        (
          (subst (Names channels units a) (sym rated) here, done),
          ap (λ y. takes_from a y ps) rated ∙ takes,
        ),
        stays,
        given_plain r vs given,
      )

  -- i-rate values are in registers that don't change
  spots_still : (is : List Expression) → AllInit is → AllRanked is → list_all is_still (spots beginning 0 is 0) ≡ true
  spots_still is h k =
      same_all is_init (spots beginning 0 is 0) (rated is) (spots_rates beginning 0 is 0 k) ∙ init_still is h

  start_plain : (r : Rate) (vs : List Variable) (opcode : Opcode) (u : ℕ) (xs is : List Expression)
      → not cycles ≡ true → Names channels units (act.Start opcode u) r → RankedUnit r vs opcode xs is
      → Plain (start_code r opcode u is)
  start_plain r vs opcode u xs is begin here h =
      let ps : List Reg = spots beginning 0 is 0 in
      let count : unit_takes (row_of opcode) (length ps) ≡ true =
      ap (unit_takes (row_of opcode))
      (same_length ps (rated is) (spots_rates beginning 0 is 0 h.settled_parts) ∙ length_rated is) ∙ h.count in
      on_plain beginning 0 (act.Start opcode u) (temp r 0) is h.settled_parts
      (subst (Names channels units (act.Start opcode u)) (sym (temp_rate r)) here) begin
      (takes_into (act.Start opcode u) r (temp r 0) ps (temp_rate r)
      (four (is_unit (row_of opcode).shape) (unit_takes (row_of opcode) (length ps)) (list_all is_still ps)
      (may_run_at (row_of opcode) r) h.is_one count (spots_still is h.settled h.settled_parts) h.run.runs)) tt

  runs_take : (when : When) (at : ℕ) (r : Rate) (vs : List Variable) (opcode : Opcode) (xs : List Expression)
      → RankedRun r vs opcode xs → runs_with (row_of opcode) r (spots when at xs 0) ≡ true
  runs_take when at r vs opcode xs h =
      let ps : List Reg = spots when at xs 0 in
      two (take_all (moving_letters (row_of opcode)) (bound_at (row_of opcode) r) ps) (may_run_at (row_of opcode) r)
      (same_takes (moving_letters (row_of opcode)) (bound_at (row_of opcode) r) ps (rated xs)
      (spots_rates when at xs 0 h.parts) ∙ h.moving) h.runs

  unit_plain : (when : When) (at : ℕ) (r : Rate) (vs : List Variable) (opcode : Opcode) (u : ℕ) (reach : Reach)
      (xs is : List Expression) → Names channels units (act.Unit opcode u reach) r → RankedUnit r vs opcode xs is
      → Plain (unit_code when at r vs opcode u reach xs)
  unit_plain when at r vs opcode u reach xs is here h =
      run_plain when at (act.Unit opcode u reach) r vs xs h.run.parts h.run.given here refl
      (two (is_unit (row_of opcode).shape) (runs_with (row_of opcode) r (spots when at xs 0)) h.is_one
      (runs_take when at r vs opcode xs h.run)) tt

  zak_plain : (when : When) (at : ℕ) (r : Rate) (vs : List Variable) (opcode : Opcode) (reach : Reach)
      (xs : List Expression) → is_zak (row_of opcode).shape ≡ true → RankedRun r vs opcode xs
      → Plain (zak_code when at r vs opcode reach xs)
  zak_plain when at r vs opcode reach xs one h =
      run_plain when at (act.Zak opcode reach) r vs xs h.parts h.given tt refl
      (two (is_zak (row_of opcode).shape) (runs_with (row_of opcode) r (spots when at xs 0)) one
      (runs_take when at r vs opcode xs h)) tt

  seek_plain : (r : Rate) (es is : List Expression) → not cycles ≡ true → RankedStore r es is → Plain (seek_code is)
  seek_plain r es [] begin h = absurd (let no : 0 ≡ 1 = h.single in omega arith)
  seek_plain r es (e ∷ []) begin h =
      on_plain beginning 0 act.Seek (temp rate.Init 0) (e ∷ []) h.settled_parts tt begin
      (ap is_init (spot_rate beginning 0 e 0 h.settled_parts.0 ∙ h.settled.0)) tt
  seek_plain r es (e ∷ (x ∷ is)) begin h =
      absurd (let no : length (e ∷ (x ∷ is)) ≡ 1 = h.single in omega arith)

  store_plain : (when : When) (at : ℕ) (r : Rate) (reach : Reach) (es is : List Expression) → RankedStore r es is
      → Plain (store_code when at r reach es)
  store_plain when at r reach es is h =
      on_plain when at (act.Store reach) (temp r 0) es h.parts tt refl
      (takes_into (act.Store reach) r (temp r 0) (spots when at es 0) (temp_rate r)
      (same_stores r (spots when at es 0) (rated es) (spots_rates when at es 0 h.parts) ∙ h.stores)) tt

  out_plain : (c at d : ℕ) (es : List Expression) → AllSound es → AllRanked es → c + length es ≤ channels
      → Plain (out_ops c (spots cycle at es d))
  out_plain c at d [] h k few = tt
  out_plain c at d (e ∷ es) h k few = (
    ((omega (arith, few), refl), ap is_audio (spot_rate cycle at e d k.0) ∙ h.0),
    tt,
    out_plain (c + 1) (past at e) (d + 1) es h.1 k.1 (omega (arith, few)),
  )

  out_at_plain : (at d : ℕ) (es : List Expression) → Paired es → AllRanked es → Plain (out_at_ops (spots cycle at es d))
  out_at_plain at d (c ∷ (e ∷ es)) h k =
      let held : is_audio (rate_at (spot cycle at c d)) ≡ false = ap is_audio (spot_rate cycle at c d k.0) ∙ h.0 in
      let sound : is_audio (rate_at (spot cycle (past at c) e (d + 1))) ≡ true =
      ap is_audio (spot_rate cycle (past at c) e (d + 1) k.1.0) ∙ h.1 in
      (((tt, refl), rw (held, sound) refl), tt, out_at_plain (past (past at c) e) (d + 1 + 1) es h.2 k.1.1)
  out_at_plain at d a h k = tt

  ask_plain : (es : List Expression) → not cycles ≡ true → 3 ≤ length es → AllInit es → AllRanked es
      → Plain (ask_code es)
  ask_plain es begin many still h =
      let ps : List Reg = spots beginning 0 es 0 in
      let count : nat_le 3 (length ps) ≡ true =
      ap (nat_le 3) (same_length ps (rated es) (spots_rates beginning 0 es 0 h) ∙ length_rated es)
      ∙ le-leb 3 (length es) many in
      on_plain beginning 0 act.Ask (temp rate.Init 0) es h tt begin
      (two (nat_le 3 (length ps)) (list_all is_still ps) count (spots_still es still h)) tt

  cond_plain : (way : Pass) (at : ℕ) (c : Expression) → Ranked c → Plain (cond_code way at c)
  cond_plain pass.Initialisation at c h = keep_plain c at h
  cond_plain pass.Performance at c h = operand_plain cycle c at 0 h

  -- a pass may begin notes if its ops aren't restricted to ops of a cycle
  abbrev pub Begins : Pass → Type 0
  Begins pass.Initialisation = not cycles ≡ true
  Begins pass.Performance = Unit {0}

  stmt_plain : (way : Pass) → Begins way → (place : ℕ) (p : Progress) (s : Stmt) → Alone s → RankedStmt s
      → At units p.unit (stmt_units s) → Narrow channels s → Plain (pass_code way place p s)
  stmt_plain way begin place p (choose r arms) one h k n = absurd one
  stmt_plain pass.Initialisation begin place p (set r v e) one h k n =
      when_init r (set_code beginning 0 v e) (keep_code p.part e) (λ i. set_plain beginning 0 v e h)
      (keep_plain e p.part h.1)
  stmt_plain pass.Initialisation begin place p (unit r vs opcode reach xs is) one h k n =
      let here = at_one units p.unit (record { opcode = opcode; rate = r }) k in
      let starts : List Op = start_code r opcode p.unit is in
      let runs : List Op = unit_code beginning 0 r vs opcode p.unit reach xs in
      let started = start_plain r vs opcode p.unit xs is begin here h in
      when_init r (starts ++ runs) (keep_all_code p.part xs ++ starts)
      (λ i. both starts runs started (unit_plain beginning 0 r vs opcode p.unit reach xs is here h))
      (both (keep_all_code p.part xs) starts (keep_all_plain xs p.part h.run.parts) started)
  stmt_plain pass.Initialisation begin place p (zak r vs opcode reach xs) one h k n =
      when_init r (zak_code beginning 0 r vs opcode reach xs) (keep_all_code p.part xs)
      (λ i. zak_plain beginning 0 r vs opcode reach xs h.0 h.1) (keep_all_plain xs p.part h.1.parts)
  stmt_plain pass.Initialisation begin place p (store r reach es is) one h k n =
      let seeks : List Op = seek_code is in
      let stores : List Op = store_code beginning 0 r reach es in
      let sought = seek_plain r es is begin h in
      when_init r (seeks ++ stores) (keep_all_code p.part es ++ seeks)
      (λ i. both seeks stores sought (store_plain beginning 0 r reach es is h))
      (both (keep_all_code p.part es) seeks (keep_all_plain es p.part h.parts) sought)
  stmt_plain pass.Initialisation begin place p (out r es) one h k n = keep_all_plain es p.part h.1
  stmt_plain pass.Initialisation begin place p (out_at r es) one h k n = keep_all_plain es p.part h.1
  stmt_plain pass.Initialisation begin place p (ask es) one h k n = ask_plain es begin h.0 h.1 h.2
  stmt_plain pass.Performance begin place p (set r v e) one h k n =
      when_init r [] (set_code cycle p.part v e) (λ i. tt) (set_plain cycle p.part v e h)
  stmt_plain pass.Performance begin place p (unit r vs opcode reach xs is) one h k n =
      when_init r [] (unit_code cycle p.part r vs opcode p.unit reach xs) (λ i. tt)
      (unit_plain cycle p.part r vs opcode p.unit reach xs is
      (at_one units p.unit (record { opcode = opcode; rate = r }) k) h)
  stmt_plain pass.Performance begin place p (zak r vs opcode reach xs) one h k n =
      when_init r [] (zak_code cycle p.part r vs opcode reach xs) (λ i. tt)
      (zak_plain cycle p.part r vs opcode reach xs h.0 h.1)
  stmt_plain pass.Performance begin place p (store r reach es is) one h k n =
      when_init r [] (store_code cycle p.part r reach es) (λ i. tt) (store_plain cycle p.part r reach es is h)
  stmt_plain pass.Performance begin place p (out r es) one h k n =
      both (operands_code cycle p.part es 0) (out_ops 0 (spots cycle p.part es 0))
      (operands_plain cycle es p.part 0 h.1) (out_plain 0 p.part 0 es h.0 h.1 (omega (arith, n)))
  stmt_plain pass.Performance begin place p (out_at r es) one h k n =
      both (operands_code cycle p.part es 0) (out_at_ops (spots cycle p.part es 0))
      (operands_plain cycle es p.part 0 h.1) (out_at_plain p.part 0 es h.0 h.1)
  stmt_plain pass.Performance begin place p (turnoff r) one h k n = (((tt, refl), refl), tt, tt)
  stmt_plain pass.Initialisation begin place p _ one h k n = tt
  stmt_plain pass.Performance begin place p _ one h k n = tt

  -- ---- jumps

  module _ (end : ℕ) where
    -- the ops from a place on are right, and their jumps are allowed
    abbrev pub Fine : ℕ → List Op → Type 0
    Fine place [] = Unit {0}
    Fine place (op ∷ ops) = Right op × Lands end place op.act × Fine (place + 1) ops

    plain_fine : (place : ℕ) (ops : List Op) → Plain ops → Fine place ops
    plain_fine place [] h = tt
    plain_fine place (op ∷ ops) h = (h.0, lands end place op.act h.1, plain_fine (place + 1) ops h.2)

    both_fine : (place : ℕ) (a b : List Op) → Fine place a → Fine (place + length a) b → Fine place (a ++ b)
    both_fine place [] b h k = subst (λ n. Fine n b) (let e : place + 0 ≡ place = omega arith in e) k
    both_fine place (op ∷ a) b h k =
        let e : place + length (op ∷ a) ≡ place + 1 + length a = omega arith in
        (h.0, h.1, both_fine (place + 1) a b h.2 (subst (λ n. Fine n b) e k))

    arm_fine : (place : ℕ) (before : List Op) (q : Reg) (body rest : List Op) → is_audio (rate_at q) ≡ false
        → place + length (arm_code place before q body rest) ≤ end
        → Plain before → Fine (place + length before + 1) body → Fine (place + length before + 1 + length body + 1) rest
        → Fine place (arm_code place before q body rest)
    arm_fine place before q body rest held low h k l =
        let else_at : ℕ = place + length before + 1 + length body + 1 in
        let jump : Op = op_of (act.Jump (else_at + length rest)) q [] in
        let test : Op = op_of (act.Unless else_at) q (q ∷ []) in
        let far = arm_length place before q body rest in
        both_fine place before (test ∷ (body ++ (jump ∷ rest))) (plain_fine place before h) (
          ((tt, refl), ap not held),
          (omega arith, omega arith),
          both_fine (place + length before + 1) body (jump ∷ rest) k
              (((tt, refl), refl), (omega arith, omega arith), l),
        )

    choice_fine : (way : Pass) (r : Rate) (place : ℕ) (a b : List Op) → place + length (choice_code way r a b) ≤ end
        → Begins way → (place + length a ≤ end → Fine place a)
        → (Begins pass.Initialisation → place + length b ≤ end → Fine place b) → Fine place (choice_code way r a b)
    choice_fine pass.Initialisation rate.Init place a b low begin h k = h low
    choice_fine pass.Initialisation r place a b low begin h k = k begin low
    choice_fine pass.Performance r place a b low begin h k = h low

    mutual
      stmt_fine : (way : Pass) → Begins way → (place : ℕ) (p : Progress) (s : Stmt) → RankedStmt s
          → At units p.unit (stmt_units s) → Narrow channels s → place + length (pass_code way place p s) ≤ end
          → Fine place (pass_code way place p s)
      stmt_fine way begin place p (choose r arms) h k n low =
          choice_fine way r place (chosen_code way place p arms) (all_code place p arms) low begin
          (λ l. chosen_fine way begin place p arms h k n l) (λ b l. all_fine b place p arms h k n l)
      stmt_fine way begin place p s h k n low =
          plain_fine place (pass_code way place p s) (stmt_plain way begin place p s tt h k n)

      pub block_fine : (way : Pass) → Begins way → (place : ℕ) (p : Progress) (b : Block) → RankedBlock b
          → At units p.unit (block_units b) → NarrowBlock channels b
          → place + length (pass_block_code way place p b) ≤ end → Fine place (pass_block_code way place p b)
      block_fine way begin place p no_stmt h k n low = tt
      block_fine way begin place p (andthen s b) h k n low =
          let first : List Op = pass_code way place p s in
          let rest : List Op = pass_block_code way (place + length first) (past_stmt p s) b in
          let long = length-append first rest in
          both_fine place first rest
          (stmt_fine way begin place p s h.0 (at_front units p.unit (stmt_units s) (block_units b) k) n.0 (omega arith))
          (block_fine way begin (place + length first) (past_stmt p s) b h.1
          (at_back units p.unit (past_stmt p s).unit (stmt_units s) (block_units b) (stmt_count p s) k) n.1
          (omega arith))

      chosen_fine : (way : Pass) → Begins way → (place : ℕ) (p : Progress) (arms : Arms) → RankedArms arms
          → At units p.unit (arms_units arms) → NarrowArms channels arms
          → place + length (chosen_code way place p arms) ≤ end → Fine place (chosen_code way place p arms)
      chosen_fine way begin place p (otherwise b) h k n low = block_fine way begin place p b h k n low
      chosen_fine way begin place p (arm c b rest) h k n low =
          let before : List Op = cond_code way p.part c in
          let holder : Reg = cond_reg way p.part c in
          let q : Progress = past_parts (past p.part c) p in
          let at : ℕ = place + length before + 1 in
          let body : List Op = pass_block_code way at q b in
          let others : List Op = chosen_code way (at + length body + 1) (past_block q b) rest in
          let far = arm_length place before holder body others in
          let inner : at + length body ≤ end = omega arith in
          let outer : at + length body + 1 + length others ≤ end = omega arith in
          arm_fine place before holder body others (cond_held way p.part c h.1 h.0) low (cond_plain way p.part c h.1)
          (block_fine way begin at q b h.2 (at_front units p.unit (block_units b) (arms_units rest) k) n.0 inner)
          (chosen_fine way begin (at + length body + 1) (past_block q b) rest h.3
          (at_back units p.unit (past_block q b).unit (block_units b) (arms_units rest) (block_count q b) k) n.1 outer)

      all_fine : Begins pass.Initialisation → (place : ℕ) (p : Progress) (arms : Arms) → RankedArms arms
          → At units p.unit (arms_units arms) → NarrowArms channels arms
          → place + length (all_code place p arms) ≤ end → Fine place (all_code place p arms)
      all_fine begin place p (otherwise b) h k n low = block_fine pass.Initialisation begin place p b h k n low
      all_fine begin place p (arm c b rest) h k n low =
          let before : List Op = keep_code p.part c in
          let q : Progress = past_parts (past p.part c) p in
          let at : ℕ = place + length before in
          let body : List Op = pass_block_code pass.Initialisation at q b in
          let others : List Op = all_code (at + length body) (past_block q b) rest in
          let long = length-append before (body ++ others) in
          let more = length-append body others in
          both_fine place before (body ++ others) (plain_fine place before (keep_plain c p.part h.1))
          (both_fine at body others
          (block_fine pass.Initialisation begin at q b h.2 (at_front units p.unit (block_units b) (arms_units rest) k)
          n.0 (omega arith)) (all_fine begin (at + length body) (past_block q b) rest h.3
          (at_back units p.unit (past_block q b).unit (block_units b) (arms_units rest) (block_count q b) k) n.1
          (omega arith)))

    each_named : (place : ℕ) (ops : List Op) → Fine place ops → AllNamed channels units ops
    each_named place [] h = λ k d low. absurd (omega arith)
    each_named place (op ∷ ops) h = at (each_named (place + 1) ops h.2)
      where
        at : AllNamed channels units ops → (k : ℕ) (d : Op) → k < length (op ∷ ops)
            → Names channels units (slice_index_or (op ∷ ops) k d).act (rate_at (slice_index_or (op ∷ ops) k d).into)
        at rest zero d low = h.0.0.0
        at rest (suc k) d low = rest k d (omega arith)

-- ---- the complete test of a code

or_right : (a b : Bool) → b ≡ true → (a || b) ≡ true
or_right true b h = refl
or_right false b h = h

finds_right : (counts : Counts) (channels : ℕ) (units : List UnitKind) (end place : ℕ) (a : Act) (r : Rate)
    → length units ≤ counts.units → Names channels units a r → Lands end place a → finds counts end place a ≡ true
finds_right counts channels units end place (act.Start opcode u) r low h l =
    lt-ltb u counts.units (let there = slice_get_within units u (record { opcode = opcode; rate = r }) h in omega arith)
finds_right counts channels units end place (act.Unit opcode u reach) r low h l =
    lt-ltb u counts.units (let there = slice_get_within units u (record { opcode = opcode; rate = r }) h in omega arith)
finds_right counts channels units end place (act.Jump to) r low h l =
    two (nat_lt place to) (nat_le to end) (lt-ltb place to l.0) (le-leb to end l.1)
finds_right counts channels units end place (act.Unless to) r low h l =
    two (nat_lt place to) (nat_le to end) (lt-ltb place to l.0) (le-leb to end l.1)
finds_right counts channels units end place _ r low h l = refl

has_one : (counts : Counts) (q : Reg) → ((k : Kind) → reg_limit k q ≤ at_kind counts.registers k)
    → has_register counts q ≡ true
has_one counts q h =
    let here : q.offset + 1 ≤ at_kind counts.registers q.kind =
    subst (λ b. (if b then q.offset + 1 else 0) ≤ at_kind counts.registers q.kind) (kind_same q.kind) (h q.kind) in
    lt-ltb q.offset (at_kind counts.registers q.kind) (omega (arith, here))

has_all : (counts : Counts) (qs : List Reg) → ((k : Kind) → regs_limit k qs ≤ at_kind counts.registers k)
    → list_all (has_register counts) qs ≡ true
has_all counts [] h = refl
has_all counts (q ∷ qs) h =
    two (has_register counts q) (list_all (has_register counts) qs)
    (has_one counts q (λ k. let m = h k in omega arith))
    (has_all counts qs (λ k. let m = h k in omega arith))

-- a code is valid if its ops are fine, and there are as many registers and units as it names
pub fine_valid : (cycles : Bool) (counts : Counts) (channels : ℕ) (units : List UnitKind) (end place : ℕ)
    (ops : List Op) → length units ≤ counts.units
    → ((k : Kind) → ops_limit k ops ≤ at_kind counts.registers k) → Fine cycles channels units end place ops
    → fine_from counts end place ops ≡ true
fine_valid cycles counts channels units end place [] low limits fine = refl
fine_valid cycles counts channels units end place (op ∷ ops) low limits fine =
    two (is_fine counts end place op) (fine_from counts end (place + 1) ops)
    (four (not (writes op.act) || has_register counts op.into) (list_all (has_register counts) op.from)
    (finds counts end place op.act) (takes_from op.act (rate_at op.into) op.from)
    (or_right (not (writes op.act)) (has_register counts op.into)
    (has_one counts op.into (λ k. let m = limits k in omega arith)))
    (has_all counts op.from (λ k. let m = limits k in omega arith))
    (finds_right counts channels units end place op.act (rate_at op.into) low fine.0.0.0 fine.1) fine.0.1)
    (fine_valid cycles counts channels units end (place + 1) ops low (λ k. let m = limits k in omega arith) fine.2)

-- ---- the code of statements

whole_at : (units : List UnitKind) → At units 0 units
whole_at units = λ i x e. ap (slice_get units) (let z : 0 + i ≡ i = omega arith in z) ∙ e

-- whether a pass is performed in each cycle
abbrev pub of_cycles : Pass → Bool
of_cycles pass.Initialisation = false
of_cycles pass.Performance = true

pub whole_fine : (way : Pass) (channels : ℕ) (b : Block) → RankedBlock b → NarrowBlock channels b
    → Fine (of_cycles way) channels (block_units b) (length (pass_block_code way 0 start b)) 0
    (pass_block_code way 0 start b)
whole_fine pass.Initialisation channels b ranked narrow =
    block_fine false channels (block_units b) (length (pass_block_code pass.Initialisation 0 start b))
    pass.Initialisation refl 0 start b ranked (whole_at (block_units b)) narrow (omega arith)
whole_fine pass.Performance channels b ranked narrow =
    block_fine true channels (block_units b) (length (pass_block_code pass.Performance 0 start b))
    pass.Performance tt 0 start b ranked (whole_at (block_units b)) narrow (omega arith)

pub names_of : (way : Pass) (channels : ℕ) (b : Block) → RankedBlock b → NarrowBlock channels b
    → AllNamed channels (block_units b) (pass_block_code way 0 start b)
names_of way channels b ranked narrow =
    each_named (of_cycles way) channels (block_units b) (length (pass_block_code way 0 start b)) 0
    (pass_block_code way 0 start b) (whole_fine way channels b ranked narrow)

or_none : (b : Bool) → (b || false) ≡ true → b ≡ true
or_none true h = refl
or_none false h = absurd (cc)

in_cycle : (channels : ℕ) (units : List UnitKind) (end place : ℕ) (ops : List Op)
    → Fine true channels units end place ops → are_of_cycle ops ≡ true
in_cycle channels units end place [] h = refl
in_cycle channels units end place (op ∷ ops) h =
    two (is_of_cycle op.act) (are_of_cycle ops) (or_none (is_of_cycle op.act) h.0.0.1)
    (in_cycle channels units end (place + 1) ops h.2)

-- the performance code of statements starts no unit, looks up no table and schedules no note
pub perf_cycles : (channels : ℕ) (b : Block) → RankedBlock b → NarrowBlock channels b
    → are_of_cycle (pass_block_code pass.Performance 0 start b) ≡ true
perf_cycles channels b ranked narrow =
    in_cycle channels (block_units b) (length (pass_block_code pass.Performance 0 start b)) 0
    (pass_block_code pass.Performance 0 start b) (whole_fine pass.Performance channels b ranked narrow)
