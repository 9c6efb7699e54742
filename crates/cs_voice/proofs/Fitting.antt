-- Facts about an op of a valid code: its registers, the number of its operands, and their rates.
use Rattle.std.proofs.Common.{◌≡◌, ℕ, Bool, true, false, not, ◌&&◌, ◌||◌, List, [], ◌∷◌, refl, sym, ◌∙◌, ap, subst, ℤ}
use Rattle.std.proofs.Common.{◌+◌, ◌<◌, ◌++◌, length, map, take, slice_get, ltb-true, Some}
use Rattle.std.specs.List.{list_all}
use Rattle.std.proofs.lemmas.{Bool.and_parts, List.map-append, List.map_more}
use Rattle.std.proofs.lemmas.Option.{get_or_from_slice_get, slice_get_within}
use Rattle.cs_base.specs.{Rates.is_audio, Rates.res_rate, Rates.within}
use Rattle.cs_base.specs.{declared.resource.Rate.Rate, declared.resource.Res.Res}
use Rattle.cs_words.specs.{declared.catalogue.Opcode.Opcode, declared.sign.BinOp.BinOp, declared.word.Func.Func}
use Rattle.cs_words.specs.declared.word.HeadName.{HeadName}
use Rattle.cs_ir.proofs.RegisterKinds.{all_small, there_small}
use Rattle.cs_ir.specs.Flat.{Begins, is_small, moved_act}
use Rattle.cs_ir.specs.{Placed.there, Registers.rate_at, Waves.Wave, Waves.first_values}
use Rattle.cs_ir.specs.{declared.op.Act.Act, declared.op.Op.Op, declared.op.Reach.Reach}
use Rattle.cs_ir.specs.{declared.register.Counts.Counts, declared.register.Reg.Reg, declared.window.OpAt.OpAt}
use Rattle.cs_ir.specs.Validity.{finds, has_register, has_value, is_fine, takes_from, writes}
use Rattle.cs_machine.specs.declared.state.NoteSetting.{NoteSetting}
use Rattle.cs_machine.specs.{declared.state.State.State, States.DoesAnywhere, States.DoesAt}
use Rattle.cs_voice_meaning.specs.Voices.{has_channel}
use Rattle.cs_voice.specs.{Ready.IsFit, Ready.is_here, Ready.is_plain, inner.Jumps.is_start}
use Rattle.cs_ir.specs.declared.op.Act.TheVariants as act

-- ---- the parts of validity

pub record Parts (counts : Counts) (op : Op) : Type 0 where
  pub into : writes op.act ≡ true → has_register counts op.into ≡ true
  pub from : list_all (has_register counts) op.from ≡ true
  pub takes : takes_from op.act (rate_at op.into) op.from ≡ true

held_there : (w b : Bool) → (not w || b) ≡ true → w ≡ true → b ≡ true
held_there true b h e = h
held_there false b h e = absurd (cc)

pub parts : (counts : Counts) (end place : ℕ) (op : Op) → is_fine counts end place op ≡ true → Parts counts op
parts counts end place op h =
    let abc = and_parts ((not (writes op.act) || has_register counts op.into) && list_all (has_register counts) op.from
    && finds counts end place op.act) (takes_from op.act (rate_at op.into) op.from) h in
    let ab = and_parts ((not (writes op.act) || has_register counts op.into) && list_all (has_register counts) op.from)
    (finds counts end place op.act) abc.0 in
    let a = and_parts (not (writes op.act) || has_register counts op.into) (list_all (has_register counts) op.from)
    ab.0 in
    record {
      into = λ w. held_there (writes op.act) (has_register counts op.into) a.0 w;
      from = a.1;
      takes = abc.1;
    }

pub found : (counts : Counts) (end place : ℕ) (op : Op) → is_fine counts end place op ≡ true
    → finds counts end place op.act ≡ true
found counts end place op h =
    let abc = and_parts ((not (writes op.act) || has_register counts op.into) && list_all (has_register counts) op.from
    && finds counts end place op.act) (takes_from op.act (rate_at op.into) op.from) h in
    (and_parts ((not (writes op.act) || has_register counts op.into) && list_all (has_register counts) op.from)
    (finds counts end place op.act) abc.0).1

-- ---- operands by number

pub first_there : (counts : Counts) {from : List Reg} {x : Reg} {rest : List Reg}
    → list_all (has_register counts) from ≡ true → from ≡ x ∷ rest → has_register counts x ≡ true
first_there counts {from} {x} {rest} h e =
    (and_parts (has_register counts x) (list_all (has_register counts) rest)
    (ap (list_all (has_register counts)) (sym e) ∙ h)).0

pub second_there : (counts : Counts) {from : List Reg} {x y : Reg} {rest : List Reg}
    → list_all (has_register counts) from ≡ true → from ≡ x ∷ y ∷ rest → has_register counts y ≡ true
second_there counts {from} {x} {y} {rest} h e =
    let later = (and_parts (has_register counts x) (list_all (has_register counts) (y ∷ rest))
    (ap (list_all (has_register counts)) (sym e) ∙ h)).1 in
    (and_parts (has_register counts y) (list_all (has_register counts) rest) later).0

pub third_there : (counts : Counts) {from : List Reg} {x y z : Reg} {rest : List Reg}
    → list_all (has_register counts) from ≡ true → from ≡ x ∷ y ∷ z ∷ rest → has_register counts z ≡ true
third_there counts {from} {x} {y} {z} {rest} h e =
    let later = (and_parts (has_register counts x) (list_all (has_register counts) (y ∷ z ∷ rest))
    (ap (list_all (has_register counts)) (sym e) ∙ h)).1 in
    let last = (and_parts (has_register counts y) (list_all (has_register counts) (z ∷ rest)) later).1 in
    (and_parts (has_register counts z) (list_all (has_register counts) rest) last).0

-- ---- the number of operands

-- the acts with no, one, two and three operands
abbrev pub is_bare : Act → Bool
is_bare (act.Const n) = true
is_bare (act.Field k) = true
is_bare (act.Head n) = true
is_bare act.Turnoff = true
is_bare (act.Load g) = true
is_bare _ = false

abbrev pub takes_one : Act → Bool
takes_one act.Copy = true
takes_one act.Neg = true
takes_one (act.Call f) = true
takes_one (act.Save g) = true
takes_one (act.Out c) = true
takes_one _ = false

abbrev pub takes_two : Act → Bool
takes_two (act.Pair b) = true
takes_two act.OutAt = true
takes_two _ = false

no_operands : (a : Act) (r : Rate) (xs : List Reg) → is_bare a ≡ true → takes_from a r xs ≡ true → xs ≡ []
no_operands a r [] b h = refl
no_operands (act.Const n) r xs b h = absurd (cc)
no_operands a r xs b h = absurd (cc)

one_operand : (a : Act) (r : Rate) (xs : List Reg) → takes_one a ≡ true → takes_from a r xs ≡ true → length xs ≡ 1
one_operand a r (x ∷ []) b h = refl
one_operand act.Copy r xs b h = absurd (cc)
one_operand a r xs b h = absurd (cc)

two_operands : (a : Act) (r : Rate) (xs : List Reg) → takes_two a ≡ true → takes_from a r xs ≡ true → length xs ≡ 2
two_operands a r (x ∷ y ∷ []) b h = refl
two_operands (act.Pair b) r xs t h = absurd (cc)
two_operands a r xs b h = absurd (cc)

three_operands : (r : Rate) (xs : List Reg) → takes_from act.Pick r xs ≡ true → length xs ≡ 3
three_operands r (c ∷ x ∷ y ∷ []) h = refl
three_operands r xs h = absurd (cc)

not_true : (b : Bool) → not b ≡ true → b ≡ false
not_true false h = refl
not_true true h = absurd (cc)

-- ---- an op in its window

-- an op in a window does its act, with its unit counted from the window's first
pub acts_there : (o : OpAt) {a : Act} → o.op.now.act ≡ a → (there o).act ≡ moved_act o.window.now 0 a
acts_there o is = ap (moved_act o.window.now 0) is

pub unit_there : (o : OpAt) (n : ℕ) {opcode : Opcode} {u : ℕ} {reach : Reach} → o.op.now.act ≡ act.Unit opcode u reach
    → n ≡ o.window.now.unit + u → (there o).act ≡ act.Unit opcode n reach
unit_there o n {opcode} {u} {reach} is counted = acts_there o is ∙ ap (λ k. act.Unit opcode k reach) (sym counted)

-- an op whose act is known takes the act's operands
pub takes_as : (op : Op) (a : Act) → op.act ≡ a → takes_from op.act (rate_at op.into) op.from ≡ true
    → takes_from a (rate_at op.into) op.from ≡ true
takes_as op a e h = ap (λ b. takes_from b (rate_at op.into) op.from) (sym e) ∙ h

-- the registers that an op names exist, so their numbers have 32 bits
module _ {o : Op} {s : State} (fit : IsFit o s) where
  pub reads_there : list_all (has_register s.regs.counts) o.from ≡ true
  reads_there = (parts s.regs.counts fit.end fit.place o fit.fine).from

  pub reads_small : list_all is_small o.from ≡ true
  reads_small = all_small s.regs.counts o.from reads_there

  pub writes_there : {a : Act} → o.act ≡ a → writes a ≡ true → has_register s.regs.counts o.into ≡ true
  writes_there e w = (parts s.regs.counts fit.end fit.place o fit.fine).into (ap writes e ∙ w)

  pub writes_small : {a : Act} → o.act ≡ a → writes a ≡ true → is_small o.into ≡ true
  writes_small e w = there_small s.regs.counts o.into (writes_there e w)

  pub written_there : {a : Act} {q : Reg} → q ≡ o.into → o.act ≡ a → writes a ≡ true
      → has_register s.regs.counts q ≡ true
  written_there is e w = ap (has_register s.regs.counts) is ∙ writes_there e w

  pub out_channel : {channel : ℕ} → o.act ≡ act.Out channel → channel < length s.outs.rows
  out_channel {channel} e = ltb-true channel (length s.outs.rows)
      (ap (has_channel (length s.outs.rows)) (sym e) ∙ fit.channel)

  takes_in : {a : Act} → o.act ≡ a → takes_from a (rate_at o.into) o.from ≡ true
  takes_in {a} e = takes_as o a e (parts s.regs.counts fit.end fit.place o fit.fine).takes

  -- an op reads as many registers as its act takes
  pub bare_from : {a : Act} → o.act ≡ a → is_bare a ≡ true → o.from ≡ []
  bare_from {a} e b = no_operands a (rate_at o.into) o.from b (takes_in e)

  pub reads_one : {a : Act} → o.act ≡ a → takes_one a ≡ true → length o.from ≡ 1
  reads_one {a} e b = one_operand a (rate_at o.into) o.from b (takes_in e)

  pub reads_two : {a : Act} → o.act ≡ a → takes_two a ≡ true → length o.from ≡ 2
  reads_two {a} e b = two_operands a (rate_at o.into) o.from b (takes_in e)

  pub reads_three : o.act ≡ act.Pick → length o.from ≡ 3
  reads_three e = three_operands (rate_at o.into) o.from (takes_in e)

  -- a shared resource that an op reads or writes has a value
  pub loads_value : {g : Res} → o.act ≡ act.Load g → has_value g ≡ true
  loads_value {g} e = (and_parts (has_value g) (within (rate_at o.into) (res_rate g))
      (ap (takes_from (act.Load g) (rate_at o.into)) (sym (bare_from e refl)) ∙ takes_in e)).0

  pub saves_value : {g : Res} {x : Reg} → o.act ≡ act.Save g → o.from ≡ x ∷ [] → has_value g ≡ true
  saves_value {g} {x} e is = (and_parts (has_value g) (within (rate_at x) (res_rate g))
      (ap (takes_from (act.Save g) (rate_at o.into)) (sym is) ∙ takes_in e)).0

  -- a register that is sent to a channel is an audio register, and a condition is none
  pub sends_sound : {channel : ℕ} {x : Reg} → o.act ≡ act.Out channel → o.from ≡ x ∷ [] → is_audio (rate_at x) ≡ true
  sends_sound {channel} e is = ap (takes_from (act.Out channel) (rate_at o.into)) (sym is) ∙ takes_in e

  pub sends_sound_at : {n x : Reg} → o.act ≡ act.OutAt → o.from ≡ n ∷ x ∷ [] → is_audio (rate_at x) ≡ true
  sends_sound_at {n} {x} e is = (and_parts (not (is_audio (rate_at n))) (is_audio (rate_at x))
      (ap (takes_from act.OutAt (rate_at o.into)) (sym is) ∙ takes_in e)).1

  pub picks_held : {n x y : Reg} → o.act ≡ act.Pick → o.from ≡ n ∷ x ∷ y ∷ [] → is_audio (rate_at n) ≡ false
  picks_held {n} {x} {y} e is =
      let all = ap (takes_from act.Pick (rate_at o.into)) (sym is) ∙ takes_in e in
      let r = rate_at o.into in
      let three = and_parts (not (is_audio (rate_at n)) && within (rate_at n) r && within (rate_at x) r)
      (within (rate_at y) r) all in
      let two = and_parts (not (is_audio (rate_at n)) && within (rate_at n) r) (within (rate_at x) r) three.0 in
      not_true (is_audio (rate_at n)) (and_parts (not (is_audio (rate_at n))) (within (rate_at n) r) two.0).0

-- one more register that an op reads
pub one_read : (f : Reg → Wave) (xs : List Reg) (i : ℕ) (q : Reg) (before after : List ℤ) → slice_get xs i ≡ Some q
    → before ≡ first_values (map f (take i xs)) → after ≡ before ++ f q 0 ∷ []
    → after ≡ first_values (map f (take (i + 1) xs))
one_read f xs i q before after at was grown =
    let low : i < length xs = slice_get_within xs i q at in
    grown ∙ ap (λ l. l ++ f q 0 ∷ []) was ∙ sym (map-append (λ (w : Wave). w 0) (map f (take i xs)) (f q ∷ []))
    ∙ sym (ap first_values (map_more f xs i q low
    ∙ ap (λ x. map f (take i xs) ++ f x ∷ []) (get_or_from_slice_get xs i q q at)))

-- ---- an op with a known act

pub does_at : {at : NoteSetting} {a b : Act} {into q : Reg} {xs ys : List Reg} {old new : State} → a ≡ b → into ≡ q
    → xs ≡ ys → DoesAt at b into ys old new → DoesAt at a q xs old new
does_at {at} {a} {b} {into} {q} {xs} {ys} {old} {new} e g f h =
    subst (λ d. DoesAt at d q xs old new) (sym e)
    (subst (λ l. DoesAt at b q l old new) (sym f) (subst (λ z. DoesAt at b z ys old new) g h))

pub does_anywhere : {at : NoteSetting} {a b : Act} {q : Reg} {xs ys : List Reg} {old new : State} → a ≡ b → xs ≡ ys
    → DoesAnywhere b q ys old new → DoesAt at a q xs old new
does_anywhere {at} {a} {b} {q} {xs} {ys} {old} {new} e f h =
    does_at e refl f (λ areas piece kinds counts cells setting state. h areas piece kinds counts cells state)

-- an act that is done here touches only registers and output channels, unless it is one of these
pub is_else_plain : (w : Begins) (a : Act) → is_here (moved_act w 0 a) ≡ true → ((res : Res) → a ≡ act.Load res → ⊥)
    → ((res : Res) → a ≡ act.Save res → ⊥)
    → ((opcode : Opcode) (u : ℕ) (reach : Reach) → a ≡ act.Unit opcode u reach → ⊥)
    → ((opcode : Opcode) (reach : Reach) → a ≡ act.Zak opcode reach → ⊥) → ((reach : Reach) → a ≡ act.Store reach → ⊥)
    → is_plain (moved_act w 0 a) ≡ true
is_else_plain w (act.Load g) h load save unit zak store = absurd (load g refl)
is_else_plain w (act.Save g) h load save unit zak store = absurd (save g refl)
is_else_plain w (act.Unit o u reach) h load save unit zak store = absurd (unit o u reach refl)
is_else_plain w (act.Zak o reach) h load save unit zak store = absurd (zak o reach refl)
is_else_plain w (act.Store reach) h load save unit zak store = absurd (store reach refl)
is_else_plain w _ h load save unit zak store = h

-- an act on zak places in a window is one outside of it too
pub is_zak_act : (w : Begins) (a : Act) {o : Opcode} {r : Reach} → moved_act w 0 a ≡ act.Zak o r
    → ((opcode : Opcode) (reach : Reach) → a ≡ act.Zak opcode reach → ⊥) → ⊥
is_zak_act w (act.Zak o r) e zak = zak o r refl
is_zak_act w _ e zak = absurd (cc)

-- an act that only the code that begins a note has is one of these
pub is_some_start : (w : Begins) (a : Act) → is_start (moved_act w 0 a) ≡ true
    → ((opcode : Opcode) (u : ℕ) → a ≡ act.Start opcode u → ⊥) → (a ≡ act.Seek → ⊥) → (a ≡ act.Ask → ⊥) → ⊥
is_some_start w (act.Start o u) st start seek ask = start o u refl
is_some_start w act.Seek st start seek ask = seek refl
is_some_start w act.Ask st start seek ask = ask refl
is_some_start w _ st start seek ask = absurd (cc)

-- an act that touches only registers and output channels is one of these
pub is_one_of : (w : Begins) (a : Act) → is_plain (moved_act w 0 a) ≡ true → ((value : ℤ) → a ≡ act.Const value → ⊥)
    → ((field : ℕ) → a ≡ act.Field field → ⊥) → ((name : HeadName) → a ≡ act.Head name → ⊥) → (a ≡ act.Copy → ⊥)
    → (a ≡ act.Neg → ⊥) → ((function : Func) → a ≡ act.Call function → ⊥)
    → ((operator : BinOp) → a ≡ act.Pair operator → ⊥) → (a ≡ act.Pick → ⊥)
    → ((channel : ℕ) → a ≡ act.Out channel → ⊥) → (a ≡ act.OutAt → ⊥) → (a ≡ act.Turnoff → ⊥) → ⊥
is_one_of w (act.Const v) p const field head copy neg call pair pick out out_at off = const v refl
is_one_of w (act.Field k) p const field head copy neg call pair pick out out_at off = field k refl
is_one_of w (act.Head n) p const field head copy neg call pair pick out out_at off = head n refl
is_one_of w act.Copy p const field head copy neg call pair pick out out_at off = copy refl
is_one_of w act.Neg p const field head copy neg call pair pick out out_at off = neg refl
is_one_of w (act.Call f) p const field head copy neg call pair pick out out_at off = call f refl
is_one_of w (act.Pair o) p const field head copy neg call pair pick out out_at off = pair o refl
is_one_of w act.Pick p const field head copy neg call pair pick out out_at off = pick refl
is_one_of w (act.Out c) p const field head copy neg call pair pick out out_at off = out c refl
is_one_of w act.OutAt p const field head copy neg call pair pick out out_at off = out_at refl
is_one_of w act.Turnoff p const field head copy neg call pair pick out out_at off = off refl
is_one_of w _ p const field head copy neg call pair pick out out_at off = absurd cc
