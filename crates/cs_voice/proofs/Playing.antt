-- The steps of a unit in a cycle, at the rate of its result's register.
use Rattle.std.proofs.Common.{◌≡◌, ℕ, ℤ, true, false, List, [], ◌∷◌, Option, Some, None, if◌then◌else◌, sym, ◌∙◌, ap}
use Rattle.cs_base.specs.{Rates.is_audio, declared.resource.Rate.Rate}
use Rattle.cs_signal.specs.Operands.{argument}
use Rattle.cs_ugen.specs.declared.unit.UnitState.{UnitState}
use Rattle.cs_ir.specs.{Waves.Wave, Waves.constant, Waves.silence, declared.op.Reach.Reach}
use Rattle.cs_meaning.specs.Pieces.{step_at}
use Rattle.cs_machine.specs.{Players.PlayerData, Players.SamePlayer, Players.stepped, Rows.HasFrames}
use Rattle.cs_voice.specs.Units.{cycled, may_play, unit_after, unit_gives}
use Rattle.cs_base.specs.declared.resource.Rate.TheVariants as rate

-- one step for each frame
pub audio_frames : (ksmps n : ℕ) (r : Rate) (ws : List Wave) (cells : ℕ → ℤ) (p : PlayerData) (k : UnitState)
    (row : List ℤ) → is_audio r ≡ true → n ≡ ksmps
    → (k, row) ≡ stepped p ws cells n → HasFrames (λ j. argument (cycled ksmps r ws cells p).1 (step_at r j)) row
audio_frames ksmps n rate.Audio ws cells p k row e long is j low =
    ap (λ (d : UnitState × List ℤ). argument d.1 j) is ∙ ap (λ m. argument (stepped p ws cells m).1 j) long
audio_frames ksmps n r ws cells p k row e long is j low = absurd (cc)

pub audio_state : (ksmps n : ℕ) (r : Rate) (ws : List Wave) (cells : ℕ → ℤ) (p : PlayerData) (k : UnitState)
    (row : List ℤ) → is_audio r ≡ true → n ≡ ksmps → (k, row) ≡ stepped p ws cells n → k ≡ (cycled ksmps r ws cells p).0
audio_state ksmps n rate.Audio ws cells p k row e long is =
    ap (λ (d : UnitState × List ℤ). d.0) is ∙ ap (λ m. (stepped p ws cells m).0) long
audio_state ksmps n r ws cells p k row e long is = absurd (cc)

-- one step, whose result is held
pub held_gives : (ksmps : ℕ) (r : Rate) (ws : List Wave) (cells : ℕ → ℤ) (p : PlayerData) (k : UnitState) (z : ℤ)
    → is_audio r ≡ false
    → (k, z ∷ []) ≡ stepped p ws cells 1 → constant z ≡ (λ j. argument (cycled ksmps r ws cells p).1 (step_at r j))
held_gives ksmps rate.Audio ws cells p k z slow is = absurd (cc)
held_gives ksmps r ws cells p k z slow is = λ i j. ap (λ (d : UnitState × List ℤ). argument d.1 0) is i

pub held_state : (ksmps : ℕ) (r : Rate) (ws : List Wave) (cells : ℕ → ℤ) (p : PlayerData) (k : UnitState) (z : ℤ)
    → is_audio r ≡ false → (k, z ∷ []) ≡ stepped p ws cells 1 → k ≡ (cycled ksmps r ws cells p).0
held_state ksmps rate.Audio ws cells p k z slow is = absurd (cc)
held_state ksmps r ws cells p k z slow is = ap (λ (d : UnitState × List ℤ). d.0) is

-- a unit whose table is within reach
pub plays_within : (ksmps : ℕ) (r : Rate) (reach : Reach) (ws : List Wave) (cells : ℕ → ℤ) (o : Option PlayerData)
    (p : PlayerData) → o ≡ Some p → may_play reach p ≡ true
    → (Some (record p { state = (cycled ksmps r ws cells p).0 }) ≡ unit_after ksmps r reach ws cells o)
    × ((λ j. argument (cycled ksmps r ws cells p).1 (step_at r j)) ≡ unit_gives ksmps r reach ws cells o)
plays_within ksmps r reach ws cells o p is within = (
  sym (ap (unit_after ksmps r reach ws cells) is
      ∙ ap (λ b. Some (if b then record p { state = (cycled ksmps r ws cells p).0 } else p)) within),
  sym (ap (unit_gives ksmps r reach ws cells) is
      ∙ ap (λ b. if b then (λ j. argument (cycled ksmps r ws cells p).1 (step_at r j)) else silence) within),
)

-- a unit whose table is out of reach
pub rests_beyond : (ksmps : ℕ) (r : Rate) (reach : Reach) (ws : List Wave) (cells : ℕ → ℤ) (o : Option PlayerData)
    (p : PlayerData) → o ≡ Some p → may_play reach p ≡ false
    → (Some p ≡ unit_after ksmps r reach ws cells o) × (silence ≡ unit_gives ksmps r reach ws cells o)
rests_beyond ksmps r reach ws cells o p is beyond = (
  sym (ap (unit_after ksmps r reach ws cells) is
      ∙ ap (λ b. Some (if b then record p { state = (cycled ksmps r ws cells p).0 } else p)) beyond),
  sym (ap (unit_gives ksmps r reach ws cells) is
      ∙ ap (λ b. if b then (λ j. argument (cycled ksmps r ws cells p).1 (step_at r j)) else silence) beyond),
)

-- no unit
pub rests_none : (ksmps : ℕ) (r : Rate) (reach : Reach) (ws : List Wave) (cells : ℕ → ℤ) (o : Option PlayerData)
    → o ≡ None → (None ≡ unit_after ksmps r reach ws cells o) × (silence ≡ unit_gives ksmps r reach ws cells o)
rests_none ksmps r reach ws cells o is =
    (sym (ap (unit_after ksmps r reach ws cells) is), sym (ap (unit_gives ksmps r reach ws cells) is))

-- everything except the state of a unit stays the same
pub same_data : (p q : PlayerData) (k : UnitState) → SamePlayer p q → q.state ≡ k → q ≡ record p { state = k }
same_data p q k same is = λ i. record { table = same.table i; state = is i; points = same.points i; area = same.area i }
