-- A unit that turns at a frequency returns a formula of its phase and its last inputs.
use Rattle.std.proofs.Common.{◌≡◌, ℤ, ℕ, List, [], ◌∷◌, ◌++◌, map, ap, sym, subst, ◌∙◌}
use Rattle.cs_base.specs.declared.resource.Rate.{Rate}
use Rattle.cs_signal.specs.{Pace.Pace, Steps.IsUnit, History.last_of}
use Rattle.cs_ugen.specs.{Inputs.before_last, Phases.phase_of, Phases.Turning, Phases.HasTurned, Phases.turned}
use Rattle.cs_ugen.specs.Oscil.{oscil_of, oscil_start, oscil_step, OscilStands}
use Rattle.cs_ugen.specs.Oscili.{oscili_of, oscili_start, oscili_step, OsciliStands}
use Rattle.cs_ugen.specs.Phasor.{phasor_of, phasor_start, phasor_step, PhasorStands}
use Rattle.cs_ugen.specs.Table.{table_of, table_start, table_step, TableStands, point_at_index}
use Rattle.cs_ugen.specs.Tablei.{tablei_of, tablei_start, tablei_step, TableiStands, curve_at_index}
use Rattle.cs_signal.proofs.Histories.{last_of-more}
use Rattle.cs_ugen.proofs.{Inputs.before_last-more, Inputs.map-more, Phases.HasTurned-none, Phases.HasTurned-more}
use Rattle.cs_ugen.specs.Oscil as oscil
use Rattle.cs_ugen.specs.Oscili as oscili
use Rattle.cs_ugen.specs.Phasor as phasor

-- a value that depends on the phase and the last inputs
by_phase : (value : ℕ → List ℤ → ℤ) (frequency : List ℤ → ℤ) (t : Turning) (rate : Rate) (pace : Pace) (start : ℤ)
    (before : List (List ℤ)) (x : List ℤ) → HasTurned t rate pace start (map frequency before) →
    value t.phase x ≡ value (phase_of rate pace start (map frequency (before_last (before ++ x ∷ []))))
    (last_of (before ++ x ∷ []))
by_phase value frequency t rate pace start before x h =
    ap (λ p. value p x) h.phase_is
    ∙ ap (λ b. value (phase_of rate pace start (map frequency b)) x) (sym (before_last-more before x))
    ∙ ap (value (phase_of rate pace start (map frequency (before_last (before ++ x ∷ [])))))
    (sym (last_of-more before x))

turns_on : (frequency : List ℤ → ℤ) (t : Turning) (rate : Rate) (pace : Pace) (start : ℤ) (before : List (List ℤ))
    (x : List ℤ) → HasTurned t rate pace start (map frequency before)
    → HasTurned (turned t (frequency x)) rate pace start (map frequency (before ++ x ∷ []))
turns_on frequency t rate pace start before x h =
    subst (HasTurned (turned t (frequency x)) rate pace start) (sym (map-more frequency before x))
    (HasTurned-more t rate pace start (map frequency before) (frequency x) h)

pub phasor_is_unit : IsUnit phasor_of phasor_start phasor_step PhasorStands
unfolding phasor_of
phasor_is_unit = record {
  starts = λ rate pace init. HasTurned-none rate pace (phasor.start init);
  answers = λ t rate pace init before x h. by_phase (λ p y. phasor.ramp p) phasor.frequency t rate pace
      (phasor.start init) before x h;
  goes_on = λ t rate pace init before x h. turns_on phasor.frequency t rate pace (phasor.start init) before x h;
}

pub oscil_is_unit : IsUnit oscil_of oscil_start oscil_step OscilStands
unfolding oscil_of
oscil_is_unit = record {
  starts = λ rate pace init. HasTurned-none rate pace (oscil.start init);
  answers = λ t rate pace init before x h. by_phase oscil.held_wave oscil.frequency t rate pace (oscil.start init)
      before x h;
  goes_on = λ t rate pace init before x h. turns_on oscil.frequency t rate pace (oscil.start init) before x h;
}

pub oscili_is_unit : IsUnit oscili_of oscili_start oscili_step OsciliStands
unfolding oscili_of
oscili_is_unit = record {
  starts = λ rate pace init. HasTurned-none rate pace (oscil.start init);
  answers = λ t rate pace init before x h. by_phase oscili.wave oscil.frequency t rate pace (oscil.start init) before x
      h;
  goes_on = λ t rate pace init before x h. turns_on oscil.frequency t rate pace (oscil.start init) before x h;
}

pub table_is_unit : IsUnit table_of table_start table_step TableStands
unfolding table_of
table_is_unit = record {
  starts = λ rate pace init. tt;
  answers = λ t rate pace init before x h. ap point_at_index (sym (last_of-more before x));
  goes_on = λ t rate pace init before x h. tt;
}

pub tablei_is_unit : IsUnit tablei_of tablei_start tablei_step TableiStands
unfolding tablei_of
tablei_is_unit = record {
  starts = λ rate pace init. tt;
  answers = λ t rate pace init before x h. ap curve_at_index (sym (last_of-more before x));
  goes_on = λ t rate pace init before x h. tt;
}
