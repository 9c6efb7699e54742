-- The actions of turns, by their kinds.
use Rattle.std.proofs.Common.{◌≡◌, ℕ, ◌-◌, ℤ, List, [], ◌∷◌, Option, ap, sym, ◌∙◌}
use Rattle.cs_score.specs.declared.statement.ScoreWhat.{ScoreWhat}
use Rattle.cs_score.specs.declared.statement.ScoreWhat.TheVariants.{Note, Hold}
use Rattle.cs_tempo.specs.{declared.plot.EventAct.EventAct, inner.Clock.Pace, inner.Events.in_section}
use Rattle.cs_tempo.specs.{Plot.acts_of, Plot.fields_of, Plot.held_until, Plot.length_in_seconds}
use Rattle.cs_tempo.specs.Sections.{cycle_at, end_of}
use Rattle.cs_tempo.specs.declared.plot.EventAct.TheVariants as act

module _ (pace : Pace) (offset cycles : ℕ) (stop : Option ℕ) (what : ScoreWhat) (instr at : ℕ) (more : List ℤ) where
  pub note_acts : (len : ℕ) (e : EventAct) → what ≡ Note instr at len more
      → e ≡ act.Start instr (end_of pace.head pace.tempo at len - cycle_at pace.head pace.tempo at)
      (fields_of pace.tempo instr at (length_in_seconds pace.tempo at len) more)
      → acts_of (in_section pace offset cycles) stop what ≡ e ∷ []
  unfolding acts_of
  note_acts len e is same = ap (acts_of (in_section pace offset cycles) stop) is ∙ ap (λ a. a ∷ []) (sym same)

  pub hold_acts : (given : ℤ) (n : ℕ) (fields : List ℤ) → what ≡ Hold instr at given more
      → n ≡ held_until (in_section pace offset cycles) at stop - cycle_at pace.head pace.tempo at
      → fields ≡ fields_of pace.tempo instr at given more
      → acts_of (in_section pace offset cycles) stop what ≡ act.Start instr n fields ∷ []
  unfolding acts_of
  hold_acts given n fields is long told =
      ap (acts_of (in_section pace offset cycles) stop) is ∙ (λ i. act.Start instr (sym long i) (sym told i) ∷ [])
