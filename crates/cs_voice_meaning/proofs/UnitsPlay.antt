-- Units that play are in the states that their inputs lead to: at their start, and after their steps in a
-- cycle.
use Rattle.std.proofs.lemmas.Grind.{common_steps}
use Rattle.std.proofs.Common.{◌≡◌, ℕ, ℤ, ◌+◌, ◌<◌, true, List, ◌++◌, nat_lt, refl, sym, ◌∙◌, [], ap, arith, ltb-true}
use Rattle.cs_base.specs.declared.resource.Rate.{Rate}
use Rattle.cs_base.proofs.Tests.{by_test}
use Rattle.cs_words.specs.{declared.catalogue.Opcode.Opcode, Generators.Generators}
use Rattle.cs_signal.proofs.Blocks.{by_formula}
use Rattle.cs_signal.specs.{Operands.argument, Pace.Pace, Steps.HasAnswered}
use Rattle.cs_ugen.proofs.Units.{units}
use Rattle.cs_ugen.specs.Units.{IsUnitOpcode, Stands, gen, unit_start}
use Rattle.cs_ir.specs.Waves.{Wave, held}
use Rattle.cs_meaning.specs.Pieces.{Piece, table_number, steps_of, step_at}
use Rattle.cs_meaning.specs.Plain.{History, inputs_of, has_had, generated}
use Rattle.cs_ugen.specs.Generators.{pace_of, the_generators}
use Rattle.cs_voice_meaning.specs.{VoiceWorld.Playing, VoiceWorld.inputs_at, VoiceWorld.played, Follows.PlaysUnit}
use Rattle.cs_base.specs.declared.resource.Rate.TheVariants as rate

-- ---- results

below_frames : (j n : ℕ) → nat_lt j n ≡ true → j < n
below_frames j n h = ltb-true j n h

-- if each result is the formula's value, the results are the formula's signal
same_results : (r : Rate) (ksmps : ℕ) (results : List ℤ) (w : ℕ → ℤ)
    → ((k : ℕ) → k < steps_of ksmps r → argument results k ≡ w k)
    → held ksmps r (λ j. argument results (step_at r j)) ≡ held ksmps r (λ j. w (step_at r j))
same_results rate.Init ksmps results w each = λ i j. each 0 (omega arith) i
same_results rate.Control ksmps results w each = λ i j. each 0 (omega arith) i
same_results rate.Audio ksmps results w each = grind (arith, common_steps, below_frames, by_test, nat_lt)

-- ---- units

-- a unit that starts has no inputs so far
pub starts_to_play : (pace : Pace) (opcode : Opcode) (r : Rate) (is : List ℤ) → IsUnitOpcode opcode
    → PlaysUnit pace (opcode, r) (record { table = table_number is; state = unit_start opcode r pace is })
    (record { opcode = opcode; rate = r; settled = is; inputs = [] })
starts_to_play pace opcode r is unit = record {
  opcode = refl;
  rate = refl;
  table = refl;
  unit = unit;
  stands = (units opcode unit).starts r pace is;
}

-- the result of a unit, written out
abbrev of_parts : Generators → Opcode → Rate → History → List Wave → List ℤ → Wave
of_parts g opcode r h ws points = λ j. g.gen opcode r h.settled (h.inputs ++ inputs_of ws points (step_at r j + 1))

-- the steps of a unit in a cycle: its state afterwards, and its results
module _ (piece : Piece) (opcode : Opcode) (r : Rate) (p : Playing) (h : History) (ws : List Wave) (points : List ℤ)
    (plays : PlaysUnit (pace_of piece.head) (opcode, r) p h) where
  answered : HasAnswered (gen opcode) (λ u. Stands u opcode) r (pace_of piece.head) h.settled h.inputs
      (inputs_at ws points) 0 (steps_of piece.head.ksmps r)
      (played piece.head.ksmps r p ws points).0 (played piece.head.ksmps r p ws points).1
  answered = by_formula (units opcode plays.unit) p.state r (pace_of piece.head) h.settled h.inputs
      (inputs_at ws points) 0 (steps_of piece.head.ksmps r) plays.stands

  pub plays_on : PlaysUnit (pace_of piece.head) (opcode, r)
      (record p { state = (played piece.head.ksmps r p ws points).0 }) (has_had piece ws points h)
  plays_on = grind (arith, common_steps, answered)

  pub result_same : piece.generators ≡ the_generators (pace_of piece.head)
      → held piece.head.ksmps r (λ j. argument (played piece.head.ksmps r p ws points).1 (step_at r j))
      ≡ held piece.head.ksmps r (generated piece h ws points)
  result_same generators =
      same_results _ _ _ _ answered.each
      ∙ ap (held piece.head.ksmps r) (ap (λ g. of_parts g opcode r h ws points) (sym generators)
      ∙ ap (λ q. of_parts piece.generators opcode q h ws points) (sym plays.rate)
      ∙ ap (λ o. of_parts piece.generators o h.rate h ws points) (sym plays.opcode))
