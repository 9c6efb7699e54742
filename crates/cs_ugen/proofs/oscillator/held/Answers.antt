use Rattle.std.proofs.Common.{ℕ, ◌≡◌, ◌∷◌, length, refl, ap, sym, subst, ◌∙◌}
use Rattle.cs_ugen.specs.{Phases.at_phase, Phases.increment, Phases.within_turn, Oscil.wave_by, Oscil.wave_step}
use Rattle.cs_base.specs.Numbers.{product_of}
use Rattle.cs_signal.proofs.Operands.{reaches}
use Rattle.cs_signal.specs.Operands.{Reaches, operand_at}
use Rattle.cs_ugen.proofs.Loops.{held_none, held_more, held_end}
use Rattle.cs_ugen.proofs.oscillator.held.Goals as goal

pub loop-j-init : goal.loop-j-init
loop-j-init g c =
    let same = c.get-phase.ensures.value ∙ ap (λ p. p.phase) (c.hold-parts.ensures.same ∙ c.unit.view_is) in (
      held_none (wave_step g.R.Reading.on_turn)
          (λ (j : ℕ). operand_at c.args.amp.now j ∷ c.args.cps ∷ g.C.Curve.points c.args.curve.now) c.args.unit.now
          c.get-phase.result c.args.out.now same,
      c.get-phase.ensures.small,
      refl,
      g.met.C.Curve.stays c.args.curve.now,
    )

pub value-requires : goal.value-requires
value-requires g c = subst (Reaches c.loop-j.j) (sym c.copied-amp.ensures)
    (reaches (length c.args.out.now) c.loop-j.j c.args.amp.now c.requires c.loop-j-test.true)

pub loop-j-preserved : goal.loop-j-preserved
loop-j-preserved g c =
    let t = c.args.unit.now in
    let j = c.loop-j.j in
    let so_far = c.loop-j.invariant in
    let parts = c.hold-parts.ensures.value ∙ ap (λ p. within_turn (increment p.rate p.pace c.args.cps))
    c.unit.view_is in
    let amp = c.value.ensures ∙ ap (λ o. operand_at o j) c.copied-amp.ensures in
    let inputs = operand_at c.args.amp.now j ∷ c.args.cps ∷ g.C.Curve.points c.args.curve.now in
    let now : c.wave.result ≡ wave_by g.R.Reading.on_turn c.loop-j.phase inputs =
    c.wave.ensures.value ∙ ap (λ a. product_of a (g.R.Reading.on_turn (g.C.Curve.points c.loop-j.curve) c.loop-j.phase))
    amp ∙ ap (λ ps. product_of (operand_at c.args.amp.now j) (g.R.Reading.on_turn ps c.loop-j.phase)) so_far.2 in (
      held_more (wave_step g.R.Reading.on_turn)
          (λ (j : ℕ). operand_at c.args.amp.now j ∷ c.args.cps ∷ g.C.Curve.points c.args.curve.now) t c.args.cps
          (length c.args.out.now) j c.hold-parts.result c.loop-j.phase c.moved-phase.result c.loop-j.out
          c.wave.result (wave_by g.R.Reading.on_turn c.loop-j.phase inputs) so_far.0
          c.loop-j-test.true parts c.moved-phase.ensures.value now refl,
      c.moved-phase.ensures.small,
      c.wave.ensures.same ∙ so_far.2,
      g.met.C.Curve.chain c.args.curve.now c.loop-j.curve c.wave.new.curve so_far.3 c.wave.ensures.kept,
    )

pub returns : goal.returns
returns g c =
    let so_far = c.loop-j.invariant in
    record {
      value = held_end (wave_step g.R.Reading.on_turn)
          (λ (j : ℕ). operand_at c.args.amp.now j ∷ c.args.cps ∷ g.C.Curve.points c.args.curve.now) c.args.unit.now
          c.set.new.self (length c.args.out.now) c.loop-j.j c.loop-j.phase c.loop-j.out so_far.0 c.loop-j-test.false
          (c.set.ensures ∙ ap (λ p. at_phase p c.loop-j.phase) (c.hold-parts.ensures.same ∙ c.unit.view_is));
      same = so_far.2;
      kept = so_far.3;
    }
