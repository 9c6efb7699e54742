use Rattle.std.proofs.Common.{◌≡◌, ℕ, ℤ, List, ◌++◌, length, ap, sym, ◌∙◌}
use Rattle.cs_signal.specs.Operands.{inputs_at}
use Rattle.cs_ugen.specs.{Oscil.point_at, Oscil.wave_step, Oscili.line_at, Table.index_step, Table.point_of}
use Rattle.cs_ugen.specs.{Tablei.line_of, Units.moving_count, Units.opcode_of, inner.Runs.state_run}
use Rattle.cs_ugen.proofs.Loops.{by_one, by_two, wrapped}
use Rattle.cs_ugen.proofs.unit.Unit.rendered_on.Goals.{in-Oscil, in-Oscili, in-Table, in-Tablei}
use Rattle.cs_ugen.specs.declared.unit.UnitState.TheVariants as unit
use Rattle.cs_ugen.proofs.unit.Unit.rendered_on.Goals as goal

pub returns-after-self-clause-value : goal.returns-after-self-clause-value
returns-after-self-clause-value g c =
    let points = g.C.Curve.points c.args.curve.now in
    let at : ℕ → List ℤ = λ j. inputs_at c.args.inputs.now j ++ points in
    let n = length c.args.out.now in
    elim c.match-self.branch [
      | in-Table w ↦
          let here : c.args.self.now ≡ unit.Table w.in-Table.unit = sym c.self.view_is ∙ w.in-Table.is in
          let count = c.requires.count ∙ ap (λ u. moving_count (opcode_of u)) here in
          wrapped unit.Table w.block_on.new.self c.match-self.self-inside.kind c.match-self.out
          w.block_on.new.out _ (ap (λ i. i.kind) w.self-inside-is) w.out-is
          (w.block_on.ensures.value ∙ by_one (index_step point_of) c.args.inputs.now c.ndx-item.result
          c.ndx-item.result points w.in-Table.unit n count c.ndx-item.is) ∙ ap (λ u. state_run u at n) (sym here)
      | in-Tablei w ↦
          let here : c.args.self.now ≡ unit.Tablei w.in-Tablei.unit = sym c.self.view_is ∙ w.in-Tablei.is in
          let count = c.requires.count ∙ ap (λ u. moving_count (opcode_of u)) here in
          wrapped unit.Tablei w.block_on-in-Tablei.new.self c.match-self.self-inside.kind c.match-self.out
          w.block_on-in-Tablei.new.out _ (ap (λ i. i.kind) w.self-inside-is) w.out-is
          (w.block_on-in-Tablei.ensures.value ∙ by_one (index_step line_of) c.args.inputs.now c.ndx-item.result
          c.ndx-item.result points w.in-Tablei.unit n count c.ndx-item.is) ∙ ap (λ u. state_run u at n) (sym here)
    ]

pub returns-after-self-2-clause-value : goal.returns-after-self-2-clause-value
returns-after-self-2-clause-value g c =
    let points = g.C.Curve.points c.args.curve.now in
    let at : ℕ → List ℤ = λ j. inputs_at c.args.inputs.now j ++ points in
    let n = length c.args.out.now in
    elim c.match-self-2.branch [
      | in-Oscil w ↦
          let here : c.args.self.now ≡ unit.Oscil w.in-Oscil.unit = sym c.self.view_is ∙ w.in-Oscil.is in
          let count = c.requires.count ∙ ap (λ u. moving_count (opcode_of u)) here in
          wrapped unit.Oscil w.block_on-in-Oscil.new.self c.match-self-2.self-inside.kind c.match-self-2.out
          w.block_on-in-Oscil.new.out _ (ap (λ i. i.kind) w.self-inside-is) w.out-is
          (w.block_on-in-Oscil.ensures.value ∙ by_two (wave_step point_at) c.args.inputs.now c.amp-item.result
          c.cps-item.result c.amp-item.result c.cps-item.result points w.in-Oscil.unit n count
          c.amp-item.is c.cps-item.is) ∙ ap (λ u. state_run u at n) (sym here)
      | in-Oscili w ↦
          let here : c.args.self.now ≡ unit.Oscili w.in-Oscili.unit = sym c.self.view_is ∙ w.in-Oscili.is in
          let count = c.requires.count ∙ ap (λ u. moving_count (opcode_of u)) here in
          wrapped unit.Oscili w.block_on-in-Oscili.new.self c.match-self-2.self-inside.kind c.match-self-2.out
          w.block_on-in-Oscili.new.out _ (ap (λ i. i.kind) w.self-inside-is) w.out-is
          (w.block_on-in-Oscili.ensures.value ∙ by_two (wave_step line_at) c.args.inputs.now c.amp-item.result
          c.cps-item.result c.amp-item.result c.cps-item.result points w.in-Oscili.unit n count
          c.amp-item.is c.cps-item.is) ∙ ap (λ u. state_run u at n) (sym here)
    ]
