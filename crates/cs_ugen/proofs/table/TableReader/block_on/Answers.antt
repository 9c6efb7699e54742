use Rattle.std.proofs.Common.{ℕ, ◌∷◌, length, refl, ap, sym, subst, ◌∙◌}
use Rattle.cs_ugen.specs.Table.{index_step}
use Rattle.cs_signal.specs.Operands.{Reaches, operand_at}
use Rattle.cs_signal.proofs.{Operands.reaches, Walks.HasRun_none, Walks.HasRun_step, Walks.HasRun_end}
use Rattle.cs_ugen.proofs.Loops.{step_at}
use Rattle.cs_ugen.proofs.table.TableReader.block_on.Goals as goal

pub loop-j-init : goal.loop-j-init
loop-j-init g c = (
  HasRun_none (index_step g.R.Reading.on_index)
      (λ (j : ℕ). operand_at c.args.ndx.now j ∷ g.C.Curve.points c.args.curve.now) c.args.self.now
      (length c.args.out.now) c.args.out.now refl,
  refl,
  g.met.C.Curve.stays c.args.curve.now,
)

pub value-requires : goal.value-requires
value-requires g c = subst (Reaches c.loop-j.j) (sym c.copied-ndx.ensures)
    (reaches (length c.args.out.now) c.loop-j.j c.args.ndx.now c.requires c.loop-j-test.true)

pub loop-j-preserved : goal.loop-j-preserved
loop-j-preserved g c =
    let so_far = c.loop-j.invariant in
    let step = c.step_on.ensures in (
      HasRun_step (index_step g.R.Reading.on_index)
          (λ (j : ℕ). operand_at c.args.ndx.now j ∷ g.C.Curve.points c.args.curve.now) c.args.self.now
          (length c.args.out.now) c.loop-j.j c.loop-j.self c.step_on.new.self c.loop-j.out c.step_on.result
          so_far.0 c.loop-j-test.true
          (step_at (index_step g.R.Reading.on_index) c.loop-j.self c.value.result _ _ _ _ step.value
          (c.value.ensures ∙ ap (λ o. operand_at o c.loop-j.j) c.copied-ndx.ensures) so_far.1),
      step.same ∙ so_far.1,
      g.met.C.Curve.chain c.args.curve.now c.loop-j.curve c.step_on.new.curve so_far.2 step.kept,
    )

pub returns : goal.returns
returns g c =
    let done = c.loop-j.invariant in record {
      value = HasRun_end (index_step g.R.Reading.on_index)
          (λ (j : ℕ). operand_at c.args.ndx.now j ∷ g.C.Curve.points c.args.curve.now) c.args.self.now
          (length c.args.out.now) c.loop-j.j c.loop-j.self c.loop-j.out done.0 c.loop-j-test.false;
      same = done.1;
      kept = done.2;
    }
