use Rattle.std.proofs.Common.{◌≡◌, ◌+◌, Bool, true, ap, take, sym, ◌∙◌, slice_set, length}
use Rattle.std.specs.Global.{Vec}
use Rattle.cs_voice.specs.declared.stage.PieceTable.{PieceTable}
use Rattle.cs_life.specs.inner.Marks.{marked}
use Rattle.cs_life.proofs.Marking.{marked_hit, marked_kept, marked_miss}
use Rattle.cs_life.proofs.tables.mark.Goals as goal
use Rattle.cs_life.proofs.tables.mark.Goals.{then-tables-place, else-tables-place}

pub loop-place-preserved : goal.loop-place-preserved
loop-place-preserved c = elim c.if-tables-place.branch [
  | then-tables-place w ↦
      (let now : c.if-tables-place.flags.items ≡ marked c.args.number (take (c.loop-place.place + 1) c.args.tables.now)
      c.args.flags.now.items =
      ap (λ (v : Vec Bool). v.items) w.flags-is
      ∙ ap (λ xs. slice_set xs c.loop-place.place true) c.loop-place.invariant.0
      ∙ marked_hit c.args.number c.args.tables.now c.args.flags.now.items c.loop-place.place c.index-tables-place.result
      c.loop-place-test.true c.requires
      c.index-tables-place.is (ap (λ (t : PieceTable). t.number) c.index-tables-place.is ∙ w.if-tables-place.true) in (
        now,
        ap length now ∙ marked_kept c.args.number (take (c.loop-place.place + 1) c.args.tables.now)
            c.args.flags.now.items ∙ c.requires,
      ))
  | else-tables-place w ↦
      (let now : c.if-tables-place.flags.items ≡ marked c.args.number (take (c.loop-place.place + 1) c.args.tables.now)
      c.args.flags.now.items =
      ap (λ (v : Vec Bool). v.items) w.flags-is ∙ c.loop-place.invariant.0
      ∙ marked_miss c.args.number c.args.tables.now c.args.flags.now.items c.loop-place.place
      c.index-tables-place.result c.loop-place-test.true c.requires
      c.index-tables-place.is (λ e. w.if-tables-place.false
      (sym (ap (λ (t : PieceTable). t.number) c.index-tables-place.is) ∙ e)) in (
        now,
        ap length now ∙ marked_kept c.args.number (take (c.loop-place.place + 1) c.args.tables.now)
            c.args.flags.now.items ∙ c.requires,
      ))
]
