use Rattle.std.proofs.Common.{◌∙◌, ◌||◌, ap, refl}
use Rattle.std.specs.List.{list_any}
use Rattle.std.proofs.lemmas.List.{take_all}
use Rattle.cs_piece.specs.inner.Marked.{is_marked, touch_stores}
use Rattle.cs_piece.proofs.Marks.{marked_more}
use Rattle.cs_piece.proofs.written.Written.mark_touches.Goals as goal

pub loop-touch-preserved : goal.loop-touch-preserved
loop-touch-preserved c n low =
    marked_more (touch_stores n) c.args.touches.now c.loop-touch.touch-index _ (is_marked c.args.self.now n)
    (is_marked c.loop-touch.self n) (is_marked c.mark_touch.new.self n) _ refl c.loop-touch-test.true
    (c.loop-touch.invariant n low) (c.mark_touch.ensures n low)

pub returns : goal.returns
returns c n low =
    c.loop-touch.invariant n low ∙ ap (λ l. is_marked c.args.self.now n || list_any (touch_stores n) l)
    (take_all c.loop-touch.touch-index c.args.touches.now c.loop-touch-test.false)
