use Rattle.std.proofs.Common.{◌∙◌, ◌||◌, ap}
use Rattle.std.specs.List.{list_any}
use Rattle.cs_piece.specs.inner.Marked.{is_marked, touch_stores}
use Rattle.cs_piece.proofs.Marks.{stores_touched}
use Rattle.cs_piece.proofs.written.Written.mark_ops.Goals as goal

pub returns : goal.returns
returns c n low =
    c.mark_touches.ensures n low ∙ ap (λ b. is_marked c.args.self.now n || b)
    (ap (list_any (touch_stores n)) c.deref.ensures.value
    ∙ stores_touched c.touches.result.now.written.items c.args.ops.now c.touches.ensures.written n)
