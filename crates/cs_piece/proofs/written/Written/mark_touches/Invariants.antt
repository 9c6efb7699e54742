use Rattle.std.proofs.Common.{◌≡◌, ◌<◌, ◌||◌, ℕ, take}
use Rattle.std.specs.List.{list_any}
use Rattle.cs_piece.specs.inner.Marked.{touch_stores, is_marked, numbers_end}
use Rattle.cs_piece.proofs.written.Written.mark_touches.Given as goal

abbrev pub invariant-loop-touch : goal.invariant-loop-touch
invariant-loop-touch l = (n : ℕ) → n < numbers_end
    → is_marked l.self n ≡ (is_marked l.initial.self n || list_any (touch_stores n) (take l.touch-index l.touches))
