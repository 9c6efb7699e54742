use Rattle.std.proofs.Common.{rules}
use Rattle.cs_perform.specs.Performances.{PerformsPiece, lent, lent_sight, request_of}
use Rattle.cs_perform.proofs.Loans.{three_same}
use Rattle.cs_perform.proofs.performance.perform.Goals as goal

pub returns : goal.returns
returns g c =
    three_same (λ t y w. PerformsPiece
    (lent_sight (λ b h. (goal.Tap-dyn g (b.vtable, b.value)).stands_for b.value h) g.K.Sink.tells
    g.C.Counter.has_counted)
    (request_of c.args.performance.now)
    (lent c.args.wav.now c.args.taps.now.items c.args.tally.now) (lent w t y) c.play_in_scope-played.result.0)
    c.play_in_scope-played.result.1.taps.now.items _ c.play_in_scope-played.result.1.tally.now _
    c.play_in_scope-played.result.1.wav.now _
    (search rules) (search rules) (search rules) c.play_in_scope-played.ensures.performed
