use Rattle.std.proofs.Common.{◌≡◌, ◌≤◌, ◌+◌, ◌*◌, ◌^◌}
use Rattle.cs_base.specs.Limits.{most_notes}
use Rattle.cs_piece_meaning.specs.Course.{moment_at}
use Rattle.cs_perform.specs.Performances.{lent, lent_sight, request_of}
use Rattle.cs_perform.specs.{inner.Plays.PlayedOn, inner.Recordings.IsRecordingOf}
use Rattle.cs_piece.specs.Setups.{composition_of}
use Rattle.cs_perform.proofs.performance.play_all.Given as goal

-- the cycles so far were played
abbrev pub invariant-loop-cycle : goal.invariant-loop-cycle
invariant-loop-cycle g l =
    g.S.Sounder.is_at l.performance.setup.now l.sounder (moment_at (composition_of l.performance.setup.now) l.cycle)
    × IsRecordingOf l.performance.setup.now l.performance.order l.cycle l.recording
    × PlayedOn (lent_sight (λ b h. (goal.Tap-dyn g (b.vtable, b.value)).stands_for b.value h) g.K.Sink.tells
    g.C.Counter.has_counted)
    (request_of l.performance) l.cycle (lent l.fn.loan.wav.now l.fn.loan.taps.now.items l.fn.loan.tally.now)
    (lent l.loan.wav.now l.loan.taps.now.items l.loan.tally.now)
    × (l.loan.wav.ghost_name ≡ l.fn.loan.wav.ghost_name) × (l.loan.taps.ghost_name ≡ l.fn.loan.taps.ghost_name)
    × (l.loan.tally.ghost_name ≡ l.fn.loan.tally.ghost_name)
    × (2 ^ 42 ≤ g.C.Counter.room l.loan.tally.now + l.cycle * (most_notes + 1))
