use Rattle.std.proofs.Common.{refl}
use Rattle.cs_piece.specs.Setups.{SetupData, composition_of}
use Rattle.cs_piece_meaning.specs.Course.{moment_at}
use Rattle.cs_perform.specs.Performances.{lent, lent_sight, request_of}
use Rattle.cs_perform.proofs.Standings.{stands_so, still_recorded}
use Rattle.cs_perform.proofs.Wholes.{performs_closed, performs_in_part, performs_unbegun}
use Rattle.cs_perform.proofs.performance.play.Goals as goal

pub frames_in-frames-requires : goal.frames_in-frames-requires
frames_in-frames-requires g c = (c.args.performance.now.order.width, c.requires.place.bytes)

pub close-requires-clause-at : goal.close-requires-clause-at
close-requires-clause-at g c =
    let s : SetupData = c.args.performance.now.setup.now in
    stands_so g.S.Sounder.is_at s c.play_all.new.sounder (moment_at (composition_of s) s.plot.cycles)
    c.in-Ok-play_all.ensures.at

pub returns-in-Ok-play_all-clause-recorded : goal.returns-in-Ok-play_all-clause-recorded
returns-in-Ok-play_all-clause-recorded g c =
    let s : SetupData = c.args.performance.now.setup.now in
    still_recorded c.close.result s c.args.performance.now.order s.plot.cycles c.play_all.new.recording
    c.in-Ok-play_all.ensures.recorded

pub returns-in_default-clause-performed : goal.returns-in_default-clause-performed
returns-in_default-clause-performed g c =
    performs_unbegun _ _ _ _ _ refl refl c.first_bytes-first.ensures c.in_default.ensures.stopped
    c.in_default.ensures.written (c.in_default.ensures.cause.rose refl)

pub returns-in-Ok-play_all-clause-performed : goal.returns-in-Ok-play_all-clause-performed
returns-in-Ok-play_all-clause-performed g c =
    performs_closed (lent_sight (λ b h. (goal.Tap-dyn g (b.vtable, b.value)).stands_for b.value h) g.K.Sink.tells
    g.C.Counter.has_counted)
    (request_of c.args.performance.now) c.first_bytes-first.result
    (lent c.args.loan.now.wav.now c.args.loan.now.taps.now.items c.args.loan.now.tally.now)
    (lent c.begin.new.wav c.args.loan.now.taps.now.items c.args.loan.now.tally.now) refl refl
    c.first_bytes-first.ensures
    c.in-Ok.ensures.begun (lent c.play_all.new.loan.wav.now c.play_all.new.loan.taps.now.items
    c.play_all.new.loan.tally.now) c.in-Ok-play_all.ensures.played
    (lent c.close.new.wav c.play_all.new.loan.taps.now.items c.play_all.new.loan.tally.now) refl refl c.close.result
    c.close.ensures.ended c.close.ensures.broken c.close.ensures.sink
    c.close.ensures.memory

pub returns-in-Err-clause-performed : goal.returns-in-Err-clause-performed
returns-in-Err-clause-performed g c =
    performs_in_part (lent_sight (λ b h. (goal.Tap-dyn g (b.vtable, b.value)).stands_for b.value h) g.K.Sink.tells
    g.C.Counter.has_counted)
    (request_of c.args.performance.now) c.first_bytes-first.result
    (lent c.args.loan.now.wav.now c.args.loan.now.taps.now.items c.args.loan.now.tally.now)
    (lent c.begin.new.wav c.args.loan.now.taps.now.items c.args.loan.now.tally.now) refl refl
    c.first_bytes-first.ensures
    c.in-Ok.ensures.begun (lent c.play_all.new.loan.wav.now c.play_all.new.loan.taps.now.items
    c.play_all.new.loan.tally.now) c.in-Err.fault c.in-Err.ensures.broke c.in-Err.ensures.memory c.in-Err.ensures.sink
