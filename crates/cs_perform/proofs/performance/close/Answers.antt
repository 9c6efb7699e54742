use Rattle.std.proofs.Common.{◌≡◌, ℕ, refl, ap}
use Rattle.cs_piece_meaning.specs.{Course.moment_at, Moments.Composition}
use Rattle.cs_piece.specs.Setups.{composition_of}
use Rattle.cs_tempo.specs.declared.plot.Plot.{Plot}
use Rattle.cs_perform.proofs.{Starting.starts_of, Wholes.breaks, Wholes.closes}
use Rattle.cs_perform.proofs.performance.close.Goals as goal

pub frames_in-frames-requires : goal.frames_in-frames-requires
frames_in-frames-requires g c = (c.args.performance.now.order.width, c.requires.bytes)

pub returns-in-Ok-finish-clause-starts : goal.returns-in-Ok-finish-clause-starts
returns-in-Ok-finish-clause-starts g c =
    let piece : Composition = composition_of c.args.performance.now.setup.now in
    let last : ℕ = c.args.performance.now.setup.now.plot.cycles in
    let all : c.plot.result.now.cycles ≡ last = ap (λ (p : Plot). p.cycles) c.plot.ensures in
    let counts = c.in-Ok.ensures.starts c.args.performance.now.setup.now (moment_at piece last) c.requires.at in
    starts_of piece c.in-Ok.starts c.plot.result.now.cycles all (c.starts_are_few.ensures piece c.facts.ensures.bounded)
    counts.0 counts.1

pub returns-in-Ok-finish-clause-ended : goal.returns-in-Ok-finish-clause-ended
returns-in-Ok-finish-clause-ended g c =
    closes g.K.Sink.tells (composition_of c.args.performance.now.setup.now)
    c.args.performance.now.setup.now.orchestra.head c.args.performance.now.order.width
    c.args.performance.now.order.output _ _ _ c.ends_odd-odd.ensures c.in-Ok-finish.ensures.finished

pub returns-in-Err-clause-broken : goal.returns-in-Err-clause-broken
returns-in-Err-clause-broken g c e =
    breaks g.K.Sink.tells (composition_of c.args.performance.now.setup.now)
    c.args.performance.now.setup.now.orchestra.head c.args.performance.now.order.width
    c.args.performance.now.order.output _ _ _ c.ends_odd-odd.ensures c.in-Err.ensures.stopped

pub returns-in-Err-clause-sink : goal.returns-in-Err-clause-sink
returns-in-Err-clause-sink g c e = (c.in-Err.ensures.told, c.in-Err.ensures.cause.rose refl)
