use Rattle.std.proofs.Common.{◌≡◌, ◌≤◌, ◌+◌, ◌*◌, ◌^◌, ℕ, refl, ap, subst, ◌∙◌, arith}
use Rattle.cs_base.specs.Limits.{most_notes}
use Rattle.cs_piece_meaning.specs.Course.{moment_at}
use Rattle.cs_piece.specs.Setups.{composition_of}
use Rattle.cs_tempo.specs.declared.plot.Plot.{Plot}
use Rattle.cs_perform.specs.Performances.{lent, lent_sight, request_of}
use Rattle.cs_perform.specs.declared.order.PlayFault.TheVariants.{OutOfMemory, Sink}
use Rattle.cs_perform.specs.{inner.Plays.PlayedOn, inner.Recordings.IsRecordingOf}
use Rattle.cs_perform.proofs.{Cycles.room_kept, Cycles.room_left, Files.error_as, Wholes.not_ok}
use Rattle.cs_perform.proofs.Performing.{broke_after, paused_before, played_more, played_none}
use Rattle.cs_perform.proofs.performance.play_all.Goals as goal

pub loop-cycle-init : goal.loop-cycle-init
loop-cycle-init g c = (
  c.requires.at,
  c.requires.recorded,
  played_none _ _ _,
  refl,
  refl,
  refl,
  omega (arith, c.requires.room),
)

pub play_cycle-requires-clause-room : goal.play_cycle-requires-clause-room
play_cycle-requires-clause-room g c =
    let room : 2 ^ 42 ≤ g.C.Counter.room c.loop-cycle.loan.tally.now + c.loop-cycle.cycle * (most_notes + 1) =
    c.loop-cycle.invariant.6 in
    room_left (g.C.Counter.room c.loop-cycle.loan.tally.now) c.loop-cycle.cycle (omega arith) room

pub returns-in-Err-clause-broke : goal.returns-in-Err-clause-broke
returns-in-Err-clause-broke g c e =
    let all : c.plot.result.now.cycles ≡ c.args.performance.now.setup.now.plot.cycles =
    ap (λ (p : Plot). p.cycles) c.plot.ensures in
    broke_after _ _ c.loop-cycle.cycle _ _ _ (omega (arith, c.loop-cycle-test.true, all)) c.loop-cycle.invariant.2
    (c.in-Err.ensures.broken (error_as c.in-Err.fault Sink e))

pub returns-clause-broke : goal.returns-clause-broke
returns-clause-broke g c e = absurd (not_ok _ _ e)

pub returns-in-Err-clause-memory : goal.returns-in-Err-clause-memory
returns-in-Err-clause-memory g c e =
    let all : c.plot.result.now.cycles ≡ c.args.performance.now.setup.now.plot.cycles =
    ap (λ (p : Plot). p.cycles) c.plot.ensures in
    paused_before _ _ c.loop-cycle.cycle _ _ _ (omega (arith, c.loop-cycle-test.true, all))
    (c.in-Err.ensures.memory (error_as c.in-Err.fault OutOfMemory e)) c.loop-cycle.invariant.2

pub returns-in-Err-clause-sink : goal.returns-in-Err-clause-sink
returns-in-Err-clause-sink g c e = c.in-Err.ensures.sink (error_as c.in-Err.fault Sink e)

pub loop-cycle-preserved : goal.loop-cycle-preserved
loop-cycle-preserved g c = (
  c.in-Ok.ensures.at,
  c.in-Ok.ensures.recorded,
  played_more _ _ c.loop-cycle.cycle _ _ _ c.loop-cycle.invariant.2 c.in-Ok.ensures.played,
  c.play_cycle.ensures.same.0 ∙ c.loop-cycle.invariant.3,
  c.play_cycle.ensures.same.1 ∙ c.loop-cycle.invariant.4,
  c.play_cycle.ensures.same.2 ∙ c.loop-cycle.invariant.5,
  room_kept (g.C.Counter.room c.loop-cycle.loan.tally.now) (g.C.Counter.room c.play_cycle.new.loan.tally.now)
      c.loop-cycle.cycle c.loop-cycle.invariant.6 c.in-Ok.ensures.room,
)

pub returns-clause-at : goal.returns-clause-at
returns-clause-at g c =
    let all : c.plot.result.now.cycles ≡ c.args.performance.now.setup.now.plot.cycles =
    ap (λ (p : Plot). p.cycles) c.plot.ensures in
    let end : c.loop-cycle.cycle ≡ c.args.performance.now.setup.now.plot.cycles =
    omega (arith, c.loop-cycle-test.false, c.loop-cycle.auto.cycle-end, all) in
    subst (λ (k : ℕ). g.S.Sounder.is_at c.args.performance.now.setup.now c.loop-cycle.sounder
    (moment_at (composition_of c.args.performance.now.setup.now) k)) end
    c.loop-cycle.invariant.0

pub returns-clause-recorded : goal.returns-clause-recorded
returns-clause-recorded g c =
    let all : c.plot.result.now.cycles ≡ c.args.performance.now.setup.now.plot.cycles =
    ap (λ (p : Plot). p.cycles) c.plot.ensures in
    let end : c.loop-cycle.cycle ≡ c.args.performance.now.setup.now.plot.cycles =
    omega (arith, c.loop-cycle-test.false, c.loop-cycle.auto.cycle-end, all) in
    subst (λ (k : ℕ). IsRecordingOf c.args.performance.now.setup.now c.args.performance.now.order k
    c.loop-cycle.recording) end c.loop-cycle.invariant.1

pub returns-clause-played : goal.returns-clause-played
returns-clause-played g c =
    let all : c.plot.result.now.cycles ≡ c.args.performance.now.setup.now.plot.cycles =
    ap (λ (p : Plot). p.cycles) c.plot.ensures in
    let end : c.loop-cycle.cycle ≡ c.args.performance.now.setup.now.plot.cycles =
    omega (arith, c.loop-cycle-test.false, c.loop-cycle.auto.cycle-end, all) in
    let P : ℕ → Type 0 = λ k. PlayedOn
    (lent_sight (λ b h. (goal.Tap-dyn g (b.vtable, b.value)).stands_for b.value h) g.K.Sink.tells
    g.C.Counter.has_counted)
    (request_of c.args.performance.now) k
    (lent c.args.loan.now.wav.now c.args.loan.now.taps.now.items c.args.loan.now.tally.now)
    (lent c.loop-cycle.loan.wav.now c.loop-cycle.loan.taps.now.items c.loop-cycle.loan.tally.now) in
    subst P end c.loop-cycle.invariant.2
