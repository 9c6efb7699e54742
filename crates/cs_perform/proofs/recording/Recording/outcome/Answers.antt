use Rattle.std.proofs.Common.{ap, ◌∙◌}
use Rattle.cs_tempo.specs.declared.plot.Plot.{Plot}
use Rattle.cs_perform.proofs.recording.Recording.outcome.Goals as goal

pub frames_in-frames-requires : goal.frames_in-frames-requires
frames_in-frames-requires c = (c.args.performance.now.order.width, c.requires.bytes)

pub returns-clause-outcome : goal.returns-clause-outcome
returns-clause-outcome c = record {
  frames = c.frames_in-frames.ensures;
  cycles = ap (λ (p : Plot). p.cycles) c.plot.ensures;
  started = c.requires.starts.started;
  not_started = c.requires.starts.not_started;
  out_of_range = c.requires.recorded.out_of_range;
}

pub returns-clause-turns : goal.returns-clause-turns
returns-clause-turns c = c.from_vec.ensures ∙ c.requires.recorded.turns
