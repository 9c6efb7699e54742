use Rattle.std.proofs.Common.{[], ◌∙◌, subst}
use Rattle.cs_base.specs.declared.head.Head.{Head}
use Rattle.cs_piece.specs.Setups.{composition_of}
use Rattle.cs_perform.specs.inner.Recordings.{HasBlocks}
use Rattle.cs_perform.proofs.{Turning.no_lines, Wholes.performs_err, Wholes.performs_nothing, Wholes.performs_ok}
use Rattle.cs_perform.proofs.performance.go_on.Goals as goal

pub returns-in_default-clause-performed : goal.returns-in_default-clause-performed
returns-in_default-clause-performed g c = record {
  performed = performs_nothing _ _ _;
  outcome = tt;
  turns = tt;
}

pub play-requires-clause-recorded : goal.play-requires-clause-recorded
play-requires-clause-recorded g c = record {
  blocks = subst (λ (h : Head). HasBlocks h c.args.performance.now.order.width c.in-Ok.recording)
      c.head-head.ensures c.in-Ok.ensures.blocks;
  out_of_range = c.in-Ok.ensures.none.0;
  turns = c.in-Ok.ensures.none.1
      ∙ no_lines c.args.performance.now.order.turns (composition_of c.args.performance.now.setup.now) [];
}

pub outcome-requires-clause-starts : goal.outcome-requires-clause-starts
outcome-requires-clause-starts g c = c.in-Ok-play.ensures.starts

pub returns-in-Ok-play-clause-same : goal.returns-in-Ok-play-clause-same
returns-in-Ok-play-clause-same g c = c.in-Ok-play.ensures.same

pub returns-in-Ok-play-clause-performed : goal.returns-in-Ok-play-clause-performed
returns-in-Ok-play-clause-performed g c = record {
  performed = performs_ok _ _ _ _ c.in-Ok-play.starts c.outcome.result c.in-Ok-play.ensures.performed;
  outcome = c.outcome.ensures.outcome;
  turns = c.outcome.ensures.turns;
}

pub returns-in-Err-clause-performed : goal.returns-in-Err-clause-performed
returns-in-Err-clause-performed g c = record {
  performed = performs_err _ _ _ _ c.in-Err.fault c.in-Err.ensures.performed;
  outcome = tt;
  turns = tt;
}
