use Rattle.std.proofs.Common.{subst, sym}
use Rattle.std.specs.Io.{Buffered.writer_contents, KnownBytes.Keeps}
use Rattle.cs_edge.specs.Open.{known_of}
use Rattle.cs_edge.proofs.Causes.{keeps_itself, no_fault, one_fault}
use Rattle.cs_edge.proofs.adapters.FileSinkSink.end.Goals as goal

pub returns-in-Ok-clause-kept : goal.returns-in-Ok-clause-kept
returns-in-Ok-clause-kept g c =
    let known = writer_contents g.R.File.Write.contents in
    subst (λ o. Keeps (known_of known o) (known c.flush.new.self)) (sym c.in-Some.is) c.in-Ok.ensures.bytes

pub returns-in-Ok-clause-written : goal.returns-in-Ok-clause-written
returns-in-Ok-clause-written g c = c.in-Ok.ensures.ok

pub returns-in-Ok-clause-cause : goal.returns-in-Ok-clause-cause
returns-in-Ok-clause-cause g c = no_fault c.args.self.now.faults tt

pub returns-in-Err-clause-kept : goal.returns-in-Err-clause-kept
returns-in-Err-clause-kept g c =
    let known = writer_contents g.R.File.Write.contents in
    subst (λ o. Keeps (known_of known o) (known c.flush.new.self)) (sym c.in-Some.is) c.in-Err.ensures.bytes

pub returns-in-Err-clause-cause : goal.returns-in-Err-clause-cause
returns-in-Err-clause-cause g c =
    one_fault c.args.self.now.faults c.failed.new.faults c.failed.result c.failed.ensures.rose c.failed.ensures.later

pub returns-in-None-clause-kept : goal.returns-in-None-clause-kept
returns-in-None-clause-kept g c = keeps_itself (known_of (writer_contents g.R.File.Write.contents) c.args.self.now.file)

pub returns-in-None-clause-cause : goal.returns-in-None-clause-cause
returns-in-None-clause-cause g c =
    one_fault c.args.self.now.faults c.failed-in-None.new.faults c.failed-in-None.result
    c.failed-in-None.ensures.rose c.failed-in-None.ensures.later
