use Rattle.std.proofs.Common.{subst, sym, take}
use Rattle.std.specs.Io.{Buffered.writer_contents, KnownBytes.Appends}
use Rattle.cs_edge.specs.Open.{known_of}
use Rattle.cs_edge.proofs.Causes.{keeps_itself, no_fault, one_fault}
use Rattle.cs_edge.proofs.adapters.FileSinkSink.write.Goals as goal

pub returns-in-Ok-clause-count : goal.returns-in-Ok-clause-count
returns-in-Ok-clause-count g c = (c.if-n-gt0.true, c.in-Ok.ensures.bound)

pub returns-in-Ok-clause-taken : goal.returns-in-Ok-clause-taken
returns-in-Ok-clause-taken g c =
    let known = writer_contents g.R.File.Write.contents in
    subst (λ o. Appends (known_of known o) (known c.write.new.self) (take c.in-Ok.n c.args.piece.now))
    (sym c.in-Some.is) c.in-Ok.ensures.bytes

pub returns-in-Ok-clause-cause : goal.returns-in-Ok-clause-cause
returns-in-Ok-clause-cause g c = no_fault c.args.self.now.faults c.in-Ok.n

pub returns-in_default-clause-cause : goal.returns-in_default-clause-cause
returns-in_default-clause-cause g c =
    one_fault c.args.self.now.faults c.failed.new.faults c.failed.result c.failed.ensures.rose c.failed.ensures.later

pub returns-in-None-clause-taken : goal.returns-in-None-clause-taken
returns-in-None-clause-taken g c =
    keeps_itself (known_of (writer_contents g.R.File.Write.contents) c.args.self.now.file)

pub returns-in-None-clause-cause : goal.returns-in-None-clause-cause
returns-in-None-clause-cause g c =
    one_fault c.args.self.now.faults c.failed-in-None.new.faults c.failed-in-None.result
    c.failed-in-None.ensures.rose c.failed-in-None.ensures.later
