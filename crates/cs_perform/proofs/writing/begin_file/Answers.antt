use Rattle.std.proofs.Common.{[], refl}
use Rattle.std.proofs.lemmas.Result.{on_err_weaker, on_ok_weaker}
use Rattle.cs_edge.proofs.Stories.{begun, stopped_begin, wrote_on}
use Rattle.cs_perform.proofs.Pieces.{begun_in_part}
use Rattle.cs_perform.proofs.writing.begin_file.Goals as goal

pub returns-in-Err-clause-stopped : goal.returns-in-Err-clause-stopped
returns-in-Err-clause-stopped g c rest =
    stopped_begin _ _ _ _ c.in-Err.ensures.failed c.in-Err.ensures.moves c.in-Err.ensures.cause.later

pub returns-clause-stopped : goal.returns-clause-stopped
returns-clause-stopped g c =
    on_err_weaker c.write_all.result
    (begun_in_part _ _ _ c.args.name.now c.args.first.now
    (begun _ _ _ c.in_default.ensures.begun c.in_default.ensures.moves (c.in_default.ensures.cause.same refl)))
    c.write_all.ensures.part

pub returns-clause-begun : goal.returns-clause-begun
returns-clause-begun g c =
    on_ok_weaker c.write_all.result
    (wrote_on _ _ _ c.args.name.now [] c.args.first.now
    (begun _ _ _ c.in_default.ensures.begun c.in_default.ensures.moves (c.in_default.ensures.cause.same refl)))
    c.write_all.ensures.written
