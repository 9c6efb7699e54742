use Rattle.std.proofs.Common.{ℕ, List, subst}
use Rattle.cs_perform.specs.inner.Ends.{Finishes, Stops}
use Rattle.cs_edge.proofs.Chains.{ok_with, err_then}
use Rattle.cs_perform.proofs.Pieces.{ended, ended_in_part, end_failed}
use Rattle.cs_perform.proofs.writing.end_file.Goals as goal

pub returns-in-Err-clause-stopped : goal.returns-in-Err-clause-stopped
returns-in-Err-clause-stopped g c =
    let P : List ℕ → Type 0 = λ l. Stops l (g.K.Sink.tells c.args.wav.now) (g.K.Sink.tells c.write_all.new.sink) in
    subst P c.last_bytes.ensures (ended_in_part _ _ _ c.in-Err.ensures.part)

pub returns-clause-finished : goal.returns-clause-finished
returns-clause-finished g c =
    let P : List ℕ → Type 0 = λ l. Finishes l (g.K.Sink.tells c.args.wav.now) (g.K.Sink.tells c.end.new.self) in
    ok_with c.end.result c.end.ensures.ended c.end.ensures.cause.same
    (λ held same. subst P c.last_bytes.ensures
    (ended _ _ _ _ c.in_default.ensures.written held c.end.ensures.moves same))

pub returns-clause-stopped : goal.returns-clause-stopped
returns-clause-stopped g c =
    let P : List ℕ → Type 0 = λ l. Stops l (g.K.Sink.tells c.args.wav.now) (g.K.Sink.tells c.end.new.self) in
    err_then c.end.result c.end.ensures.failed
    (λ held. subst P c.last_bytes.ensures
    (end_failed _ _ _ _ c.in_default.ensures.written held c.end.ensures.moves c.end.ensures.cause.later))
