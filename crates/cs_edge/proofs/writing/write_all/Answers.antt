use Rattle.std.proofs.Common.{arith, subst, refl, ℕ, List}
use Rattle.std.proofs.lemmas.Grind.{common_steps}
use Rattle.cs_edge.specs.Moves.{WroteMore}
use Rattle.cs_edge.proofs.{Lists.take_on, Lists.taken_within, Lists.take_front, Stories.more_on, Stories.part_failed}
use Rattle.cs_edge.proofs.writing.write_all.Goals as goal

pub loop-at-preserved : goal.loop-at-preserved
loop-at-preserved g c =
    let l : List ℕ = c.args.piece.now in
    let more = more_on _ _ _ _ _ c.loop-at.invariant.1 c.in_ok-at.ensures.taken c.in_ok-at.ensures.moves
    (c.in_ok-at.ensures.cause.same refl) in (
      taken_within c.loop-at.at c.in_ok-at.field-0 l c.loop-at.invariant.0 c.in_ok-at.ensures.count.1,
      subst (λ (bytes : List ℕ). WroteMore (g.K.Sink.tells c.args.sink.now) (g.K.Sink.tells c.write.new.self) bytes)
          (take_on c.loop-at.at c.in_ok-at.field-0 l) more,
    )

pub returns-in_err-at-clause-part : goal.returns-in_err-at-clause-part
returns-in_err-at-clause-part g c = grind (arith, common_steps, part_failed, take_front)
