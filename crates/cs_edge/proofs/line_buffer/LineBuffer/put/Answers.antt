use Rattle.std.proofs.Common.{arith, drop, subst, sym}
use Rattle.std.proofs.lemmas.Grind.{common_steps}
use Rattle.cs_edge.proofs.Buffered.{NoFeed, all_put, no_feed_in_nothing, still_no_feed}
use Rattle.cs_edge.proofs.{Chains.err_any, Chains.ok_then, Lists.parts_whole, Lists.rest_whole}
use Rattle.cs_edge.proofs.line_buffer.LineBuffer.put.Goals as goal

pub returns-clause-taken : goal.returns-clause-taken
returns-clause-taken g c = grind (arith, common_steps, all_put, ok_then, parts_whole)

pub returns-then-end-eq0-clause-failed : goal.returns-then-end-eq0-clause-failed
returns-then-end-eq0-clause-failed g c = c.add.ensures.failed

pub returns-clause-failed : goal.returns-clause-failed
returns-clause-failed g c = c.add-2.ensures.failed

pub returns-in_err-add_and_send-clause-failed : goal.returns-in_err-add_and_send-clause-failed
returns-in_err-add_and_send-clause-failed g c = err_any c.from_residual.result c.in_err-add_and_send.ensures.none

pub invariant_of-self : goal.invariant_of-self
invariant_of-self g c =
    still_no_feed c.add.result c.self.inside.held.items c.add.new.held.items c.args.piece.now c.add.ensures.kept
    c.add.ensures.failed c.self.invariant
    (subst (λ n. NoFeed (drop n c.args.piece.now)) c.if-end-eq0.true c.lines_len-end.ensures.rest)

pub invariant_of-self-2 : goal.invariant_of-self-2
invariant_of-self-2 g c =
    still_no_feed c.add-2.result c.add_and_send.new.held.items c.add-2.new.held.items _ c.add-2.ensures.kept
    c.add-2.ensures.failed (no_feed_in_nothing c.add_and_send.new.held.items c.in_ok-add_and_send.ensures.none)
    (subst NoFeed (sym (rest_whole c.lines_len-end.result c.args.piece.now)) c.lines_len-end.ensures.rest)
