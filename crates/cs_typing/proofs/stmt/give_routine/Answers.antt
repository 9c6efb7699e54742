use Rattle.std.proofs.Common.{◌∙◌, ap, length}
use Rattle.cs_typing.specs.{inner.Held.known_of, inner.Routines.all_given_in, inner.Routines.known_in}
use Rattle.cs_typing.specs.inner.Slots.{taken_set}
use Rattle.cs_typing.proofs.{Answers.on_ok, Listed.one_more, Walked.added_both}
use Rattle.cs_typed.specs.TypedTree as typed
use Rattle.cs_typing.proofs.stmt.give_routine.Goals as goal

pub give_results-requires : goal.give_results-requires
give_results-requires c = ap (λ ns. length ns) c.deref.ensures.value ∙ c.requires

pub returns-clause-made : goal.returns-clause-made
returns-clause-made c =
    let it = c.args.it.now in
    let g = (known_of c.args.names.now).shared in
    let old = c.args.done.now.items in
    on_ok c.give_results.result c.give_results.ensures.made
    (λ adds rs.
    let does = typed.moved_block it.base (typed.routine_at rs c.args.found.now.routine) in
    added_both rs old c.push.new.self.items c.give_results.new.done.items does _
    (ap (typed.block rs) c.in_ok-push.ensures.items ∙ one_more rs old c.invocation.result
    ∙ ap (typed.then_block (typed.block rs old)) (c.invocation.ensures rs)) (adds rs)
    ∙ λ i. typed.then_block (typed.block rs old) (typed.then_block does
    (taken_set (known_in g (c.in_ok-take.ensures i)) it.base it.line it.results.now it.definition.now.outs
    (c.deref.ensures.value i))))

pub returns-clause-known : goal.returns-clause-known
returns-clause-known c =
    let g = (known_of c.args.names.now).shared in
    on_ok c.give_results.result c.give_results.ensures.known
    (λ known. known ∙ ap (λ l. known_in g (all_given_in l c.args.it.now.results.now)) c.in_ok-take.ensures)
