use Rattle.std.proofs.Common.{◌≡◌, ◌∙◌, ◌∷◌, List, length, refl, sym, ap, subst, append_assoc, append-nil, arith, []}
use Rattle.std.specs.Vec.Iter.{into_iter_items}
use Rattle.cs_piece_meaning.specs.{Moments.Moment, Starts.asked}
use Rattle.cs_life.proofs.Waits.{asked_waits, wanted_more}
use Rattle.cs_life.specs.inner.Starting.{Wait, all_wanted}
use Rattle.cs_sched.specs.{Times.Clock, Times.due_of, Waiting.answer_to, Waiting.waiting, Waiting.with_answer}
use Rattle.cs_life.proofs.starting.ask_all.Goals as goal

nothing_left : {X : Type 0} (l : List X) → length l ≡ 0 → l ≡ []
nothing_left [] h = refl
nothing_left (x ∷ xs) h = absurd (omega arith)

pub loop-ask-preserved : goal.loop-ask-preserved
loop-ask-preserved c =
    let at = c.loop-ask in
    let x = c.in-Some.ask in
    let now = c.args.at.now.cycle in
    let time = c.args.at.now.time in
    let steps : into_iter_items at.ask-iterator ≡ x ∷ into_iter_items c.next.new.self =
    c.in-Some.ensures.steps.0 in record {
      items = append_assoc at.yielded (x ∷ []) _ ∙ rw (← steps) at.invariant.items;
      waits = λ k m e w.
          let before : Moment = all_wanted k now time at.yielded m in
          subst (λ n. Wait c.add.new.self c.count_after.result n)
          (sym (wanted_more k now time at.yielded x m))
          (subst (λ n. Wait c.add.new.self n (asked k now time x before)) (sym c.count_after.ensures)
          (asked_waits k now time x c.in_ok-answer.answer at.pending c.add.new.self at.not_started before
          (c.in_ok-answer.ensures.answer ∙ ap (λ (y : Clock). answer_to y now x at.pending.kept) (sym e))
          (c.in_ok-answer.ensures.waits
          ∙ ap (λ (y : Clock). with_answer c.in_ok-answer.answer (due_of y now time x) (waiting at.pending)) (sym e))
          (at.invariant.waits k m e w)));
      long = let was = at.invariant.long in
          let gone = c.in-Some.ensures.steps.1 in
          let short = ap length steps in
          omega arith;
    }

pub returns : goal.returns
returns c =
    let at = c.loop-ask in
    let none = c.in-None.ensures.steps in
    let empty : into_iter_items at.ask-iterator ≡ [] = nothing_left _ (sym at.invariant.long ∙ none.0) in
    let all = sym (append-nil at.yielded) ∙ rw empty at
    at.invariant.items ∙ c.into_iter-ask-iterator.ensures.into_iter_gives.0 in
    λ k m e w. subst (λ l. Wait at.pending at.not_started (all_wanted k c.args.at.now.cycle c.args.at.now.time l m)) all
    (at.invariant.waits k m e w)
