use Rattle.std.proofs.Common.{◌≡◌, ◌∙◌, ◌++◌, [], ap, arith, rules, sym}
use Rattle.std.specs.{Option.unwrap_or, Prelude.Some, Prelude.option_to_list}
use Rattle.std.proofs.lemmas.{Bool.Decides.nat_tests, List.nil_from_length}
use Rattle.cs_sched.proofs.Cycles.{none_left, none_taken, popped, puts, puts_again, taken}
use Rattle.cs_sched.proofs.pending.Pending.next.Goals as goal

pub returns-in_err-queue : goal.returns-in_err-queue
returns-in_err-queue c =
    rw (← c.self.view_is) (rw (c.from_residual.ensures, c.get_mut.follows.holds-at-none)
    (none_taken c.self.inside.dues c.self.inside.kept c.args.cycle c.self.invariant (sym c.in_err-queue.ensures.value)))

pub invariant_of-self-else-is_empty : goal.invariant_of-self-else-is_empty
invariant_of-self-else-is_empty c =
    let rest = c.pop_front-due.new.self in
    let loan = c.get_mut.follows.holds rest in
    popped c.self.inside.dues (c.get_mut.follows.lender rest) c.self.inside.kept c.args.cycle c.pop_front-due.result
    c.in_ok-queue.queue.now rest c.self.invariant (ap (λ o. unwrap_or o []) c.in_ok-queue.ensures.value)
    c.pop_front-due.ensures.items
    (puts c.self.inside.dues (c.get_mut.follows.lender rest) c.args.cycle (Some rest) (loan.3 (search rules))) loan.4

pub returns-else-is_empty : goal.returns-else-is_empty
returns-else-is_empty c =
    let rest = c.pop_front-due.new.self in
    let loan = c.get_mut.follows.holds rest in
    let at = ap (λ o. unwrap_or o []) c.in_ok-queue.ensures.value in
    rw (← c.self.view_is) (taken c.self.inside.dues (c.get_mut.follows.lender rest) c.self.inside.kept c.args.cycle
    c.pop_front-due.result rest c.self.invariant (invariant_of-self-else-is_empty c)
    (puts c.self.inside.dues (c.get_mut.follows.lender rest) c.args.cycle (Some rest) (loan.3 (search rules)))
    (sym at ∙ c.pop_front-due.ensures.items)
    (λ e. sym at ∙ none_left c.pop_front-due.result c.in_ok-queue.queue.now _ _ c.pop_front-due.ensures.cases e))

pub invariant_of-self-then-is_empty : goal.invariant_of-self-then-is_empty
invariant_of-self-then-is_empty c =
    let rest = c.pop_front-due.new.self in
    let loan = c.get_mut.follows.holds rest in
    let none : rest ≡ [] = nil_from_length rest (grind (arith, nat_tests)) in
    popped c.self.inside.dues c.forget.new.dues c.self.inside.kept c.args.cycle c.pop_front-due.result
    c.in_ok-queue.queue.now [] c.self.invariant (ap (λ o. unwrap_or o []) c.in_ok-queue.ensures.value)
    (c.pop_front-due.ensures.items ∙ ap (λ xs. option_to_list c.pop_front-due.result ++ xs) none)
    (puts_again c.self.inside.dues (c.get_mut.follows.lender rest) c.forget.new.dues c.args.cycle rest []
    (puts c.self.inside.dues (c.get_mut.follows.lender rest) c.args.cycle (Some rest) (loan.3 (search rules)))
    c.forget.ensures.put) c.forget.ensures.ordered

pub returns-then-is_empty : goal.returns-then-is_empty
returns-then-is_empty c =
    let rest = c.pop_front-due.new.self in
    let loan = c.get_mut.follows.holds rest in
    let at = ap (λ o. unwrap_or o []) c.in_ok-queue.ensures.value in
    let none : rest ≡ [] = nil_from_length rest (grind (arith, nat_tests)) in
    rw (← c.self.view_is) (taken c.self.inside.dues c.forget.new.dues c.self.inside.kept c.args.cycle
    c.pop_front-due.result [] c.self.invariant (invariant_of-self-then-is_empty c)
    (puts_again c.self.inside.dues (c.get_mut.follows.lender rest) c.forget.new.dues c.args.cycle rest []
    (puts c.self.inside.dues (c.get_mut.follows.lender rest) c.args.cycle (Some rest) (loan.3 (search rules)))
    c.forget.ensures.put)
    (sym at ∙ c.pop_front-due.ensures.items ∙ ap (λ xs. option_to_list c.pop_front-due.result ++ xs) none)
    (λ e. sym at ∙ none_left c.pop_front-due.result c.in_ok-queue.queue.now _ _ c.pop_front-due.ensures.cases e))
