use Rattle.std.proofs.Common.{◌≤◌, ◌++◌, [], ◌∷◌, ◌∙◌, length, drop, arith, ap, subst, sym}
use Rattle.std.proofs.lemmas.List.{drop-append-le, length_push}
use Rattle.cs_tempo.specs.inner.Queue.{Queue}
use Rattle.cs_tempo.proofs.pairing.Stops.push.Goals as goal

pub invariant_of-self : goal.invariant_of-self
invariant_of-self c =
    subst (λ beats. c.self.inside.passed ≤ length beats) (sym c.in_err-push.ensures.items) c.self.invariant

pub invariant_of-self-2 : goal.invariant_of-self-2
invariant_of-self-2 c =
    let more = ap length c.in_ok-push.ensures.items ∙ length_push c.self.inside.beats.items c.args.beat in
    let within : c.self.inside.passed ≤ length c.push.new.self.items = omega (arith, c.self.invariant, more) in within

pub returns-clause-stops : goal.returns-clause-stops
returns-clause-stops c =
    ap (drop c.self.inside.passed) c.in_ok-push.ensures.items
    ∙ drop-append-le c.self.inside.passed c.self.inside.beats.items (c.args.beat ∷ []) c.self.invariant
    ∙ ap (λ (q : Queue). q.stops ++ c.args.beat ∷ []) c.self.view_is

pub returns-clause-sounding : goal.returns-clause-sounding
returns-clause-sounding c = ap (λ (q : Queue). q.sounding) c.self.view_is
