use Rattle.std.proofs.Common.{◌≡◌, ◌*◌, ap, rules, ◌∙◌}
use Rattle.cs_ugen.proofs.Angles.{times_word}
use Rattle.cs_ugen.proofs.angle.Angle.times.Goals as goal

pub returns-clause-value : goal.returns-clause-value
returns-clause-value c =
    let word : c.from.result ≡ c.self.inside.word = search rules in
    let number : c.from-2.result ≡ c.args.len = search rules in
    ap (λ w. w * c.from-2.result) word ∙ ap (λ n. c.self.inside.word * n) number
    ∙ times_word c.self.inside.word c.args.len c.self.invariant
    ∙ ap (λ p. p * c.args.len * 1099511627776) c.self.view_is
