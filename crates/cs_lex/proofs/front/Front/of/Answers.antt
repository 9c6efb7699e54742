use Rattle.std.proofs.Common.{◌<◌, ◌≤◌, IfOk, length, sym, subst}
use Rattle.cs_lex.proofs.Reading.{front_within}
use Rattle.cs_lex.proofs.front.Front.of.Goals as goal

pub returns-clause-within : goal.returns-clause-within
returns-clause-within c =
    subst (λ r. IfOk r (λ f. (0 < f.len) × (f.len ≤ length c.args.text.now))) (sym c.by_first_byte.ensures)
    (front_within c.args.text.now c.requires)
