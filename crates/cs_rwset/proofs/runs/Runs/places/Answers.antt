use Rattle.std.proofs.Common.{sym, subst}
use Rattle.cs_rwset.specs.inner.Runs.{AreInOrder}
use Rattle.cs_rwset.proofs.Spans.{begins_there}
use Rattle.cs_rwset.proofs.runs.Runs.places.Goals as goal

pub returns-in-Some-clause-run : goal.returns-in-Some-clause-run
returns-in-Some-clause-run c areas laid runs =
    let self = c.args.self.now in
    let s = c.args.space in
    c.placed.ensures areas s self.spaces laid runs.few runs.spaces c.places_of.ensures
    (subst (λ n. AreInOrder areas s n c.in-Some.begin) (sym c.places_of.ensures)
    (begins_there areas self s c.in-Some.begin runs c.in-Some.ensures))
