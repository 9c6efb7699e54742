use Rattle.std.proofs.Common.{arith, subst, sym}
use Rattle.std.proofs.lemmas.Option.{slice_get_within}
use Rattle.cs_cells.specs.Areas.{HasPlace}
use Rattle.cs_rwset.proofs.runs.first_place.Goals as goal

pub returns-in-Some-clause-within : goal.returns-in-Some-clause-within
returns-in-Some-clause-within c =
    let here = c.in-Some.ensures.found in
    let w = slice_get_within c.args.layout.now c.in-Some.place here.0 here.1 in omega (arith, w)

pub returns-in-Some-clause-first : goal.returns-in-Some-clause-first
returns-in-Some-clause-first c p h =
    c.requires.apart c.in-Some.place p c.zak_place.result c.in-Some.ensures.found
    (subst (λ r. HasPlace c.args.layout.now r p) (sym c.zak_place.ensures) h)

pub returns-in-None-clause-first : goal.returns-in-None-clause-first
returns-in-None-clause-first c p h =
    absurd (c.in-None.ensures.none p (subst (λ r. HasPlace c.args.layout.now r p) (sym c.zak_place.ensures) h))
