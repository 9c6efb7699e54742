use Rattle.cs_rwset.proofs.Placed.{places_exact, exact_places, places_alike, places_ascend, places_within_areas}
use Rattle.cs_rwset.proofs.laws.places_are_of_resources.Goals as goal

pub returns-clause-exact : goal.returns-clause-exact
returns-clause-exact c areas rs place =
    (λ h. places_exact areas rs place h, λ h. exact_places areas rs place h.0 h.1 h.2)

pub returns-clause-ascending : goal.returns-clause-ascending
returns-clause-ascending c areas rs = places_ascend areas rs

pub returns-clause-within : goal.returns-clause-within
returns-clause-within c areas rs place h = places_within_areas areas rs place h

pub returns-clause-alike : goal.returns-clause-alike
returns-clause-alike c areas xs ys same = places_alike areas xs ys same
