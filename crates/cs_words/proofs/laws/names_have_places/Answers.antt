use Rattle.cs_words.proofs.Places.{found_place, one_place, past_all, new_place, seen_is_there, stays_there, keeps_place}
use Rattle.cs_words.proofs.laws.names_have_places.Goals as goal

pub returns-clause-found : goal.returns-clause-found
returns-clause-found c = found_place

pub returns-clause-apart : goal.returns-clause-apart
returns-clause-apart c = one_place

pub returns-clause-unseen : goal.returns-clause-unseen
returns-clause-unseen c = past_all

pub returns-clause-new : goal.returns-clause-new
returns-clause-new c = new_place

pub returns-clause-there : goal.returns-clause-there
returns-clause-there c = seen_is_there

pub returns-clause-stays : goal.returns-clause-stays
returns-clause-stays c = stays_there

pub returns-clause-kept : goal.returns-clause-kept
returns-clause-kept c = keeps_place
