use Rattle.std.proofs.Common.{◌≢◌}
use Rattle.cs_udo_meaning.proofs.{Kept.Off, Kept.kept_stays, Kept.texts_off, Paths.of_all, Units.units_differ}
use Rattle.cs_udo_meaning.proofs.Untouched.{anywhere, calls_differ, frame_stays, statements_stay}
use Rattle.cs_udo_meaning.proofs.laws.calls_have_frames_of_their_own.Goals as goal

pub returns-clause-differ : goal.returns-clause-differ
returns-clause-differ g c = calls_differ _

pub returns-clause-units : goal.returns-clause-units
returns-clause-units g c = units_differ

pub returns-clause-alone : goal.returns-clause-alone
returns-clause-alone g c =
    λ m ds w f h apart p b u out.
    statements_stay m (λ u. u.frames h) (λ k. h ≢ k) (λ k. Unit {0}) (frame_stays m h) ds w f apart p b u
    (of_all (λ k. h ≢ k) _ out) (anywhere _)

pub returns-clause-kept : goal.returns-clause-kept
returns-clause-kept g c =
    λ m ds w f p b u q out.
    statements_stay m (λ u. u.kept q) (λ k. Unit {0}) (Off q) (kept_stays m q) ds w f tt p b u (anywhere _)
    (of_all (Off q) _ out)

pub returns-clause-kept_in_expansions : goal.returns-clause-kept_in_expansions
returns-clause-kept_in_expansions g c = λ o spaces w p b t q out. texts_off o q w spaces p b t (of_all (Off q) _ out)
