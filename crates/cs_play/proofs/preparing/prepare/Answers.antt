use Rattle.std.proofs.Common.{refl, inl, inr}
use Rattle.cs_arguments.specs.Orders.{asked_in}
use Rattle.cs_command.specs.Words.{texts}
use Rattle.cs_play.proofs.NoPiece.{is_prepared, unasked_ends}
use Rattle.cs_play.proofs.preparing.prepare.Goals as goal

pub returns-in-Ok-load_for-clause-prepared : goal.returns-in-Ok-load_for-clause-prepared
returns-in-Ok-load_for-clause-prepared g c =
    is_prepared (g.F.Shelf.tells) (texts c.args.words.now) c.args.shelf.now c.load_for.new.shelf _ c.in-Ok.ensures
    c.in-Ok-load_for.ensures.loaded

pub returns-in-Ok-load_for-clause-shelf : goal.returns-in-Ok-load_for-clause-shelf
returns-in-Ok-load_for-clause-shelf g c = inr (asked_in c.in-Ok.order, c.in-Ok.ensures, c.load_for.ensures.shelf)

pub returns-in-Err-load_for-clause-unprepared : goal.returns-in-Err-load_for-clause-unprepared
returns-in-Err-load_for-clause-unprepared g c = c.in-Err-load_for.ensures.unprepared _ c.in-Ok.ensures

pub returns-in-Err-load_for-clause-shelf : goal.returns-in-Err-load_for-clause-shelf
returns-in-Err-load_for-clause-shelf g c = inr (asked_in c.in-Ok.order, c.in-Ok.ensures, c.load_for.ensures.shelf)

pub returns-in-Err-clause-unprepared : goal.returns-in-Err-clause-unprepared
returns-in-Err-clause-unprepared g c =
    unasked_ends (g.F.Shelf.tells) (texts c.args.words.now) c.args.shelf.now _ _ c.in-Err.unread _ c.status_of.result
    c.say_end.ensures.status c.status_of.ensures c.in-Err.ensures c.say_end.ensures.line

pub returns-in-Err-clause-shelf : goal.returns-in-Err-clause-shelf
returns-in-Err-clause-shelf g c = inl refl
