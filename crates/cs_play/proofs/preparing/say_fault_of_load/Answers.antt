use Rattle.std.proofs.Common.{sym, subst}
use Rattle.cs_play.proofs.preparing.say_fault_of_load.Goals as goal
use Rattle.cs_play.specs.inner.Faulted.{IsNotLoaded}
use Rattle.cs_source.specs.declared.loading.LoadFault.{LoadFault}

pub returns-in-Unread : goal.returns-in-Unread
returns-in-Unread g c =
    let P : LoadFault → Type 0 =
    λ s. IsNotLoaded s c.say_end.result (g.T.Sink.tells c.args.talk.now) (g.T.Sink.tells c.say_end.new.talk) in
    subst P (sym c.in-Unread.is) (record { status_is = c.say_end.ensures.status; line = c.say_end.ensures.line })
