use Rattle.std.proofs.Common.{◌∙◌, subst, sym}
use Rattle.cs_pool.specs.Mailboxes.{HasNothingOut, IsFree}
use Rattle.cs_pool.proofs.line.shared_mailbox.Goals as goal

pub returns : goal.returns
returns g c =
    let made = c.in_ok-mailbox in
    let mine = c.in_ok-mine.ensures.ok in
    record {
      caller = subst (λ m. HasNothingOut m made.end) (sym mine) made.ensures.caller;
      helper = subst (λ m. IsFree m made.helper_end) (sym (c.in_ok-theirs.ensures ∙ mine)) made.ensures.helper;
    }
