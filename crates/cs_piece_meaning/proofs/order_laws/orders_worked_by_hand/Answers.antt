use Rattle.std.proofs.Common.{refl}
use Rattle.cs_piece_meaning.proofs.Computed.{asked, made_again, refused, refused_counted, refused_started}
use Rattle.cs_piece_meaning.proofs.Computed.{refused_starts, stored}
use Rattle.cs_piece_meaning.proofs.order_laws.orders_worked_by_hand.Goals as goal

pub returns-clause-made_again : goal.returns-clause-made_again
returns-clause-made_again c = made_again

pub returns-clause-stored : goal.returns-clause-stored
returns-clause-stored c = stored

pub returns-clause-asked : goal.returns-clause-asked
returns-clause-asked c = asked

pub returns-clause-refused : goal.returns-clause-refused
returns-clause-refused c = refused

pub returns-clause-refused_started : goal.returns-clause-refused_started
returns-clause-refused_started c = refused_started

pub returns-clause-refused_counted : goal.returns-clause-refused_counted
returns-clause-refused_counted c = refused_counted

pub returns-clause-refused_starts : goal.returns-clause-refused_starts
returns-clause-refused_starts c = refused_starts

pub returns-clause-older_counts : goal.returns-clause-older_counts
returns-clause-older_counts c = refl

pub returns-clause-younger_counts : goal.returns-clause-younger_counts
returns-clause-younger_counts c = refl
