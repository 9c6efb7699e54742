use Rattle.cs_pool.proofs.Found.{still_out, looked_again}
use Rattle.cs_pool.proofs.mailbox.Mailbox.collect.Goals as goal

pub withdraw-requires : goal.withdraw-requires
withdraw-requires g c = still_out c.in-None.ensures c.requires

pub returns-in-None : goal.returns-in-None
returns-in-None g c = looked_again c.in-None.ensures c.withdraw.ensures
