use Rattle.std.proofs.Common.{ap, refl}
use Rattle.cs_desk.proofs.desk.Desk.loosen.Goals as goal

pub returns-then-is_some : goal.returns-then-is_some
returns-then-is_some g c = record { cells = refl; areas = refl; room = (refl, refl) }

pub returns-then-self-count : goal.returns-then-self-count
returns-then-self-count g c = record { cells = refl; areas = refl; room = (refl, refl) }

pub returns-in-Ok-clause-areas : goal.returns-in-Ok-clause-areas
returns-in-Ok-clause-areas g c = ap (λ s. s.areas) c.numbers_of.ensures.rest

pub returns-in-Ok-clause-room : goal.returns-in-Ok-clause-room
returns-in-Ok-clause-room g c =
    (ap (λ s. s.table.slots) c.numbers_of.ensures.rest, ap (λ s. s.table.words) c.numbers_of.ensures.rest)

pub returns-in_default-clause-areas : goal.returns-in_default-clause-areas
returns-in_default-clause-areas g c = ap (λ s. s.areas) c.numbers_of.ensures.rest

pub returns-in_default-clause-room : goal.returns-in_default-clause-room
returns-in_default-clause-room g c =
    (ap (λ s. s.table.slots) c.numbers_of.ensures.rest, ap (λ s. s.table.words) c.numbers_of.ensures.rest)
