use Rattle.std.proofs.Common.{refl}
use Rattle.cs_gen.proofs.Places.{accepted, accepted-bounds, is_made}
use Rattle.cs_gen.specs.Points.{points_of}
use Rattle.cs_gen.proofs.laws.accepted_tables_are_made.Goals as goal

pub returns-clause-size : goal.returns-clause-size
returns-clause-size c = λ size gen args h. accepted-bounds size gen args h

pub returns-clause-made : goal.returns-clause-made
returns-clause-made c = λ size gen args h. is_made size gen args (points_of size gen args) (accepted size gen args h)
    refl
