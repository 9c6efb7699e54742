use Rattle.cs_ugen.proofs.Curves.{made_len, made_curve}
use Rattle.cs_ugen.proofs.oscillator_laws.made_tables_are_curves.Goals as goal

pub returns : goal.returns
returns c = record { length = made_len; curve = made_curve }
