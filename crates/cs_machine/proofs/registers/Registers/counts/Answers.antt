use Rattle.std.proofs.Common.{◌≡◌, map, subst}
use Rattle.cs_machine.specs.Registers.{RegisterFile, filled, values}
use Rattle.cs_machine.proofs.Putting.{filled_again}
use Rattle.cs_machine.proofs.registers.Registers.counts.Goals as goal

pub returns-clause-whole : goal.returns-clause-whole
returns-clause-whole c =
    let f : RegisterFile = record {
      held = map (λ ones. ones.items) c.self.inside.held;
      sounds = map (λ rows. map (λ row. row.items) rows.items) c.self.inside.sounds;
      counts = c.self.inside.counts;
      ksmps = c.self.inside.ksmps;
    } in
    subst (λ g. filled g (values g) ≡ g) c.self.view_is (filled_again f c.self.invariant)
