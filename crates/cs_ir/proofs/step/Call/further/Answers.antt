use Rattle.std.proofs.Common.{refl}
use Rattle.cs_ir.proofs.step.Call.further.Goals as goal

pub returns-clause-window : goal.returns-clause-window
returns-clause-window c =
    λ i. record {
      locals = record {
        init = c.in_ok-checked_add.ensures.1 i;
        control = c.in_ok-checked_add-2.ensures.1 i;
        audio = c.in_ok-checked_add-3.ensures.1 i;
      };
      kept = c.in_ok-checked_add-4.ensures.1 i;
      unit = c.in_ok-checked_add-5.ensures.1 i;
    }

pub returns-clause-routine : goal.returns-clause-routine
returns-clause-routine c = refl
