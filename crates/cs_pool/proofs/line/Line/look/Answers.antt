use Rattle.std.proofs.Common.{refl}
use Rattle.cs_pool.proofs.Found.{found_nothing, looked_again}
use Rattle.cs_pool.proofs.line.Line.look.Goals as goal

pub loop-look-init : goal.loop-look-init
loop-look-init g c = record { busy = c.requires; looked = found_nothing refl refl }

pub returns-in-Some-clause-looked : goal.returns-in-Some-clause-looked
returns-in-Some-clause-looked g c = looked_again c.loop-look.invariant.looked c.in-Some.ensures.looked

pub loop-look-preserved : goal.loop-look-preserved
loop-look-preserved g c = record {
  busy = c.in_default.ensures.busy;
  looked = looked_again c.loop-look.invariant.looked c.in_default.ensures.looked;
}

pub returns-clause-looked : goal.returns-clause-looked
returns-clause-looked g c = c.loop-look.invariant.looked
