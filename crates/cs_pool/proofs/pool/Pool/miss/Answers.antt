use Rattle.std.proofs.Common.{◌≡◌, true, false, refl}
use Rattle.cs_pool.proofs.Missed.{learns}
use Rattle.cs_pool.proofs.pool.Pool.miss.Goals as goal

pub returns-clause-learned : goal.returns-clause-learned
returns-clause-learned g c =
    learns c.args.self.now _ false (λ h. absurd (let wrong : false ≡ true = h in cc)) (λ h. refl)
    c.learn.ensures.begun c.learn.ensures.missed
