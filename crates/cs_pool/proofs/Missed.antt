-- What a cycle that was offered shows about the next ones.
use Rattle.std.proofs.lemmas.Grind.{common_steps}
use Rattle.std.proofs.Common.{◌≡◌, ℕ, ◌+◌, ◌*◌, ◌<◌, Bool, true, false, arith}
use Rattle.std.specs.{Prelude.min}
use Rattle.std.proofs.Math.Nat.{pow-succ'}
use Rattle.cs_pool.specs.Alone.{most_alone, alone_after}
use Rattle.cs_pool.specs.{Pools.Learns, Pools.tasks_served, declared.pool.Pool.Pool}

-- twice as many cycles, at most 128, are as many as after one more miss
twice_more : (x k : ℕ) → x ≡ alone_after k → min (2 * x) most_alone ≡ alone_after (k + 1)
twice_more x k is = grind (arith, common_steps, pow-succ')

module _ {J R G : Type 0} where
  pub learns : (before after : Pool J R G) (begun : Bool) → (begun ≡ true → tasks_served before < tasks_served after)
      → (begun ≡ false → tasks_served after ≡ tasks_served before)
      → (begun ≡ true → (after.sparing.alone ≡ 0) × (after.sparing.after_a_miss ≡ 1))
      → (begun ≡ false → (after.sparing.alone ≡ before.sparing.after_a_miss)
      × (after.sparing.after_a_miss ≡ min (2 * before.sparing.after_a_miss) most_alone)) → Learns before after
  learns before after true more same helped missed = grind (arith, common_steps)
  learns before after false more same helped missed = grind (arith, common_steps, twice_more)
