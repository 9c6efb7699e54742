-- Shared resources under other numbers.
use Rattle.std.specs.Prelude.{ℕ, true, List, ◌≡◌}
use Rattle.cs_base.specs.{Rates.res_rate, declared.resource.Res.Res}
use Rattle.cs_words.specs.{Names.name_rate, NameSets.has, NameSets.place_of}
use Rattle.cs_ir.specs.Worlds.{World}
use Rattle.cs_typing.specs.Known.{Shared, global, in_table, place_in}
use Rattle.cs_udo_meaning.specs.Lives.{Cycle}
use Rattle.cs_base.specs.declared.resource.Res.TheVariants as res

-- A world with the resources of another world under other numbers: each resource here is the resource there
-- to which its number leads.
abbrev pub renumbered : {W : Type 0} → (Res → Res) → World W → World W
renumbered to o = record o { load = λ r. o.load (to r); save = λ r. o.save (to r) }

-- a cycle whose world has other numbers for shared resources
abbrev pub renumbered_cycle : {W : Type 0} → (Res → Res) → Cycle W → Cycle W
renumbered_cycle to c = record c { world = renumbered to c.world }

-- Numbers lead from the lists h of shared names to the lists g: from a name's resource by h to its resource
-- by g, and from each resource to one of the same rate.
pub record LeadsTo (to : Res → Res) (h g : Shared) : Type 0 where
  pub rate : (r : Res) → res_rate (to r) ≡ res_rate r
  pub globals : (x : List ℕ)
      → to (global (name_rate x) (place_in h.globals x)) ≡ global (name_rate x) (place_in g.globals x)
  pub control : (x : List ℕ) → to (res.Control (place_of h.control x)) ≡ res.Control (place_of g.control x)
  pub sound : (x : List ℕ) → to (res.Sound (place_of h.sound x)) ≡ res.Sound (place_of g.sound x)

-- The lists h have every name that the lists g have, at any place.
pub record HasNames (h g : Shared) : Type 0 where
  pub globals : (x : List ℕ) → in_table g.globals x ≡ true → in_table h.globals x ≡ true
  pub control : (x : List ℕ) → has g.control x ≡ true → has h.control x ≡ true
  pub sound : (x : List ℕ) → has g.sound x ≡ true → has h.sound x ≡ true
