use Rattle.std.specs.Prelude.{◌≡◌, ℕ, Bool, false, cond, Option, Some, None, List, nat_eq, nat_lt, ◌==◌, ◌&&◌, ◌||◌}
use Rattle.std.specs.{declared.hash.FoldHasher.FoldHasher, HashMap.get, HashMap.HashMap, List.list_any}
use Rattle.std.specs.declared.hash.BuildHasherDefault.{BuildHasherDefault}
use Rattle.cs_cells.specs.declared.footprint.Footprint.{Footprint}
use Rattle.cs_graph.specs.{Conflict.foot, inner.Sets.has, declared.touched.Sharers.Sharers}

-- the sharers of each place, as a hash map
abbrev pub SharersByPlace : Type 0
SharersByPlace = HashMap ℕ Sharers (BuildHasherDefault FoldHasher)

-- whether note p is a user, if there are sharers
abbrev pub users_in : Option Sharers → ℕ → Bool
users_in None p = false
users_in (Some sharers) p = has sharers.users p

-- whether note p is a writer, if there are sharers
abbrev pub writers_in : Option Sharers → ℕ → Bool
writers_in None p = false
writers_in (Some sharers) p = has sharers.writers p

-- whether note p is among the notes so far that use place r
abbrev pub uses_so_far : SharersByPlace → ℕ → ℕ → Bool
uses_so_far by_place r p = users_in (get nat_eq by_place r) p

-- whether note p is among the notes so far that write place r
abbrev pub writes_so_far : SharersByPlace → ℕ → ℕ → Bool
writes_so_far by_place r p = writers_in (get nat_eq by_place r) p

-- whether a note conflicts with note p at place r: p writes it, or p uses it and the note itself writes it
abbrev pub meets_so_far : Bool → SharersByPlace → ℕ → ℕ → Bool
meets_so_far writes by_place r p = cond writes (uses_so_far by_place r p) (writes_so_far by_place r p)

-- whether a list of places contains place r
abbrev pub lists : List ℕ → ℕ → Bool
lists places r = list_any (λ y. r == y) places

-- the map has, for each of the first t notes, the places that it uses and writes
pub record IsTouchedBy (feet : List Footprint) (t : ℕ) (by_place : SharersByPlace) : Type 0 where
  pub users : (r p : ℕ) → uses_so_far by_place r
      p ≡ (nat_lt p t && (lists (foot feet p).uses r || lists (foot feet p).writes r))
  pub writers : (r p : ℕ) → writes_so_far by_place r p ≡ (nat_lt p t && lists (foot feet p).writes r)
