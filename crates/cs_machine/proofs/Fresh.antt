-- A new state.
use Rattle.std.proofs.Common.{◌≡◌, ◌∙◌, ℕ, ◌<◌, ◌≤◌, length, replicate, nat_lt, Option, None, Some, arith, ltb-true}
use Rattle.std.proofs.Common.{slice_index_or, sym}
use Rattle.std.specs.Option.{option_map}
use Rattle.std.proofs.lemmas.{List.get_or-replicate, List.get_or_past, List.length-replicate, Bool.Decides.nat_tests}
use Rattle.cs_base.proofs.Tests.{by_test}
use Rattle.cs_machine.specs.{Players.PlayerData, Players.playing, States.unit_at}

abbrev nothing : Option PlayerData
nothing = None

-- no unit was started
pub no_unit : (n u : ℕ) → slice_index_or (replicate n nothing) u nothing ≡ nothing
no_unit n u = by_test (nat_lt u n)
    (λ yes. let low : u < n = ltb-true u n yes in get_or-replicate n u nothing nothing low)
    (λ no. let far : n ≤ u = grind (arith, nat_tests) in
    get_or_past (replicate n nothing) u nothing
    (let e : length (replicate n nothing) ≡ n = length-replicate n nothing in omega (arith, far, e)))

pub no_units : (n : ℕ) → unit_at (replicate n nothing) ≡ (λ u. None)
no_units n = λ i u. option_map playing (no_unit n u i)

pub no_player : (n u : ℕ) (p : PlayerData) → slice_index_or (replicate n nothing) u nothing ≡ Some p → ⊥
no_player n u p h = let none : nothing ≡ Some p = sym (no_unit n u) ∙ h in cc
