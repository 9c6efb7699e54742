-- The rules for the rates in a call, stated once for the tree of the grammar and for the typed tree: they
-- depend only on the rate of each argument, which a text doesn't have, and on the rate of each result.
use Rattle.std.specs.Prelude.{ℕ, Bool, true, false, not, List, [], ◌∷◌, ◌&&◌, ◌+◌, length, nat_lt, Option, Some, None}
use Rattle.std.specs.{Prelude.if◌then◌else◌, List.list_any, List.list_all}
use Rattle.cs_base.specs.{Rates.is_init, Rates.is_audio, Rates.same_rate, declared.resource.Rate.Rate}
use Rattle.cs_words.specs.Catalogue.{Row, letter_at, takes, is_text}
use Rattle.cs_words.specs.{declared.catalogue.Letter.Letter, declared.catalogue.Shape.Shape}
use Rattle.cs_typed.specs.{Places.is_starting, Places.is_writing, declared.setting.Setting.Setting}
use Rattle.cs_base.specs.declared.resource.Rate.TheVariants as rate
use Rattle.cs_words.specs.declared.catalogue.Shape.TheVariants as shape

-- a value of the a-rate
abbrev pub sounds : Option Rate → Bool
sounds (Some r) = is_audio r
sounds None = false

-- a text, or a value that is known when the note begins
abbrev pub stands_still : Option Rate → Bool
stands_still (Some r) = is_init r
stands_still None = true

-- a letter accepts an argument; `bound` is the rate of the result
abbrev pub accepts : Letter → Rate → Option Rate → Bool
accepts l bound (Some r) = takes l bound r
accepts l bound None = is_text l

-- each argument, from index n on, satisfies the condition for its letter
abbrev pub all_meet : {A : Type 0} → (Letter → A → Bool) → Row → ℕ → List A → Bool
all_meet asked row n [] = true
all_meet asked row n (a ∷ rest) = asked (letter_at row n) a && all_meet asked row (n + 1) rest

-- the rate of the result, which limits the rates of the arguments; without a result there is no limit
abbrev pub bound_from : {V : Type 0} → (V → Rate) → List V → Rate
bound_from rated [] = rate.Audio
bound_from rated (v ∷ vs) = rated v

-- the result of a row may have this rate
abbrev pub may_have : Row → Rate → Bool
may_have row r = list_any (same_rate r) row.results

-- the two arguments of a table store are both a-rate, or neither is
abbrev pub are_even : {A : Type 0} → (A → Option Rate) → Shape → List A → Bool
are_even seen shape.Store [] = true
are_even seen shape.Store (a ∷ []) = true
are_even seen shape.Store (a ∷ b ∷ rest) = if sounds (seen a) then sounds (seen b) else not (sounds (seen b))
are_even seen _ args = true

-- more audio signals go out than the piece has channels
abbrev pub exceeds : {A : Type 0} → Setting → Shape → List A → Bool
exceeds s shape.Out args = nat_lt s.channels (length args)
exceeds s _ args = false

-- The rate at which a call runs. An opcode that works when the note begins runs once. Otherwise a call with a
-- result runs at the rate of the result. A call without one runs once if it writes only values known when the
-- note begins, at the a-rate if an argument is a-rate, and otherwise at the k-rate.
abbrev pub rate_without_result : {A : Type 0} → (A → Option Rate) → Shape → List A → Rate
rate_without_result seen sh args =
    if is_writing sh && list_all (λ a. stands_still (seen a)) args then rate.Init
    else (if list_any (λ a. sounds (seen a)) args then rate.Audio else rate.Control)

-- the rate at which a call runs, by its results and arguments
abbrev pub rate_of_call : {V A : Type 0} → (V → Rate) → (A → Option Rate) → Shape → List V → List A → Rate
rate_of_call rated seen sh [] args = if is_starting sh then rate.Init else rate_without_result seen sh args
rate_of_call rated seen sh (v ∷ vs) args = if is_starting sh then rate.Init else rated v

-- the rate of an `if`: it runs once if all its conditions are known when the note begins
abbrev pub rate_of_choice : Bool → Rate
rate_of_choice all_known = if all_known then rate.Init else rate.Control
