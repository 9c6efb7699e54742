-- The names known at a point of the text: variables and channels, each with its number.
use Rattle.std.specs.Prelude.{ℕ, Bool, false, List, [], ◌∷◌, length, Option, Some, None, if◌then◌else◌}
use Rattle.cs_base.specs.declared.per_rate.PerRate.{PerRate}
use Rattle.cs_base.specs.{Rates.at_rate, declared.resource.Rate.Rate, declared.resource.Res.Res}
use Rattle.cs_words.specs.{Names.name_rate, Names.is_global, NameSets.has, NameSets.place_of, NameSets.seen}
use Rattle.cs_typing.specs.declared.known.Channel.{Channel}
use Rattle.cs_typed.specs.declared.tree.Var.{Var}
use Rattle.cs_base.specs.declared.resource.Rate.TheVariants as rate
use Rattle.cs_base.specs.declared.resource.Res.TheVariants as res
use Rattle.cs_typing.specs.declared.known.Channel.TheVariants as channel
use Rattle.cs_typed.specs.declared.tree.Var.TheVariants as var

-- names of variables by rate, each list in the order of first assignment
abbrev pub RateNames : Type 0
RateNames = PerRate (List (List ℕ))

-- no names
abbrev pub no_names : RateNames
no_names = record { init = []; control = []; audio = [] }

-- the number of names of each rate
abbrev pub counts_of : RateNames → PerRate ℕ
counts_of t = record { init = length t.init; control = length t.control; audio = length t.audio }

-- the names of a rate
abbrev pub of_rate : Rate → RateNames → List (List ℕ)
of_rate r t = at_rate t r

-- the names with one more name of a rate, unless they contain it
abbrev pub with_name : Rate → RateNames → List ℕ → RateNames
with_name rate.Init t name = record { init = seen t.init name; control = t.control; audio = t.audio }
with_name rate.Control t name = record { init = t.init; control = seen t.control name; audio = t.audio }
with_name rate.Audio t name = record { init = t.init; control = t.control; audio = seen t.audio name }

-- whether a name is among the names of its rate
abbrev pub in_table : RateNames → List ℕ → Bool
in_table t name = has (of_rate (name_rate name) t) name

-- the number of a name among the names of its rate
abbrev pub place_in : RateNames → List ℕ → ℕ
place_in t name = place_of (of_rate (name_rate name) t) name

-- the names with one more name at its rate, unless they contain it
abbrev pub added : RateNames → List ℕ → RateNames
added t name = with_name (name_rate name) t name

-- The names that all bodies of an orchestra share: the global variables that any statement assigns, and the
-- k-rate and a-rate channels that were used so far.
pub record Shared : Type 0 where
  pub globals : RateNames
  pub control : List (List ℕ)
  pub sound : List (List ℕ)

-- the names known at a point of the text: those that all bodies share, and the local variables that an
-- earlier statement of the body assigns
pub record KnownHere : Type 0 where
  pub shared : Shared
  pub locals : RateNames

-- known names with these parts
abbrev pub known_with : Shared → RateNames → KnownHere
known_with shared locals = record { shared = shared; locals = locals }

-- the names known before the first statement, with these global variables
abbrev pub first_with : RateNames → KnownHere
first_with globals = known_with (record { globals = globals; control = []; sound = [] }) no_names

-- a variable may be read
abbrev pub knows : KnownHere → List ℕ → Bool
knows n name = if is_global name then in_table n.shared.globals name else in_table n.locals name

-- the local variables after a variable was assigned
abbrev pub after_giving : RateNames → List ℕ → RateNames
after_giving locals name = if is_global name then locals else added locals name

-- the known names after a variable was assigned
abbrev pub given : KnownHere → List ℕ → KnownHere
given n name = known_with n.shared (after_giving n.locals name)

-- the known names after several variables were assigned
abbrev pub given_all : KnownHere → List (List ℕ) → KnownHere
given_all n [] = n
given_all n (name ∷ names) = given_all (given n name) names

-- the shared names after a channel was used
abbrev pub used : Shared → Channel → List ℕ → Shared
used s channel.Control name = record { globals = s.globals; control = seen s.control name; sound = s.sound }
used s channel.Sound name = record { globals = s.globals; control = s.control; sound = seen s.sound name }

-- the shared names after a channel was used, if the role names a kind
abbrev pub use_channel : Shared → Option Channel → List ℕ → Shared
use_channel s None name = s
use_channel s (Some kind) name = used s kind name

-- a channel was used before as a channel of the other kind
abbrev pub clashes : Shared → Option Channel → List ℕ → Bool
clashes s None name = false
clashes s (Some channel.Control) name = has s.sound name
clashes s (Some channel.Sound) name = has s.control name

-- a global variable of a rate, by its number
abbrev pub global : Rate → ℕ → Res
global rate.Init k = res.Gi k
global rate.Control k = res.Gk k
global rate.Audio k = res.Ga k

-- the variable of a name; a new name has the next number
abbrev pub variable : KnownHere → List ℕ → Var
variable n name =
    if is_global name then var.Global (global (name_rate name) (place_in n.shared.globals name))
    else var.Local (name_rate name) (place_in n.locals name)

-- the channel of a name; a new name has the next number
abbrev pub channel_of : Shared → Channel → List ℕ → Var
channel_of s channel.Control name = var.Global (res.Control (place_of s.control name))
channel_of s channel.Sound name = var.Global (res.Sound (place_of s.sound name))
