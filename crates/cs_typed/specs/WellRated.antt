-- The rules of rates that every typed tree satisfies.
use Rattle.std.specs.Prelude.{ℕ, Bool, true, false, not, List, ◌∷◌, ◌≡◌, ◌≢◌, ◌&&◌, ◌||◌, length, Option, Some, None}
use Rattle.std.specs.{Prelude.if◌then◌else◌, List.All, List.list_all}
use Rattle.cs_base.specs.Rates.{is_init, is_control, is_audio, within, faster, res_rate}
use Rattle.cs_base.specs.declared.resource.Rate.{Rate}
use Rattle.cs_words.specs.Catalogue.{Row, row_of, takes_count, result_count}
use Rattle.cs_words.specs.{Signs.is_arithmetic, declared.catalogue.Letter.Letter, declared.catalogue.Shape.Shape}
use Rattle.cs_words.specs.declared.catalogue.Opcode.{Opcode}
use Rattle.cs_typed.specs.{declared.setting.Setting.Setting, declared.tree.Var.Var, Calls.rate_of_call}
use Rattle.cs_typed.specs.{Calls.rate_of_choice, Places.outside, Places.inside, Places.stands_outside}
use Rattle.cs_typed.specs.Calls.{sounds, stands_still, accepts, all_meet, bound_from, may_have, are_even, exceeds}
use Rattle.cs_base.specs.declared.resource.Rate.TheVariants as rate
use Rattle.cs_base.specs.declared.resource.Res.TheVariants as res
use Rattle.cs_words.specs.declared.catalogue.Opcode.TheVariants as op
use Rattle.cs_words.specs.declared.catalogue.Shape.TheVariants as shape
use Rattle.cs_words.specs.declared.word.Func.TheVariants as func
use Rattle.cs_typed.specs.declared.tree.Var.TheVariants as var
use Rattle.cs_typed.specs.TypedTree as typed

-- the rate of a variable
abbrev pub var_rate : Var → Rate
var_rate (var.Local r k) = r
var_rate (var.Global g) = res_rate g

-- a variable, which a statement may read or assign by name; not a channel
abbrev pub is_variable : Var → Bool
is_variable (var.Local r k) = true
is_variable (var.Global (res.Gi k)) = true
is_variable (var.Global (res.Gk k)) = true
is_variable (var.Global (res.Ga k)) = true
is_variable (var.Global g) = false

-- a channel
abbrev pub is_channel : Var → Bool
is_channel (var.Global (res.Control k)) = true
is_channel (var.Global (res.Sound k)) = true
is_channel _ = false

-- the rate of an expression
abbrev pub node_rate : typed.Expression → Rate
node_rate (typed.number r v) = r
node_rate (typed.var r v) = r
node_rate (typed.field r k) = r
node_rate (typed.head r h) = r
node_rate (typed.neg r a) = r
node_rate (typed.pair r o a b) = r
node_rate (typed.pick r c a b) = r
node_rate (typed.apply r f a) = r

-- an argument of the function `i`: a k-rate variable
abbrev pub is_read_once : typed.Expression → Bool
is_read_once (typed.var r v) = is_control r
is_read_once _ = false

-- Each part of an expression has the rate of its fastest operand; truth values and the argument of `cpspch`
-- are not a-rate.
abbrev pub IsRated : typed.Expression → Type 0
IsRated (typed.number r v) = r ≡ rate.Init
IsRated (typed.var r v) = (r ≡ var_rate v) × (is_variable v ≡ true)
IsRated (typed.field r k) = r ≡ rate.Init
IsRated (typed.head r h) = r ≡ rate.Init
IsRated (typed.neg r a) = (r ≡ node_rate a) × IsRated a
IsRated (typed.pair r o a b) =
    (r ≡ faster (node_rate a) (node_rate b)) × ((is_arithmetic o || not (is_audio r)) ≡ true) × IsRated a × IsRated b
IsRated (typed.pick r c a b) =
    (r ≡ faster (node_rate c) (faster (node_rate a) (node_rate b))) × (is_audio (node_rate c) ≡ false) × IsRated c
    × IsRated a × IsRated b
IsRated (typed.apply r func.I a) = (r ≡ rate.Init) × (is_read_once a ≡ true) × IsRated a
IsRated (typed.apply r func.Cpspch a) = (r ≡ node_rate a) × (is_audio r ≡ false) × IsRated a
IsRated (typed.apply r f a) = (r ≡ node_rate a) × IsRated a

-- an argument: a value, or a channel
abbrev pub IsRatedArgument : typed.Argument → Type 0
IsRatedArgument (typed.value e) = IsRated e
IsRatedArgument (typed.text v) = is_channel v ≡ true

-- An assigned value changes no more often than the variable; outside instruments it is known when the note
-- begins.
abbrev pub IsRatedSet : Setting → Rate → Var → typed.Expression → Type 0
IsRatedSet s r v e =
    (r ≡ var_rate v) × (is_variable v ≡ true) × (within (node_rate e) r ≡ true) × ((s.inside || is_init r) ≡ true)
    × IsRated e

-- the row for a call's arguments: the text of `event_i` is left out, and the rest is checked like the
-- arguments of `schedule`
abbrev pub row_left : Opcode → Row
row_left op.EventI = row_of op.Schedule
row_left opcode = row_of opcode

-- the rate of an argument; a channel has none
abbrev pub rate_in : typed.Argument → Option Rate
rate_in (typed.value e) = Some (node_rate e)
rate_in (typed.text v) = None

-- an argument fits its letter
abbrev pub fits_letter : Letter → Rate → typed.Argument → Bool
fits_letter l bound a = accepts l bound (rate_in a)

-- each argument, from index n on, fits its letter
abbrev pub fit_letters : Row → Rate → ℕ → List typed.Argument → Bool
fit_letters row bound n args = all_meet (λ l a. fits_letter l bound a) row n args

-- the rate that limits the rates of the arguments
abbrev pub bound_by : List Var → Rate
bound_by vs = bound_from var_rate vs

-- the result of a row may be assigned to a variable
abbrev pub may_give : Row → Var → Bool
may_give row v = is_variable v && may_have row (var_rate v)

-- more audio signals go out than the piece has channels
abbrev pub goes_beyond : Setting → Shape → List typed.Argument → Bool
goes_beyond s sh args = exceeds s sh args

-- an argument that is known when the note begins
abbrev pub keeps_still : typed.Argument → Bool
keeps_still a = stands_still (rate_in a)

-- an argument that is a-rate
abbrev pub is_of_sound : typed.Argument → Bool
is_of_sound a = sounds (rate_in a)

-- the two arguments of a table store are both a-rate, or neither is
abbrev pub stores_evenly : Shape → List typed.Argument → Bool
stores_evenly sh args = are_even rate_in sh args

-- the rate at which a call runs
abbrev pub done_at : Shape → List Var → List typed.Argument → Rate
done_at sh vs args = rate_of_call var_rate rate_in sh vs args

-- whether both rates are the a-rate, or neither is
abbrev pub both_sound : Rate → Rate → Bool
both_sound r s = if is_audio r then is_audio s else not (is_audio s)

-- an audio channel is read and written at the a-rate, and any other channel at a lower rate
abbrev pub suits_channel : Shape → List Var → List typed.Argument → Bool
suits_channel shape.ChannelGet (v ∷ vs) (typed.text c ∷ rest) = both_sound (var_rate v) (var_rate c)
suits_channel shape.ChannelPut vs (typed.value e ∷ typed.text c ∷ rest) = both_sound (node_rate e) (var_rate c)
suits_channel shape.ChannelMix vs (typed.value e ∷ typed.text c ∷ rest) = is_audio (var_rate c)
suits_channel shape.ChannelClear vs (typed.text c ∷ rest) = is_audio (var_rate c)
suits_channel _ vs args = true

-- A call agrees with the row of its opcode.
pub record IsRatedCall (s : Setting) (r : Rate) (vs : List Var) (opcode : Opcode)
    (args : List typed.Argument) : Type 0 where
  pub done : r ≡ done_at (row_of opcode).shape vs args
  pub results : length vs ≡ result_count (row_of opcode)
  pub given : list_all (may_give (row_of opcode)) vs ≡ true
  pub count : takes_count (row_left opcode) (length args) ≡ true
  pub letters : fit_letters (row_left opcode) (bound_by vs) 0 args ≡ true
  pub parts : All IsRatedArgument args
  pub channels : goes_beyond s (row_of opcode).shape args ≡ false
  pub suits : suits_channel (row_of opcode).shape vs args ≡ true
  pub even : stores_evenly (row_of opcode).shape args ≡ true
  pub place : (s.inside || stands_outside (row_of opcode).shape) ≡ true

-- all conditions are known when the note begins
abbrev pub all_still : typed.Arms → Bool
all_still (typed.otherwise b) = true
all_still (typed.arm c b rest) = is_init (node_rate c) && all_still rest

-- Statements agree with the rules of rates. An `if` runs once if and only if all its conditions are known
-- when the note begins.
abbrev mutual
  pub IsRatedStatement : Setting → typed.Statement → Type 0
  IsRatedStatement s (typed.set line r v e) = IsRatedSet s r v e
  IsRatedStatement s (typed.call line r vs opcode args) = IsRatedCall s r vs opcode args
  IsRatedStatement s (typed.choose line r list) =
      (r ≡ rate_of_choice (all_still list)) × IsRatedArms s list

  pub IsRatedBlock : Setting → typed.Block → Type 0
  IsRatedBlock s typed.no_stmt = Unit {0}
  IsRatedBlock s (typed.andthen x rest) = IsRatedStatement s x × IsRatedBlock s rest

  pub IsRatedArms : Setting → typed.Arms → Type 0
  IsRatedArms s (typed.otherwise b) = IsRatedBlock s b
  IsRatedArms s (typed.arm c b rest) =
      IsRated c × (is_audio (node_rate c) ≡ false) × ((s.inside || is_init (node_rate c)) ≡ true) × IsRatedBlock s b
      × IsRatedArms s rest

-- An orchestra agrees with the rules of rates, outside instruments and in each instrument.
pub record IsWellRated (o : typed.Orchestra) : Type 0 where
  pub zero : IsRatedBlock (outside o.head.nchnls) o.zero
  pub instrs : All (λ (i : typed.Instrument). IsRatedBlock (inside o.head.nchnls) i.body) o.instrs

-- there is no `zakinit` among the statements
abbrev mutual
  pub HasNoZakinit : typed.Statement → Type 0
  HasNoZakinit (typed.set line r v e) = Unit {0}
  HasNoZakinit (typed.call line r vs opcode args) = opcode ≢ op.Zakinit
  HasNoZakinit (typed.choose line r list) = ArmsHaveNoZakinit list

  pub BlockHasNoZakinit : typed.Block → Type 0
  BlockHasNoZakinit typed.no_stmt = Unit {0}
  BlockHasNoZakinit (typed.andthen x rest) = HasNoZakinit x × BlockHasNoZakinit rest

  pub ArmsHaveNoZakinit : typed.Arms → Type 0
  ArmsHaveNoZakinit (typed.otherwise b) = BlockHasNoZakinit b
  ArmsHaveNoZakinit (typed.arm c b rest) = BlockHasNoZakinit b × ArmsHaveNoZakinit rest
