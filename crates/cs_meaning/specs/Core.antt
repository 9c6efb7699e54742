-- The core statement for each statement of the typed tree.
use Rattle.std.specs.Prelude.{ℕ, ℤ, pos, ◌&&◌, ◌+◌, ◌-◌, List, [], ◌∷◌, nat_lt, nat_le, min, unsigned_abs}
use Rattle.std.specs.Prelude.{if◌then◌else◌}
use Rattle.cs_base.specs.{Numbers.whole_below, declared.resource.Rate.Rate, declared.spaces.Spaces.Spaces}
use Rattle.cs_words.specs.Catalogue.{Row, row_of, letter_at, is_settled, takes_table}
use Rattle.cs_words.specs.{declared.catalogue.Opcode.Opcode, declared.catalogue.Shape.Shape}
use Rattle.cs_typed.specs.TypedTree.{Expression, number, var, pair}
use Rattle.cs_typed.specs.declared.tree.Var.{Var as Variable}
use Rattle.cs_ir.specs.{Resources.places_of, declared.op.Reach.Reach}
use Rattle.cs_base.specs.declared.resource.Rate.TheVariants as rate
use Rattle.cs_words.specs.declared.catalogue.Shape.TheVariants as shape
use Rattle.cs_words.specs.declared.catalogue.Space.TheVariants as space
use Rattle.cs_words.specs.declared.sign.BinOp.TheVariants as op
use Rattle.cs_typed.specs.TypedTree as typed
use Rattle.cs_ir.specs.declared.op.Reach.TheVariants as reach

-- The core of the language. An i-rate statement is performed once, as the note begins; any other
-- statement in each control cycle.
mutual
  pub data Stmt : Type 0 where
    -- assigns a value to a variable or a channel
    set : Rate → Variable → Expression → Stmt
    -- runs a unit: its result variable if it has one, the tables that it may touch, its moving arguments, and
    -- its settled arguments, which are known as the note begins
    unit : Rate → List Variable → Opcode → Reach → List Expression → List Expression → Stmt
    -- reads or writes zak places: the result variable if there is one, the places that may be touched, and
    -- the arguments
    zak : Rate → List Variable → Opcode → Reach → List Expression → Stmt
    -- stores into a table: the tables that it may touch, its arguments, and its one settled argument, which
    -- is the number of its table
    store : Rate → Reach → List Expression → List Expression → Stmt
    -- outputs values to the channels from the first on; and outputs pairs of a channel's number and a value
    out : Rate → List Expression → Stmt
    out_at : Rate → List Expression → Stmt
    -- schedules a note
    ask : List Expression → Stmt
    turnoff : Rate → Stmt
    nothing : Stmt
    choose : Rate → Arms → Stmt

  pub data Block : Type 0 where
    no_stmt : Block
    andthen : Stmt → Block → Block

  pub data Arms : Type 0 where
    otherwise : Block → Arms
    arm : Expression → Block → Arms → Arms

-- the values among arguments
abbrev pub values_of : List typed.Argument → List Expression
values_of [] = []
values_of (typed.value e ∷ rest) = e ∷ values_of rest
values_of (typed.text v ∷ rest) = values_of rest

-- the settled values among arguments, by the opcode's letters from letter n on
abbrev pub settled : Row → ℕ → List typed.Argument → List Expression
settled row n [] = []
settled row n (typed.value e ∷ rest) =
    if is_settled (letter_at row n) then e ∷ settled row (n + 1) rest else settled row (n + 1) rest
settled row n (typed.text v ∷ rest) = settled row (n + 1) rest

-- the moving values among arguments, by the opcode's letters from letter n on
abbrev pub moving : Row → ℕ → List typed.Argument → List Expression
moving row n [] = []
moving row n (typed.value e ∷ rest) =
    if is_settled (letter_at row n) then moving row (n + 1) rest else e ∷ moving row (n + 1) rest
moving row n (typed.text v ∷ rest) = moving row (n + 1) rest

-- the integer part of a literal
abbrev pub whole_part : ℤ → ℕ
whole_part v = unsigned_abs (whole_below v)

-- A literal table number, the first settled argument, names its table; any other may name all tables.
abbrev pub table_reach : List Expression → Reach
table_reach (number r v ∷ rest) = reach.Span (whole_part v) (whole_part v)
table_reach _ = reach.Any

-- A literal index names its place, if the space has it; any other index may name all places.
abbrev pub place_reach : ℕ → Expression → Reach
place_reach places (number r v) =
    if nat_lt (whole_part v) places then reach.Span (whole_part v) (whole_part v) else reach.Nothing
place_reach places _ = reach.Any

-- Two literal bounds name the places of the space between them; any others may name all places.
abbrev pub span_reach : ℕ → Expression → Expression → Reach
span_reach places (number r v) (number q w) =
    if nat_lt (whole_part v) places && nat_le (whole_part v) (whole_part w)
    then reach.Span (whole_part v) (min (whole_part w) (places - 1)) else reach.Nothing
span_reach places _ _ = reach.Any

-- the tables that a unit may touch; none if its opcode reads no table
abbrev pub unit_reach : Opcode → List Expression → Reach
unit_reach opcode is = if takes_table opcode then table_reach is else reach.Nothing

-- the zak places that an opcode may touch, by its shape and its arguments
abbrev pub zak_reach : Spaces → Shape → List Expression → Reach
zak_reach spaces (shape.ZakGet s) (x ∷ xs) = place_reach (places_of spaces s) x
zak_reach spaces (shape.ZakPut s) (v ∷ x ∷ xs) = place_reach (places_of spaces s) x
zak_reach spaces shape.ZakMix (v ∷ x ∷ xs) = place_reach (places_of spaces space.Audio) x
zak_reach spaces (shape.ZakClear s) (x ∷ y ∷ xs) = span_reach (places_of spaces s) x y
zak_reach spaces _ xs = reach.Nothing

-- the sum of a channel's value and an expression
abbrev pub plus : Rate → Variable → Expression → Expression
plus r v e = pair r op.Add (var r v) e

-- a call of a unit
abbrev pub unit_call : Rate → List Variable → Opcode → List typed.Argument → Stmt
unit_call r vs opcode args =
    let is = settled (row_of opcode) 0 args in unit r vs opcode (unit_reach opcode is) (moving (row_of opcode) 0 args)
    is

-- a call of a store
abbrev pub store_call : Rate → Opcode → List typed.Argument → Stmt
store_call r opcode args =
    let is = settled (row_of opcode) 0 args in store r (table_reach is) (values_of args) is

-- a call of an opcode that reads or writes zak places
abbrev pub zak_call : Spaces → Rate → List Variable → Opcode → Shape → List typed.Argument → Stmt
zak_call spaces r vs opcode sh args =
    let xs = moving (row_of opcode) 0 args in zak r vs opcode (zak_reach spaces sh xs) xs

-- The core statement for a call, by the shape of its opcode. Typing accepts no call of any other form.
abbrev pub core_call : Spaces → Rate → List Variable → Opcode → Shape → List typed.Argument → Stmt
core_call spaces r (v ∷ vs) opcode shape.Init (typed.value e ∷ args) = set rate.Init v e
core_call spaces r vs opcode shape.Unit args = unit_call r vs opcode args
core_call spaces r vs opcode shape.Store args = store_call r opcode args
core_call spaces r vs opcode shape.Out args = out r (values_of args)
core_call spaces r vs opcode shape.OutAt args = out_at r (values_of args)
core_call spaces r vs opcode shape.Turnoff args = turnoff r
core_call spaces r vs opcode shape.ZakInit args = nothing
core_call spaces r vs opcode (shape.ZakGet s) args = zak_call spaces r vs opcode (shape.ZakGet s) args
core_call spaces r vs opcode (shape.ZakPut s) args = zak_call spaces r vs opcode (shape.ZakPut s) args
core_call spaces r vs opcode shape.ZakMix args = zak_call spaces r vs opcode shape.ZakMix args
core_call spaces r vs opcode (shape.ZakClear s) args = zak_call spaces r vs opcode (shape.ZakClear s) args
core_call spaces r (v ∷ vs) opcode shape.ChannelGet (typed.text c ∷ args) = set r v (var r c)
core_call spaces r vs opcode shape.ChannelPut (typed.value e ∷ typed.text c ∷ args) = set r c e
core_call spaces r vs opcode shape.ChannelMix (typed.value e ∷ typed.text c ∷ args) = set r c (plus rate.Audio c e)
core_call spaces r vs opcode shape.ChannelClear (typed.text c ∷ args) = set r c (number rate.Init (pos 0))
core_call spaces r vs opcode shape.Ask args = ask (values_of args)
core_call spaces r vs opcode _ args = nothing

-- A statement, the statements of a block, and the arms of an `if`.
abbrev mutual
  pub core_stmt : Spaces → typed.Statement → Stmt
  core_stmt spaces (typed.set line r v e) = set r v e
  core_stmt spaces (typed.call line r vs opcode args) = core_call spaces r vs opcode (row_of opcode).shape args
  core_stmt spaces (typed.choose line r list) = choose r (core_arms spaces list)

  pub core : Spaces → typed.Block → Block
  core spaces typed.no_stmt = no_stmt
  core spaces (typed.andthen s rest) = andthen (core_stmt spaces s) (core spaces rest)

  pub core_arms : Spaces → typed.Arms → Arms
  core_arms spaces (typed.otherwise b) = otherwise (core spaces b)
  core_arms spaces (typed.arm c b rest) = arm c (core spaces b) (core_arms spaces rest)
