-- A world of notes, described by its model: the way it stores shared resources, and starts and runs units.
-- Everything else is the same in all such worlds, and is defined here once.
use Rattle.std.specs.Prelude.{ℕ, ℤ, pos, Bool, true, false, not, ◌&&◌, ◌+◌, ◌-◌, ◌==◌, ◌++◌, List, [], ◌∷◌, nat_le}
use Rattle.std.specs.Prelude.{slice_index_or, Option, Some, None, if◌then◌else◌}
use Rattle.std.specs.Option.{is_some}
use Rattle.cs_base.specs.{Limits.most_delay_samples, Rates.res_rate, declared.resource.Res.Res}
use Rattle.cs_base.specs.declared.resource.Rate.{Rate}
use Rattle.cs_words.specs.Catalogue.{row_of, takes_table}
use Rattle.cs_words.specs.{declared.catalogue.Opcode.Opcode, declared.catalogue.Shape.Shape}
use Rattle.cs_ir.specs.{Resources.reaches, Worlds.World, declared.op.Reach.Reach}
use Rattle.cs_ir.specs.Waves.{Wave, held, silence, operand}
use Rattle.cs_meaning.specs.Pieces.{Piece, Table, head_value, index, added, steps_of, table_number, find_table}
use Rattle.cs_meaning.specs.Pieces.{is_there, read_points, is_live, stored, places_of_indices, may_touch, is_delay}
use Rattle.cs_meaning.specs.Pieces.{at_place, is_cleared}
use Rattle.cs_base.specs.declared.resource.Res.TheVariants as res
use Rattle.cs_words.specs.declared.catalogue.Shape.TheVariants as shape
use Rattle.cs_words.specs.declared.catalogue.Space.TheVariants as space

-- why a note doesn't start
pub data Cause : Type 0 where
  no_table : ℤ → Cause
  delay_too_long : ℕ → Cause

-- The state of a world: the shared resources; the note's units, the samples of its delays, and its output
-- channels; whether it was turned off, the values of the notes that it has scheduled, in order, and why it
-- doesn't start.
pub record State (S U : Type 0) : Type 0 where
  pub shared : S
  pub units : ℕ → Option U
  pub delays : ℕ
  pub outs : ℕ → Wave
  pub ended : Bool
  pub asks : List (List ℤ)
  pub cause : Option Cause

-- the state as a note begins
abbrev pub fresh_state : {S U : Type 0} → S → State S U
fresh_state s =
    record { shared = s; units = λ u. None; delays = 0; outs = λ c. silence; ended = false; asks = []; cause = None }

-- The differences between two worlds of a piece. For shared resources: how a resource is read and written,
-- and how some resources are set to 0. For a unit: its state as it starts with its settled values, the number
-- of samples that a delay stores for a time in raw seconds, and the number of its table. For a cycle of a
-- unit: the unit afterwards and its result, from its rate, its moving arguments and the points that it reads.
pub record WorldModel (S U : Type 0) : Type 0 where
  pub piece : Piece
  pub load : Res → S → Wave
  pub save : Res → Wave → S → S
  pub clear : (Res → Bool) → S → S
  pub start : Opcode → Rate → List ℤ → U
  pub delay : ℤ → ℕ
  pub table : U → ℤ
  pub plays : Rate → List Wave → List ℤ → U → U × Wave

-- ---- shared resources

-- the value of a resource
abbrev pub loaded : {S U : Type 0} → WorldModel S U → Res → State S U → Wave
loaded m g x = m.load g x.shared

-- the state after a resource is assigned a value
abbrev pub with_value : {S U : Type 0} → WorldModel S U → Res → Wave → State S U → State S U
with_value m g w x = record x { shared = m.save g w x.shared }

-- the state after a resource is assigned a value as stored at its rate
abbrev pub saved : {S U : Type 0} → WorldModel S U → Res → Wave → State S U → State S U
saved m g w x = with_value m g (held m.piece.head.ksmps (res_rate g) w) x

-- ---- units

-- the state with a unit under its number
abbrev pub put_unit : {S U : Type 0} → ℕ → U → State S U → State S U
put_unit u p x = record x { units = λ n. if n == u then Some p else x.units n }

-- the points that a unit reads; none if its opcode reads no table
abbrev pub unit_points : {S U : Type 0} → WorldModel S U → Opcode → U → State S U → List ℤ
unit_points m opcode p x =
    if takes_table opcode then read_points (λ g. loaded m g x) (find_table m.piece.tables (m.table p)) else []

-- the state after a unit has run, and the unit's result
abbrev pub has_run : {S U : Type 0} → ℕ → U × Wave → State S U → State S U × Wave
has_run u (p, w) x = (put_unit u p x, w)

-- a unit runs over a cycle: the state after it, and its result
abbrev pub unit_does : {S U : Type 0} → WorldModel S U → Opcode → Rate → ℕ → Reach → List Wave → Option U → State S U
    → State S U × Wave
unit_does m opcode r u reach ws None x = (x, silence)
unit_does m opcode r u reach ws (Some p) x =
    if may_touch opcode reach (m.table p) then has_run u (m.plays r ws (unit_points m opcode p x) p) x else (x, silence)

-- ---- stores

-- values are stored into a live table, each step at its place
abbrev pub store_into : {S U : Type 0} → WorldModel S U → Rate → List Wave → Option Table → State S U → State S U
store_into m r ws None x = x
store_into m r ws (Some t) x =
    let g = res.Table t.number in
    let points = stored (places_of_indices t (operand 1 ws)) (operand 0 ws) (steps_of m.piece.head.ksmps r)
    (loaded m g x) in
    if is_live t then with_value m g points x else x

-- a store of a value at an index, into the table with a number, if the store may touch this table
abbrev pub store_at : {S U : Type 0} → WorldModel S U → Rate → Reach → List Wave → Option ℕ → State S U → State S U
store_at m r reach ws None x = x
store_at m r reach ws (Some n) x =
    if reaches reach n then store_into m r ws (find_table m.piece.tables (pos n)) x else x

-- the effect of a store, whose third operand is the number of the table
abbrev pub store_does : {S U : Type 0} → WorldModel S U → Rate → Reach → List Wave → State S U → State S U
store_does m r reach ws x = store_at m r reach ws (index (operand 2 ws 0)) x

-- ---- zak places

-- the state after some resources are set to 0
abbrev pub cleared : {S U : Type 0} → WorldModel S U → (Res → Bool) → State S U → State S U
cleared m clears x = record x { shared = m.clear clears x.shared }

-- the effect of an opcode on zak places, by its shape: the state after it, and its result
abbrev pub zak_does : {S U : Type 0} → WorldModel S U → Shape → Reach → List Wave → State S U → State S U × Wave
zak_does m (shape.ZakGet s) reach ws x =
    (x, at_place m.piece s reach (index (operand 0 ws 0)) silence (λ g. loaded m g x))
zak_does m (shape.ZakPut s) reach ws x =
    (at_place m.piece s reach (index (operand 1 ws 0)) x (λ g. saved m g (operand 0 ws) x), silence)
zak_does m shape.ZakMix reach ws x = (
  at_place m.piece space.Audio reach (index (operand 1 ws 0)) x
      (λ g. saved m g (added (loaded m g x) (operand 0 ws)) x),
  silence,
)
zak_does m (shape.ZakClear s) reach ws x =
    (cleared m (is_cleared m.piece s reach (operand 0 ws 0) (operand 1 ws 0)) x, silence)
zak_does m _ reach ws x = (x, silence)

-- ---- starts

-- the note is refused
abbrev pub refused_for : {S U : Type 0} → Cause → State S U → State S U
refused_for cause x = record x { cause = Some cause }

-- whether the table that settled values name doesn't exist
abbrev pub lacks_table : {S U : Type 0} → WorldModel S U → List ℤ → Bool
lacks_table m is = not (is_there (find_table m.piece.tables (table_number is)))

-- the effect of looking up a table: the note is refused if the table doesn't exist
abbrev pub seek : {S U : Type 0} → WorldModel S U → List ℤ → State S U → State S U
seek m is x = if lacks_table m is then refused_for (no_table (table_number is)) x else x

-- a unit is started
abbrev pub begun : {S U : Type 0} → WorldModel S U → Opcode → Rate → ℕ → List ℤ → State S U → State S U
begun m opcode r u is x = put_unit u (m.start opcode r is) x

-- the note is refused if its delays are too long together, or if a unit's table doesn't exist
abbrev pub delayed : {S U : Type 0} → WorldModel S U → ℕ → Opcode → Rate → ℕ → List ℤ → State S U → State S U
delayed m samples opcode r u is x =
    if nat_le samples most_delay_samples then begun m opcode r u is (record x { delays = samples })
    else refused_for (delay_too_long samples) x

-- the effect of starting a unit: the note is refused if its table doesn't exist
abbrev pub starts : {S U : Type 0} → WorldModel S U → Opcode → Rate → ℕ → List ℤ → State S U → State S U
starts m opcode r u is x =
    if takes_table opcode && lacks_table m is
    then refused_for (no_table (table_number is)) x
    else (if is_delay opcode
    then delayed m (x.delays + m.delay (slice_index_or is 0 (pos 0))) opcode r u is x
    else begun m opcode r u is x)

-- ---- output

-- the state after a value is added to a channel, counted from 0
abbrev pub out_to : {S U : Type 0} → ℕ → Wave → State S U → State S U
out_to c w x = record x { outs = λ n. if n == c then added (x.outs n) w else x.outs n }

-- the state after a value is added to channel n, counted from 1, if the piece has this channel
abbrev pub out_to_numbered : {S U : Type 0} → ℕ → Option ℕ → Wave → State S U → State S U
out_to_numbered channels None w x = x
out_to_numbered channels (Some n) w x = if nat_le 1 n && nat_le n channels then out_to (n - 1) w x else x

-- the world of a model
abbrev pub world_of : {S U : Type 0} → WorldModel S U → World (State S U)
world_of m = record {
  ksmps = m.piece.head.ksmps;
  field = m.piece.fields;
  head = head_value m.piece.head;
  load = loaded m;
  save = with_value m;
  start = starts m;
  does = λ opcode r u reach ws x. unit_does m opcode r u reach ws (x.units u) x;
  seek = seek m;
  store = λ r reach ws x. store_does m r reach ws x;
  zak = λ opcode reach ws x. zak_does m (row_of opcode).shape reach ws x;
  out = out_to;
  out_at = λ k w x. out_to_numbered m.piece.head.nchnls (index (k 0)) w x;
  turnoff = λ x. record x { ended = true };
  ask = λ is x. record x { asks = x.asks ++ is ∷ [] };
  refused = λ x. is_some x.cause;
}
