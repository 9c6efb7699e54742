-- Which codes can be run: the registers and units that an op names exist, and its operands are accepted by
-- its act.
use Rattle.std.specs.Prelude.{ℕ, Bool, true, false, not, ◌&&◌, ◌||◌, ◌==◌, ◌+◌, ◌∷◌, [], List, length, nat_lt, nat_le}
use Rattle.std.specs.{Prelude.if◌then◌else◌, List.list_all, List.list_any}
use Rattle.cs_base.specs.Rates.{is_init, is_control, is_audio, same_rate, within, res_rate}
use Rattle.cs_base.specs.{declared.resource.Rate.Rate, declared.resource.Res.Res}
use Rattle.cs_words.specs.Catalogue.{Row, row_of, result_count, takes, moving_letters, unit_takes}
use Rattle.cs_words.specs.{Signs.is_arithmetic, declared.sign.BinOp.BinOp, declared.word.Func.Func}
use Rattle.cs_words.specs.declared.catalogue.Letter.{Letter}
use Rattle.cs_ir.specs.{Machine.gives, Units.is_unit, Units.is_zak, declared.op.Act.Act, declared.op.Code.Code}
use Rattle.cs_ir.specs.{declared.op.Op.Op, declared.register.Counts.Counts, declared.register.Reg.Reg}
use Rattle.cs_ir.specs.Registers.{at_kind, rate_at}
use Rattle.cs_base.specs.declared.resource.Rate.TheVariants as rate
use Rattle.cs_base.specs.declared.resource.Res.TheVariants as res
use Rattle.cs_words.specs.declared.word.Func.TheVariants as func
use Rattle.cs_ir.specs.declared.op.Act.TheVariants as act

-- whether a register is within the number of registers of its kind
abbrev pub has_register : Counts → Reg → Bool
has_register counts q = nat_lt q.offset (at_kind counts.registers q.kind)

-- whether an act writes its op's register; for `Start`, a store and an opcode without a result, the register
-- only determines the rate
abbrev pub writes : Act → Bool
writes (act.Save g) = false
writes (act.Start opcode u) = false
writes (act.Unit opcode u reach) = gives opcode
writes act.Seek = false
writes (act.Store reach) = false
writes (act.Zak opcode reach) = gives opcode
writes (act.Jump to) = false
writes (act.Unless to) = false
writes (act.Out c) = false
writes act.OutAt = false
writes act.Turnoff = false
writes act.Ask = false
writes _ = true

-- Whether an act at `place`, in a code that ends at `end`, finds what it names: a unit that exists, or a
-- later op or the end as its target.
abbrev pub finds : Counts → ℕ → ℕ → Act → Bool
finds counts end place (act.Start opcode u) = nat_lt u counts.units
finds counts end place (act.Unit opcode u reach) = nat_lt u counts.units
finds counts end place (act.Jump to) = nat_lt place to && nat_le to end
finds counts end place (act.Unless to) = nat_lt place to && nat_le to end
finds counts end place _ = true

-- whether an operator can be computed at a rate: arithmetic at every rate, truth values not at a-rate
abbrev pub suits_operator : BinOp → Rate → Bool
suits_operator b r = is_arithmetic b || not (is_audio r)

-- whether a function can have rate r if its operand has rate x: it changes as often as its operand; but `i`
-- reads once, and a pitch isn't computed at a-rate
abbrev pub suits_function : Func → Rate → Rate → Bool
suits_function func.I r x = is_init r && is_control x
suits_function func.Cpspch r x = within x r && not (is_audio r)
suits_function _ r x = within x r

-- whether an opcode can run at a rate: its result must allow it; an opcode without a result runs at any rate
abbrev pub may_run_at : Row → Rate → Bool
may_run_at row r = result_count row == 0 || list_any (same_rate r) row.results

-- the highest rate of an opcode's arguments: its own rate, or no bound if it has no result
abbrev pub bound_at : Row → Rate → Rate
bound_at row r = if result_count row == 0 then rate.Audio else r

-- whether letters accept the values of these registers, one each
abbrev pub take_all : List Letter → Rate → List Reg → Bool
take_all [] bound [] = true
take_all (l ∷ ls) bound (x ∷ xs) = takes l bound (rate_at x) && take_all ls bound xs
take_all _ bound _ = false

-- whether a register doesn't change after the note has begun
abbrev pub is_still : Reg → Bool
is_still x = is_init (rate_at x)

-- whether a unit can be started with these registers, which must be settled
abbrev pub starts_with : Row → Rate → List Reg → Bool
starts_with row r xs =
    is_unit row.shape && unit_takes row (length xs) && list_all is_still xs && may_run_at row r

-- whether a unit, or an opcode on zak places, can run with these moving arguments
abbrev pub runs_with : Row → Rate → List Reg → Bool
runs_with row r xs = take_all (moving_letters row) (bound_at row r) xs && may_run_at row r

-- whether a store's rate fits an operand: either both are a-rate, and the table is stored to frame by frame;
-- or neither is
abbrev pub as_sounds : Rate → Reg → Bool
as_sounds r x = if is_audio r then is_audio (rate_at x) else not (is_audio (rate_at x))

-- whether a store can take these registers: a value, an index, and the number of a table, which doesn't
-- change
abbrev pub stores_with : Rate → List Reg → Bool
stores_with r (x ∷ y ∷ n ∷ []) = as_sounds r x && as_sounds r y && is_still n
stores_with r _ = false

-- Whether an op may read and write a resource as one value. A variable, a zak place or a channel has one
-- value or one signal per cycle. A table has many points, which units read and stores write.
abbrev pub has_value : Res → Bool
has_value (res.Table n) = false
has_value _ = true

-- whether an act accepts the values of these registers; r is the rate of its op's register
abbrev pub takes_from : Act → Rate → List Reg → Bool
takes_from (act.Const n) r [] = true
takes_from (act.Field k) r [] = true
takes_from (act.Head h) r [] = true
takes_from act.Copy r (x ∷ []) = within (rate_at x) r
takes_from act.Neg r (x ∷ []) = within (rate_at x) r
takes_from (act.Pair b) r (x ∷ y ∷ []) = within (rate_at x) r && within (rate_at y) r && suits_operator b r
takes_from act.Pick r (c ∷ x ∷ y ∷ []) =
    not (is_audio (rate_at c)) && within (rate_at c) r && within (rate_at x) r && within (rate_at y) r
takes_from (act.Call f) r (x ∷ []) = suits_function f r (rate_at x)
takes_from (act.Load g) r [] = has_value g && within r (res_rate g)
takes_from (act.Save g) r (x ∷ []) = has_value g && within (rate_at x) (res_rate g)
takes_from (act.Start opcode u) r xs = starts_with (row_of opcode) r xs
takes_from (act.Unit opcode u reach) r xs = is_unit (row_of opcode).shape && runs_with (row_of opcode) r xs
takes_from act.Seek r (x ∷ []) = is_still x
takes_from (act.Store reach) r xs = stores_with r xs
takes_from (act.Zak opcode reach) r xs = is_zak (row_of opcode).shape && runs_with (row_of opcode) r xs
takes_from (act.Jump to) r [] = true
takes_from (act.Unless to) r (x ∷ []) = not (is_audio (rate_at x))
takes_from (act.Out c) r (x ∷ []) = is_audio (rate_at x)
takes_from act.OutAt r (x ∷ y ∷ []) = not (is_audio (rate_at x)) && is_audio (rate_at y)
takes_from act.Turnoff r [] = true
takes_from act.Ask r xs = nat_le 3 (length xs) && list_all is_still xs
takes_from _ r xs = false

-- Whether an op at `place`, in a code that ends at `end`, is fine: the registers that it writes and reads
-- exist, it finds what it names, and its act accepts its operands.
abbrev pub is_fine : Counts → ℕ → ℕ → Op → Bool
is_fine counts end place op =
    (not (writes op.act) || has_register counts op.into)
    && list_all (has_register counts) op.from
    && finds counts end place op.act
    && takes_from op.act (rate_at op.into) op.from

-- whether all ops from index `place` on are fine
abbrev pub fine_from : Counts → ℕ → ℕ → List Op → Bool
fine_from counts end place [] = true
fine_from counts end place (op ∷ ops) = is_fine counts end place op && fine_from counts end (place + 1) ops

-- Whether a code can be run: each of its ops is fine at its place.
abbrev pub valid : Code → Bool
valid c = fine_from c.counts (length c.ops) 0 c.ops
