use Rattle.std.proofs.Common.{◌∙◌, ap, refl, subst, sym}
use Rattle.cs_ir.specs.{Placed.there, Registers.rate_at, Resources.zak_place, Units.is_zak, Validity.has_register}
use Rattle.cs_ir.specs.Waves.{constant}
use Rattle.cs_meaning.specs.Pieces.{index}
use Rattle.cs_machine.specs.Registers.{IsWritten}
use Rattle.cs_voice.specs.inner.Zak.{reached}
use Rattle.cs_voice.proofs.Fitting.{acts_there, first_there, is_zak_act, reads_small, second_there}
use Rattle.cs_voice.proofs.Places.{area_touched, cleared_from, get_gives, loaded, none_loaded, none_saved, reached_may}
use Rattle.cs_voice.proofs.Places.{reached_value, saved_at}
use Rattle.cs_voice.proofs.Readying.{can_mix, does_over, fit_of, into_of, is_a_zak, may_read, may_write, mix_sounds}
use Rattle.cs_voice.proofs.Readying.{not_zak, parts_of, room_of, sized_of, takes_of, zak_count, zak_long}
use Rattle.cs_voice.proofs.zak.zak.Goals as goal

-- ---- the registers that the op names

pub only-requires-clause-one : goal.only-requires-clause-one
only-requires-clause-one g c = zak_long c.in-Zak.opcode c.in-Zak.reach (rate_at (there c.args.op).into)
    (there c.args.op).from 1 (takes_of c.requires.ready.ready (acts_there c.args.op c.in-Zak.is))
    (ap zak_count (sym c.shape_of.ensures ∙ c.in-ZakGet.is))

pub pair-requires-clause-two : goal.pair-requires-clause-two
pair-requires-clause-two g c = zak_long c.in-Zak.opcode c.in-Zak.reach (rate_at (there c.args.op).into)
    (there c.args.op).from 2 (takes_of c.requires.ready.ready (acts_there c.args.op c.in-Zak.is))
    (ap zak_count (sym c.shape_of.ensures ∙ c.in-ZakPut.is))

pub pair-requires-in-ZakMix-clause-two : goal.pair-requires-in-ZakMix-clause-two
pair-requires-in-ZakMix-clause-two g c = zak_long c.in-Zak.opcode c.in-Zak.reach (rate_at (there c.args.op).into)
    (there c.args.op).from 2 (takes_of c.requires.ready.ready (acts_there c.args.op c.in-Zak.is))
    (ap zak_count (sym c.shape_of.ensures ∙ c.in-ZakMix.is))

pub pair-requires-in-ZakClear-clause-two : goal.pair-requires-in-ZakClear-clause-two
pair-requires-in-ZakClear-clause-two g c = zak_long c.in-Zak.opcode c.in-Zak.reach (rate_at (there c.args.op).into)
    (there c.args.op).from 2 (takes_of c.requires.ready.ready (acts_there c.args.op c.in-Zak.is))
    (ap zak_count (sym c.shape_of.ensures ∙ c.in-ZakClear.is))

pub only-requires-clause-small : goal.only-requires-clause-small
only-requires-clause-small g c = reads_small (fit_of c.requires.ready.ready)

pub pair-requires-clause-small : goal.pair-requires-clause-small
pair-requires-clause-small g c = reads_small (fit_of c.requires.ready.ready)

pub pair-requires-in-ZakMix-clause-small : goal.pair-requires-in-ZakMix-clause-small
pair-requires-in-ZakMix-clause-small g c = reads_small (fit_of c.requires.ready.ready)

pub pair-requires-in-ZakClear-clause-small : goal.pair-requires-in-ZakClear-clause-small
pair-requires-in-ZakClear-clause-small g c = reads_small (fit_of c.requires.ready.ready)

pub first-requires : goal.first-requires
first-requires g c =
    first_there c.args.state.now.regs.counts (parts_of c.requires.ready.ready).from c.only.ensures

pub first-requires-in-ZakPut : goal.first-requires-in-ZakPut
first-requires-in-ZakPut g c =
    second_there c.args.state.now.regs.counts (parts_of c.requires.ready.ready).from c.pair.ensures

pub first-first-requires : goal.first-first-requires
first-first-requires g c =
    first_there c.args.state.now.regs.counts (parts_of c.requires.ready.ready).from c.pair-in-ZakClear.ensures

pub first-last-requires : goal.first-last-requires
first-last-requires g c =
    second_there c.args.state.now.regs.counts (parts_of c.requires.ready.ready).from c.pair-in-ZakClear.ensures

-- ---- a place is read

pub load-requires-clause-into : goal.load-requires-clause-into
load-requires-clause-into g c = ap (has_register c.args.state.now.regs.counts) c.writes-into.ensures
    ∙ into_of c.requires.ready.ready (acts_there c.args.op c.in-Zak.is)
    (get_gives c.in-Zak.opcode c.in-ZakGet.space (sym c.shape_of.ensures ∙ c.in-ZakGet.is))

pub load-requires-clause-room : goal.load-requires-clause-room
load-requires-clause-room g c = room_of c.requires.ready.ready

pub load-requires-clause-value : goal.load-requires-clause-value
load-requires-clause-value g c = reached_value c.args.at.now c.in-ZakGet.space c.in-Zak.reach (index c.first.result)
    c.in-Some.res (sym c.place.ensures ∙ c.in-Some.is)

pub load-requires-clause-sized : goal.load-requires-clause-sized
load-requires-clause-sized g c = sized_of c.requires.ready.ready

pub load-requires-clause-read : goal.load-requires-clause-read
load-requires-clause-read g c =
    let access = g.B.Bank.access (g.B.Bank.rest c.args.bank.now) in
    reached_may access.can_get access.count c.args.at.now c.in-ZakGet.space c.in-Zak.reach (index c.first.result)
    c.in-Some.res (may_read c.requires.ready.ready (acts_there c.args.op c.in-Zak.is) c.in-ZakGet.space
    (sym c.shape_of.ensures ∙ c.in-ZakGet.is) (λ stock. refl)) (sym c.place.ensures ∙ c.in-Some.is)

pub hold-requires-clause-there : goal.hold-requires-clause-there
hold-requires-clause-there g c = ap (has_register c.args.state.now.regs.counts) c.writes-into.ensures
    ∙ into_of c.requires.ready.ready (acts_there c.args.op c.in-Zak.is)
    (get_gives c.in-Zak.opcode c.in-ZakGet.space (sym c.shape_of.ensures ∙ c.in-ZakGet.is))

pub hold-requires-clause-row : goal.hold-requires-clause-row
hold-requires-clause-row g c = (room_of c.requires.ready.ready).row

pub returns-in-Some-clause-does : goal.returns-in-Some-clause-does
returns-in-Some-clause-does g c =
    let s = c.in-ZakGet.space in
    let reach = c.in-Zak.reach in
    does_over {o = there c.args.op} (acts_there c.args.op c.in-Zak.is) c.writes-into.ensures c.only.ensures
    (loaded c.args.at.now c.in-Zak.opcode reach s c.only.result (sym c.shape_of.ensures ∙ c.in-ZakGet.is)
    (ap (λ z. reached c.args.at.now s reach (index z)) (sym c.first.ensures) ∙ sym c.place.ensures ∙ c.in-Some.is)
    c.load.ensures.does)

pub returns-in-None-clause-does : goal.returns-in-None-clause-does
returns-in-None-clause-does g c =
    let s = c.in-ZakGet.space in
    let reach = c.in-Zak.reach in
    does_over {o = there c.args.op} (acts_there c.args.op c.in-Zak.is) c.writes-into.ensures c.only.ensures
    (none_loaded c.args.at.now c.in-Zak.opcode reach s c.only.result (sym c.shape_of.ensures ∙ c.in-ZakGet.is)
    (ap (λ z. reached c.args.at.now s reach (index z)) (sym c.first.ensures) ∙ sym c.place.ensures ∙ c.in-None.is)
    (record { players = refl; outs = refl; delays = refl; ended = refl })
    (subst (λ z. IsWritten c.args.state.now.regs c.writes-into.result (constant z) c.hold.new.self) c.exact.ensures
    c.hold.ensures.values) c.hold.ensures.row)

-- ---- a place is written

pub save-requires-clause-x : goal.save-requires-clause-x
save-requires-clause-x g c =
    first_there c.args.state.now.regs.counts (parts_of c.requires.ready.ready).from c.pair.ensures

pub save-requires-clause-room : goal.save-requires-clause-room
save-requires-clause-room g c = room_of c.requires.ready.ready

pub save-requires-clause-value : goal.save-requires-clause-value
save-requires-clause-value g c = reached_value c.args.at.now c.in-ZakPut.space c.in-Zak.reach
    (index c.first-in-ZakPut.result) c.in-Some-place.res (sym c.place-in-ZakPut.ensures ∙ c.in-Some-place.is)

pub save-requires-clause-sized : goal.save-requires-clause-sized
save-requires-clause-sized g c = sized_of c.requires.ready.ready

pub save-requires-clause-write : goal.save-requires-clause-write
save-requires-clause-write g c =
    let access = g.B.Bank.access (g.B.Bank.rest c.args.bank.now) in
    reached_may access.can_set access.count c.args.at.now c.in-ZakPut.space c.in-Zak.reach (index
    c.first-in-ZakPut.result) c.in-Some-place.res
    (may_write c.requires.ready.ready (acts_there c.args.op c.in-Zak.is) c.in-ZakPut.space
    (sym c.shape_of.ensures ∙ c.in-ZakPut.is) (λ stock. refl)) (sym c.place-in-ZakPut.ensures ∙ c.in-Some-place.is)

pub returns-in-Some-place-clause-does : goal.returns-in-Some-place-clause-does
returns-in-Some-place-clause-does g c =
    let s = c.in-ZakPut.space in
    let reach = c.in-Zak.reach in
    does_over {o = there c.args.op} (acts_there c.args.op c.in-Zak.is) refl c.pair.ensures
    (saved_at c.args.at.now c.in-Zak.opcode reach s c.pair.result.1 (sym c.shape_of.ensures ∙ c.in-ZakPut.is)
    (ap (λ z. reached c.args.at.now s reach (index z)) (sym c.first-in-ZakPut.ensures) ∙ sym c.place-in-ZakPut.ensures
    ∙ c.in-Some-place.is) (c.save.ensures.does (there c.args.op).into))

pub returns-in_default-place-clause-does : goal.returns-in_default-place-clause-does
returns-in_default-place-clause-does g c =
    let s = c.in-ZakPut.space in
    let reach = c.in-Zak.reach in
    does_over {o = there c.args.op} (acts_there c.args.op c.in-Zak.is) refl c.pair.ensures
    (none_saved c.args.at.now c.in-Zak.opcode reach s c.pair.result.1 (sym c.shape_of.ensures ∙ c.in-ZakPut.is)
    (ap (λ z. reached c.args.at.now s reach (index z)) (sym c.first-in-ZakPut.ensures) ∙ sym c.place-in-ZakPut.ensures
    ∙ c.in_default-place.is))

-- ---- a place is mixed into

pub mix-requires-clause-x : goal.mix-requires-clause-x
mix-requires-clause-x g c =
    first_there c.args.state.now.regs.counts (parts_of c.requires.ready.ready).from (c.pair-in-ZakMix.ensures)

pub mix-requires-clause-sound : goal.mix-requires-clause-sound
mix-requires-clause-sound g c = mix_sounds c.in-Zak.opcode c.in-Zak.reach
    (rate_at (there c.args.op).into) (there c.args.op).from c.pair-in-ZakMix.result.0 c.pair-in-ZakMix.result.1
    (takes_of c.requires.ready.ready (acts_there c.args.op c.in-Zak.is)) (sym c.shape_of.ensures ∙ c.in-ZakMix.is)
    (c.pair-in-ZakMix.ensures)

pub mix-requires-clause-able : goal.mix-requires-clause-able
mix-requires-clause-able g c =
    can_mix c.requires.ready.ready (acts_there c.args.op c.in-Zak.is) (sym c.shape_of.ensures ∙ c.in-ZakMix.is)
    (second_there c.args.state.now.regs.counts (parts_of c.requires.ready.ready).from c.pair-in-ZakMix.ensures)

pub returns-in-ZakMix-clause-does : goal.returns-in-ZakMix-clause-does
returns-in-ZakMix-clause-does g c = does_over {o = there c.args.op} (acts_there c.args.op c.in-Zak.is) refl
    c.pair-in-ZakMix.ensures
    (c.mix.ensures.does (there c.args.op).into c.in-Zak.opcode (sym c.shape_of.ensures ∙ c.in-ZakMix.is))

-- ---- places are cleared

pub clear_places-requires-clause-write : goal.clear_places-requires-clause-write
clear_places-requires-clause-write g c = λ n area low within.
    let access = g.B.Bank.access (g.B.Bank.rest c.args.bank.now) in
    area_touched access.can_set access.count c.args.at.now (zak_place c.in-ZakClear.space n) area
    (may_write c.requires.ready.ready (acts_there c.args.op c.in-Zak.is) c.in-ZakClear.space
    (sym c.shape_of.ensures ∙ c.in-ZakClear.is) (λ stock. refl) n low within)

pub returns-in-ZakClear-clause-does : goal.returns-in-ZakClear-clause-does
returns-in-ZakClear-clause-does g c =
    does_over {o = there c.args.op} (acts_there c.args.op c.in-Zak.is) refl c.pair-in-ZakClear.ensures
    (cleared_from c.args.at.now c.in-Zak.opcode c.in-Zak.reach c.in-ZakClear.space c.pair-in-ZakClear.result.0
    c.pair-in-ZakClear.result.1 c.first-first.result c.first-last.result (sym c.shape_of.ensures ∙ c.in-ZakClear.is)
    c.first-first.ensures c.first-last.ensures c.clear_places.ensures.cells)

-- ---- no other act, and no other shape

pub unreachable-requires : goal.unreachable-requires
unreachable-requires g c =
    is_zak_act c.args.op.window.now c.args.op.op.now.act c.requires.act.2 c.in_default.not-Zak

pub unreachable-requires-in_default-shape_of : goal.unreachable-requires-in_default-shape_of
unreachable-requires-in_default-shape_of g c = not_zak c.shape_of.result (ap is_zak c.shape_of.ensures
    ∙ is_a_zak c.in-Zak.opcode c.in-Zak.reach (rate_at (there c.args.op).into) (there c.args.op).from
    (takes_of c.requires.ready.ready (acts_there c.args.op c.in-Zak.is)))
    c.in_default-shape_of.not-ZakGet c.in_default-shape_of.not-ZakPut c.in_default-shape_of.not-ZakMix
    c.in_default-shape_of.not-ZakClear
