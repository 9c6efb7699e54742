use Rattle.std.proofs.Common.{◌≡◌, ◌∙◌, ap, refl, subst, sym, true}
use Rattle.std.specs.List.{list_all}
use Rattle.cs_ir.proofs.RegisterKinds.{there_small}
use Rattle.cs_ir.specs.{Placed.there, Registers.rate_at, Validity.has_register}
use Rattle.cs_voice.proofs.Fitting.{acts_there, bare_from, first_there, is_else_plain, loads_value, reads_one}
use Rattle.cs_voice.proofs.Fitting.{reads_small, saves_value, second_there, third_there, unit_there}
use Rattle.cs_voice.proofs.Readying.{does_op, does_op_plain, does_op_unit, fit_of, into_of, is_a_unit, number_of}
use Rattle.cs_voice.proofs.Readying.{op_may_store, parts_of, room_of, sized_of, store_long, takes_of, unit_into}
use Rattle.cs_voice.proofs.Readying.{unit_may_play, uses_of, writes_of}
use Rattle.cs_voice.specs.Units.{MayPlay}
use Rattle.cs_voice.proofs.any.act.Goals as goal

pub writes-requires : goal.writes-requires
writes-requires g c = there_small c.args.state.now.regs.counts (there c.args.op).into
    (into_of c.requires.ready.ready (acts_there c.args.op c.in-Load.is) refl)

pub load-requires : goal.load-requires
load-requires g c =
    let is = acts_there c.args.op c.in-Load.is in record {
      into = ap (has_register c.args.state.now.regs.counts) c.writes.ensures ∙ into_of c.requires.ready.ready is refl;
      room = room_of c.requires.ready.ready;
      value = loads_value (fit_of c.requires.ready.ready) is;
      sized = sized_of c.requires.ready.ready;
      read = (uses_of c.requires.ready.ready is).0;
    }

pub returns-in-Load-clause-does : goal.returns-in-Load-clause-does
returns-in-Load-clause-does g c = does_op (acts_there c.args.op c.in-Load.is) c.writes.ensures
    (bare_from (fit_of c.requires.ready.ready) (acts_there c.args.op c.in-Load.is) refl) c.load.ensures.does

pub only-requires : goal.only-requires
only-requires g c = record {
  one = reads_one (fit_of c.requires.ready.ready) (acts_there c.args.op c.in-Save.is) refl;
  small = reads_small (fit_of c.requires.ready.ready);
}

pub save-requires : goal.save-requires
save-requires g c =
    let is = acts_there c.args.op c.in-Save.is in record {
      x = first_there c.args.state.now.regs.counts (parts_of c.requires.ready.ready).from c.only.ensures;
      room = room_of c.requires.ready.ready;
      value = saves_value (fit_of c.requires.ready.ready) is c.only.ensures;
      sized = sized_of c.requires.ready.ready;
      write = (writes_of c.requires.ready.ready is).0;
    }

pub returns-in-Save-clause-does : goal.returns-in-Save-clause-does
returns-in-Save-clause-does g c = does_op (acts_there c.args.op c.in-Save.is) refl c.only.ensures
    (c.save.ensures.does (there c.args.op).into)

pub plain-requires : goal.plain-requires
plain-requires g c =
    let other = c.in_default in record {
      plain = is_else_plain c.args.op.window.now c.args.op.op.now.act c.requires.here other.not-Load other.not-Save
          other.not-Unit other.not-Zak other.not-Store;
      fit = fit_of c.requires.ready.ready;
    }

pub returns-in_default-clause-does : goal.returns-in_default-clause-does
returns-in_default-clause-does g c = does_op_plain c.plain.ensures

pub writes-requires-in-Unit : goal.writes-requires-in-Unit
writes-requires-in-Unit g c =
    there_small c.args.state.now.regs.counts (there c.args.op).into
    (unit_into c.requires.ready.ready (acts_there c.args.op c.in-Unit.is))

pub run_unit-requires-clause-into : goal.run_unit-requires-clause-into
run_unit-requires-clause-into g c = ap (has_register c.args.state.now.regs.counts) c.writes-in-Unit.ensures
    ∙ unit_into c.requires.ready.ready (acts_there c.args.op c.in-Unit.is)

pub run_unit-requires-clause-from : goal.run_unit-requires-clause-from
run_unit-requires-clause-from g c =
    subst (λ l. list_all (has_register c.args.state.now.regs.counts) l ≡ true) (sym c.reads.ensures)
    (parts_of c.requires.ready.ready).from

pub run_unit-requires-clause-number : goal.run_unit-requires-clause-number
run_unit-requires-clause-number g c = number_of c.requires.ready.ready
    (unit_there c.args.op c.unit.result c.in-Unit.is c.unit.ensures)

pub run_unit-requires-clause-room : goal.run_unit-requires-clause-room
run_unit-requires-clause-room g c = room_of c.requires.ready.ready

pub run_unit-requires-clause-unit : goal.run_unit-requires-clause-unit
run_unit-requires-clause-unit g c =
    λ p is. subst (λ l. MayPlay (g.B.Bank.access (g.B.Bank.rest c.args.bank.now)) c.in-Unit.reach l p) (sym
    c.reads.ensures)
    (unit_may_play c.requires.ready.ready (unit_there c.args.op c.unit.result c.in-Unit.is c.unit.ensures) p is)

pub returns-in-Unit-clause-does : goal.returns-in-Unit-clause-does
returns-in-Unit-clause-does g c =
    let e = unit_there c.args.op c.unit.result c.in-Unit.is c.unit.ensures in
    does_op_unit e c.writes-in-Unit.ensures (sym c.reads.ensures)
    (is_a_unit c.in-Unit.opcode c.unit.result c.in-Unit.reach (rate_at (there c.args.op).into) (there c.args.op).from
    (takes_of c.requires.ready.ready e)) c.run_unit.ensures.does

pub zak-requires : goal.zak-requires
zak-requires g c = record {
  act = (c.in-Zak.field-0, c.in-Zak.field-1, acts_there c.args.op c.in-Zak.is);
  ready = c.requires.ready;
}

pub returns-in-Zak-clause-does : goal.returns-in-Zak-clause-does
returns-in-Zak-clause-does g c = does_op refl refl refl c.zak.ensures.does

pub storing_of-requires-clause-three : goal.storing_of-requires-clause-three
storing_of-requires-clause-three g c = store_long (rate_at (there c.args.op).into) (there c.args.op).from
    (takes_of c.requires.ready.ready (acts_there c.args.op c.in-Store.is))

pub storing_of-requires-clause-small : goal.storing_of-requires-clause-small
storing_of-requires-clause-small g c = reads_small (fit_of c.requires.ready.ready)

pub store_points-requires-clause-signal : goal.store_points-requires-clause-signal
store_points-requires-clause-signal g c =
    first_there c.args.state.now.regs.counts (parts_of c.requires.ready.ready).from c.storing_of.ensures.registers

pub store_points-requires-clause-index : goal.store_points-requires-clause-index
store_points-requires-clause-index g c =
    second_there c.args.state.now.regs.counts (parts_of c.requires.ready.ready).from c.storing_of.ensures.registers

pub store_points-requires-clause-table : goal.store_points-requires-clause-table
store_points-requires-clause-table g c =
    third_there c.args.state.now.regs.counts (parts_of c.requires.ready.ready).from c.storing_of.ensures.registers

pub store_points-requires-clause-room : goal.store_points-requires-clause-room
store_points-requires-clause-room g c = room_of c.requires.ready.ready

pub store_points-requires-clause-write : goal.store_points-requires-clause-write
store_points-requires-clause-write g c = op_may_store c.requires.ready.ready (acts_there c.args.op c.in-Store.is)

pub returns-in-Store-clause-does : goal.returns-in-Store-clause-does
returns-in-Store-clause-does g c = does_op (acts_there c.args.op c.in-Store.is) refl c.storing_of.ensures.registers
    (c.store_points.ensures.does (there c.args.op).into (sym c.storing_of.ensures.rate))
